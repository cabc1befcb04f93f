-- The sectors of a flat memory: how long they are, that they are all of it, and where there is none.
use Rattle.std.proofs.Common.{◌≡◌, ℕ, zero, suc, ◌+◌, ◌*◌, ◌<◌, ◌≤◌, true, List, length, map, take, drop, None, arith, take-add}
use Rattle.std.specs.List.{range_with_len, flat_map}
use Rattle.std.proofs.lemmas.List.{drop-drop, take_all}
use Rattle.std.proofs.lemmas.Bool.Decides.{nat_tests}
use Rattle.std.proofs.lemmas.Grind.{common_steps, rows}
use Rattle.sheet.specs.declared.geometry.Geometry.{Geometry}
use Rattle.sheet.specs.Sectors.{Shaped}
use Rattle.sheet.specs.Flat.{HoldsSectors, flat_fit, flat_sector, flat_sectors, flat_span}
use Rattle.sheet.proofs.Listed.{length-listed, listed_shaped}

-- some sectors of a memory one after another are a part of it
pub joined_sectors :
    (size : ℕ) (memory : List ℕ) (first n : ℕ)
    → flat_map (λ sector. sector) (map (flat_sector size memory) (range_with_len first n)) ≡ take (n * size) (drop (first * size) memory)
joined_sectors size memory first zero = grind (arith, common_steps)
joined_sectors size memory first (suc n) =
    let rest = joined_sectors size memory (first + 1) n in
    grind (arith, common_steps, take-add, drop-drop)

-- a fit memory is its sectors one after another
pub holds_sectors : (memory : List ℕ) → HoldsSectors memory
holds_sectors memory g fits =
    let all = joined_sectors g.size memory 0 g.sectors in
    grind (arith, nat_tests, take_all)

-- each sector lies within a memory that is fit
pub sector_within :
    (g : Geometry) (memory : List ℕ) (s : ℕ)
    → flat_fit g memory ≡ true
    → s < g.sectors
    → s * g.size + g.size ≤ length memory
sector_within g memory s fits below = grind (arith, nat_tests, rows)

-- a flat sheet has the shape of a sheet
pub flat_shaped : (g : Geometry) (memory : List ℕ) → Shaped g (flat_fit g memory) (flat_sectors g memory)
flat_shaped g memory =
    listed_shaped
    g
    (flat_fit g memory)
    (flat_sector g.size memory)
    (λ fits s below. grind (arith, common_steps, sector_within))

-- where no span is found there is no such sector
pub none_from_span : (g : Geometry) (memory : List ℕ) (s : ℕ) → None ≡ flat_span g memory s → length (flat_sectors g memory) ≤ s
none_from_span g memory s none =
    let many = length-listed g (flat_fit g memory) (flat_sector g.size memory) in
    grind (arith, nat_tests)
