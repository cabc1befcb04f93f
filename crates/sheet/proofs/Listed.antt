-- Sheets that keep each sector in some way: what is to show of that way, for what every sheet owes.
use Rattle.std.proofs.Common.{◌≡◌, ℕ, ◌<◌, Bool, true, false, cond, List, [], length, get_or, refl, ⊎_elim, arith}
use Rattle.std.specs.Prelude.{◌&&◌, nat_lt}
use Rattle.std.proofs.lemmas.List.{get_or_past}
use Rattle.std.proofs.lemmas.List.FromFn.{length-map-range_with_len, get_or-map-range_with_len}
use Rattle.std.proofs.lemmas.Bool.{cases_Bool}
use Rattle.std.proofs.lemmas.Bool.Decides.{nat_tests}
use Rattle.sheet.specs.declared.geometry.Geometry.{Geometry}
use Rattle.sheet.specs.Sectors.{Shaped, can_program, listed, programmed}
use Rattle.sheet.proofs.Indexed.{map_counting_set}
use Rattle.sheet.proofs.Sectors.{can_program_parts, programmed_refused}

-- how many sectors are listed
pub length-listed : (g : Geometry) (fit : Bool) (sector : ℕ → List ℕ) → length (listed g fit sector) ≡ cond fit g.sectors 0
length-listed g true sector = length-map-range_with_len sector 0 g.sectors
length-listed g false sector = refl

-- sectors that have all their bytes are those of a sheet
pub listed_shaped :
    (g : Geometry) (fit : Bool) (sector : ℕ → List ℕ)
    → (fit ≡ true → (s : ℕ) → s < g.sectors → length (sector s) ≡ g.size)
    → Shaped g fit (listed g fit sector)
listed_shaped g true sector whole =
    (length-listed g true sector, λ s d there. grind (arith, length-listed g true sector, get_or-map-range_with_len))
listed_shaped g false sector whole = (refl, λ s d there. grind arith)

-- a sector that is there is as it is kept; past the end and on an unfit sheet there is none
pub listed_there :
    (g : Geometry) (fit : Bool) (sector : ℕ → List ℕ) (s : ℕ)
    → get_or (listed g fit sector) s [] ≡ cond (fit && nat_lt s g.sectors) (sector s) []
listed_there g true sector s = grind (arith, nat_tests, get_or_past, length-map-range_with_len, get_or-map-range_with_len)
listed_there g false sector s = refl

-- a second way of keeping sectors has some bytes as sector s, and every other sector as the first way has it
abbrev pub Rewrites : Geometry → (ℕ → List ℕ) → (ℕ → List ℕ) → ℕ → List ℕ → Type 0
Rewrites g sector sector' s bytes = (sector' s ≡ bytes) × ((t : ℕ) → t < g.sectors → (t ≡ s → ⊥) → sector' t ≡ sector t)

-- a sheet whose sectors are kept so is programmed
pub listed-programmed :
    (g : Geometry) (fit fit' : Bool) (sector sector' : ℕ → List ℕ) (s : ℕ) (bytes : List ℕ)
    → fit' ≡ fit
    → (can_program g fit s bytes ≡ true → Rewrites g sector sector' s bytes)
    → (can_program g fit s bytes ≡ false → sector' ≡ sector)
    → listed g fit' sector' ≡ programmed g (listed g fit sector) s bytes
listed-programmed g fit fit' sector sector' s bytes stays done refused =
    ⊎_elim
    (λ can.
    let counted = map_counting_set sector sector' g.sectors s (can_program_parts g fit s bytes can).1 (done can).1 in
    grind (arith, nat_tests))
    (λ cannot. cc (refused cannot, programmed_refused g fit (listed g fit sector) s bytes (length-listed g fit sector) cannot))
    (cases_Bool (can_program g fit s bytes))
