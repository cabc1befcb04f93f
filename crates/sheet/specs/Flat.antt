-- The flat sheet: its sectors lie in its memory one after another.
use Rattle.std.specs.Prelude.{◌≡◌, ℕ, ◌+◌, ◌*◌, Bool, true, cond, ◌&&◌, List, length, take, drop, Some, None, Option, ◌==◌, nat_lt}
use Rattle.std.proofs.Math.Seq.{paste}
use Rattle.std.specs.List.{flat_map}
use Rattle.std.specs.declared.ops.Range.{Range}
use Rattle.sheet.specs.declared.geometry.Geometry.{Geometry}
use Rattle.sheet.specs.Sectors.{can_program, listed}

-- a memory is fit for a flat sheet when it has the bytes of all sectors and no more
abbrev pub flat_fit : Geometry → List ℕ → Bool
flat_fit g memory = length memory == g.sectors * g.size

-- sector s of a memory: so many bytes from s × size on
abbrev pub flat_sector : ℕ → List ℕ → ℕ → List ℕ
flat_sector size memory s = take size (drop (s * size) memory)

-- the sectors of a memory
abbrev pub flat_sectors : Geometry → List ℕ → List (List ℕ)
flat_sectors g memory = listed g (flat_fit g memory) (flat_sector g.size memory)

-- where a sector lies in a memory, if it is there
abbrev pub flat_span : Geometry → List ℕ → ℕ → Option (Range ℕ)
flat_span g memory s =
    cond
    (flat_fit g memory && nat_lt s g.sectors)
    (Some (record { start = s * g.size; end = s * g.size + g.size }))
    None

-- the memory after a program: it has the bytes where the sector lies, or is as it was where nothing is programmed
abbrev pub flat_programmed : Geometry → List ℕ → ℕ → List ℕ → List ℕ
flat_programmed g memory s bytes =
    cond (can_program g (flat_fit g memory) s bytes) (paste memory (s * g.size) bytes g.size) memory

-- a memory that is fit for some kind is that kind's sectors one after another, and nothing else
abbrev pub HoldsSectors : List ℕ → Type 0
HoldsSectors memory = (g : Geometry) → flat_fit g memory ≡ true → memory ≡ flat_map (λ sector. sector) (flat_sectors g memory)
