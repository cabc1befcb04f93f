-- What the sectors of any sheet are, and what a program makes of them.
use Rattle.std.proofs.Common.{◌≡◌, ℕ, ◌<◌, ◌≤◌, Bool, true, false, cond, List, length, arith}
use Rattle.std.proofs.lemmas.List.{get_or_past, set_past}
use Rattle.std.proofs.lemmas.Bool.Decides.{nat_tests}
use Rattle.sheet.specs.declared.geometry.Geometry.{Geometry}
use Rattle.sheet.specs.Sectors.{Shaped, byte_at, can_program, programmed}

-- nothing is read past the end of a sector, there or not
pub no_byte_past :
    (g : Geometry) (fit : Bool) (sectors : List (List ℕ)) (s b : ℕ)
    → Shaped g fit sectors
    → g.size ≤ b
    → byte_at sectors s b ≡ 255
no_byte_past g fit sectors s b shaped past = grind (arith, get_or_past)

-- what can be programmed
pub can_program_parts :
    (g : Geometry) (fit : Bool) (s : ℕ) (bytes : List ℕ)
    → can_program g fit s bytes ≡ true
    → (fit ≡ true) × (s < g.sectors) × (length bytes ≡ g.size)
can_program_parts g fit s bytes can = grind (arith, nat_tests)

-- what cannot be programmed leaves the sectors
pub programmed_refused :
    (g : Geometry) (fit : Bool) (sectors : List (List ℕ)) (s : ℕ) (bytes : List ℕ)
    → length sectors ≡ cond fit g.sectors 0
    → can_program g fit s bytes ≡ false
    → programmed g sectors s bytes ≡ sectors
programmed_refused g fit sectors s bytes many cannot = grind (arith, nat_tests, set_past)
