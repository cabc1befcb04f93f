-- Bytes that are written over a part of a memory, and the parts beside it.
use Rattle.std.proofs.Common.{◌≡◌, ℕ, ◌+◌, ◌*◌, ◌≤◌, ◌⊎◌, List, length, take, drop, arith, rules}
use lib.Seq.{paste}
use Rattle.std.proofs.lemmas.Nat.{mul-le}
use Rattle.std.proofs.lemmas.List.{same_lists, places}

-- the part itself holds the bytes
pub part_overwritten :
    (memory bytes : List ℕ) (start width : ℕ)
    → start + width ≤ length memory
    → length bytes ≡ width
    → take width (drop start (paste memory start bytes width)) ≡ bytes
part_overwritten memory bytes start width within count =
    same_lists _ _ (search (rules, places)) (λ k d h. grind (arith, places))

-- a part that lies before it or behind it is as it was
pub part_kept :
    (memory bytes : List ℕ) (start width other size : ℕ)
    → start + width ≤ length memory
    → length bytes ≡ width
    → (other + size ≤ start) ⊎ (start + width ≤ other)
    → take size (drop other (paste memory start bytes width)) ≡ take size (drop other memory)
part_kept memory bytes start width other size within count apart =
    same_lists _ _ (search (rules, places)) (λ k d h. grind (arith, places))

-- of parts that are equally wide, one at another index lies before it or behind it
pub widths_apart :
    (t s width : ℕ) → (t ≡ s → ⊥) → (t * width + width ≤ s * width) ⊎ (s * width + width ≤ t * width)
widths_apart t s width other =
    let before = mul-le (t + 1) width s width in
    let behind = mul-le (s + 1) width t width in
    grind arith
