-- Lists that are made from a function of the index.
use Rattle.std.proofs.Common.{◌≡◌, ℕ, ◌<◌, map, set, arith}
use Rattle.std.specs.List.{range_with_len}
use Rattle.std.proofs.lemmas.List.{same_lists}
use Rattle.std.proofs.lemmas.List.FromFn.{length-map-range_with_len, get_or-map-range_with_len}
use Rattle.std.proofs.lemmas.Grind.{common_steps}

-- a function that differs at one index alone makes the list that differs there
pub map_counting_set :
    {X : Type 0} (f f' : ℕ → X) (n s : ℕ)
    → s < n
    → ((t : ℕ) → t < n → (t ≡ s → ⊥) → f' t ≡ f t)
    → map f' (range_with_len 0 n) ≡ set (map f (range_with_len 0 n)) s (f' s)
map_counting_set f f' n s below others =
    same_lists
    _
    _
    (grind (arith, common_steps, length-map-range_with_len))
    (λ t d there. grind (arith, common_steps, length-map-range_with_len, get_or-map-range_with_len))
