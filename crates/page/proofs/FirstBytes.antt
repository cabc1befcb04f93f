-- Only the first 257 bytes of a page decide: what a call does to them alone, it does to the whole page.
use Rattle.std.proofs.Common.{◌≡◌, ℕ, leb, ltb, List, ◌++◌, length, take, drop, Result, Ok, Err, sym, refl, ap, subst, arith}
use Rattle.std.proofs.lemmas.List.{append-nil, drop-take, drop_all, get_or-take, length-take, take-append-drop}
use Rattle.std.proofs.lemmas.Bool.Decides.{nat_tests}
use Rattle.refusal.specs.declared.cases.Refusal.{Refusal}
use Rattle.refusal.specs.Answers.{Test, answer, by_number, on_ok}
use Rattle.refusal.proofs.Outcomes.{Claims}
use Rattle.page.specs.declared.contents.Stack.{Stack}
use Rattle.page.specs.Pages.{is_bag, places, rewritten, stacks, stacks_in}
use Rattle.page.specs.Calls.{short_page}
use Rattle.page.proofs.Places.{places_in-take}
use Rattle.page.proofs.Texts.{places_of}

module _ (page : List ℕ) where
  places_first : places (take 257 page) ≡ places page
  places_first =
      rw (places_of (take 257 page), drop-take 1 256 page, places_in-take 32 (drop 1 page)) (sym (places_of page))

  pub stacks_first : stacks (take 257 page) ≡ stacks page
  unfolding stacks
  stacks_first = ap stacks_in places_first

  pub short_page_first : short_page (take 257 page) ≡ short_page page
  short_page_first =
      let width = length-take 257 page in
      let same : ltb (length (take 257 page)) 257 ≡ ltb (length page) 257 = grind (arith, nat_tests) in
      rw same refl

  pub is_bag_first : is_bag (take 257 page) ≡ is_bag page
  unfolding is_bag
  is_bag_first =
      let width = length-take 257 page in
      let long : leb 257 (length (take 257 page)) ≡ leb 257 (length page) = grind (arith, nat_tests) in
      rw (long, get_or-take 257 page 0 0 (omega arith), places_first) refl

  rewritten_first : (ss : List Stack) → rewritten (take 257 page) ss ++ drop 257 page ≡ rewritten page ss
  rewritten_first ss = rw (drop_all 257 (take 257 page) (omega (arith, length-take 257 page)), append-nil) refl

-- what a call claims of a page, by what a call of its first bytes answered and left
pub claims_first :
    (page : List ℕ) (tests : List ℕ → List Test) (new : List Stack → List Stack) (Fact : List ℕ → Type 0)
    → tests (take 257 page) ≡ tests page
    → (Ok (tt {0}) ≡ answer (tests page) tt → Fact (rewritten page (new (stacks page))))
    → (bytes : List ℕ)
    → bytes ≡ take 257 page
    → (result : Result (Unit {0}) Refusal) (left : List ℕ)
    → by_number result ≡ answer (tests bytes) tt
    → left ≡ on_ok result (rewritten bytes (new (stacks bytes))) bytes
    → Claims
    result
    (answer (tests page) tt)
    (left ++ drop 257 page)
    (rewritten page (new (stacks page)))
    page
    (Fact (left ++ drop 257 page))
claims_first page tests new Fact same law bytes first (Ok value) left answers leaves =
    let answered = rw (first, same) at answers in
    let after : left ++ drop 257 page ≡ rewritten page (new (stacks page)) =
    rw (leaves, first, stacks_first page) (rewritten_first page (new (stacks page))) in
    record { answers = answered; leaves = after; holds = subst Fact (sym after) (law answered) }
claims_first page tests new Fact same law bytes first (Err refusal) left answers leaves =
    record {
      answers = rw (first, same) at answers;
      leaves = rw (leaves, first) (take-append-drop 257 page);
      holds = tt;
    }
