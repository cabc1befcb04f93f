-- Worked plays of the page's rules.
use Rattle.std.specs.Prelude.{◌≡◌, ℕ, ◌<◌, ◌≤◌, true, List, length, Ok, Err, codes, Result}
use Rattle.refusal.specs.Answers.{answer, on_ok}
use Rattle.page.specs.declared.contents.Stack.{Stack}
use Rattle.page.specs.Places.{text}
use Rattle.page.specs.Pages.{is_bag, stacks}
use Rattle.page.specs.Stacks.{held}
use Rattle.page.specs.Calls.{add_tests, craft_tests, crafted_page}

-- so many items of a kind
abbrev pub items : ℕ → ℕ → Stack
items amount kind = record { kind = kind; amount = amount }

-- what adding one item of a kind answers
abbrev pub add_one : List ℕ → ℕ → Result (Unit {0}) ℕ
add_one page kind = answer (add_tests page (items 1 kind)) tt

-- what crafting so many of kind 5 into some of kind 6 answers
abbrev pub craft_six : List ℕ → ℕ → ℕ → Result (Unit {0}) ℕ
craft_six page out into = answer (craft_tests page (items out 5) (items into 6)) tt

-- a bag of 32 stacks with some of kind 5 and none of kind 6
pub record FullWithoutSix (page : List ℕ) : Type 0 where
  pub bag : is_bag page ≡ true
  pub full : length (stacks page) ≡ 32
  pub none : held 6 (stacks page) ≡ 0

pub record Plays : Type 0 where
  -- 12 of kind 7, and the largest stack of the largest kind, as places
  pub small_stack : text (items 12 7) ≡ codes "  7   12"
  pub large_stack : text (items 99999 999) ≡ codes "99999999"
  -- one more on 99,998 is good, on 99,999 it is 13
  pub one_more_fits : (page : List ℕ) (kind : ℕ) → is_bag page ≡ true → held kind (stacks page) ≡ 99998 → add_one page kind ≡ Ok tt
  pub one_too_many :
      (page : List ℕ) (kind : ℕ) → is_bag page ≡ true → held kind (stacks page) ≡ 99999 → add_one page kind ≡ Err 13
  -- in a full bag, all of kind 5 can be crafted into a new kind 6
  pub all_crafted :
      (page : List ℕ) (into : ℕ)
      → FullWithoutSix page
      → 1 ≤ held 5 (stacks page)
      → 1 ≤ into
      → into ≤ 99999
      → craft_six page (held 5 (stacks page)) into ≡ Ok tt
  -- a part of it can not: that is 13, and the page is as before
  pub part_refused :
      (page : List ℕ) (out into : ℕ)
      → FullWithoutSix page
      → 1 ≤ out
      → out < held 5 (stacks page)
      → 1 ≤ into
      → into ≤ 99999
      → (craft_six page out into ≡ Err 13)
      × (on_ok (craft_six page out into) (crafted_page page (items out 5) (items into 6)) page ≡ page)
