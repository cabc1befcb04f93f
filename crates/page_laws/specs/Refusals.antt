-- Each call of the page is refused with the first number that fits, and only then.
use Rattle.std.specs.Prelude.{ℕ, Bool, List}
use Rattle.refusal.specs.Answers.{Test, answer}
use Rattle.refusal.specs.Order.{FirstThatFits}
use Rattle.page.specs.declared.contents.Stack.{Stack}
use Rattle.page.specs.Calls.{add_tests, blank_tests, craft_tests, find_answer, find_tests, read_answer, read_tests, remove_tests}

-- the tests of a call that edits answer with the first number that fits
abbrev pub EditRefusedFirst : List Test → Type 0
EditRefusedFirst tests = FirstThatFits (Unit {0}) tests (answer tests tt)

pub record RefusedFirst : Type 0 where
  pub read : (page : List ℕ) → FirstThatFits Bool (read_tests page) (read_answer page)
  pub find : (page : List ℕ) (kind : ℕ) → FirstThatFits (ℕ × ℕ) (find_tests page kind) (find_answer page kind)
  pub blank : (page : List ℕ) → EditRefusedFirst (blank_tests page)
  pub add : (page : List ℕ) (items : Stack) → EditRefusedFirst (add_tests page items)
  pub remove : (page : List ℕ) (items : Stack) → EditRefusedFirst (remove_tests page items)
  pub craft : (page : List ℕ) (out into : Stack) → EditRefusedFirst (craft_tests page out into)
