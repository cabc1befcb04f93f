-- Bags hold the same stacks exactly where their texts are the same.
use Rattle.std.proofs.Common.{◌≡◌, ℕ, Bool, true, List, [], ◌++◌, take, IfOk, Ok, Err, Decides, Result, sym, ap, ◌∙◌, arith}
use Rattle.std.specs.Str.{bytes_eq}
use Rattle.std.proofs.lemmas.Slice.Eq.{bytes_eq-Decides}
use Rattle.std.proofs.lemmas.Bool.Decides.{Decides-at, Decides-like, nat_tests}
use Rattle.refusal.specs.declared.cases.Refusal.{Refusal}
use Rattle.refusal.specs.Answers.{by_number}
use Rattle.page_laws.specs.Comparing.{same_text}
use Rattle.page.specs.Pages.{is_bag, stacks, render}
use Rattle.page.proofs.Texts.{lawful_stacks, render-stacks, stacks-render}

module _ (one other : List ℕ) (one_bag : is_bag one ≡ true) (other_bag : is_bag other ≡ true) where
  same_stacks_from_text : take 257 one ≡ take 257 other → stacks one ≡ stacks other
  same_stacks_from_text same =
      sym (stacks-render (stacks one) [] (lawful_stacks one one_bag))
      ∙ ap
      (λ (text : List ℕ). stacks (text ++ []))
      (sym (render-stacks one one_bag) ∙ same ∙ render-stacks other other_bag)
      ∙ stacks-render (stacks other) [] (lawful_stacks other other_bag)

  same_text_from_stacks : stacks one ≡ stacks other → take 257 one ≡ take 257 other
  same_text_from_stacks same = render-stacks one one_bag ∙ ap render same ∙ sym (render-stacks other other_bag)

  pub texts_decide : Decides (bytes_eq (take 257 one) (take 257 other)) (stacks one ≡ stacks other)
  texts_decide =
      Decides-like
      (bytes_eq (take 257 one) (take 257 other))
      same_stacks_from_text
      same_text_from_stacks
      (bytes_eq-Decides (take 257 one) (take 257 other))

-- what a comparison answers, where it is not refused
pub decided :
    (one other : List ℕ) (r : Result Bool Refusal)
    → by_number r ≡ same_text one other
    → IfOk r (λ same. Decides same (stacks one ≡ stacks other))
decided one other (Ok same) is =
    let one_bag : is_bag one ≡ true = grind (arith, nat_tests) in
    let other_bag : is_bag other ≡ true = grind (arith, nat_tests) in
    let compared : same ≡ bytes_eq (take 257 one) (take 257 other) = grind (arith, nat_tests) in
    Decides-at same (bytes_eq (take 257 one) (take 257 other)) compared (texts_decide one other one_bag other_bag)
decided one other (Err refusal) is = tt
