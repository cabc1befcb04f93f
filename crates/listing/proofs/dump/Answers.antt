use Rattle.std.proofs.Common.{◌≡◌, ℕ, List, [], ◌∷◌, ◌++◌, Err, ap, ◌∙◌, arith, vec_items}
use Rattle.std.proofs.lemmas.Bool.Decides.{nat_tests}
use Rattle.refusal.specs.Answers.{answer}
use Rattle.refusal.specs.Numbers.{number, refused_line}
use Rattle.refusal.proofs.Outcomes.{refused_early}
use Rattle.page.specs.Calls.{not_bag, short_page}
use Rattle.page.specs.Pages.{stacks}
use Rattle.listing.specs.Lines.{dumped, lines, lines_or}
use Rattle.listing.proofs.dump.Goals as goal
use Rattle.listing.proofs.dump.Goals.{in-Ok+in_ok-write_stacks-in-Ok, in-Err+in_ok-extend_from_slice-in-Err}

-- the line of a refusal, written to nothing, is what is printed of bytes that are refused with it
refusal_printed :
    (written before line bytes : List ℕ) (n : ℕ)
    → before ≡ []
    → written ≡ before ++ line
    → line ≡ refused_line n
    → Err n ≡ answer (short_page bytes ∷ not_bag bytes ∷ []) (tt {0})
    → written ≡ dumped bytes
refusal_printed written before line bytes n empty wrote is refused =
    wrote
    ∙ ap (λ (first : List ℕ). first ++ line) empty
    ∙ is
    ∙ ap lines_or (refused_early (short_page bytes ∷ not_bag bytes ∷ []) [] (lines (stacks bytes)) n refused)

pub returns : goal.returns
returns c =
    elim c.match-check_bag.branch [
      | in-Ok+in_ok-write_stacks-in-Ok w ↦ grind (arith, nat_tests)
      | in-Err+in_ok-extend_from_slice-in-Err w ↦
          refusal_printed
          _
          c.new-lines.result.items
          w.line.result
          c.args.bytes.now
          (number w.in-Err.refusal)
          c.new-lines.ensures.items
          (ap vec_items w.lines-is ∙ w.in_ok-extend_from_slice-in-Err.ensures.items)
          w.line.ensures
          w.in-Err.ensures
    ]
