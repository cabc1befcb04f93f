-- What is written into a place is read from it again, and a place that holds something is its only text.
use Rattle.std.proofs.Common.{◌≡◌, ℕ, true, false, eqb, List, length, take, drop, sym, refl, arith}
use Rattle.std.proofs.lemmas.List.{length-take-le, length-drop, take-append-drop}
use Rattle.std.proofs.lemmas.Bool.Decides.{nat_tests}
use Rattle.decimal.specs.Columns.{last_column, blank, numeral, value}
use Rattle.decimal.proofs.Spelling.{numeral-columns, value-columns, columns-value, value_above, value_below, blank_is_spaces}
use Rattle.page.specs.declared.contents.Stack.{Stack}
use Rattle.page.specs.declared.contents.Place.TheVariants.{Empty, Filled}
use Rattle.page.specs.Stacks.{InRange}
use Rattle.page.specs.Places.{text, empty_text, place_in}

pub place_in-text : (s : Stack) → InRange s → place_in (text s) ≡ Filled s
place_in-text s range =
    let last : eqb (last_column s.kind) 32 ≡ false = grind (arith, nat_tests) in
    let not_blank : blank (text s) ≡ false = grind (arith, nat_tests) in
    let kind_reads = numeral-columns 3 s.kind range.0.0 (omega arith) in
    let amount_reads = numeral-columns 5 s.amount range.1.0 (omega arith) in
    rw
    (not_blank, kind_reads, amount_reads, value-columns 3 s.kind (omega arith), value-columns 5 s.amount (omega arith))
    refl

-- a place that is known to hold something, by its text

pub record Reads (bytes : List ℕ) (s : Stack) : Type 0 where
  pub kind_width : length (take 3 bytes) ≡ 3
  pub amount_width : length (drop 3 bytes) ≡ 5
  pub kind_reads : numeral (take 3 bytes) ≡ true
  pub amount_reads : numeral (drop 3 bytes) ≡ true
  pub kind_is : value (take 3 bytes) ≡ s.kind
  pub amount_is : value (drop 3 bytes) ≡ s.amount

reads_from : (bytes : List ℕ) (s : Stack) → place_in bytes ≡ Filled s → Reads bytes s
reads_from bytes s is =
    let eight : length bytes ≡ 8 = grind (arith, nat_tests) in
    record {
      kind_width = length-take-le 3 bytes (omega arith);
      amount_width = omega (arith, length-drop 3 bytes);
      kind_reads = grind (arith, nat_tests);
      amount_reads = grind (arith, nat_tests);
      kind_is = grind (arith, nat_tests);
      amount_is = grind (arith, nat_tests);
    }

module _ (bytes : List ℕ) (s : Stack) (is : place_in bytes ≡ Filled s) where
  reads : Reads bytes s
  reads = reads_from bytes s is

  pub filled_text : bytes ≡ text s
  filled_text =
      let kind_text = rw (reads.kind_width, reads.kind_is) at (columns-value (take 3 bytes) reads.kind_reads) in
      let amount_text = rw (reads.amount_width, reads.amount_is) at (columns-value (drop 3 bytes) reads.amount_reads) in
      rw (← kind_text, ← amount_text) at (sym (take-append-drop 3 bytes))

  pub filled_in_range : InRange s
  filled_in_range =
      let kind_below = rw (reads.kind_width, reads.kind_is) at (value_below (take 3 bytes) reads.kind_reads) in
      let amount_below = rw (reads.amount_width, reads.amount_is) at (value_below (drop 3 bytes) reads.amount_reads) in
      let kind_above = rw reads.kind_is at (value_above (take 3 bytes) reads.kind_reads) in
      let amount_above = rw reads.amount_is at (value_above (drop 3 bytes) reads.amount_reads) in
      ((omega arith, omega arith), (omega arith, omega arith))

pub empty_text_is : (bytes : List ℕ) → place_in bytes ≡ Empty → bytes ≡ empty_text
empty_text_is bytes is =
    let eight : length bytes ≡ 8 = grind (arith, nat_tests) in
    let spaces : blank bytes ≡ true = grind (arith, nat_tests) in
    rw eight at (blank_is_spaces bytes spaces)
