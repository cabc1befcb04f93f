-- What overwriting and moving places does to the text of stacks.
use Rattle.std.proofs.Common.{◌≡◌, ℕ, zero, suc, ◌+◌, ◌-◌, ◌*◌, ◌<◌, ◌≤◌, List, [], ◌∷◌, ◌++◌, length, take, drop, replicate, sym, refl, ap, ◌∙◌, append_assoc, suc-add, zero-add, arith}
use Rattle.std.proofs.lemmas.List.{drop_at, length-append, replicate-append-replicate, take_at}
use Rattle.page.specs.declared.contents.Stack.{Stack}
use Rattle.page.specs.Places.{text, empty_text}
use Rattle.page.specs.Pages.{text_of, render}
use Rattle.page.specs.Layout.{copied, overwritten, with_closed, with_inserted}
use Rattle.page.proofs.Texts.{length-text_of}

-- the bytes between a head and a tail: as many others written over them, and they themselves

module _
    {start count : ℕ}
    (head old tail page : List ℕ)
    (is : page ≡ head ++ (old ++ tail))
    (at : length head ≡ start)
    (width : length old ≡ count)
  where
    overwritten_at : (new : List ℕ) → length new ≡ count → overwritten page start new ≡ head ++ (new ++ tail)
    overwritten_at new same =
        let past : length (head ++ old) ≡ start + length new = length-append head old ∙ omega arith in
        rw
        (is, take_at head (old ++ tail) start at, ← append_assoc head old tail, drop_at (head ++ old) tail (start + length new) past)
        refl

    taken_at : take count (drop start page) ≡ old
    taken_at = rw (is, drop_at head (old ++ tail) start at, take_at old tail count width) refl

-- the text of places, cut before a place, after its first place, and before its last one

-- the text of some stacks and others after them
pub text_of-append :
    (xs ys : List Stack) (m : ℕ) → text_of (length xs + m) (xs ++ ys) ≡ text_of (length xs) xs ++ text_of m ys
unfolding text_of
text_of-append [] ys m = rw zero-add refl
text_of-append (x ∷ xs) ys m = rw (suc-add (length xs) m, text_of-append xs ys m) refl

record FirstPlace (m : ℕ) (ys : List Stack) : Type 0 where
  bytes : List ℕ
  others : List Stack
  width : length bytes ≡ 8
  split : text_of (suc m) ys ≡ bytes ++ text_of m others

first_place : (m : ℕ) (ys : List Stack) → FirstPlace m ys
unfolding text_of
first_place m [] = record { bytes = empty_text; others = []; width = refl; split = refl }
first_place m (y ∷ ys) = record { bytes = text y; others = ys; width = refl; split = refl }

record LastPlace (m : ℕ) (ys : List Stack) : Type 0 where
  bytes : List ℕ
  width : length bytes ≡ 8
  split : text_of (suc m) ys ≡ text_of m ys ++ bytes
  -- more places than stacks end in an empty one
  spaces : length ys ≤ m → bytes ≡ empty_text

last_place : (m : ℕ) (ys : List Stack) → LastPlace m ys
unfolding text_of
last_place zero [] = record { bytes = empty_text; width = refl; split = refl; spaces = λ few. refl }
last_place zero (y ∷ ys) = record { bytes = text y; width = refl; split = refl; spaces = λ few. absurd (omega arith) }
last_place (suc m) [] =
    let rest = last_place m [] in
    record { bytes = rest.bytes; width = rest.width; split = rw rest.split refl; spaces = λ few. rest.spaces (omega arith) }
last_place (suc m) (y ∷ ys) =
    let rest = last_place m ys in
    record { bytes = rest.bytes; width = rest.width; split = rw rest.split refl; spaces = λ few. rest.spaces (omega arith) }

-- a page of stacks, those before a place and those from there on

module _ (front : List Stack) (within : length front < 32) (page rest : List ℕ) where
  head : List ℕ
  head = 201 ∷ text_of (length front) front

  length-head : length head ≡ 1 + 8 * length front
  unfolding head
  length-head = omega (arith, length-text_of (length front) front)

  render_from : (ys : List Stack) → render (front ++ ys) ++ rest ≡ head ++ (text_of (suc (31 - length front)) ys ++ rest)
  unfolding head render
  render_from ys =
      let count : 32 ≡ length front + suc (31 - length front) = omega arith in
      rw (count, text_of-append front ys (suc (31 - length front)), append_assoc) refl

  -- a stack overwritten by another
  pub replaced_text :
      (old new : Stack) (back : List Stack)
      → page ≡ render (front ++ (old ∷ back)) ++ rest
      → overwritten page (1 + 8 * length front) (text new) ≡ render (front ++ (new ∷ back)) ++ rest
  unfolding text_of
  replaced_text old new back is =
      let tail = text_of (31 - length front) back ++ rest in
      overwritten_at head (text old) tail page (is ∙ render_from (old ∷ back)) length-head refl (text new) refl
      ∙ sym (render_from (new ∷ back))

  -- the places from one on moved by one place to the right, and a stack put in between
  pub inserted_text :
      (new : Stack) (back : List Stack)
      → page ≡ render (front ++ back) ++ rest
      → with_inserted page (length front) new ≡ render (front ++ (new ∷ back)) ++ rest
  unfolding text_of
  inserted_text new back is =
      let place = length front in
      let after = 31 - place in
      let kept = text_of after back in
      let width = length-text_of after back in
      let first = first_place after back in
      let last = last_place after back in
      let whole = is ∙ render_from back in
      let taken : take (8 * after) (drop (1 + 8 * place) page) ≡ kept =
      taken_at head kept (last.bytes ++ rest) page (whole ∙ rw last.split (simp append_assoc)) length-head width in
      let further : length (head ++ first.bytes) ≡ 1 + 8 * (place + 1) = omega (arith, length-append head first.bytes, length-head, first.width) in
      let split : page ≡ (head ++ first.bytes) ++ (text_of after first.others ++ rest) = whole ∙ rw first.split (simp append_assoc) in
      let moved : copied page place (place + 1) after ≡ head ++ (first.bytes ++ (kept ++ rest)) =
      rw
      (taken, ← append_assoc head first.bytes (kept ++ rest))
      (overwritten_at (head ++ first.bytes) (text_of after first.others) rest page split further (length-text_of after first.others) kept width) in
      overwritten_at head first.bytes (kept ++ rest) (copied page place (place + 1) after) moved length-head first.width (text new) refl
      ∙ sym (render_from (new ∷ back))

  -- the places after one moved by one place to the left, over it, and the last one emptied
  pub closed_text :
      (old : Stack) (back : List Stack)
      → length (front ++ (old ∷ back)) ≤ 32
      → page ≡ render (front ++ (old ∷ back)) ++ rest
      → with_closed page (length front) ≡ render (front ++ back) ++ rest
  unfolding text_of
  closed_text old back few is =
      let place = length front in
      let after = 31 - place in
      let kept = text_of after back in
      let width = length-text_of after back in
      let last = last_place after (old ∷ back) in
      let end = last_place after back in
      let whole = is ∙ render_from (old ∷ back) in
      let further : length (head ++ text old) ≡ 1 + 8 * (place + 1) = omega (arith, length-append head (text old), length-head) in
      let taken : take (8 * after) (drop (1 + 8 * (place + 1)) page) ≡ kept =
      taken_at (head ++ text old) kept rest page (whole ∙ sym (append_assoc head (text old) (kept ++ rest))) further width in
      let split : page ≡ head ++ (text_of after (old ∷ back) ++ (last.bytes ++ rest)) =
      is ∙ rw (← append_assoc (text_of after (old ∷ back)) last.bytes rest, ← last.split) (render_from (old ∷ back)) in
      let moved : copied page (place + 1) place after ≡ (head ++ kept) ++ (last.bytes ++ rest) =
      rw
      (taken, append_assoc)
      (overwritten_at head (text_of after (old ∷ back)) (last.bytes ++ rest) page split length-head (length-text_of after (old ∷ back)) kept width) in
      let end_at : length (head ++ kept) ≡ 249 = omega (arith, length-append head kept, length-head, width) in
      let spaces = end.spaces (omega (arith, length-append front (old ∷ back))) in
      overwritten_at (head ++ kept) last.bytes rest (copied page (place + 1) place after) moved end_at last.width empty_text refl
      ∙ sym (render_from back ∙ rw (end.split, spaces) (simp append_assoc))

-- the text of no stacks

text_of_empty : (n : ℕ) → text_of n [] ≡ replicate (8 * n) 32
unfolding text_of
text_of_empty zero = refl
text_of_empty (suc n) =
    let width : 8 * suc n ≡ 8 + 8 * n = omega arith in
    rw (width, text_of_empty n) (replicate-append-replicate 8 (8 * n) 32)

pub render_empty : render [] ≡ 201 ∷ replicate 256 32
unfolding render
render_empty = ap (λ (bytes : List ℕ). 201 ∷ bytes) (text_of_empty 32)
