-- Stacks written to a page are read from it again, and a bag's page is the only text of its stacks.
use Rattle.std.proofs.Common.{◌≡◌, ℕ, zero, suc, ◌+◌, ◌*◌, ◌<◌, ◌≤◌, true, ltb, List, [], ◌∷◌, ◌++◌, map, length, get_or, take, drop, sym, refl, ap, ◌∙◌, arith, take-add}
use Rattle.std.specs.List.{range_with_len}
use Rattle.std.proofs.lemmas.List.{drop-drop, length-append, take-append-drop, take_more}
use Rattle.std.proofs.lemmas.Bool.{and_parts, false≢true, le-leb, ltb-true}
use Rattle.std.proofs.lemmas.Bool.Decides.{nat_tests}
use Rattle.page.specs.declared.contents.Stack.{Stack}
use Rattle.page.specs.declared.contents.Place.{Place}
use Rattle.page.specs.declared.contents.Place.TheVariants.{Empty, Filled, Malformed}
use Rattle.page.specs.Places.{place_in}
use Rattle.page.specs.Pages.{place_at, places, all_empty, in_order, is_bag, stacks_in, stacks, text_of, render, rewritten}
use Rattle.page.specs.Stacks.{RisingFrom, Lawful}
use Rattle.page.proofs.PlaceTexts.{place_in-text, filled_text, filled_in_range, empty_text_is}

-- so many places of eight bytes, one after another
unfoldable pub places_in : ℕ → List ℕ → List Place
places_in zero bytes = []
places_in (suc n) bytes = place_in (take 8 bytes) ∷ places_in n (drop 8 bytes)

places_in_at : (page : List ℕ) (i n : ℕ) → map (place_at page) (range_with_len i n) ≡ places_in n (drop (1 + 8 * i) page)
unfolding places_in
places_in_at page i zero = refl
places_in_at page i (suc n) =
    let next : 1 + 8 * i + 8 ≡ 1 + 8 * (i + 1) = omega arith in
    rw (drop-drop 8 (1 + 8 * i) page, next, places_in_at page (i + 1) n) refl

pub places_of : (page : List ℕ) → places page ≡ places_in 32 (drop 1 page)
unfolding places
places_of page = places_in_at page 0 32

-- what is written is read again

pub empty_read : (n : ℕ) (rest : List ℕ) → all_empty (places_in n (text_of n [] ++ rest)) ≡ true
unfolding places_in text_of
empty_read zero rest = refl
empty_read (suc n) rest = empty_read n rest

-- the text of stacks is in order, and holds them
pub stacks_read :
    (n above : ℕ) (ss : List Stack) (rest : List ℕ)
    → length ss ≤ n
    → RisingFrom above ss
    → (in_order above (places_in n (text_of n ss ++ rest)) ≡ true) × (stacks_in (places_in n (text_of n ss ++ rest)) ≡ ss)
unfolding places_in text_of
stacks_read zero above [] rest few rising = (refl, refl)
stacks_read zero above (s ∷ ss) rest few rising = absurd (omega arith)
stacks_read (suc n) above [] rest few rising = (empty_read n rest, refl)
stacks_read (suc n) above (s ∷ ss) rest few rising =
    let after = stacks_read n s.kind ss rest (omega arith) rising.1.1 in
    rw (place_in-text s rising.1.0) (grind (arith, nat_tests, after, rising.0), rw after.1 refl)

-- a bag's page is the only text of its stacks

eight_more : (n : ℕ) (bytes : List ℕ) → take (8 * suc n) bytes ≡ take 8 bytes ++ take (8 * n) (drop 8 bytes)
eight_more n bytes = let width : 8 * suc n ≡ 8 + 8 * n = omega arith in rw width (take-add 8 (8 * n) bytes)

-- places that are all empty have the text of no stacks
pub empty_only :
    (n : ℕ) (bytes : List ℕ) (ps : List Place) → places_in n bytes ≡ ps → all_empty ps ≡ true → take (8 * n) bytes ≡ text_of n []
unfolding places_in text_of
empty_only zero bytes ps is holds = refl
empty_only (suc n) bytes [] is holds = cc
empty_only (suc n) bytes (Empty ∷ ps) is holds =
    let rest = empty_only n (drop 8 bytes) ps (cc) holds in
    rw (eight_more n bytes, empty_text_is (take 8 bytes) (cc), rest) refl
empty_only (suc n) bytes (Filled s ∷ ps) is holds = cc
empty_only (suc n) bytes (Malformed ∷ ps) is holds = cc

pub record OnlyText (n above : ℕ) (bytes : List ℕ) (ss : List Stack) : Type 0 where
  pub is : take (8 * n) bytes ≡ text_of n ss
  pub few : length ss ≤ n
  pub rising : RisingFrom above ss

-- places that are in order have the text of their stacks alone
pub stacks_only :
    (n above : ℕ) (bytes : List ℕ) (ps : List Place)
    → places_in n bytes ≡ ps
    → in_order above ps ≡ true
    → OnlyText n above bytes (stacks_in ps)
unfolding places_in text_of
stacks_only zero above bytes [] is ordered = record { is = refl; few = omega arith; rising = tt }
stacks_only zero above bytes (p ∷ ps) is ordered = absurd (cc)
stacks_only (suc n) above bytes [] is ordered = absurd (cc)
stacks_only (suc n) above bytes (Empty ∷ ps) is ordered =
    let rest = empty_only n (drop 8 bytes) ps (cc) ordered in
    record {
      is = rw (eight_more n bytes, empty_text_is (take 8 bytes) (cc), rest) refl;
      few = omega arith;
      rising = tt;
    }
stacks_only (suc n) above bytes (Filled s ∷ ps) is ordered =
    let first : place_in (take 8 bytes) ≡ Filled s = cc in
    let parts = and_parts (ltb above s.kind) (in_order s.kind ps) ordered in
    let rest = stacks_only n s.kind (drop 8 bytes) ps (cc) parts.1 in
    record {
      is = rw (eight_more n bytes, filled_text (take 8 bytes) s first, rest.is) refl;
      few = omega (arith, rest.few);
      rising = (ltb-true above s.kind parts.0, (filled_in_range (take 8 bytes) s first, rest.rising));
    }
stacks_only (suc n) above bytes (Malformed ∷ ps) is ordered = absurd (false≢true ordered)

-- the whole page

pub length-text_of : (n : ℕ) (ss : List Stack) → length (text_of n ss) ≡ 8 * n
unfolding text_of
length-text_of zero ss = refl
length-text_of (suc n) [] = omega (arith, length-text_of n [])
length-text_of (suc n) (s ∷ ss) = omega (arith, length-text_of n ss)

pub length-render : (ss : List Stack) → length (render ss) ≡ 257
unfolding render
length-render ss = omega (arith, length-text_of 32 ss)

pub is_bag-render : (ss : List Stack) (rest : List ℕ) → Lawful ss → is_bag (render ss ++ rest) ≡ true
unfolding is_bag render
is_bag-render ss rest lawful =
    let long : 257 ≤ length (201 ∷ (text_of 32 ss ++ rest)) =
    omega (arith, length-append (text_of 32 ss) rest, length-text_of 32 ss) in
    let reads = stacks_read 32 0 ss rest lawful.0 lawful.1 in
    rw (le-leb 257 (length (201 ∷ (text_of 32 ss ++ rest))) long, places_of (201 ∷ (text_of 32 ss ++ rest))) reads.0

pub stacks-render : (ss : List Stack) (rest : List ℕ) → Lawful ss → stacks (render ss ++ rest) ≡ ss
unfolding stacks render
stacks-render ss rest lawful =
    ap stacks_in (places_of (201 ∷ (text_of 32 ss ++ rest))) ∙ (stacks_read 32 0 ss rest lawful.0 lawful.1).1

-- what makes a page a bag
pub record Bag (page : List ℕ) : Type 0 where
  pub long : 257 ≤ length page
  pub tagged : get_or page 0 0 ≡ 201
  pub ordered : in_order 0 (places page) ≡ true

pub bag_parts : (page : List ℕ) → is_bag page ≡ true → Bag page
unfolding is_bag
bag_parts page holds =
    record { long = grind (arith, nat_tests); tagged = grind (arith, nat_tests); ordered = grind (arith, nat_tests) }

bag_text : (page : List ℕ) → is_bag page ≡ true → OnlyText 32 0 (drop 1 page) (stacks page)
unfolding stacks
bag_text page holds = stacks_only 32 0 (drop 1 page) (places page) (sym (places_of page)) (bag_parts page holds).ordered

pub lawful_stacks : (page : List ℕ) → is_bag page ≡ true → Lawful (stacks page)
lawful_stacks page holds = let only = bag_text page holds in (only.few, only.rising)

pub render-stacks : (page : List ℕ) → is_bag page ≡ true → take 257 page ≡ render (stacks page)
unfolding render
render-stacks page holds =
    let bag = bag_parts page holds in
    let some : 0 < length page = omega (arith, bag.long) in
    rw (take-add 1 256 page, take_more page 0 0 some, bag.tagged, (bag_text page holds).is) refl

-- a bag's page, whole
pub page_is : (page : List ℕ) → is_bag page ≡ true → page ≡ rewritten page (stacks page)
page_is page holds = rw (← render-stacks page holds) (sym (take-append-drop 257 page))
