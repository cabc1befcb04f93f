-- The page that an edit of a bag leaves is the text of the edited stacks.
use Rattle.std.proofs.Common.{◌≡◌, ℕ, ◌+◌, ◌-◌, ◌*◌, ◌<◌, ◌≤◌, true, List, ◌∷◌, ◌++◌, length, drop, sym, refl, ap, ◌∙◌, arith}
use Rattle.std.proofs.lemmas.List.{length-append}
use Rattle.page.specs.declared.contents.Stack.{Stack}
use Rattle.page.specs.Places.{text}
use Rattle.page.specs.Pages.{is_bag, stacks, render}
use Rattle.page.specs.Layout.{overwritten, with_inserted, with_closed}
use Rattle.page.specs.Stacks.{held, spot}
use Rattle.page.specs.Calls.{added_page, removed_page}
use Rattle.page.proofs.Finding.{Found, found, absent}
use Rattle.page.proofs.Fronts.{amounting}
use Rattle.page.proofs.Texts.{lawful_stacks, page_is}
use Rattle.page.proofs.TextEdits.{replaced_text, inserted_text, closed_text}

module _ (page : List ℕ) (bag : is_bag page ≡ true) (items : Stack) where
  -- the kind is absent, and there is room for one stack more
  pub inserted_page :
      (place : ℕ)
      → place ≡ spot items.kind (stacks page)
      → held items.kind (stacks page) ≡ 0
      → length (stacks page) < 32
      → with_inserted page place items ≡ added_page page items
  inserted_page place there none room =
      let gap = absent items.kind 0 (stacks page) (lawful_stacks page bag).1 none in
      let within : length gap.front < 32 = omega (arith, ap length gap.split, length-append gap.front gap.back) in
      rw
      (there, gap.place, gap.inserted items refl)
      (inserted_text gap.front within page (drop 257 page) items gap.back (rw gap.split at (page_is page bag)))

  -- the kind is there
  module _ (some : 0 < held items.kind (stacks page)) where
    spotted : Found items.kind (stacks page)
    spotted = found items.kind 0 (stacks page) (lawful_stacks page bag).1 some

    split_page : page ≡ render (spotted.front ++ (spotted.stack ∷ spotted.back)) ++ drop 257 page
    split_page = rw spotted.split at (page_is page bag)

    few : length (spotted.front ++ (spotted.stack ∷ spotted.back)) ≤ 32
    few = rw spotted.split at (lawful_stacks page bag).0

    within : length spotted.front < 32
    within = omega (arith, few, length-append spotted.front (spotted.stack ∷ spotted.back))

    module _ (place : ℕ) (there : place ≡ spot items.kind (stacks page)) where
      -- the stack found is overwritten by one of the same kind
      replaced_page :
          (amount : ℕ)
          → overwritten page (1 + 8 * place) (text (amounting items amount))
          ≡ render (spotted.front ++ (amounting spotted.stack amount ∷ spotted.back)) ++ drop 257 page
      replaced_page amount =
          rw
          (there, spotted.place, spotted.kind_is)
          (replaced_text spotted.front within page (drop 257 page) spotted.stack (amounting items amount) spotted.back split_page)

      -- the stack found is raised
      pub raised_page :
          overwritten page (1 + 8 * place) (text (amounting items (held items.kind (stacks page) + items.amount))) ≡ added_page page items
      raised_page = rw (spotted.amount_is, spotted.raised items refl) (replaced_page (spotted.stack.amount + items.amount))

      -- the stack found is lowered, and some of it is left
      pub lowered_page :
          (held items.kind (stacks page) ≡ items.amount → ⊥)
          → overwritten page (1 + 8 * place) (text (amounting items (held items.kind (stacks page) - items.amount)))
          ≡ removed_page page items
      lowered_page part =
          rw
          (spotted.amount_is, spotted.lowered items refl (λ all. part (spotted.amount_is ∙ all)))
          (replaced_page (spotted.stack.amount - items.amount))

      pub closed_page : held items.kind (stacks page) ≡ items.amount → with_closed page place ≡ removed_page page items
      closed_page all =
          rw
          (there, spotted.place, spotted.closed items refl (sym spotted.amount_is ∙ all))
          (closed_text spotted.front within page (drop 257 page) spotted.stack spotted.back few split_page)
