-- What is left of slots that are purged. Other crates may use these.
use Rattle.std.proofs.Common.{◌≡◌, ◌∙◌, ap, sym, subst, refl, ℕ, ◌≤◌, Bool, true, false, cond, ◌||◌, ◌⊎◌, inl, inr, List, [], ◌∷◌, filter, Option, None, Some, IsSome, is_some, nat_le, leb-true, le-leb}
use Rattle.std.specs.Cmp.{eq_by_cmp_equiv}
use Rattle.std.specs.List.{IsDistinct}
use Rattle.std.specs.Map.{keys_of, lookup}
use Rattle.std.specs.FinMap.{get}
use Rattle.std.proofs.lemmas.Map.Entries.{lookup-filter-values, option_filter}
use Rattle.t3_undo.specs.Cell.{cell_cmp_total}
use Rattle.t3_undo.specs.Content.{shown}
use Rattle.t3_undo.specs.Present.{Present}
use Rattle.t3_undo.specs.Slots.{parts_of, places_of, is_needed, AreFormed}
use Rattle.t3_undo.specs.Purging.{IsNeeded}
use Rattle.t3_undo.specs.declared.cell.Cell.{Cell}
use Rattle.t3_undo.specs.declared.place.Place.{Place}
use Rattle.t3_undo.proofs.SlotLists.{same, seen, stamped, get-parts_of, get-places_of, same_parts}

abbrev Entries : Type 0
Entries = List (Cell × Place)

-- whether a place stays
abbrev stays : ℕ → Place → Bool
stays oldest place = is_some (shown place.content) || nat_le oldest place.stamp

pub formed-filter : (oldest : ℕ) (slots : Entries) → AreFormed slots → AreFormed (filter (is_needed oldest) slots)
formed-filter oldest [] all = all
formed-filter oldest (slot ∷ slots) all = by (is_needed oldest slot) (formed-filter oldest slots all.1)
  where
    by : (b : Bool) → AreFormed (filter (is_needed oldest) slots)
        → AreFormed (cond b (slot ∷ filter (is_needed oldest) slots) (filter (is_needed oldest) slots))
    by true rest = (all.0, rest)
    by false rest = rest

module _ (oldest : ℕ) (slots : Entries) (apart : IsDistinct same (keys_of slots)) where
  lookup-purged : (q : Cell) → lookup (same q) (filter (is_needed oldest) slots) ≡ option_filter (stays oldest) (lookup (same q) slots)
  lookup-purged q = lookup-filter-values (eq_by_cmp_equiv cell_cmp_total) (stays oldest) q slots apart

  seen-filter : (o : Option Place) → seen (option_filter (stays oldest) o) ≡ seen o
  seen-filter None = refl
  seen-filter (Some place) = by (shown place.content) refl
    where
      by : (p : Option Present) → shown place.content ≡ p
          → seen (cond (is_some (shown place.content) || nat_le oldest place.stamp) (Some place) None) ≡ shown place.content
      by None e = left (nat_le oldest place.stamp)
        where
          left : (b : Bool) → seen (cond (is_some (shown place.content) || b) (Some place) None) ≡ shown place.content
          left true = ap (λ x. seen (cond x (Some place) None)) (or-true (is_some (shown place.content)))
            where
              or-true : (x : Bool) → (x || true) ≡ true
              or-true true = refl
              or-true false = refl
          left false = ap (λ x. seen (cond (is_some x || false) (Some place) None)) e ∙ sym e
      by (Some present) e = ap (λ x. seen (cond (is_some x || nat_le oldest place.stamp) (Some place) None)) e

  pub parts-purged : parts_of (filter (is_needed oldest) slots) ≡ parts_of slots
  parts-purged = same_parts _ slots (λ q. ap seen (lookup-purged q) ∙ seen-filter (lookup (same q) slots))

  places-purged : (q : Cell) → get (places_of (filter (is_needed oldest) slots)) q ≡ stamped (option_filter (stays oldest) (lookup (same q) slots))
  places-purged q = get-places_of (filter (is_needed oldest) slots) q ∙ ap stamped (lookup-purged q)

  fewer : (o : Option Place) (t : ℕ) → stamped (option_filter (stays oldest) o) ≡ Some t → stamped o ≡ Some t
  fewer None t e = e
  fewer (Some place) t e = by (stays oldest place) e
    where
      by : (b : Bool) → stamped (cond b (Some place) None) ≡ Some t → ◌≡◌ {A = Option ℕ} (Some place.stamp) (Some t)
      by true e = e
      by false e = cc

  pub places-fewer : (q : Cell) (t : ℕ) → get (places_of (filter (is_needed oldest) slots)) q ≡ Some t → get (places_of slots) q ≡ Some t
  places-fewer q t e = get-places_of slots q ∙ fewer (lookup (same q) slots) t (sym (places-purged q) ∙ e)

  or-true : (x b : Bool) → b ≡ true → (x || b) ≡ true
  or-true true b e = refl
  or-true false b e = e

  kept : (o : Option Place) (t : ℕ) → stamped o ≡ Some t → IsSome (seen o) ⊎ (oldest ≤ t) → stamped (option_filter (stays oldest) o) ≡ Some t
  kept None t e need = e
  kept (Some place) t e need = ap (λ x. stamped (cond x (Some place) None)) (by need) ∙ e
    where
      is : place.stamp ≡ t
      is = cc

      by : IsSome (shown place.content) ⊎ (oldest ≤ t) → stays oldest place ≡ true
      by (inl present) = ap (λ b. b || nat_le oldest place.stamp) present
      by (inr from) = or-true (is_some (shown place.content)) (nat_le oldest place.stamp) (ap (nat_le oldest) is ∙ le-leb oldest t from)

  -- the need of a cell with a place, by what is found there
  need-found : (q : Cell) (t : ℕ) → get (places_of slots) q ≡ Some t → IsNeeded (parts_of slots) (places_of slots) oldest q
      → IsSome (seen (lookup (same q) slots)) ⊎ (oldest ≤ t)
  need-found q t e (inl present) = inl (ap is_some (sym (get-parts_of slots q)) ∙ present)
  need-found q t e (inr from) =
      let is : ◌≡◌ {A = Option ℕ} (Some from.0) (Some t) = sym from.1 ∙ e in
      let same_stamp : from.0 ≡ t = cc in
      inr (subst (λ n. oldest ≤ n) same_stamp from.2)

  pub places-kept : (q : Cell) (t : ℕ) → get (places_of slots) q ≡ Some t → IsNeeded (parts_of slots) (places_of slots) oldest q
      → get (places_of (filter (is_needed oldest) slots)) q ≡ Some t
  places-kept q t e need = places-purged q ∙ kept (lookup (same q) slots) t (sym (get-places_of slots q) ∙ e) (need-found q t e need)

  needed : (o : Option Place) (t : ℕ) → stamped (option_filter (stays oldest) o) ≡ Some t → IsSome (seen o) ⊎ (oldest ≤ t)
  needed None t e = cc
  needed (Some place) t e = by (is_some (shown place.content)) refl (nat_le oldest place.stamp) refl e
    where
      by : (a : Bool) → is_some (shown place.content) ≡ a → (b : Bool) → nat_le oldest place.stamp ≡ b
          → stamped (cond (a || b) (Some place) None) ≡ Some t → IsSome (shown place.content) ⊎ (oldest ≤ t)
      by true present b from e = inl present
      by false present true from e =
          let is : place.stamp ≡ t = cc in inr (leb-true oldest t (ap (nat_le oldest) (sym is) ∙ from))
      by false present false from e = cc

  pub places-needed : (q : Cell) (t : ℕ) → get (places_of (filter (is_needed oldest) slots)) q ≡ Some t
      → IsNeeded (parts_of slots) (places_of slots) oldest q
  places-needed q t e = by (needed (lookup (same q) slots) t (sym (places-purged q) ∙ e))
    where
      by : IsSome (seen (lookup (same q) slots)) ⊎ (oldest ≤ t) → IsNeeded (parts_of slots) (places_of slots) oldest q
      by (inl present) = inl (ap is_some (get-parts_of slots q) ∙ present)
      by (inr from) = inr (t, places-fewer q t e, from)
