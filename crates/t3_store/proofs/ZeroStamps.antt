-- Places that have stamp 0: of one object, and of objects by their numbers.
use Rattle.std.proofs.Common.{◌≡◌, ◌∙◌, ap, sym, subst, refl, ℕ, ◌⊎◌, inl, inr, Bool, true, false, cond, Option, None, Some, is_some}
use Rattle.std.specs.Ordering.{nat_cmp, eq_by_cmp}
use Rattle.std.specs.Cmp.{nat_cmp_total}
use Rattle.std.specs.FinMap.{FinMap, get, insert, get-insert}
use Rattle.t3_undo.specs.Content.{Parts, Places, places_for}
use Rattle.t3_undo.proofs.SlotLists.{zero_if, get-places_for}
use Rattle.t3_store.specs.Inner.Shapes.{stamp_in, HasZeroStamps, HaveZeroStamps}
use Rattle.t3_store.specs.Inner.Store.{KeepStamps}

-- the places of a copy
pub zero-copy : (parts : Parts) → HasZeroStamps (places_for parts)
zero-copy parts cell stamp e = by (is_some (get parts cell)) (sym (get-places_for parts cell) ∙ e)
  where
    by : (b : Bool) → zero_if b ≡ Some stamp → stamp ≡ 0
    by true e = cc
    by false e = cc

-- an object more
pub all-zero-insert : (places : FinMap nat_cmp Places) (n : ℕ) (own : Places) → HaveZeroStamps places → HasZeroStamps own
    → HaveZeroStamps (insert places n own)
all-zero-insert places n own all new number other e =
    by (eq_by_cmp nat_cmp number n) (sym (get-insert nat_cmp_total places n own number) ∙ e)
  where
    by : (b : Bool) → cond b (Some own) (get places number) ≡ Some other → HasZeroStamps other
    by true e = let is : own ≡ other = cc in subst HasZeroStamps is new
    by false e = all number other e

-- places that have the stamps that they had, and new ones
pub all-zero-kept : (old new : FinMap nat_cmp Places) → KeepStamps old new → HaveZeroStamps old → HaveZeroStamps new
all-zero-kept old new kept all number own e cell stamp is =
    by (kept number cell stamp (ap (λ o. stamp_in o cell) e ∙ is))
  where
    had : (o : Option Places) → get old number ≡ o → stamp_in o cell ≡ Some stamp → stamp ≡ 0
    had None there is = cc
    had (Some own) there is = all number own there cell stamp is

    by : (stamp_in (get old number) cell ≡ Some stamp) ⊎ ((stamp_in (get old number) cell ≡ None) × (stamp ≡ 0)) → stamp ≡ 0
    by (inl was) = had (get old number) refl was
    by (inr fresh) = fresh.1
