-- What is left of the entries of an object's properties that is purged.
use Rattle.std.proofs.Common.{◌≡◌, ◌∙◌, ap, sym, refl, ℕ, Bool, true, false, cond, ◌||◌, nat_le, [], ◌∷◌, filter, Option, None, Some, is_some}
use Rattle.t3_holder.specs.declared.holder.Holder.{Holder}
use Rattle.t3_undo.specs.Content.{shown}
use Rattle.t3_undo.specs.Slots as slots
use Rattle.t3_undo.specs.declared.cell.Cell.{Cell}
use Rattle.t3_undo.specs.declared.cell.Cell.TheVariants as cells
use Rattle.t3_undo.specs.declared.place.Place.{Place}
use Rattle.t3_tadsobj.specs.Inner.Entries.{content_of, place_of, slots_of, is_needed}
use Rattle.t3_undo.specs.StampedValue.{ValuePlace}
use Rattle.t3_tadsobj.proofs.EntryLists.{Entries}

is_some-shown : (o : Option Holder) → is_some (shown (content_of o)) ≡ is_some o
is_some-shown None = refl
is_some-shown (Some value) = refl

-- a place in front of others that are left, if it stays
kept : (b : Bool) (n : ℕ) (p : ValuePlace) (es : Entries)
    → slots_of (cond b ((n, p) ∷ es) es) ≡ cond b ((cells.Prop n, place_of p) ∷ slots_of es) (slots_of es)
kept true n p es = refl
kept false n p es = refl

pub slots-purged : (oldest : ℕ) (es : Entries) → slots_of (filter (is_needed oldest) es) ≡ filter (slots.is_needed oldest) (slots_of es)
slots-purged oldest [] = refl
slots-purged oldest (e ∷ es) =
    let needed = ap (λ b. b || nat_le oldest e.1.stamp) (is_some-shown e.1.value) in
    let slot : Cell × Place = (cells.Prop e.0, place_of e.1) in
    kept (is_needed oldest e) e.0 e.1 (filter (is_needed oldest) es)
    ∙ (λ i. cond (sym needed i) (slot ∷ slots-purged oldest es i) (slots-purged oldest es i))
