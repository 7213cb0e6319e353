-- Objects of an image: what stays true of them.
use Rattle.std.proofs.Common.{◌≡◌, ◌∙◌, ap, sym, subst, refl, ℕ, ◌+◌, ◌<◌, ◌≤◌, ◌^◌, Bool, true, false, ◌&&◌, Option, None, Some, IsTrue, IsSome, true≢false, arith}
use Rattle.std.specs.FinMap.{get, insert, len}
use Rattle.t3_undo.specs.Content.{Parts, Places, places_for}
use Rattle.t3_undo.specs.Present.{Present}
use Rattle.t3_undo.specs.declared.cell.Cell.{Cell}
use Rattle.t3_undo.proofs.Maps.{get-adjust}
use Rattle.std.specs.Cmp.{nat_cmp_total}
use Rattle.t3_store.specs.Value.{Value, units_in, units_of, is_past}
use Rattle.t3_undo.specs.Units.{cell_units}
use Rattle.t3_store.specs.Inner.Shapes.{Shape, Stored, values, value_of, AreWithin}
use Rattle.t3_tables.specs.Entries.{risen}
use Rattle.t3_store.specs.Inner.Bounded.{IsPlaced}
use Rattle.t3_store.specs.Inner.Store.{IsPersistent, IsWritten}
use Rattle.t3_store.proofs.MapValues.{len-adjust, units_in-new, values-insert}
use Rattle.t3_store.proofs.Ticks.{risen-most, within-more, within-insert}
use Rattle.t3_store.proofs.Keeping.{none-set}
use Rattle.t3_store.proofs.Creating.{not-full, len-new, none-inserted, value-none}
use Rattle.t3_store.proofs.Rows.{same}
use Rattle.t3_store.proofs.OwnPlaces.{no-empty-insert, no-empty-placed}

-- an object more
pub added-kept : (old new : Stored) (n : ℕ) (thing : Shape × Parts) (own : Places) (tick : ℕ) → IsPersistent old → get old.objects n ≡ None
    → 0 < n → n < 2 ^ 31 → is_past (values old.objects) (units_of (value_of thing)) ≡ false → tick ≤ 1 → own ≡ places_for thing.1
    → new ≡ record { objects = insert old.objects n thing; places = insert old.places n own; ticks = insert old.ticks n tick } → IsPersistent new
added-kept old new n thing own tick is none high low room young fresh changed =
    subst IsPersistent (sym changed) (record {
      from_one = (λ i. get (more i) 0) ∙ none-inserted (values old.objects) n 0 (value_of thing) (λ e. omega arith) ∙ is.from_one;
      numbered = λ q h. (λ i. get (more i) q) ∙ none-inserted (values old.objects) n q (value_of thing) (λ e. omega arith) ∙ is.numbered q h;
      few = (let size = ap len more ∙ len-new (values old.objects) n (value_of thing) bare in let fits = little.0 in omega arith);
      few_units = (let fits = little.1 in omega (arith, sum));
      ticks = within-insert _ old.ticks n tick (within-more (units_in (values old.objects) + 1) _ old.ticks (omega (arith, sum)) is.ticks)
          (omega arith);
      fresh_places = no-empty-insert old n tick thing own is.fresh_places fresh;
    })
  where
    more : values (insert old.objects n thing) ≡ insert (values old.objects) n (value_of thing)
    more = values-insert old.objects n thing

    bare : get (values old.objects) n ≡ None
    bare = value-none old.objects n none

    sum : units_in (values (insert old.objects n thing)) ≡ units_in (values old.objects) + units_of (value_of thing)
    sum = ap units_in more ∙ units_in-new (values old.objects) n (value_of thing) bare

    little : (len (values old.objects) + 1 ≤ 1048576) × (units_in (values old.objects) + units_of (value_of thing) ≤ 4194304)
    little = not-full 1048576 (len (values old.objects) + 1) 4194304 (units_in (values old.objects) + units_of (value_of thing)) room

none-adjusted : (old new : Stored) (n : ℕ) (c : Cell) (g : Value → Value) (was : Option Present) (q : ℕ) → IsWritten old new n c g was
    → get (values old.objects) q ≡ None → get (values new.objects) q ≡ None
none-adjusted old new n c g was q w none =
    ap (λ m. get m q) w.values ∙ get-adjust nat_cmp_total (values old.objects) n g q ∙ none-set (same q n) g (get (values old.objects) q) none

-- a cell set anew
pub overwritten-kept : (old new : Stored) (n : ℕ) (c : Cell) (g : Value → Value) (was : Option Present) → IsPersistent old → IsWritten old new n c g was
    → units_in (values new.objects) ≡ units_in (values old.objects) → IsSome was → IsPlaced old new n c → IsPersistent new
overwritten-kept old new n c g was is w same some placed = record {
  from_one = none-adjusted old new n c g was 0 w is.from_one;
  numbered = λ q h. none-adjusted old new n c g was q w (is.numbered q h);
  few = (let size = ap len w.values ∙ len-adjust (values old.objects) n g in let fits = is.few in omega arith);
  few_units = (let fits = is.few_units in omega arith);
  ticks = subst (λ (k : ℕ). AreWithin (k + 1) new.ticks) (sym same) (stood was some (w.ticks (units_in (values old.objects) + 1) is.ticks).1);
  fresh_places = no-empty-placed old new n c w.content w.objects placed is.fresh_places;
}
  where
    stood : (o : Option Present) → IsSome o → AreWithin (risen (units_in (values old.objects) + 1) o) new.ticks
        → AreWithin (units_in (values old.objects) + 1) new.ticks
    stood None some all = absurd (true≢false (sym some))
    stood (Some p) some all = all

-- an entry more
pub paired-kept : (old new : Stored) (n : ℕ) (c : Cell) (g : Value → Value) (was : Option Present) → IsPersistent old → IsWritten old new n c g was
    → units_in (values new.objects) ≡ units_in (values old.objects) + cell_units c → 1 ≤ cell_units c
    → units_in (values old.objects) + cell_units c ≤ 4194304 → IsPlaced old new n c → IsPersistent new
paired-kept old new n c g was is w sum one few placed = record {
  from_one = none-adjusted old new n c g was 0 w is.from_one;
  numbered = λ q h. none-adjusted old new n c g was q w (is.numbered q h);
  few = (let size = ap len w.values ∙ len-adjust (values old.objects) n g in let fits = is.few in omega arith);
  few_units = omega arith;
  ticks = within-more (risen (units_in (values old.objects) + 1) was) _ new.ticks
      (let most = risen-most (units_in (values old.objects) + 1) was in omega arith) (w.ticks (units_in (values old.objects) + 1) is.ticks).1;
  fresh_places = no-empty-placed old new n c w.content w.objects placed is.fresh_places;
}

-- of two that aren't both true, the first of which is, the second is false
pub not-and : (a b : Bool) → a ≡ true → (IsTrue (a && b) → ⊥) → b ≡ false
not-and true true is apart = absurd (apart refl)
not-and true false is apart = refl
not-and false b is apart = absurd (true≢false (sym is))
