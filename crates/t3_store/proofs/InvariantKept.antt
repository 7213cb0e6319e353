-- What holds of each value of a store and of its savepoints' copies is kept by each call. Other crates may use these.
use Rattle.std.proofs.Common.{◌≡◌, ◌∙◌, ap, sym, subst, refl, ℕ, zero, suc, ◌-◌, Bool, true, false, cond, ◌&&◌, ◌||◌, nat_lt, if◌then◌else◌, List, [], ◌∷◌, length, take, drop, Option, None, Some, is_some, is_none}
use Rattle.std.specs.List.{AllByRecursion}
use Rattle.std.specs.Option.{option_map}
use Rattle.std.specs.Cmp.{nat_cmp_total}
use Rattle.std.specs.FinMap.{get, insert, get-insert}
use Rattle.t3_holder.specs.declared.holder.Holder.{Holder}
use Rattle.t3_undo.specs.Objects.{adjust}
use Rattle.t3_undo.specs.declared.cell.Cell.{Cell}
use Rattle.t3_undo.proofs.Maps.{get-adjust}
use Rattle.t3_store.specs.Value.{Value, Objects, holder_at, with_cell, without_cell, units_of}
use Rattle.t3_undo.specs.Units.{cell_units}
use Rattle.t3_store.specs.Store.{Mark, StoreValue, value_at, either, is_persistent, is_full_with, no_number, next_number, with_object, with_value, noted, set_cell, taken, written, after_write, created_in, changed_in, is_change_due, add_change, room_for, newest_copy}
use Rattle.t3_store.specs.Invariant.{HoldsOfEach, HoldsThroughout, HoldsAfter, with_written, IsKeptByCalls}
use Rattle.t3_store.proofs.Rows.{same, same-is}
use Rattle.t3_store.proofs.SetCells.{left_by, changed-left}

module _ (Holds : Value → Type 0) where
  each-adjusted : (m : Objects) (n : ℕ) (g : Value → Value) → ((value : Value) → get m n ≡ Some value → Holds value → Holds (g value))
      → HoldsOfEach Holds m → HoldsOfEach Holds (adjust m n g)
  each-adjusted m n g own all q value e = by (same q n) refl (get m q) refl (sym (get-adjust nat_cmp_total m n g q) ∙ e)
    where
      by : (b : Bool) → same q n ≡ b → (o : Option Value) → get m q ≡ o → cond b (option_map g o) o ≡ Some value → Holds value
      by true t None is e = cc
      by true t (Some v) is e =
          let new : g v ≡ value = cc in
          subst Holds new (own v (ap (get m) (sym (same-is q n t)) ∙ is) (all q v is))
      by false t o is e = all q value (is ∙ e)

  each-inserted : (m : Objects) (n : ℕ) (v : Value) → Holds v → HoldsOfEach Holds m → HoldsOfEach Holds (insert m n v)
  each-inserted m n v own all q value e = by (same q n) (sym (get-insert nat_cmp_total m n v q) ∙ e)
    where
      by : (b : Bool) → cond b (Some v) (get m q) ≡ Some value → Holds value
      by true e = let new : v ≡ value = cc in subst Holds new own
      by false e = all q value e

  -- the copies of savepoints
  abbrev InCopies : List Mark → Type 0
  InCopies marks = AllByRecursion (λ mark. HoldsOfEach Holds mark.copy) marks

  copies-taken : (k : ℕ) (marks : List Mark) → InCopies marks → InCopies (take k marks)
  copies-taken zero marks all = tt
  copies-taken (suc k) [] all = tt
  copies-taken (suc k) (mark ∷ marks) all = (all.0, copies-taken k marks all.1)

  copies-left : (marks : List Mark) → InCopies marks → InCopies (drop 1 marks)
  copies-left [] all = tt
  copies-left (mark ∷ marks) all = all.1

  newest-copy : (objects : Objects) (marks : List Mark) → HoldsOfEach Holds objects → InCopies marks → HoldsOfEach Holds (newest_copy objects marks)
  newest-copy objects [] own all = own
  newest-copy objects (mark ∷ marks) own all = all.0

  copies-room : (limit : ℕ) (marks : List Mark) → InCopies marks → InCopies (room_for limit marks)
  copies-room limit [] all = tt
  copies-room limit (mark ∷ marks) all =
      by (nat_lt (length mark.changed) limit) (copies-room (limit - length mark.changed) marks all.1)
    where
      by : (b : Bool) → InCopies (room_for (limit - length mark.changed) marks)
          → InCopies (if b then mark ∷ room_for (limit - length mark.changed) marks else [])
      by true rest = (all.0, rest)
      by false rest = tt

  copies-added : (n : ℕ) (cell : Cell) (marks : List Mark) → InCopies marks → InCopies (add_change n cell marks)
  copies-added n cell [] all = tt
  copies-added n cell (mark ∷ marks) all = (all.0, all.1)

  copies-changed : (limit n : ℕ) (cell : Cell) (marks : List Mark) → InCopies marks → InCopies (changed_in limit n cell marks)
  copies-changed limit n cell marks all = by (is_change_due n cell marks)
    where
      by : (b : Bool) → InCopies (if b then add_change n cell (room_for limit marks) else marks)
      by true = copies-added n cell (room_for limit marks) (copies-room limit marks all)
      by false = all

  -- a cell changed
  changed : (s : StoreValue) (n : ℕ) (cell : Cell) (g : Value → Value) → HoldsAfter Holds n g s → HoldsThroughout Holds s
      → HoldsThroughout Holds (with_value n g (noted n cell s))
  changed s n cell g own has =
      subst (HoldsThroughout Holds) (sym (changed-left s n cell g (is_persistent s n) refl)) (by (get s.persistent n) refl)
    where
      by : (o : Option Value) → get s.persistent n ≡ o → HoldsThroughout Holds (left_by s n cell g (is_some o))
      by None is = record {
        persistent = has.persistent;
        transient = each-adjusted s.transient n g (λ value e. own value (ap (λ o. either o (get s.transient n)) is ∙ e)) has.transient;
        copies = has.copies;
      }
      by (Some v) is = record {
        persistent = each-adjusted s.persistent n g (λ value e. own value (ap (λ o. either o (get s.transient n)) e)) has.persistent;
        transient = has.transient;
        copies = copies-changed s.limits.records n cell s.marks has.copies;
      }

  kept-taken : (n : ℕ) (cell : Cell) (s : StoreValue) → HoldsAfter Holds n (without_cell cell) s → HoldsThroughout Holds s
      → HoldsThroughout Holds (taken n cell s)
  kept-taken n cell s own has = by (is_some (holder_at (value_at s n) cell))
    where
      by : (b : Bool) → HoldsThroughout Holds (if b then with_value n (without_cell cell) (noted n cell s) else s)
      by true = changed s n cell (without_cell cell) own has
      by false = has

  kept-set : (n : ℕ) (cell : Cell) (holder : Holder) (old new : StoreValue) → written n cell holder old ≡ Some new
      → HoldsAfter Holds n (with_cell cell holder) old → HoldsThroughout Holds old → HoldsThroughout Holds new
  kept-set n cell holder old new is own has =
      by (is_none (holder_at (value_at old n) cell) && is_full_with 0 (cell_units cell) old) is
    where
      by : (b : Bool) → (if b then None else Some (set_cell n cell holder old)) ≡ Some new → HoldsThroughout Holds new
      by true e = cc
      by false e =
          let same : set_cell n cell holder old ≡ new = cc in
          subst (HoldsThroughout Holds) same (changed old n cell (with_cell cell holder) own has)

  kept-written : (n : ℕ) (cell : Cell) (holder : Option Holder) (old new : StoreValue) → after_write n cell holder old ≡ Some new
      → HoldsAfter Holds n (with_written cell holder) old → HoldsThroughout Holds old → HoldsThroughout Holds new
  kept-written n cell None old new is own has =
      let same : taken n cell old ≡ new = cc in
      subst (HoldsThroughout Holds) same (kept-taken n cell old own has)
  kept-written n cell (Some holder) old new is own has = kept-set n cell holder old new is own has

  -- an object more
  with-made : (value : Value) (transient : Bool) (s : StoreValue) → Holds value → HoldsThroughout Holds s
      → HoldsThroughout Holds (with_object value transient s)
  with-made value true s own has = record {
    persistent = has.persistent;
    transient = each-inserted s.transient s.next_transient value own has.transient;
    copies = has.copies;
  }
  with-made value false s own has = record {
    persistent = each-inserted s.persistent s.next value own has.persistent;
    transient = has.transient;
    copies = has.copies;
  }

  kept-created : (value : Value) (transient : Bool) (old new : StoreValue) (number : ℕ) → created_in value transient old ≡ Some (number, new)
      → Holds value → HoldsThroughout Holds old → HoldsThroughout Holds new
  kept-created value transient old new number is own has = by (is_full_with 1 (units_of value) old || no_number transient old) is
    where
      made : Option (ℕ × StoreValue)
      made = Some (next_number transient old, with_object value transient old)

      by : (b : Bool) → (if b then None else made) ≡ Some (number, new) → HoldsThroughout Holds new
      by true e = cc
      by false e =
          let pair : ◌≡◌ {A = ℕ × StoreValue} (next_number transient old, with_object value transient old) (number, new) = cc in
          let same : with_object value transient old ≡ new = ap (λ (p : ℕ × StoreValue). p.1) pair in
          subst (HoldsThroughout Holds) same (with-made value transient old own has)

  pub kept-by_calls : IsKeptByCalls Holds
  kept-by_calls = record {
    start = λ limits first passing next own also. record { persistent = own; transient = also; copies = tt };
    create = kept-created;
    write = kept-written;
    overwrite = λ n cell holder old own has. changed old n cell (with_cell cell holder) own has;
    savepoint = λ old has. record {
      persistent = has.persistent;
      transient = has.transient;
      copies = (has.persistent, copies-taken (old.limits.savepoints - 1) old.marks has.copies);
    };
    undo = λ old has. record {
      persistent = newest-copy old.persistent old.marks has.persistent has.copies;
      transient = has.transient;
      copies = copies-left old.marks has.copies;
    };
    replace = λ state next old own has. record { persistent = own; transient = has.transient; copies = tt };
  }
