-- A store whose values are good stays so with each call. Other crates may use these.
use Rattle.std.proofs.Common.{◌≡◌, sym, subst, refl, ℕ, ◌+◌, ◌-◌, ◌<◌, ◌≤◌, ◌^◌, max, Bool, true, false, ◌&&◌, ◌||◌, if◌then◌else◌, List, [], ◌∷◌, Some, None, is_some, is_none, inl, inr, arith}
use Rattle.std.specs.Prelude.{◌⊎◌}
use Rattle.std.specs.List.{AllByRecursion}
use Rattle.std.proofs.lemmas.Bool.{leb-false}
use Rattle.t3_holder.specs.declared.holder.Holder.{Holder}
use Rattle.t3_holder.specs.declared.holder.Holder.TheVariants as holders
use Rattle.t3_undo.specs.declared.cell.Cell.{Cell}
use Rattle.t3_undo.specs.declared.cell.Cell.TheVariants as cells
use Rattle.t3_store.specs.Value.{Value, Objects, units_of, holder_at, with_cell, without_cell}
use Rattle.t3_undo.specs.Units.{cell_units}
use Rattle.t3_store.specs.Store.{StoreValue, Mark, value_at, is_persistent, is_full_with, no_number, next_number, with_object, with_value, noted, set_cell, taken, written, created_in, newest_copy, started, saved, undone, replaced}
use Rattle.t3_store.specs.declared.limits.StoreLimits.{StoreLimits}
use Rattle.t3_store.proofs.SetCells.{left_by, changed-left}
use Rattle.t3_snapshot.specs.State.{named_as_keys}
use Rattle.t3_snapshot.specs.Savable.{IsHeldKey}
use Rattle.t3_snapshot.specs.Good.{HasGoodParts, AreGoodObjects}
use Rattle.t3_good_values.specs.Values.{IsClosed, IsGoodNew}
use Rattle.t3_good_values.specs.Stores.{ArePassing, IsGoodMark, IsGoodStore, IsGoodCell}
use Rattle.t3_good_values.proofs.Cells.{IsCellOf, named_by_cell, parts-set, parts-left, names-with, names-without, able-with, able-without}
use Rattle.t3_good_values.proofs.Keys.{KeepsKind, good-later, good-made, good-adjusted, each-adjusted, each-inserted}
use Rattle.t3_good_values.proofs.Lists.{all-weaker, all-take}
use Rattle.t3_good_values.proofs.Savepoints.{marks-left, marks-changed}

-- a number that an image or a store gave a transient object
abbrev IsPassing : (next next_transient number : ℕ) → Type 0
IsPassing next next_transient number = (0 < number) × ((number < next) ⊎ ((2 ^ 31 ≤ number) × (number < next_transient)))

module _ (Good : Holder → Type 0) where
  -- ---- as the next numbers rise

  passing-later : (low high from to : ℕ) (objects : Objects) → low ≤ high → from ≤ to → ArePassing Good low from objects
      → ArePassing Good high to objects
  passing-later low high from to objects le later good = record {
    parts = good.parts;
    numbered = λ number value there.
        let is = good.numbered number value there in (is.0, by number is.1);
  }
    where
      by : (number : ℕ) → (number < low) ⊎ ((2 ^ 31 ≤ number) × (number < from)) → (number < high) ⊎ ((2 ^ 31 ≤ number) × (number < to))
      by number (inl below) = inl (omega arith)
      by number (inr far) = inr (far.0, omega (arith, far.1))

  mark-later : (low high : ℕ) → low ≤ high → (mark : Mark) → IsGoodMark Good low mark → IsGoodMark Good high mark
  mark-later low high le mark good = record { older = omega (arith, good.older); copy = good.copy }

  -- ---- a store begins

  pub good-started : (limits : StoreLimits) (first passing : Objects) (next : ℕ) → AreGoodObjects Good next first
      → ArePassing Good next (2 ^ 31) passing → (0 < next) × (next ≤ 2 ^ 31) → IsGoodStore Good (started limits first passing next)
  good-started limits first passing next own also fits = record {
    persistent = own;
    transient = also;
    next = fits;
    next_transient = (omega arith, omega arith);
    marks = tt;
  }

  -- ---- an object is made

  good-with : (value : Value) (transient : Bool) (s : StoreValue) → no_number transient s ≡ false → IsClosed Good → IsGoodNew Good value
      → IsGoodStore Good s → IsGoodStore Good (with_object value transient s) × Good (holders.Obj (next_number transient s))
  good-with value true s room closed new good =
      let free : s.next_transient < 2 ^ 32 = leb-false (2 ^ 32) s.next_transient room in
      let from : 2 ^ 31 ≤ s.next_transient = good.next_transient.0 in (
        record {
          persistent = good.persistent;
          transient = record {
            parts = each-inserted (λ number v. HasGoodParts Good v) s.transient s.next_transient value new.parts good.transient.parts;
            numbered = each-inserted (λ number v. IsPassing s.next (s.next_transient + 1) number) s.transient s.next_transient value
                (omega arith, inr (from, omega arith))
                (passing-later s.next s.next s.next_transient (s.next_transient + 1) s.transient (omega arith) (omega arith)
                good.transient).numbered;
          };
          next = good.next;
          next_transient = (omega arith, omega arith);
          marks = good.marks;
        },
        closed.object s.next_transient (omega arith) free,
      )
  good-with value false s room closed new good =
      let free : s.next < 2 ^ 31 = leb-false (2 ^ 31) s.next room in
      let positive : 0 < s.next = good.next.0 in (
        record {
          persistent = good-made Good s.next s.persistent value positive free new.parts new.keyless good.persistent;
          transient = passing-later s.next (s.next + 1) s.next_transient s.next_transient s.transient (omega arith) (omega arith)
              good.transient;
          next = (omega arith, omega arith);
          next_transient = good.next_transient;
          marks = all-weaker (IsGoodMark Good s.next) (IsGoodMark Good (s.next + 1)) s.marks (mark-later s.next (s.next + 1) (omega arith))
              good.marks;
        },
        closed.object s.next positive (omega arith),
      )

  or-second : (a b : Bool) → (a || b) ≡ false → b ≡ false
  or-second true b e = absurd cc
  or-second false b e = e

  pub good-created : (value : Value) (transient : Bool) (old new : StoreValue) (number : ℕ) → IsClosed Good
      → created_in value transient old ≡ Some (number, new) → IsGoodNew Good value → IsGoodStore Good old
      → IsGoodStore Good new × Good (holders.Obj number)
  good-created value transient old new number closed is own good =
      by (is_full_with 1 (units_of value) old || no_number transient old) refl is
    where
      made : ℕ × StoreValue
      made = (next_number transient old, with_object value transient old)

      by : (b : Bool) → (is_full_with 1 (units_of value) old || no_number transient old) ≡ b
          → (if b then None else Some made) ≡ Some (number, new)
          → IsGoodStore Good new × Good (holders.Obj number)
      by true full e = absurd cc
      by false room e =
          let pair : ◌≡◌ {A = ℕ × StoreValue} made (number, new) = cc in
          subst (λ (p : ℕ × StoreValue). IsGoodStore Good p.1 × Good (holders.Obj p.0)) pair
          (good-with value transient old (or-second (is_full_with 1 (units_of value) old) (no_number transient old) room) closed own good)

  -- ---- an object changes

  -- a change of a value that keeps it good among these objects
  record IsGoodStep (s : StoreValue) (g : Value → Value) : Type 0 where
    kind : KeepsKind g
    parts : (value : Value) → HasGoodParts Good value → HasGoodParts Good (g value)
    keys : (value : Value) → AllByRecursion (IsHeldKey s.next s.persistent) (named_as_keys value)
        → AllByRecursion (IsHeldKey s.next s.persistent) (named_as_keys (g value))

  good-left : (s : StoreValue) (n : ℕ) (cell : Cell) (g : Value → Value) → IsGoodStep s g → IsGoodStore Good s → (b : Bool)
      → IsGoodStore Good (left_by s n cell g b)
  good-left s n cell g step good true = record {
    persistent = good-adjusted Good s.next s.persistent n g step.kind step.parts step.keys good.persistent;
    transient = good.transient;
    next = good.next;
    next_transient = good.next_transient;
    marks = marks-changed (IsGoodMark Good s.next) (λ mark changed is. record { older = is.older; copy = is.copy })
        s.limits.records n cell s.marks good.marks;
  }
  good-left s n cell g step good false = record {
    persistent = good.persistent;
    transient = record {
      parts = each-adjusted (λ number v. HasGoodParts Good v) s.transient n g step.parts good.transient.parts;
      numbered = each-adjusted (λ number v. IsPassing s.next s.next_transient number) s.transient n g (λ v is. is) good.transient.numbered;
    };
    next = good.next;
    next_transient = good.next_transient;
    marks = good.marks;
  }

  good-changed : (s : StoreValue) (n : ℕ) (cell : Cell) (g : Value → Value) → IsGoodStep s g → IsGoodStore Good s
      → IsGoodStore Good (with_value n g (noted n cell s))
  good-changed s n cell g step good =
      subst (IsGoodStore Good) (sym (changed-left s n cell g (is_persistent s n) refl)) (good-left s n cell g step good (is_persistent s n))

  cell-of : (s : StoreValue) (cell : Cell) → IsGoodCell Good s cell → IsCellOf Good cell
  cell-of s (cells.Prop number) is = is
  cell-of s (cells.Elem number) is = is
  cell-of s (cells.Key key) is = is.good
  cell-of s cells.Default is = is

  cell-held : (s : StoreValue) (cell : Cell) → IsGoodCell Good s cell → AllByRecursion (IsHeldKey s.next s.persistent) (named_by_cell cell)
  cell-held s (cells.Prop number) is = tt
  cell-held s (cells.Elem number) is = tt
  cell-held s (cells.Key key) is = is.held
  cell-held s cells.Default is = tt

  pub good-set : (n : ℕ) (cell : Cell) (holder : Holder) (s : StoreValue) → IsGoodCell Good s cell → Good holder → IsGoodStore Good s
      → IsGoodStore Good (set_cell n cell holder s)
  good-set n cell holder s is own good =
      good-changed s n cell (with_cell cell holder)
      (record {
        kind = able-with cell holder;
        parts = parts-set Good holder own cell (cell-of s cell is);
        keys = λ value all. names-with (IsHeldKey s.next s.persistent) cell holder value (cell-held s cell is) all;
      }) good

  pub good-written : (n : ℕ) (cell : Cell) (holder : Holder) (old new : StoreValue) → written n cell holder old ≡ Some new
      → IsGoodCell Good old cell → Good holder → IsGoodStore Good old → IsGoodStore Good new
  good-written n cell holder old new is fits own good =
      by (is_none (holder_at (value_at old n) cell) && is_full_with 0 (cell_units cell) old) is
    where
      by : (b : Bool) → (if b then None else Some (set_cell n cell holder old)) ≡ Some new → IsGoodStore Good new
      by true e = absurd cc
      by false e =
          let same : set_cell n cell holder old ≡ new = cc in
          subst (IsGoodStore Good) same (good-set n cell holder old fits own good)

  pub good-taken : (n : ℕ) (cell : Cell) (s : StoreValue) → IsGoodStore Good s → IsGoodStore Good (taken n cell s)
  good-taken n cell s good = by (is_some (holder_at (value_at s n) cell))
    where
      by : (b : Bool) → IsGoodStore Good (if b then with_value n (without_cell cell) (noted n cell s) else s)
      by true =
          good-changed s n cell (without_cell cell)
          (record {
            kind = able-without cell;
            parts = parts-left Good cell;
            keys = names-without (IsHeldKey s.next s.persistent) cell;
          }) good
      by false = good

  -- ---- savepoints, and a state in place of the objects

  pub good-saved : (s : StoreValue) → IsGoodStore Good s → IsGoodStore Good (saved s)
  good-saved s good = record {
    persistent = good.persistent;
    transient = good.transient;
    next = good.next;
    next_transient = good.next_transient;
    marks = (
      record { older = omega arith; copy = good.persistent },
      all-take (IsGoodMark Good s.next) (s.limits.savepoints - 1) s.marks good.marks,
    );
  }

  newest-good : (next : ℕ) (objects : Objects) (marks : List Mark) → AreGoodObjects Good next objects
      → AllByRecursion (IsGoodMark Good next) marks
      → AreGoodObjects Good next (newest_copy objects marks)
  newest-good next objects [] own all = own
  newest-good next objects (mark ∷ marks) own all = good-later Good mark.next next mark.copy all.0.older all.0.copy

  pub good-undone : (s : StoreValue) → IsGoodStore Good s → IsGoodStore Good (undone s)
  good-undone s good = record {
    persistent = newest-good s.next s.persistent s.marks good.persistent good.marks;
    transient = good.transient;
    next = good.next;
    next_transient = good.next_transient;
    marks = marks-left (IsGoodMark Good s.next) s.marks good.marks;
  }

  pub good-replaced : (state : Objects) (next : ℕ) (s : StoreValue) → AreGoodObjects Good next state → next ≤ 2 ^ 31 → IsGoodStore Good s
      → IsGoodStore Good (replaced state next s)
  good-replaced state next s own fits good =
      let at_least : 0 < s.next = good.next.0 in
      let at_most : s.next ≤ 2 ^ 31 = good.next.1 in
      record {
        persistent = good-later Good next (max s.next next) state (omega arith) own;
        transient = passing-later s.next (max s.next next) s.next_transient s.next_transient s.transient (omega arith) (omega arith)
            good.transient;
        next = (omega arith, omega arith);
        next_transient = good.next_transient;
        marks = tt;
      }
