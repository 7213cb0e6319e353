-- What a change of a table's parts does to its entries and its default. Other crates may use these.
use Rattle.std.proofs.Common.{◌≡◌, ◌∙◌, ap, sym, subst, refl, ℕ, ◌+◌, ◌-◌, ◌^◌, ◌<◌, ◌≤◌, Bool, true, false, cond, ◌&&◌, List, [], ◌∷◌, ◌++◌, map, Option, None, Some, IsTrue, IsSome, is_some, true≢false, nat_lt, lt-ltb, arith}
use Rattle.std.specs.Option.{option_and_then}
use Rattle.std.specs.Ordering.{nat_cmp, eq_by_cmp}
use Rattle.std.specs.Cmp.{Equal-is, eq_by_cmp_equiv, nat_cmp_total}
use Rattle.std.specs.List.{AllByRecursion}
use Rattle.std.specs.FinMap.{get, entries, entries_sorted, get-entries}
use Rattle.std.specs.FinMap.Entries.{find}
use Rattle.t3_holder.specs.declared.holder.Holder.{Holder}
use Rattle.t3_undo.specs.Cell.{cell_cmp, cell_cmp_total}
use Rattle.t3_undo.specs.Content.{Parts, shown, is_form}
use Rattle.t3_undo.specs.Present.{Present, value_in}
use Rattle.t3_undo.specs.Present as presents
use Rattle.t3_undo.specs.Key.{key_cmp_total}
use Rattle.t3_undo.specs.Objects.{set_at}
use Rattle.t3_undo.specs.declared.cell.Cell.{Cell}
use Rattle.t3_undo.specs.declared.cell.Cell.TheVariants as cells
use Rattle.t3_undo.specs.declared.content.Content.{Content}
use Rattle.t3_undo.specs.declared.content.Content.TheVariants.{Held, Slot}
use Rattle.t3_undo.specs.declared.key.Key.{Key}
use Rattle.t3_undo.proofs.Maps.{get-set_at, get-tied}
use Rattle.t3_undo.proofs.PresentForms.{value-formed}
use Rattle.t3_undo.proofs.PuttingBack.{and-first, and-second}
use Rattle.t3_undo.proofs.SlotLists.{same-is}
use Rattle.t3_tables.specs.Order.{with_value}
use Rattle.t3_tables.specs.Entries.{IsWholeTable, value_or_nil, default_of, value_under, entry_at, entries_with, default_with, without_entry, is_key, risen}
use Rattle.t3_tables.specs.Table.{place_cmp, ordered, pair_of, entries_of, is_cell, tick_after, AreBelow}
use Rattle.t3_tables.proofs.OrderedEntries.{Place, place_cmp_total, place_cmp-IsAntisymmetric, same_key, value_at, at_tick, get-ordered, all-found}
use Rattle.t3_tables.proofs.EntryOrder.{entries-last, entries-kept, entries-away, entries-apart}

-- the tick of a content that has one, and the value
at-tick-value : (t : ℕ) (tick : Option ℕ) (value v : Holder) → at_tick t tick value ≡ Some v → v ≡ value
at-tick-value t None value v e = cc
at-tick-value t (Some s) value v e = by (eq_by_cmp nat_cmp t s) e
  where
    by : (b : Bool) → cond b (Some value) None ≡ Some v → v ≡ value
    by true e = cc
    by false e = cc

value-at-value : (t : ℕ) (present : Present) (v : Holder) → value_at t (Some present) ≡ Some v → value_in present ≡ Some v
value-at-value t (presents.Value tick value) v e = ap Some (sym (at-tick-value t tick value v e))
value-at-value t (presents.Supers supers) v e = cc

-- the value of what stands in a cell
abbrev held_in : Option Present → Option Holder
held_in o = option_and_then value_in o

-- each entry of a key has the value that stands there
abbrev IsValueOf : Parts → Key → Place → Holder → Type 0
IsValueOf parts key place value = same_key key place.1 ≡ true → held_in (get parts (cells.Key key)) ≡ Some value

values-of : (parts : Parts) (key : Key) → AllByRecursion (λ (e : Place × Holder). IsValueOf parts key e.0 e.1) (entries (ordered parts))
values-of parts key =
    all-found place_cmp_total (IsValueOf parts key) (entries (ordered parts)) (entries_sorted (ordered parts))
    (λ q v found tied.
    by (get parts (cells.Key key)) v q.0 (ap (value_at q.0) (sym (get-tied cell_cmp_total parts (cells.Key key) (cells.Key q.1) tied))
    ∙ sym (get-ordered parts q.0 q.1) ∙ get-entries (ordered parts) q ∙ found))
  where
    by : (o : Option Present) (v : Holder) (t : ℕ) → value_at t o ≡ Some v → held_in o ≡ Some v
    by None v t e = cc
    by (Some p) v t e = value-at-value t p v e

-- the value under a key, where an entry of it is found, and where there is none
under-found : (parts : Parts) (key : Key) (t : ℕ) (v : Holder) (es : List (Place × Holder))
    → AllByRecursion (λ (e : Place × Holder). IsValueOf parts key e.0 e.1) es → find place_cmp (t, key) es ≡ Some v
    → value_under key (map pair_of es) ≡ held_in (get parts (cells.Key key))
under-found parts key t v [] all found = cc
under-found parts key t v (e ∷ es) all found = by (under-found parts key t v es all.1) (same_key key e.0.1) refl
  where
    apart : same_key key e.0.1 ≡ false → (b : Bool) → eq_by_cmp place_cmp (t, key) e.0 ≡ b → b ≡ false
    apart other true is =
        let place : (t, key) ≡ e.0 = place_cmp-IsAntisymmetric (t, key) e.0 ((Equal-is (place_cmp (t, key) e.0)).0 is) in
        absurd (true≢false (sym ((eq_by_cmp_equiv key_cmp_total).refl key) ∙ ap (λ (p : Place). same_key key p.1) place ∙ other))
    apart other false is = refl

    by : (find place_cmp (t, key) es ≡ Some v → value_under key (map pair_of es) ≡ held_in (get parts (cells.Key key)))
        → (b : Bool) → same_key key e.0.1 ≡ b → cond b (Some e.1) (value_under key (map pair_of es)) ≡ held_in (get parts (cells.Key key))
    by rest true is = sym (all.0 is)
    by rest false is =
        rest (ap (λ b. cond b (Some e.1) (find place_cmp (t, key) es)) (sym (apart is (eq_by_cmp place_cmp (t, key) e.0) refl)) ∙ found)

under-none : (parts : Parts) (key : Key) (es : List (Place × Holder)) → AllByRecursion (λ (e : Place × Holder). IsValueOf parts key e.0 e.1) es
    → get parts (cells.Key key) ≡ None → value_under key (map pair_of es) ≡ None
under-none parts key [] all none = refl
under-none parts key (e ∷ es) all none = by (under-none parts key es all.1 none) (same_key key e.0.1) refl
  where
    by : value_under key (map pair_of es) ≡ None → (b : Bool) → same_key key e.0.1 ≡ b → cond b (Some e.1) (value_under key (map pair_of es)) ≡ None
    by rest true is = let some : ◌≡◌ {A = Option Holder} None (Some e.1) = ap held_in (sym none) ∙ all.0 is in cc
    by rest false is = rest

-- what the entries have under a key
pub under-key : (parts : Parts) (key : Key) → ((present : Present) → get parts (cells.Key key) ≡ Some present → IsTrue (is_form (cells.Key key) (Some present)))
    → value_under key (entries_of parts) ≡ held_in (get parts (cells.Key key))
unfolding entries_of
under-key parts key formed = by (get parts (cells.Key key)) refl
  where
    timed : (p : Present) → get parts (cells.Key key) ≡ Some p → value_under key (map pair_of (entries (ordered parts))) ≡ held_in (get parts (cells.Key key))
    timed (presents.Supers supers) e = absurd (true≢false (sym (formed (presents.Supers supers) e)))
    timed (presents.Value None value) e = absurd (true≢false (sym (formed (presents.Value None value) e)))
    timed (presents.Value (Some t) value) e =
        under-found parts key t value (entries (ordered parts)) (values-of parts key)
        (sym (get-entries (ordered parts) (t, key)) ∙ get-ordered parts t key ∙ ap (value_at t) e
        ∙ ap (λ b. cond b (Some value) None) ((eq_by_cmp_equiv nat_cmp_total).refl t))

    by : (o : Option Present) → get parts (cells.Key key) ≡ o → value_under key (map pair_of (entries (ordered parts)))
        ≡ held_in (get parts (cells.Key key))
    by None e = under-none parts key (entries (ordered parts)) (values-of parts key) e ∙ ap held_in (sym e)
    by (Some p) e = timed p e

-- each present cell is of its form
formed-cell : (parts : Parts) (cell : Cell) → IsWholeTable parts → (present : Present) → get parts cell ≡ Some present → IsTrue (is_form cell (Some present))
formed-cell parts cell whole present e = and-second (is_cell cell) (is_form cell (Some present)) (whole.only cell present e)

none-but : (parts : Parts) (cell : Cell) → IsWholeTable parts → is_cell cell ≡ false → (o : Option Present) → get parts cell ≡ o → held_in o ≡ None
none-but parts cell whole other None e = refl
none-but parts cell whole other (Some p) e =
    absurd (true≢false (sym (and-first (is_cell cell) (is_form cell (Some p)) (whole.only cell p e)) ∙ other))

-- what stands in a cell of a table
pub held-table : (parts : Parts) (cell : Cell) → IsWholeTable parts → held_in (get parts cell) ≡ entry_at cell (entries_of parts) (default_of parts)
held-table parts (cells.Key key) whole = sym (under-key parts key (formed-cell parts (cells.Key key) whole))
held-table parts cells.Default whole = by (get parts cells.Default) refl whole.default
  where
    by : (o : Option Present) → get parts cells.Default ≡ o → IsSome o → held_in o ≡ Some (value_or_nil o)
    by None e some = absurd (true≢false (sym some))
    by (Some (presents.Value tick value)) e some = refl
    by (Some (presents.Supers supers)) e some = absurd (true≢false (sym (formed-cell parts cells.Default whole (presents.Supers supers) e)))
held-table parts (cells.Prop n) whole = none-but parts (cells.Prop n) whole refl (get parts (cells.Prop n)) refl
held-table parts (cells.Elem n) whole = none-but parts (cells.Elem n) whole refl (get parts (cells.Elem n)) refl

-- what is present is a value, in a cell of a table
pub table-valued : (parts : Parts) (cell : Cell) → IsWholeTable parts → is_some (held_in (get parts cell)) ≡ is_some (get parts cell)
table-valued parts cell whole = by (get parts cell) refl
  where
    by : (o : Option Present) → get parts cell ≡ o → is_some (held_in o) ≡ is_some o
    by None e = refl
    by (Some p) e = value-formed cell (Some p) (formed-cell parts cell whole p e)

pub table-cell : (parts : Parts) (cell : Cell) → IsWholeTable parts → IsSome (get parts cell) → IsTrue (is_cell cell)
table-cell parts cell whole some = by (get parts cell) refl some
  where
    by : (o : Option Present) → get parts cell ≡ o → IsSome o → IsTrue (is_cell cell)
    by None e some = absurd (true≢false (sym some))
    by (Some p) e some = and-first (is_cell cell) (is_form cell (Some p)) (whole.only cell p e)

-- a key leaves the default, and the other way round
default-key : (parts : Parts) (key : Key) (o : Option Present) → default_of (set_at parts (cells.Key key) o) ≡ default_of parts
default-key parts key o = ap value_or_nil (get-set_at cell_cmp_total parts (cells.Key key) o cells.Default)

default-set : (parts : Parts) (value : Holder) → default_of (set_at parts cells.Default (shown (Held value))) ≡ value
default-set parts value = ap value_or_nil (get-set_at cell_cmp_total parts cells.Default (shown (Held value)) cells.Default)

-- a cell set to a content of its form leaves a whole table
whole-set : (parts : Parts) (cell : Cell) (o : Option Present) → IsWholeTable parts → is_cell cell ≡ true → IsTrue (is_form cell o)
    → IsWholeTable (set_at parts cell o)
whole-set parts cell o whole can form = record {
  only = λ q present e. by q present (eq_by_cmp cell_cmp q cell) refl (sym (get-set_at cell_cmp_total parts cell o q) ∙ e);
  default = ap is_some (get-set_at cell_cmp_total parts cell o cells.Default) ∙ kept (eq_by_cmp cell_cmp cells.Default cell) refl;
}
  where
    by : (q : Cell) (present : Present) (b : Bool) → eq_by_cmp cell_cmp q cell ≡ b → cond b o (get parts q) ≡ Some present
        → IsTrue (is_cell q && is_form q (Some present))
    by q present true t e =
        let P : Cell → Type 0 = λ d. IsTrue (is_cell d && is_form d (Some present)) in
        let Q : Option Present → Type 0 = λ p. IsTrue (is_form cell p) in
        subst P (sym (same-is q cell t))
        (ap (λ b. b && is_form cell (Some present)) can ∙ subst Q e form)
    by q present false t e = whole.only q present e

    kept : (b : Bool) → eq_by_cmp cell_cmp cells.Default cell ≡ b → is_some (cond b o (get parts cells.Default)) ≡ true
    kept true t =
        let P : Cell → Type 0 = λ d. IsTrue (is_form d o) in
        held o (subst P (sym (same-is cells.Default cell t)) form)
      where
        held : (o : Option Present) → IsTrue (is_form cells.Default o) → is_some o ≡ true
        held None f = absurd (true≢false (sym f))
        held (Some p) f = refl
    kept false t = whole.default

-- the entries with a key set, by what stood under it
entry-set : (parts : Parts) (key : Key) (value : Holder) (o : Option Present) → IsWholeTable parts → get parts (cells.Key key) ≡ o
    → cond (is_some (held_in o)) (map (with_value key value) (entries_of parts)) (entries_of parts ++ record { key = key; value = value } ∷ [])
    ≡ entries_with (cells.Key key) value (entries_of parts)
entry-set parts key value o whole e =
    ap (λ o. cond (is_some o) (map (with_value key value) (entries_of parts)) (entries_of parts ++ record { key = key; value = value } ∷ []))
    (sym (under-key parts key (formed-cell parts (cells.Key key) whole) ∙ ap held_in e))

-- what a table is once a cell is set to a content
pub record IsTableSet (parts : Parts) (cell : Cell) (value : Holder) (next : ℕ) (content : Content) : Type 0 where
  pub form : IsTrue (is_form cell (shown content))
  pub entries : entries_of (set_at parts cell (shown content)) ≡ entries_with cell value (entries_of parts)
  pub default : default_of (set_at parts cell (shown content)) ≡ default_with cell value (default_of parts)
  pub whole : IsWholeTable (set_at parts cell (shown content))
  pub tick : tick_after 0 (shown content) ≤ risen next (get parts cell)

-- a key that is absent gets the next tick
pub set-new : (parts : Parts) (cell : Cell) (value : Holder) (next : ℕ) → IsWholeTable parts → AreBelow next parts → next < 2 ^ 64 - 1
    → is_cell cell ≡ true → get parts cell ≡ None → IsTableSet parts cell value next (Slot next value)
set-new parts (cells.Key key) value next whole below room can none = record {
  form = form;
  entries = entries-last parts key next value none below ∙ entry-set parts key value None whole none;
  default = default-key parts key (shown (Slot next value));
  whole = whole-set parts (cells.Key key) (shown (Slot next value)) whole refl form;
  tick = let e : risen next (get parts (cells.Key key)) ≡ next + 1 = ap (risen next) none in omega arith;
}
  where
    form : nat_lt next (2 ^ 64 - 1) ≡ true
    form = lt-ltb next (2 ^ 64 - 1) room
set-new parts cells.Default value next whole below room can none = absurd (true≢false (sym whole.default ∙ ap is_some none))
set-new parts (cells.Prop n) value next whole below room can none = absurd (true≢false (sym can))
set-new parts (cells.Elem n) value next whole below room can none = absurd (true≢false (sym can))

-- a present one keeps its own
pub set-kept : (parts : Parts) (cell : Cell) (value old : Holder) (tick next : ℕ) → IsWholeTable parts → AreBelow next parts
    → is_cell cell ≡ true → get parts cell ≡ shown (Slot tick old) → IsTableSet parts cell value next (Slot tick value)
set-kept parts (cells.Key key) value old tick next whole below can there = record {
  form = formed-cell parts (cells.Key key) whole (presents.Value (Some tick) old) there;
  entries = entries-kept parts key tick old value there ∙ entry-set parts key value (shown (Slot tick old)) whole there;
  default = default-key parts key (shown (Slot tick value));
  whole = whole-set parts (cells.Key key) (shown (Slot tick value)) whole refl
      (formed-cell parts (cells.Key key) whole (presents.Value (Some tick) old) there);
  tick =
      let h = below (cells.Key key) (presents.Value (Some tick) old) tick there refl in
      let e : risen next (get parts (cells.Key key)) ≡ next = ap (risen next) there in
      omega arith;
}
set-kept parts cells.Default value old tick next whole below can there =
    absurd (true≢false (sym (formed-cell parts cells.Default whole (presents.Value (Some tick) old) there)))
set-kept parts (cells.Prop n) value old tick next whole below can there = absurd (true≢false (sym can))
set-kept parts (cells.Elem n) value old tick next whole below can there = absurd (true≢false (sym can))

-- and the default has none
pub set-default : (parts : Parts) (cell : Cell) (value old : Holder) (next : ℕ) → IsWholeTable parts
    → is_cell cell ≡ true → get parts cell ≡ shown (Held old) → IsTableSet parts cell value next (Held value)
set-default parts (cells.Key key) value old next whole can there =
    absurd (true≢false (sym (formed-cell parts (cells.Key key) whole (presents.Value None old) there)))
set-default parts cells.Default value old next whole can there = record {
  form = refl;
  entries = entries-apart parts value;
  default = default-set parts value;
  whole = whole-set parts cells.Default (shown (Held value)) whole refl refl;
  tick = let e : risen next (get parts cells.Default) ≡ next = ap (risen next) there in omega arith;
}
set-default parts (cells.Prop n) value old next whole can there = absurd (true≢false (sym can))
set-default parts (cells.Elem n) value old next whole can there = absurd (true≢false (sym can))

-- a key taken away
pub entries-without : (parts : Parts) (cell : Cell) → is_key cell ≡ true → entries_of (set_at parts cell None) ≡ without_entry cell (entries_of parts)
entries-without parts (cells.Key key) can = entries-away parts key
entries-without parts cells.Default can = absurd (true≢false (sym can))
entries-without parts (cells.Prop n) can = absurd (true≢false (sym can))
entries-without parts (cells.Elem n) can = absurd (true≢false (sym can))

pub default-without : (parts : Parts) (cell : Cell) → is_key cell ≡ true → default_of (set_at parts cell None) ≡ default_of parts
default-without parts (cells.Key key) can = default-key parts key None
default-without parts cells.Default can = absurd (true≢false (sym can))
default-without parts (cells.Prop n) can = absurd (true≢false (sym can))
default-without parts (cells.Elem n) can = absurd (true≢false (sym can))

pub whole-without : (parts : Parts) (cell : Cell) → IsWholeTable parts → is_key cell ≡ true → IsWholeTable (set_at parts cell None)
whole-without parts (cells.Key key) whole can = whole-set parts (cells.Key key) None whole refl refl
whole-without parts cells.Default whole can = absurd (true≢false (sym can))
whole-without parts (cells.Prop n) whole can = absurd (true≢false (sym can))
whole-without parts (cells.Elem n) whole can = absurd (true≢false (sym can))
