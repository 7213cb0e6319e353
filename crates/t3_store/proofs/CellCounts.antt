-- How many cells of a value are present.
use Rattle.std.proofs.Common.{◌≡◌, ◌∙◌, ap, sym, refl, ℕ, ◌+◌, ◌*◌, ◌≤◌, Bool, true, false, ◌||◌, if◌then◌else◌, List, [], ◌∷◌, map, length, Option, None, Some, IsTrue, IsSome, is_some, true≢false, arith}
use Rattle.std.specs.Prelude.{IfSome}
use Rattle.std.specs.List.{list_any}
use Rattle.std.specs.Option.{option_map}
use Rattle.std.specs.Ordering.{nat_cmp, eq_by_cmp}
use Rattle.std.specs.FinMap.{get, len, len-empty, len-entries, keys, entries, contains_key-keys}
use Rattle.std.proofs.lemmas.List.{length-map}
use Rattle.t3_undo.specs.Cell.{cell_cmp}
use Rattle.t3_undo.specs.Content.{Parts, Places}
use Rattle.t3_undo.specs.Present.{Present}
use Rattle.t3_undo.specs.Key.{key_cmp}
use Rattle.t3_undo.specs.Objects.{Objects}
use Rattle.t3_undo.specs.declared.cell.Cell.{Cell}
use Rattle.t3_undo.specs.declared.key.Key.{Key}
use Rattle.t3_undo.specs.declared.cell.Cell.TheVariants as cells
use Rattle.t3_undo.proofs.Purging.{few-keys}
use Rattle.t3_undo.proofs.PuttingBack.{same_cell}
use Rattle.t3_tadsobj.specs.Object.{props_of}
use Rattle.t3_tadsobj.proofs.PropLists.{get-props_of, same-Prop}
use Rattle.t3_lists.specs.Vector.{items_of}
use Rattle.t3_lists.proofs.Items.{items-filled, length-values, values-filled}
use Rattle.t3_lists.proofs.ElementPurges.{len-parts}
use Rattle.t3_tables.specs.Table.{entries_of, is_cell}
use Rattle.t3_tables.specs.declared.pair.Pair.{Pair}
use Rattle.t3_tables.proofs.OrderedEntries.{same-Key}
use Rattle.t3_tables.specs.Entries.{value_under, IsWholeTable}
use Rattle.t3_store.specs.Value.{cells_of, cells_at}
use Rattle.t3_store.specs.Inner.Shapes.{Shape, Stored, TadsShape, TextShape, ItemsShape, VectorShape, TableShape, value_of, values}
use Rattle.t3_store.specs.Inner.Bounded.{parts_of, parts_under, AreBounded}
use Rattle.t3_store.specs.Inner.Valid.{IsValidAs, AreValid}
use Rattle.t3_tadsobj.specs.Props.{AreProps}
use Rattle.t3_lists.specs.Items.{IsWholeVector}
use Rattle.t3_store.proofs.MapValues.{get-values}
use Rattle.t3_tadsobj.proofs.PropValues.{is-prop, prop-valued}
use Rattle.t3_tables.proofs.EntryValues.{held-table, table-cell, table-valued}

or-left : (a b : Bool) → a ≡ true → (a || b) ≡ true
or-left true b e = refl
or-left false b e = absurd (true≢false (sym e))

or-right : (a b : Bool) → b ≡ true → (a || b) ≡ true
or-right true b e = refl
or-right false b e = e

-- a tads-object has a property for each present cell
prop-among : (n : ℕ) (ns : List ℕ) → list_any (eq_by_cmp nat_cmp n) ns ≡ true
    → list_any (same_cell (cells.Prop n)) (map (λ k. cells.Prop k) ns) ≡ true
prop-among n [] e = absurd (true≢false (sym e))
prop-among n (k ∷ ns) e = by (eq_by_cmp nat_cmp n k) refl e (prop-among n ns)
  where
    by : (b : Bool) → eq_by_cmp nat_cmp n k ≡ b → (b || list_any (eq_by_cmp nat_cmp n) ns) ≡ true
        → (list_any (eq_by_cmp nat_cmp n) ns ≡ true → list_any (same_cell (cells.Prop n)) (map (λ j. cells.Prop j) ns) ≡ true)
        → (same_cell (cells.Prop n) (cells.Prop k) || list_any (same_cell (cells.Prop n)) (map (λ j. cells.Prop j) ns)) ≡ true
    by true is e rest = or-left (same_cell (cells.Prop n) (cells.Prop k)) _ (same-Prop n k ∙ is)
    by false is e rest = or-right (same_cell (cells.Prop n) (cells.Prop k)) _ (rest e)

tads-cells : (parts : Parts) → AreProps parts → len parts ≤ len (props_of parts)
tads-cells parts only =
    let few = few-keys parts (map (λ n. cells.Prop n) (keys (props_of parts))) each in
    let a = length-map (keys (props_of parts)) (λ n. cells.Prop n) in
    let b = length-map (entries (props_of parts)) (λ e. e.0) in
    let c = len-entries (props_of parts) in
    omega (arith, few, a, b, c)
  where
    each : (c : Cell) → IsSome (get parts c) → list_any (same_cell c) (map (λ n. cells.Prop n) (keys (props_of parts))) ≡ true
    each (cells.Prop n) some =
        prop-among n (keys (props_of parts))
        (sym (contains_key-keys (props_of parts) n) ∙ ap is_some (get-props_of parts n) ∙ prop-valued parts (cells.Prop n) only ∙ some)
    each (cells.Elem n) some = absurd (true≢false (sym (is-prop parts (cells.Elem n) only some)))
    each (cells.Key k) some = absurd (true≢false (sym (is-prop parts (cells.Key k) only some)))
    each cells.Default some = absurd (true≢false (sym (is-prop parts cells.Default only some)))

-- a vector has an element for each
vector-cells : (parts : Parts) → IsWholeVector parts → len parts ≤ length (items_of parts)
vector-cells parts whole =
    let size = ap len whole.are ∙ len-parts (map (λ item. Some item) whole.items) in
    let count = length-values (map (λ item. Some item) whole.items) in
    let values = ap length (values-filled whole.items) in
    let items = (λ i. length (items_of (whole.are i))) ∙ ap length (items-filled whole.items) in
    omega (arith, size, count, values, items)

-- a table has an entry for each but the default
key-among : (key : Key) (pairs : List Pair) → IsSome (value_under key pairs)
    → list_any (same_cell (cells.Key key)) (map (λ pair. cells.Key pair.key) pairs) ≡ true
key-among key [] some = absurd (true≢false (sym some))
key-among key (pair ∷ pairs) some = by (eq_by_cmp key_cmp key pair.key) refl some (key-among key pairs)
  where
    by : (b : Bool) → eq_by_cmp key_cmp key pair.key ≡ b → IsSome (if b then Some pair.value else value_under key pairs)
        → (IsSome (value_under key pairs) → list_any (same_cell (cells.Key key)) (map (λ p. cells.Key p.key) pairs) ≡ true)
        → (same_cell (cells.Key key) (cells.Key pair.key) || list_any (same_cell (cells.Key key)) (map (λ p. cells.Key p.key) pairs)) ≡ true
    by true is some rest = or-left (same_cell (cells.Key key) (cells.Key pair.key)) _ (same-Key key pair.key ∙ is)
    by false is some rest = or-right (same_cell (cells.Key key) (cells.Key pair.key)) _ (rest some)

table-cells : (parts : Parts) → IsWholeTable parts → len parts ≤ length (entries_of parts) + 1
table-cells parts whole =
    let few = few-keys parts (cells.Default ∷ map (λ pair. cells.Key pair.key) (entries_of parts)) each in
    let a = length-map (entries_of parts) (λ pair. cells.Key pair.key) in
    omega (arith, few, a)
  where
    only : (c : Cell) → IsSome (get parts c) → IsTrue (is_cell c)
    only c some = table-cell parts c whole some

    each : (c : Cell) → IsSome (get parts c) → list_any (same_cell c) (cells.Default ∷ map (λ pair. cells.Key pair.key) (entries_of parts)) ≡ true
    each (cells.Prop n) some = absurd (true≢false (sym (only (cells.Prop n) some)))
    each (cells.Elem n) some = absurd (true≢false (sym (only (cells.Elem n) some)))
    each (cells.Key key) some =
        or-right (same_cell (cells.Key key) cells.Default) (list_any (same_cell (cells.Key key)) (map (λ pair. cells.Key pair.key) (entries_of parts)))
        (key-among key (entries_of parts)
        (ap is_some (sym (held-table parts (cells.Key key) whole)) ∙ table-valued parts (cells.Key key) whole ∙ some))
    each cells.Default some = refl

shape-cells : (shape : Shape) (parts : Parts) → IsValidAs shape parts → len parts ≤ cells_of (value_of (shape, parts))
shape-cells (TadsShape supers class) parts valid = tads-cells parts valid
shape-cells (TextShape bytes) parts valid = let none = ap len valid.1 ∙ len-empty cell_cmp Present in omega (arith, none)
shape-cells (ItemsShape items) parts valid = let none = ap len valid.1 ∙ len-empty cell_cmp Present in omega (arith, none)
shape-cells VectorShape parts valid = vector-cells parts valid
shape-cells TableShape parts valid = table-cells parts valid

-- so many cells of an object with few places have one
pub places-within : (records number cells : ℕ) (stored : Stored) (result : Option ℕ) → result ≡ option_map len (get stored.places number)
    → len (parts_under stored.objects number) ≤ cells → AreBounded records stored → IfSome result (λ count. count ≤ 2 * (cells + records) + 16)
places-within records number cells stored result is few all = by result (get stored.places number) refl is
  where
    by : (r : Option ℕ) (o : Option Places) → get stored.places number ≡ o → r ≡ option_map len o
        → IfSome r (λ count. count ≤ 2 * (cells + records) + 16)
    by None o e is = tt
    by (Some count) None e is = cc
    by (Some count) (Some own) e is =
        let size : count ≡ len own = cc in
        let bound = all number own e in
        omega (arith, size, bound, few)

-- under a number, where there may be no object
pub under-cells : (things : Objects Shape) (n : ℕ) → AreValid things → len (parts_under things n) ≤ cells_at (get (values things) n)
under-cells things n valid = by (get things n) refl (sym (ap cells_at (get-values things n)))
  where
    by : (o : Option (Shape × Parts)) → get things n ≡ o → cells_at (option_map value_of (get things n)) ≡ cells_at (get (values things) n)
        → len (parts_of (get things n)) ≤ cells_at (get (values things) n)
    by None e same =
        let none = ap (λ x. len (parts_of x)) e ∙ len-empty cell_cmp Present in omega (arith, none)
    by (Some thing) e same =
        let few = shape-cells thing.0 thing.1 (valid n thing e) in
        let size = ap (λ x. len (parts_of x)) e in
        let count = sym same ∙ ap (λ x. cells_at (option_map value_of x)) e in
        omega (arith, few, size, count)
