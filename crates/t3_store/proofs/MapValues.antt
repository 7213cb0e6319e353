-- The values of objects, as finite maps: what changes of the objects do to them, and to the units that they count. Other crates may use these.
use Rattle.std.proofs.Common.{◌≡◌, ◌∙◌, ap, sym, subst, refl, ℕ, zero, suc, ◌+◌, ◌-◌, ◌<◌, ◌≤◌, nat_eq, get_or, drop, Bool, true, false, cond, ◌&&◌, T, IsTrue, IsSome, length, List, [], ◌∷◌, map, Option, None, Some, is_some, true≢false, arith}
use Rattle.std.specs.declared.cmp.Ordering.{Ordering}
use Rattle.std.specs.declared.cmp.Ordering.TheVariants.{Less, Equal, Greater}
use Rattle.std.specs.Ordering.{nat_cmp, is_eq, is_lt}
use Rattle.std.specs.Option.{option_map, option_and_then}
use Rattle.std.specs.Cmp.{nat_cmp_total, ranked, unsigned_tied}
use Rattle.std.specs.List.{AllByRecursion, sum_by, IsDistinct, filter_map}
use Rattle.std.proofs.lemmas.List.Sums.{sum_by-cons}
use Rattle.std.specs.FinMap.{FinMap, get, get-empty, empty, len, len-insert, len-empty, len-entries, insert, entries, from_entries, entries_sorted, same_map, get-insert, get-from_entries, get-entries, entries-insert, nat_cmp-IsAntisymmetric}
use Rattle.std.specs.FinMap.Entries.{find, put, by_order, below_all, is_sorted}
use Rattle.t3_undo.specs.Content.{Parts, places_for}
use Rattle.t3_undo.specs.Present.{Present, value_in}
use Rattle.t3_undo.specs.Objects.{Objects, adjust, adjusted, part_of, part_at, with_part, set_cell}
use Rattle.t3_undo.specs.declared.cell.Cell.{Cell}
use Rattle.t3_undo.specs.declared.cell.Cell.TheVariants as cells
use Rattle.t3_holder.specs.declared.holder.Holder.{Holder}
use Rattle.t3_undo.proofs.Maps.{get-adjust}
use Rattle.t3_store.specs.Value.{Value, units_of, units_in, holder_in, holder_at, can_have_at, can_lose_at, with_cell, without_cell, IsNextAbove}
use Rattle.t3_undo.specs.Units.{cell_units}
use Rattle.t3_tadsobj.specs.Props.{pair_of, AreProps}
use Rattle.t3_tadsobj.specs.Object as Tadsobject
use Rattle.t3_tadsobj.specs.Object.{props_of, prop_in, bare}
use Rattle.t3_undo.specs.Cell.{cell_cmp}
use Rattle.t3_tadsobj.specs.declared.props.PropValue.{PropValue}
use Rattle.t3_store.specs.Inner.Shapes.{Shape, thing_of, value_of, values, IsWithProp}
use Rattle.t3_store.specs.Inner.Valid.{AreValid}
use Rattle.t3_store.specs.Inner.Entries.{IsRising, by_number, object_at, things_of, IsFirstFrom}
use Rattle.t3_store.specs.declared.entries.Entry.{Entry}
use Rattle.t3_store.specs.Inner.Store.{IsPersistent}
use Rattle.t3_tadsobj.proofs.PropValues.{props-set}
use Rattle.t3_store.proofs.FreshPlaces.{places-none, places-set, no-empty-none}
use Rattle.t3_store.proofs.KindValues.{HasApartKeys, apart-keys, held-value, value-without, present-can, units_of-with, units_of-without, thing-valued}
use Rattle.t3_store.proofs.Rows.{same, same-is, differs, get-by_number, len-by_number}

-- the value of an object among others
find-map : {X Y : Type 0} (f : X → Y) (es : List (ℕ × X)) (q : ℕ) → find nat_cmp q (map (λ e. (e.0, f e.1)) es)
    ≡ option_map f (find nat_cmp q es)
find-map f [] q = refl
find-map {X} {Y} f (e ∷ es) q = ap (cond (same q e.0) (Some (f e.1))) (find-map f es q) ∙ by (same q e.0)
  where
    by : (b : Bool) → ◌≡◌ {A = Option Y} (cond b (Some (f e.1)) (option_map f (find nat_cmp q es))) (option_map f (cond b (Some e.1) (find nat_cmp q es)))
    by true = refl
    by false = refl

pub get-values : (things : Objects Shape) (q : ℕ) → get (values things) q ≡ option_map value_of (get things q)
unfolding values
get-values things q =
    get-from_entries nat_cmp_total (map (λ e. (e.0, value_of e.1)) (entries things)) q
    ∙ find-map value_of (entries things) q ∙ ap (option_map value_of) (sym (get-entries things q))

same_values : (things : Objects Shape) (m : FinMap nat_cmp Value) → ((q : ℕ) → option_map value_of (get things q) ≡ get m q) → values things ≡ m
same_values things m alike = same_map nat_cmp_total nat_cmp-IsAntisymmetric _ _ (λ q. get-values things q ∙ alike q)

-- an object changed
pub values-adjust : (things : Objects Shape) (n : ℕ) (f : Shape × Parts → Shape × Parts) (g : Value → Value)
    → ((x : Shape × Parts) → get things n ≡ Some x → value_of (f x) ≡ g (value_of x))
    → values (adjust things n f) ≡ adjust (values things) n g
values-adjust things n f g alike =
    same_values _ _ (λ q.
    ap (option_map value_of) (get-adjust nat_cmp_total things n f q) ∙ by q (same q n) refl (get things q) refl
    ∙ (let back = sym (get-values things q) in λ i. cond (same q n) (option_map g (back i)) (back i))
    ∙ sym (get-adjust nat_cmp_total (values things) n g q))
  where
    by : (q : ℕ) (b : Bool) → same q n ≡ b → (o : Option (Shape × Parts)) → get things q ≡ o
        → option_map value_of (cond b (option_map f o) o) ≡ cond b (option_map g (option_map value_of o)) (option_map value_of o)
    by q true t None e = refl
    by q true t (Some x) e = ap Some (alike x (ap (get things) (sym (same-is q n t)) ∙ e))
    by q false t o e = refl

option_map-cond : (b : Bool) (x : Shape × Parts) (o : Option (Shape × Parts))
    → option_map value_of (cond b (Some x) o) ≡ cond b (Some (value_of x)) (option_map value_of o)
option_map-cond true x o = refl
option_map-cond false x o = refl

-- an object more
pub values-insert : (things : Objects Shape) (n : ℕ) (x : Shape × Parts) → values (insert things n x) ≡ insert (values things) n (value_of x)
values-insert things n x =
    same_values _ _ (λ q.
    ap (option_map value_of) (get-insert nat_cmp_total things n x q) ∙ option_map-cond (same q n) x (get things q)
    ∙ ap (cond (same q n) (Some (value_of x))) (sym (get-values things q))
    ∙ sym (get-insert nat_cmp_total (values things) n (value_of x) q))

-- how much is counted
unfoldable pub amount : {X : Type 0} → (X → ℕ) → Option X → ℕ
amount f None = 0
amount f (Some x) = f x

-- the keys of entries rise
abbrev pub Rise : {X : Type 0} → List (ℕ × X) → Type 0
Rise [] = Unit {0}
Rise (e ∷ es) = AllByRecursion (λ later. e.0 < later.0) es × Rise es

first : (a b : Bool) → T (a && b) → T a
first true b p = tt
first false b p = absurd p

second : (a b : Bool) → T (a && b) → T b
second true b p = p
second false b p = absurd p

less : (a b : ℕ) → T (is_lt (nat_cmp a b)) → a < b
less a b = by (nat_cmp a b) refl
  where
    by : (r : Ordering) → r ≡ nat_cmp a b → T (is_lt r) → a < b
    by Less e h = ranked a b Less e
    by Equal e h = absurd h
    by Greater e h = absurd h

below-all : {X : Type 0} (k : ℕ) (es : List (ℕ × X)) → T (below_all nat_cmp k es) → AllByRecursion (λ later. k < later.0) es
below-all k [] h = tt
below-all k (e ∷ es) h = (less k e.0 (first _ _ h), below-all k es (second _ _ h))

pub rise : {X : Type 0} (es : List (ℕ × X)) → T (is_sorted nat_cmp es) → Rise es
rise [] h = tt
rise (e ∷ es) h = (below-all e.0 es (first _ _ h), rise es (second _ _ h))

find-below : {X : Type 0} (j k : ℕ) (es : List (ℕ × X)) → j < k → AllByRecursion (λ later. k < later.0) es → find nat_cmp j es ≡ None
find-below j k [] h all = refl
find-below j k (e ∷ es) h all =
    ap (λ b. cond b (Some e.1) (find nat_cmp j es)) (differs j e.0 (λ is. omega (arith, all.0))) ∙ find-below j k es h all.1

module _ {X : Type 0} (f : X → ℕ) where
  total : List (ℕ × X) → ℕ
  total es = sum_by (λ e. f e.1) es

  total-cons : (e : ℕ × X) (es : List (ℕ × X)) → total (e ∷ es) ≡ f e.1 + total es
  unfolding total
  total-cons e es = sum_by-cons (λ e. f e.1) e es

  total-none : total [] ≡ 0
  unfolding total
  total-none = refl

  total-put : (k : ℕ) (v : X) (es : List (ℕ × X)) → Rise es → amount f (find nat_cmp k es) + total (put nat_cmp k v es) ≡ f v + total es
  unfolding amount
  total-put k v [] rises = omega (arith, total-cons (k, v) [], total-none)
  total-put k v (e ∷ es) rises = by (total-put k v es rises.1) (nat_cmp k e.0) refl
    where
      by : amount f (find nat_cmp k es) + total (put nat_cmp k v es) ≡ f v + total es → (r : Ordering) → r ≡ nat_cmp k e.0
          → amount f (cond (is_eq r) (Some e.1) (find nat_cmp k es)) + total (by_order r ((k, v) ∷ e ∷ es) ((e.0, v) ∷ es) (e ∷ put nat_cmp k v es))
          ≡ f v + total (e ∷ es)
      by rest Less is =
          let none : amount f (find nat_cmp k es) ≡ 0 = ap (amount f) (find-below k e.0 es (ranked k e.0 Less is) rises.0) in
          omega (arith, total-cons (k, v) (e ∷ es), total-cons e es, none)
      by rest Equal is = omega (arith, total-cons (e.0, v) es, total-cons e es)
      by rest Greater is = omega (arith, total-cons e (put nat_cmp k v es), total-cons e es, rest)

-- the units of objects, of which one is set
pub units_in-insert : (m : FinMap nat_cmp Value) (k : ℕ) (v : Value) → amount units_of (get m k) + units_in (insert m k v) ≡ units_of v + units_in m
unfolding total
units_in-insert m k v =
    (λ i. amount units_of (get-entries m k i) + total units_of (entries-insert nat_cmp_total m k v i))
    ∙ total-put units_of k v (entries m) (rise (entries m) (entries_sorted m))

pub units_in-new : (m : FinMap nat_cmp Value) (k : ℕ) (v : Value) → get m k ≡ None → units_in (insert m k v) ≡ units_in m + units_of v
unfolding amount
units_in-new m k v e = let none : amount units_of (get m k) ≡ 0 = ap (amount units_of) e in omega (arith, units_in-insert m k v, none)

pub units_in-adjust : (m : FinMap nat_cmp Value) (k : ℕ) (g : Value → Value) (v : Value) → get m k ≡ Some v
    → units_of v + units_in (adjust m k g) ≡ units_of (g v) + units_in m
unfolding adjust amount
units_in-adjust m k g v e =
    (λ i. amount units_of (sym e i) + units_in (adjusted m k g (e i))) ∙ units_in-insert m k (g v)

-- what stands in a cell of an object
pub held-at : (things : Objects Shape) (n : ℕ) (cell : Cell) → AreValid things
    → option_and_then value_in (part_at things n cell) ≡ holder_at (get (values things) n) cell
held-at things n cell valid = by (get things n) refl ∙ sym (ap (λ o. holder_at o cell) (get-values things n))
  where
    by : (o : Option (Shape × Parts)) → get things n ≡ o
        → option_and_then value_in (part_of o cell) ≡ holder_at (option_map value_of o) cell
    by None e = refl
    by (Some x) e = held-value x cell (valid n x e)

-- what is present is a value
part-valued : (things : Objects Shape) (n : ℕ) (cell : Cell) → AreValid things
    → is_some (option_and_then value_in (part_at things n cell)) ≡ is_some (part_at things n cell)
part-valued things n cell valid = by (get things n) refl
  where
    by : (o : Option (Shape × Parts)) → get things n ≡ o → is_some (option_and_then value_in (part_of o cell)) ≡ is_some (part_of o cell)
    by None e = refl
    by (Some x) e = thing-valued x cell (valid n x e)

pub present-can_at : (o : Option Value) (cell : Cell) → IsSome (holder_at o cell) → IsTrue (can_have_at o cell)
present-can_at None cell some = absurd (true≢false (sym some))
present-can_at (Some value) cell some = present-can value cell some

-- the units with one cell set, and with one taken away
pub units_in-with : (m : FinMap nat_cmp Value) (n : ℕ) (cell : Cell) (holder : Holder) → IsTrue (can_have_at (get m n) cell)
    → units_in (adjust m n (with_cell cell holder))
    ≡ cond (is_some (holder_at (get m n) cell)) (units_in m) (units_in m + cell_units cell)
units_in-with m n cell holder can = by (get m n) refl can
  where
    more : (b : Bool) (u v a k c : ℕ) → v ≡ cond b u (u + c) → u + a ≡ v + k → a ≡ cond b k (k + c)
    more true u v a k c e f = omega arith
    more false u v a k c e f = omega arith

    by : (o : Option Value) → get m n ≡ o → IsTrue (can_have_at o cell)
        → units_in (adjust m n (with_cell cell holder)) ≡ cond (is_some (holder_at o cell)) (units_in m) (units_in m + cell_units cell)
    by None e can = absurd (true≢false (sym can))
    by (Some value) e can =
        more (is_some (holder_in value cell)) _ _ _ _ (cell_units cell) (units_of-with value cell holder can)
        (units_in-adjust m n (with_cell cell holder) value e)

pub units_in-without : (things : Objects Shape) (n : ℕ) (cell : Cell) → IsSome (holder_at (get (values things) n) cell)
    → IsTrue (can_lose_at (get (values things) n) cell)
    → units_in (adjust (values things) n (without_cell cell)) + cell_units cell ≡ units_in (values things)
units_in-without things n cell some can = by (get (values things) n) refl (get things n) (get-values things n) some can
  where
    by : (o : Option Value) → get (values things) n ≡ o → (x : Option (Shape × Parts)) → get (values things) n ≡ option_map value_of x
        → IsSome (holder_at o cell) → IsTrue (can_lose_at o cell)
        → units_in (adjust (values things) n (without_cell cell)) + cell_units cell ≡ units_in (values things)
    by None e x is some can = absurd (true≢false (sym some))
    by (Some value) e None is some can = let none : ◌≡◌ {A = Option Value} (Some value) None = sym e ∙ is in cc
    by (Some value) e (Some x) is some can =
        let same : value_of x ≡ value = cc in
        omega (
          arith,
          units_of-without value cell some can (subst HasApartKeys same (apart-keys x)),
          units_in-adjust (values things) n (without_cell cell) value e,
        )

no_length : {X : Type 0} (xs : List X) → length xs ≡ 0 → xs ≡ []
no_length [] e = refl
no_length (x ∷ xs) e = absurd (omega arith)

pub entries-empty : {X : Type 0} → entries (empty {K = ℕ} {X = X} {R = nat_cmp}) ≡ []
entries-empty {X} = no_length _ (sym (len-entries (empty {K = ℕ} {X = X} {R = nat_cmp})) ∙ len-empty nat_cmp X)

pub units_in-none : units_in (values empty) ≡ 0
unfolding values
units_in-none =
    (λ i. units_in (from_entries (map (λ (e : ℕ × (Shape × Parts)). (e.0, value_of e.1)) (entries-empty i))))
    ∙ ap (sum_by (λ (e : ℕ × Value). units_of e.1)) entries-empty

pub some-map : {X Y : Type 0} (f : X → Y) (o : Option X) → is_some (option_map f o) ≡ is_some o
some-map f None = refl
some-map f (Some x) = refl

-- a cell that had nothing counts from now on
pub counted-set : (things new : Objects Shape) (n : ℕ) (cell : Cell) (holder : Holder) (old : Option Present) (units : ℕ)
    → values new ≡ adjust (values things) n (with_cell cell holder) → AreValid things → IsTrue (can_have_at (get (values things) n) cell)
    → old ≡ part_at things n cell → units ≡ units_in (values things)
    → cond (is_some old) units (units + cell_units cell) ≡ units_in (values new)
counted-set things new n cell holder old units set valid can is counted =
    (λ i. cond (there i) (counted i) (counted i + cell_units cell)) ∙ sym (units_in-with (values things) n cell holder can) ∙ ap units_in (sym set)
  where
    there : is_some old ≡ is_some (holder_at (get (values things) n) cell)
    there = ap is_some is ∙ sym (part-valued things n cell valid) ∙ ap is_some (held-at things n cell valid)

pub none-of : {X : Type 0} (o : Option X) → is_some o ≡ false → o ≡ None
none-of None e = refl
none-of (Some x) e = absurd (true≢false e)

pub absent : (things : Objects Shape) (n : ℕ) (cell : Cell) (old : Option Present) → AreValid things
    → old ≡ part_at things n cell → is_some old ≡ false → holder_at (get (values things) n) cell ≡ None
absent things n cell old valid is none =
    sym (held-at things n cell valid) ∙ ap (option_and_then value_in) (sym is ∙ none-of old none)

-- a cell taken away
pub values-without : (things : Objects Shape) (n : ℕ) (cell : Cell) → AreValid things → IsTrue (can_lose_at (get (values things) n) cell)
    → values (set_cell things n cell None) ≡ adjust (values things) n (without_cell cell)
values-without things n cell valid can =
    values-adjust things n (with_part cell None) (without_cell cell) (λ x e.
    value-without x cell (sym (ap (λ o. can_lose_at o cell) (get-values things n ∙ ap (option_map value_of) e)) ∙ can) (valid n x e))

pub counted-without : (things new : Objects Shape) (n : ℕ) (cell : Cell) (units : ℕ)
    → new ≡ set_cell things n cell None → AreValid things → IsSome (holder_at (get (values things) n) cell)
    → IsTrue (can_lose_at (get (values things) n) cell) → units ≡ units_in (values things)
    → units_in (values new) + cell_units cell ≡ units
counted-without things new n cell units is valid some can counted =
    ap (λ m. units_in m + cell_units cell) (ap values is ∙ values-without things n cell valid can) ∙ units_in-without things n cell some can
    ∙ sym counted

pub some-values : (things : Objects Shape) (q : ℕ) → is_some (get (values things) q) ≡ is_some (get things q)
some-values things q = ap is_some (get-values things q) ∙ some-map value_of (get things q)

option_map-twice : {X Y Z : Type 0} (f : X → Y) (g : Y → Z) (o : Option X) → option_map g (option_map f o) ≡ option_map (λ x. g (f x)) o
option_map-twice f g None = refl
option_map-twice f g (Some x) = refl

pub values-by_number : (es : List Entry) → values (things_of es) ≡ by_number (λ o. value_of (thing_of o)) es
values-by_number es =
    same_values (things_of es) (by_number (λ o. value_of (thing_of o)) es) (λ q.
    ap (option_map value_of) (get-by_number thing_of es q) ∙ option_map-twice thing_of value_of (object_at q es)
    ∙ sym (get-by_number (λ o. value_of (thing_of o)) es q))

pub len-values : (es : List Entry) → IsRising es → len (values (things_of es)) ≡ length es
len-values es rises = ap len (values-by_number es) ∙ len-by_number (λ o. value_of (thing_of o)) es rises

-- a change makes no object more or less
pub len-adjust : (m : FinMap nat_cmp Value) (n : ℕ) (g : Value → Value) → len (adjust m n g) ≡ len m
unfolding adjust
len-adjust m n g = by (get m n) refl
  where
    by : (o : Option Value) → get m n ≡ o → len (adjusted m n g o) ≡ len m
    by None e = refl
    by (Some v) e = len-insert nat_cmp_total m n (g v) ∙ ap (λ o. cond (is_some o) (len m) (len m + 1)) e

-- the value of what was found, and of what wasn't
pub found-value : (things : Objects Shape) (n : ℕ) (thing : Shape × Parts) → Some thing ≡ get things n → Some (value_of thing) ≡ get (values things) n
found-value things n thing e = ap (option_map value_of) e ∙ sym (get-values things n)

pub no-value : (things : Objects Shape) (n : ℕ) → None ≡ get things n → None ≡ get (values things) n
no-value things n e = ap (option_map value_of) e ∙ sym (get-values things n)

-- what is next in the one is next in the other
none-value : (things : Objects Shape) (q : ℕ) → get things q ≡ None → get (values things) q ≡ None
none-value things q e = get-values things q ∙ ap (option_map value_of) e

pub next-above : (things : Objects Shape) (n least : ℕ) (r : Option ℕ) → least ≡ n + 1 → IsFirstFrom things least r → IsNextAbove (values things) n r
next-above things n least None e first = λ q h. none-value things q (first q (omega arith))
next-above things n least (Some next) e first = (
  omega (arith, first.0),
  some-values things next ∙ first.1,
  λ q h l. none-value things q (first.2 q (omega arith) l),
)

-- a tads-object with the properties from an index on, each in a place with stamp 0, and no other place
pub record IsMade (object : Tadsobject.Tads) (supers : List ℕ) (class : Bool) (items : List PropValue) (left : ℕ) : Type 0 where
  pub made : props_of object.parts ≡ from_entries (map pair_of (drop left items))
  pub above : object.supers ≡ supers
  pub kind : object.class ≡ class
  pub within : left ≤ length items
  pub props : AreProps object.parts
  pub fresh_places : object.places ≡ places_for object.parts

drop-at : (items : List PropValue) (n : ℕ) (d : PropValue) → n < length items → drop n items ≡ get_or items n d ∷ drop (suc n) items
drop-at [] n d h = absurd (omega arith)
drop-at (x ∷ xs) zero d h = refl
drop-at (x ∷ xs) (suc n) d h = drop-at xs n d (omega arith)

drop-less : (items : List PropValue) (left : ℕ) (d : PropValue) → 0 < left → left ≤ length items
    → drop (left - 1) items ≡ get_or items (left - 1) d ∷ drop left items
drop-less items left d h l =
    let same : suc (left - 1) ≡ left = omega arith in
    drop-at items (left - 1) d (omega arith) ∙ λ i. get_or items (left - 1) d ∷ drop (same i) items

pub made-more : (old new : Tadsobject.Tads) (supers : List ℕ) (class : Bool) (items : List PropValue) (left : ℕ) (d : PropValue)
    → IsMade old supers class items left → 0 < left
    → IsWithProp old new (get_or items (left - 1) d).number (get_or items (left - 1) d).value → IsMade new supers class items (left - 1)
made-more old new supers class items left d is h w = record {
  made = w.props ∙ ap (λ m. insert m (get_or items (left - 1) d).number (get_or items (left - 1) d).value) is.made
      ∙ ap (λ ps. from_entries (map pair_of ps)) (sym (drop-less items left d h is.within));
  above = w.supers ∙ is.above;
  kind = w.class ∙ is.kind;
  within = omega (arith, is.within);
  props = subst AreProps (sym w.parts) (props-set old.parts (cells.Prop (get_or items (left - 1) d).number) _ is.props refl refl);
  fresh_places = w.places ∙ (λ i. insert (is.fresh_places i) (cells.Prop (get_or items (left - 1) d).number) 0)
      ∙ places-set old.parts (cells.Prop (get_or items (left - 1) d).number) _ ∙ ap places_for (sym w.parts);
}

-- distinct properties are as many as their numbers
find-after : (n : ℕ) (ps : List PropValue) → AllByRecursion (λ m. nat_eq n m ≡ false) (map (λ p. p.number) ps) → find nat_cmp n (map pair_of ps) ≡ None
find-after n [] all = refl
find-after n (p ∷ ps) all =
    ap (λ b. cond b (Some p.value) (find nat_cmp n (map pair_of ps))) (unsigned_tied n p.number ∙ all.0) ∙ find-after n ps all.1

pub len-from_entries : (ps : List PropValue) → IsDistinct nat_eq (map (λ p. p.number) ps) → len (from_entries {R = nat_cmp} (map pair_of ps)) ≡ length ps
unfolding IsDistinct
len-from_entries [] apart = len-empty nat_cmp Holder
len-from_entries (p ∷ ps) apart =
    len-insert nat_cmp_total (from_entries (map pair_of ps)) p.number p.value
    ∙ ap (λ o. cond (is_some o) (len (from_entries {R = nat_cmp} (map pair_of ps))) (len (from_entries {R = nat_cmp} (map pair_of ps)) + 1))
    (get-from_entries nat_cmp_total (map pair_of ps) p.number ∙ find-after p.number ps apart.0)
    ∙ (let e = len-from_entries ps apart.1 in omega (arith, e))

pub values-empty : values empty ≡ empty
unfolding values
values-empty = λ i. from_entries (map (λ (e : ℕ × (Shape × Parts)). (e.0, value_of e.1)) (entries-empty i))

pub units_in-empty : units_in empty ≡ 0
units_in-empty = ap (sum_by (λ (e : ℕ × Value). units_of e.1)) entries-empty

pub none-persistent : IsPersistent (record { objects = empty; places = empty; ticks = empty })
none-persistent = record {
  from_one = ap (λ m. get m 0) values-empty ∙ get-empty nat_cmp 0;
  numbered = λ q h. ap (λ m. get m q) values-empty ∙ get-empty nat_cmp q;
  few = let none = ap len values-empty ∙ len-empty nat_cmp Value in omega arith;
  few_units = let none = ap units_in values-empty ∙ units_in-empty in omega arith;
  ticks = λ q tick e. absurd (true≢false (ap is_some (sym e ∙ get-empty nat_cmp q)));
  fresh_places = no-empty-none;
}

drop-all : (items : List PropValue) → drop (length items) items ≡ []
drop-all [] = refl
drop-all (x ∷ xs) = drop-all xs

props-none : props_of empty ≡ empty
unfolding props_of
props-none = λ i. from_entries (filter_map (λ (e : Cell × Present). prop_in e.0 e.1) (no-cells i))
  where
    no-cells : entries (empty {K = Cell} {X = Present} {R = cell_cmp}) ≡ []
    no-cells = no_length _ (sym (len-entries (empty {K = Cell} {X = Present} {R = cell_cmp})) ∙ len-empty cell_cmp Present)

pub made-none : (object : Tadsobject.Tads) (supers : List ℕ) (class : Bool) (items : List PropValue) → object ≡ bare supers class
    → IsMade object supers class items (length items)
made-none object supers class items is = record {
  made = ap (λ (o : Tadsobject.Tads). props_of o.parts) is ∙ props-none ∙ ap (λ ps. from_entries (map pair_of ps)) (sym (drop-all items));
  above = ap (λ (o : Tadsobject.Tads). o.supers) is;
  kind = ap (λ (o : Tadsobject.Tads). o.class) is;
  within = omega arith;
  props = λ cell present e.
      absurd (true≢false (ap is_some (sym e ∙ ap (λ (o : Tadsobject.Tads). get o.parts cell) is ∙ get-empty cell_cmp cell)));
  fresh_places = ap (λ (o : Tadsobject.Tads). o.places) is ∙ sym (ap (λ (o : Tadsobject.Tads). places_for o.parts) is ∙ places-none);
}
