-- A row of objects copied: the values are the same, and no tick is above what the units give.
use Rattle.std.proofs.Common.{◌≡◌, ◌∙◌, ap, sym, subst, refl, ℕ, zero, suc, ◌+◌, ◌<◌, ◌≤◌, Bool, true, false, cond, List, [], ◌∷◌, ◌++◌, length, map, take, get_or, Option, None, Some, arith}
use Rattle.std.specs.List.{AllByRecursion}
use Rattle.std.specs.Option.{option_map}
use Rattle.std.specs.Ordering.{nat_cmp}
use Rattle.std.specs.FinMap.{FinMap, get}
use Rattle.std.proofs.lemmas.List.{map-append, take_more}
use Rattle.t3_undo.specs.Content.{Parts, places_for}
use Rattle.t3_undo.specs.Objects.{set_at}
use Rattle.t3_store.specs.Value.{Value, Text, units_of, units_in}
use Rattle.t3_store.specs.Inner.Shapes.{Shape, thing_of, places_of, tick_of, value_of, values, AreWithin, HasFreshPlaces}
use Rattle.t3_store.specs.Inner.Bounded.{parts_of, HaveFreshPlaces}
use Rattle.t3_store.specs.Inner.Valid.{IsValid, AreValid}
use Rattle.t3_store.specs.Inner.Entries.{IsRising, by_number, object_at, things_of, ticks_in, keyed, AreAllValid, stored_of, HaveTicksForUnits, HaveAllFreshPlaces}
use Rattle.t3_store.specs.declared.object.Object.{Object}
use Rattle.t3_store.specs.declared.entries.Entry.{Entry}
use Rattle.t3_store.proofs.Rows.{same, same-is, same-itself, get-by_number, missed-object}
use Rattle.t3_store.proofs.MapValues.{amount, get-values, units_in-insert, values-by_number}

-- numbers with values say what a row is
values-alike : (xs ys : List Entry) → map keyed xs ≡ map keyed ys
    → by_number (λ o. value_of (thing_of o)) xs ≡ by_number (λ o. value_of (thing_of o)) ys
unfolding by_number
values-alike [] [] e = refl
values-alike [] (y ∷ ys) e = cc
values-alike (x ∷ xs) [] e = cc
values-alike (x ∷ xs) (y ∷ ys) e =
    let head : keyed x ≡ keyed y = cc in
    let tail : map keyed xs ≡ map keyed ys = cc in
    λ i. set_at (values-alike xs ys tail i) (head i).0 (Some (head i).1)

pub values-keyed : (xs ys : List Entry) → map keyed xs ≡ map keyed ys → values (things_of xs) ≡ values (things_of ys)
values-keyed xs ys e = values-by_number xs ∙ values-alike xs ys e ∙ sym (values-by_number ys)

all-keyed : (n : ℕ) (xs ys : List Entry) → map keyed xs ≡ map keyed ys → AllByRecursion (λ l. n < l.number) ys → AllByRecursion (λ l. n < l.number) xs
all-keyed n [] ys e all = tt
all-keyed n (x ∷ xs) [] e all = cc
all-keyed n (x ∷ xs) (y ∷ ys) e all =
    let head : keyed x ≡ keyed y = cc in
    let tail : map keyed xs ≡ map keyed ys = cc in
    (subst (λ k. n < k) (sym (ap (λ p. p.0) head)) all.0, all-keyed n xs ys tail all.1)

pub rising-keyed : (xs ys : List Entry) → map keyed xs ≡ map keyed ys → IsRising ys → IsRising xs
rising-keyed [] ys e rises = tt
rising-keyed (x ∷ xs) [] e rises = cc
rising-keyed (x ∷ xs) (y ∷ ys) e rises =
    let head : keyed x ≡ keyed y = cc in
    let tail : map keyed xs ≡ map keyed ys = cc in
    let number : y.number ≡ x.number = sym (ap (λ p. p.0) head) in
    (all-keyed x.number xs ys tail (subst (λ k. AllByRecursion (λ l. k < l.number) ys) number rises.0), rising-keyed xs ys tail rises.1)

-- a row copied so far
pub keyed-next : (copy entries : List Entry) (i : ℕ) (new entry : Entry) → i < length entries → entry ≡ get_or entries i entry
    → keyed new ≡ keyed entry → map keyed copy ≡ map keyed (take i entries)
    → map keyed (copy ++ new ∷ []) ≡ map keyed (take (i + 1) entries)
keyed-next copy entries i new entry h is alike so =
    map-append keyed copy (new ∷ [])
    ∙ (λ k. so k ++ alike k ∷ [])
    ∙ sym (map-append keyed (take i entries) (entry ∷ []))
    ∙ ap (map keyed) (sym (taken entries i entry h is))
  where
    taken : (es : List Entry) (i : ℕ) (x : Entry) → i < length es → x ≡ get_or es i x → take (i + 1) es ≡ take i es ++ x ∷ []
    taken es i x h is = take_more es i x h ∙ ap (λ y. take i es ++ y ∷ []) (sym is)

-- one more that is as each so far
pub all-next : (P : Entry → Type 0) (es : List Entry) (new : Entry) → AllByRecursion P es → P new → AllByRecursion P (es ++ new ∷ [])
all-next P [] new all own = (own, tt)
all-next P (x ∷ es) new all own = (all.0, all-next P es new all.1 own)

pub all-at : (P : Entry → Type 0) (es : List Entry) (i : ℕ) (x : Entry) → AllByRecursion P es → i < length es → x ≡ get_or es i x → P x
all-at P [] i x all h is = absurd (omega arith)
all-at P (e ∷ es) zero x all h is = subst P (sym is) all.0
all-at P (e ∷ es) (suc i) x all h is = all-at P es i x all.1 (omega arith) is

-- each object of a row by itself, and by its number
pub valid-each : (es : List Entry) → IsRising es → AreValid (things_of es) → AreAllValid es
valid-each [] rises valid = tt
valid-each (x ∷ es) rises valid = (
  valid x.number (thing_of x.object)
      (get-by_number thing_of (x ∷ es) x.number
      ∙ ap (λ b. option_map thing_of (cond b (Some x.object) (object_at x.number es))) (same-itself x.number)),
  valid-each es rises.1 (λ q thing e. valid q thing (get-by_number thing_of (x ∷ es) q ∙ by q thing (same q x.number) refl e)),
)
  where
    by : (q : ℕ) (thing : Shape × Parts) (b : Bool) → same q x.number ≡ b → get (things_of es) q ≡ Some thing
        → option_map thing_of (cond b (Some x.object) (object_at q es)) ≡ Some thing
    by q thing true t e =
        let none : ◌≡◌ {A = Option (Shape × Parts)} None (Some thing) =
        sym (get-by_number thing_of es q ∙ ap (option_map thing_of) (ap (λ n. object_at n es) (same-is q x.number t) ∙ missed-object x.number es rises.0))
        ∙ e in
        cc
    by q thing false t e = sym (get-by_number thing_of es q) ∙ e

found-each : (P : Object → Type 0) (es : List Entry) (q : ℕ) (o : Object) → AllByRecursion (λ e. P e.object) es → object_at q es ≡ Some o → P o
found-each P [] q o all e = cc
found-each P (x ∷ es) q o all e = by (same q x.number) (λ e. found-each P es q o all.1 e) e
  where
    by : (b : Bool) → (object_at q es ≡ Some o → P o) → cond b (Some x.object) (object_at q es) ≡ Some o → P o
    by true rest e = let is : x.object ≡ o = cc in subst P is all.0
    by false rest e = rest e

read-each : {X : Type 0} (read : Object → X) (P : Object → Type 0) (es : List Entry) (q : ℕ) (x : X) → AllByRecursion (λ e. P e.object) es
    → get (by_number read es) q ≡ Some x → (o : Object) × ((object_at q es ≡ Some o) × ((read o ≡ x) × P o))
read-each {X} read P es q x all e = by (object_at q es) refl (sym (get-by_number read es q) ∙ e)
  where
    by : (o : Option Object) → object_at q es ≡ o → option_map read o ≡ Some x
        → (o : Object) × ((object_at q es ≡ Some o) × ((read o ≡ x) × P o))
    by None is e = cc
    by (Some o) is e = let same : read o ≡ x = cc in (o, (is, (same, found-each P es q o all is)))

pub each-valid : (es : List Entry) → AreAllValid es → AreValid (things_of es)
each-valid es all q thing e =
    let found = read-each thing_of (λ o. IsValid (thing_of o)) es q thing all e in
    subst IsValid found.1.1.0 found.1.1.1

-- where no object of a row has an empty place, none has under its number
pub no-empty-each : (es : List Entry) → HaveAllFreshPlaces es → HaveFreshPlaces (stored_of es)
no-empty-each es all q own e =
    let found = read-each places_of HasFreshPlaces es q own all e in
    sym found.1.1.0 ∙ found.1.1.1
    ∙ ap (λ o. places_for (parts_of o)) (sym (get-by_number thing_of es q ∙ ap (option_map thing_of) found.1.0))

-- one object's units are among all
units-among : (m : FinMap nat_cmp Value) (q : ℕ) (v : Value) → get m q ≡ Some v → units_of v ≤ units_in m
unfolding amount
units-among m q v e =
    let all = units_in-insert m q (Text []) in
    let own : amount units_of (get m q) ≡ units_of v = ap (amount units_of) e in
    omega (arith, all, own)

pub ticks-within : (es : List Entry) → HaveTicksForUnits es → AreWithin (units_in (values (things_of es)) + 1) (ticks_in es)
ticks-within es all q tick e =
    let found = read-each tick_of (λ o. tick_of o ≤ units_of (value_of (thing_of o)) + 1) es q tick all e in
    let value : get (values (things_of es)) q ≡ Some (value_of (thing_of found.0)) =
    get-values (things_of es) q ∙ ap (option_map value_of) (get-by_number thing_of es q ∙ ap (option_map thing_of) found.1.0) in
    let most = units-among (values (things_of es)) q (value_of (thing_of found.0)) value in
    omega (arith, found.1.1.0, found.1.1.1, most)
