-- Objects in a row by rising number: where one stands, and what changes of the row do.
use Rattle.std.proofs.Common.{◌≡◌, ◌∙◌, ap, sym, subst, refl, ℕ, zero, suc, ◌+◌, ◌<◌, ◌≤◌, Bool, true, false, cond, eqb-true, List, [], ◌∷◌, length, get_or, set, slice_get, Option, None, Some, is_some, true≢false, arith}
use Rattle.std.proofs.lemmas.Bool.{eqb-false}
use Rattle.std.specs.Ordering.{nat_cmp, eq_by_cmp}
use Rattle.std.specs.Option.{option_map}
use Rattle.std.specs.Cmp.{nat_cmp_total, eq_by_cmp_equiv, Equal-is}
use Rattle.std.specs.List.{AllByRecursion, AllWithin}
use Rattle.std.specs.FinMap.{FinMap, empty, get, get-empty, same_map, len, len-empty, len-insert, nat_cmp-IsAntisymmetric}
use Rattle.t3_undo.specs.Objects.{set_at, adjust, adjusted}
use Rattle.t3_undo.proofs.Maps.{get-set_at, get-adjust}
use Rattle.t3_store.specs.Inner.Entries.{IsRising, index_of, object_at, by_number, is_numbered}
use Rattle.t3_store.specs.declared.object.Object.{Object}
use Rattle.t3_store.specs.declared.entries.Entry.{Entry}

abbrev pub same : ℕ → ℕ → Bool
same = eq_by_cmp nat_cmp

pub same-is : (n q : ℕ) → same n q ≡ true → n ≡ q
same-is n q e = nat_cmp-IsAntisymmetric n q ((Equal-is (nat_cmp n q)).0 e)

pub same-itself : (n : ℕ) → same n n ≡ true
same-itself n = (eq_by_cmp_equiv nat_cmp_total).refl n

pub differs : (n q : ℕ) → (n ≡ q → ⊥) → same n q ≡ false
differs n q apart = by (same n q) refl
  where
    by : (b : Bool) → same n q ≡ b → b ≡ false
    by true e = absurd (apart (same-is n q e))
    by false e = refl

-- in a row of rising numbers an object stands where its number does
pub index_of-at : (n : ℕ) (es : List Entry) (i : ℕ) → IsRising es → is_numbered n (slice_get es i) ≡ true → index_of n es ≡ Some i
index_of-at n [] i rises e = absurd (true≢false (sym e))
index_of-at n (x ∷ es) zero rises e =
    let is : x.number ≡ n = eqb-true x.number n e in
    ap (λ b. cond b (Some 0) (option_map suc (index_of n es))) (subst (λ k. same n k ≡ true) (sym is) (same-itself n))
index_of-at n (x ∷ es) (suc i) rises e =
    ap (λ b. cond b (Some 0) (option_map suc (index_of n es))) (differs n x.number (λ is. later es i rises.0 e is))
    ∙ ap (option_map suc) (index_of-at n es i rises.1 e)
  where
    later : (es : List Entry) (i : ℕ) → AllByRecursion (λ l. x.number < l.number) es → is_numbered n (slice_get es i) ≡ true → n ≡ x.number → ⊥
    later [] i all e is = true≢false (sym e)
    later (y ∷ es) zero all e is = let other = eqb-true y.number n e in omega (arith, all.0, other)
    later (y ∷ es) (suc i) all e is = later es i all.1 e is

-- behind a greater number there is no smaller one
missed : (n : ℕ) (es : List Entry) → AllByRecursion (λ l. n < l.number) es → index_of n es ≡ None
missed n [] all = refl
missed n (x ∷ es) all =
    ap (λ b. cond b (Some 0) (option_map suc (index_of n es))) (differs n x.number (λ is. omega (arith, all.0)))
    ∙ ap (option_map suc) (missed n es all.1)

pub missed-object : (n : ℕ) (es : List Entry) → AllByRecursion (λ l. n < l.number) es → object_at n es ≡ None
missed-object n [] all = refl
missed-object n (x ∷ es) all =
    ap (λ b. cond b (Some x.object) (object_at n es)) (differs n x.number (λ is. omega (arith, all.0))) ∙ missed-object n es all.1

pub all-later : (n k : ℕ) (es : List Entry) → n < k → AllByRecursion (λ l. k < l.number) es → AllByRecursion (λ l. n < l.number) es
all-later n k [] h all = all
all-later n k (x ∷ es) h all = (omega (arith, all.0), all-later n k es h all.1)

-- if it isn't where the smaller numbers end, it isn't there
pub index_of-none : (n : ℕ) (es : List Entry) (i : ℕ) → IsRising es → AllWithin (λ e. e.number < n) es 0 i
    → AllWithin (λ e. n ≤ e.number) es i (length es) → is_numbered n (slice_get es i) ≡ false → index_of n es ≡ None
index_of-none n [] i rises low high e = refl
index_of-none n (x ∷ es) zero rises low high e =
    let from : n ≤ x.number = high 0 x (omega arith) (omega arith) in
    let apart : x.number ≡ n → ⊥ = eqb-false x.number n e in
    let more : n < x.number = omega arith in
    missed n (x ∷ es) (more, all-later n x.number es more rises.0)
index_of-none n (x ∷ es) (suc i) rises low high e =
    ap (λ b. cond b (Some 0) (option_map suc (index_of n es)))
    (differs n x.number (λ is. omega (arith, low 0 x (omega arith) (omega arith))))
    ∙ ap (option_map suc) (index_of-none n es i rises.1 (λ k d h l. low (suc k) d (omega arith) (omega arith))
    (λ k d h l. high (suc k) d (omega arith) (omega arith)) e)

-- numbers don't fall
pub rising-before : (es : List Entry) (i j : ℕ) (d : Entry) → IsRising es → i ≤ j → j < length es
    → (get_or es i d).number ≤ (get_or es j d).number
rising-before [] i j d rises h l = absurd (omega arith)
rising-before (x ∷ es) zero zero d rises h l = omega arith
rising-before (x ∷ es) zero (suc j) d rises h l = later es j rises.0 (omega arith)
  where
    later : (es : List Entry) (j : ℕ) → AllByRecursion (λ l. x.number < l.number) es → j < length es → x.number ≤ (get_or es j d).number
    later [] j all l = absurd (omega arith)
    later (y ∷ es) zero all l = omega (arith, all.0)
    later (y ∷ es) (suc j) all l = later es j all.1 (omega arith)
rising-before (x ∷ es) (suc i) zero d rises h l = absurd (omega arith)
rising-before (x ∷ es) (suc i) (suc j) d rises h l = rising-before es i j d rises.1 (omega arith) (omega arith)

-- what is read of an object
pub get-by_number : {X : Type 0} (read : Object → X) (es : List Entry) (q : ℕ) → get (by_number read es) q ≡ option_map read (object_at q es)
unfolding by_number
get-by_number read [] q = get-empty nat_cmp q
get-by_number {X} read (x ∷ es) q =
    get-set_at nat_cmp_total (by_number read es) x.number (Some (read x.object)) q
    ∙ ap (cond (same q x.number) (Some (read x.object))) (get-by_number read es q) ∙ by (same q x.number)
  where
    by : (b : Bool) → ◌≡◌ {A = Option X} (cond b (Some (read x.object)) (option_map read (object_at q es)))
        (option_map read (cond b (Some x.object) (object_at q es)))
    by true = refl
    by false = refl

pub read-found : {X : Type 0} (read : Object → X) (es : List Entry) (n : ℕ) (o : Object) → Some o ≡ object_at n es
    → get (by_number read es) n ≡ Some (read o)
read-found read es n o e = get-by_number read es n ∙ ap (option_map read) (sym e)

-- the object at the index of its number
pub record StandsAt (n : ℕ) (es : List Entry) (i : ℕ) : Type 0 where
  pub less : i < length es
  pub numbered : (d : Entry) → (get_or es i d).number ≡ n
  pub object : (d : Entry) → object_at n es ≡ Some (get_or es i d).object

stands-more : (n : ℕ) (x : Entry) (es : List Entry) (i : ℕ) → same n x.number ≡ false → StandsAt n es i → StandsAt n (x ∷ es) (suc i)
stands-more n x es i apart s = record {
  less = omega (arith, s.less);
  numbered = s.numbered;
  object = λ d. ap (λ b. cond b (Some x.object) (object_at n es)) apart ∙ s.object d;
}

pub stands-at : (n : ℕ) (es : List Entry) (i : ℕ) → index_of n es ≡ Some i → StandsAt n es i
stands-at n [] i e = cc
stands-at n (x ∷ es) i e = by (λ j e. stands-at n es j e) (same n x.number) refl (index_of n es) refl e
  where
    by : ((j : ℕ) → index_of n es ≡ Some j → StandsAt n es j) → (b : Bool) → same n x.number ≡ b → (o : Option ℕ) → index_of n es ≡ o
        → cond b (Some 0) (option_map suc o) ≡ Some i → StandsAt n (x ∷ es) i
    by rest true t o is e =
        let zero_is : 0 ≡ i = cc in
        subst (StandsAt n (x ∷ es)) zero_is (record {
          less = omega arith;
          numbered = λ d. sym (same-is n x.number t);
          object = λ d. ap (λ b. cond b (Some x.object) (object_at n es)) t;
        })
    by rest false t None is e = cc
    by rest false t (Some j) is e =
        let suc_is : suc j ≡ i = cc in
        subst (StandsAt n (x ∷ es)) suc_is (stands-more n x es j t (rest j is))

pub stands-nowhere : (n : ℕ) (es : List Entry) → index_of n es ≡ None → object_at n es ≡ None
stands-nowhere n [] e = refl
stands-nowhere n (x ∷ es) e = by (stands-nowhere n es) (same n x.number) refl (index_of n es) refl e
  where
    by : (index_of n es ≡ None → object_at n es ≡ None) → (b : Bool) → same n x.number ≡ b → (o : Option ℕ) → index_of n es ≡ o
        → cond b (Some 0) (option_map suc o) ≡ None → cond b (Some x.object) (object_at n es) ≡ None
    by rest true t o is e = cc
    by rest false t None is e = rest is
    by rest false t (Some j) is e = cc

pub shadow : {X : Type 0} (b : Bool) (x y z : X) → cond b x (cond b y z) ≡ cond b x z
shadow true x y z = refl
shadow false x y z = refl

pub exchanged : {X : Type 0} (a b : Bool) (x y z : X) → (a ≡ true → b ≡ true → ⊥) → cond a x (cond b y z) ≡ cond b y (cond a x z)
exchanged true true x y z apart = absurd (apart refl refl)
exchanged true false x y z apart = refl
exchanged false b x y z apart = refl

-- another object at an index, under the same number
pub object_at-set : (n : ℕ) (es : List Entry) (i : ℕ) (new : Entry) (q : ℕ) → index_of n es ≡ Some i → new.number ≡ n
    → object_at q (set es i new) ≡ cond (same q n) (Some new.object) (object_at q es)
object_at-set n [] i new q e is = cc
object_at-set n (x ∷ es) i new q e is = by (λ j e. object_at-set n es j new q e is) (same n x.number) refl (index_of n es) refl e
  where
    by : ((j : ℕ) → index_of n es ≡ Some j → object_at q (set es j new) ≡ cond (same q n) (Some new.object) (object_at q es))
        → (b : Bool) → same n x.number ≡ b → (o : Option ℕ) → index_of n es ≡ o → cond b (Some 0) (option_map suc o) ≡ Some i
        → object_at q (set (x ∷ es) i new) ≡ cond (same q n) (Some new.object) (cond (same q x.number) (Some x.object) (object_at q es))
    by rest true t o at e =
        let zero_is : 0 ≡ i = cc in
        let numbers : x.number ≡ n = sym (same-is n x.number t) in
        (λ j. object_at q (set (x ∷ es) (sym zero_is j) new))
        ∙ (λ j. cond (same q (is j)) (Some new.object) (object_at q es))
        ∙ sym (shadow (same q n) (Some new.object) (Some x.object) (object_at q es))
        ∙ λ j. cond (same q n) (Some new.object) (cond (same q (sym numbers j)) (Some x.object) (object_at q es))
    by rest false t None at e = cc
    by rest false t (Some j) at e =
        let suc_is : suc j ≡ i = cc in
        (λ k. object_at q (set (x ∷ es) (sym suc_is k) new))
        ∙ ap (cond (same q x.number) (Some x.object)) (rest j at)
        ∙ exchanged (same q x.number) (same q n) (Some x.object) (Some new.object) (object_at q es)
        (λ here there. true≢false (sym here ∙ (λ k. same (same-is q n there k) x.number) ∙ t))

all-at : (n : ℕ) (es : List Entry) (i : ℕ) (d : Entry) → AllByRecursion (λ l. n < l.number) es → i < length es → n < (get_or es i d).number
all-at n [] i d all h = absurd (omega arith)
all-at n (x ∷ es) zero d all h = all.0
all-at n (x ∷ es) (suc i) d all h = all-at n es i d all.1 (omega arith)

all-set : (n : ℕ) (es : List Entry) (i : ℕ) (new : Entry) → AllByRecursion (λ l. n < l.number) es → n < new.number
    → AllByRecursion (λ l. n < l.number) (set es i new)
all-set n [] i new all h = all
all-set n (x ∷ es) zero new all h = (h, all.1)
all-set n (x ∷ es) (suc i) new all h = (all.0, all-set n es i new all.1 h)

-- numbers rise as before where an object is changed
pub rising-set : (es : List Entry) (i : ℕ) (new : Entry) → i < length es → ((d : Entry) → new.number ≡ (get_or es i d).number) → IsRising es
    → IsRising (set es i new)
rising-set [] i new h is rises = rises
rising-set (x ∷ es) zero new h is rises =
    let e : x.number ≡ new.number = sym (is new) in
    (subst (λ n. AllByRecursion (λ l. n < l.number) es) e rises.0, rises.1)
rising-set (x ∷ es) (suc i) new h is rises =
    let e : new.number ≡ (get_or es i new).number = is new in
    let far = all-at x.number es i new rises.0 (omega arith) in
    (all-set x.number es i new rises.0 (omega arith), rising-set es i new (omega arith) is rises.1)

-- what is read of the object that stands there
pub get-stands : {X : Type 0} (read : Object → X) (n : ℕ) (es : List Entry) (i : ℕ) (d : Entry) → StandsAt n es i
    → get (by_number read es) n ≡ Some (read (get_or es i d).object)
get-stands read n es i d s = get-by_number read es n ∙ ap (option_map read) (s.object d)

pub get-nowhere : {X : Type 0} (read : Object → X) (n : ℕ) (es : List Entry) → index_of n es ≡ None → get (by_number read es) n ≡ None
get-nowhere read n es e = get-by_number read es n ∙ ap (option_map read) (stands-nowhere n es e)

-- an object is changed at the index of its number
pub by_number-adjust : {X : Type 0} (read : Object → X) (g : X → X) (n : ℕ) (es : List Entry) (i : ℕ) (d new : Entry) → index_of n es ≡ Some i
    → new.number ≡ n → read new.object ≡ g (read (get_or es i d).object) → by_number read (set es i new) ≡ adjust (by_number read es) n g
by_number-adjust {X} read g n es i d new at is changed =
    same_map nat_cmp_total nat_cmp-IsAntisymmetric _ _ (λ q.
    get-by_number read (set es i new) q ∙ ap (option_map read) (object_at-set n es i new q at is) ∙ by q (same q n) refl
    ∙ (let back = sym (get-by_number read es q) in λ j. cond (same q n) (option_map g (back j)) (back j))
    ∙ sym (get-adjust nat_cmp_total (by_number read es) n g q))
  where
    by : (q : ℕ) (b : Bool) → same q n ≡ b → option_map read (cond b (Some new.object) (object_at q es))
        ≡ cond b (option_map g (option_map read (object_at q es))) (option_map read (object_at q es))
    by q true t =
        let there : object_at q es ≡ Some (get_or es i d).object = ap (λ k. object_at k es) (same-is q n t) ∙ (stands-at n es i at).object d in
        ap Some changed ∙ sym (ap (λ o. option_map g (option_map read o)) there)
    by q false t = refl

pub by_number-same : {X : Type 0} (read : Object → X) (n : ℕ) (es : List Entry) (i : ℕ) (d new : Entry) → index_of n es ≡ Some i
    → new.number ≡ n → read new.object ≡ read (get_or es i d).object → by_number read (set es i new) ≡ by_number read es
by_number-same {X} read n es i d new at is stays =
    same_map nat_cmp_total nat_cmp-IsAntisymmetric _ _ (λ q.
    get-by_number read (set es i new) q ∙ ap (option_map read) (object_at-set n es i new q at is) ∙ by q (same q n) refl
    ∙ sym (get-by_number read es q))
  where
    by : (q : ℕ) (b : Bool) → same q n ≡ b → option_map read (cond b (Some new.object) (object_at q es)) ≡ option_map read (object_at q es)
    by q true t =
        let there : object_at q es ≡ Some (get_or es i d).object = ap (λ k. object_at k es) (same-is q n t) ∙ (stands-at n es i at).object d in
        ap Some stays ∙ sym (ap (option_map read) there)
    by q false t = refl

-- nothing is changed where no object has the number
pub adjust-none : {X : Type 0} (m : FinMap nat_cmp X) (n : ℕ) (g : X → X) → get m n ≡ None → adjust m n g ≡ m
unfolding adjust
adjust-none m n g e = ap (adjusted m n g) e

-- how many objects there are
pub len-by_number : {X : Type 0} (read : Object → X) (es : List Entry) → IsRising es → len (by_number read es) ≡ length es
unfolding by_number set_at
len-by_number {X} read [] rises = len-empty nat_cmp X
len-by_number read (x ∷ es) rises =
    len-insert nat_cmp_total (by_number read es) x.number (read x.object)
    ∙ ap (λ o. cond (is_some o) (len (by_number read es)) (len (by_number read es) + 1)) (get-nowhere read x.number es (missed x.number es rises.0))
    ∙ (let e = len-by_number read es rises.1 in omega (arith, e))

pub numbered-less : (n : ℕ) (es : List Entry) (i : ℕ) → is_numbered n (slice_get es i) ≡ true → i < length es
numbered-less n [] i e = absurd (true≢false (sym e))
numbered-less n (x ∷ es) zero e = omega arith
numbered-less n (x ∷ es) (suc i) e = let h = numbered-less n es i e in omega arith

unmapped : {X Y : Type 0} (f : X → Y) (o : Option X) → option_map f o ≡ None → o ≡ None
unmapped f None e = refl
unmapped f (Some x) e = cc

pub none-of : {X : Type 0} (read : Object → X) (es : List Entry) (n : ℕ) → get (by_number read es) n ≡ None → object_at n es ≡ None
none-of read es n e = unmapped read (object_at n es) (sym (get-by_number read es n) ∙ e)

-- an entry as the code finds it
pub record IsAt (n : ℕ) (es : List Entry) (i : ℕ) (old : Entry) : Type 0 where
  pub at : index_of n es ≡ Some i
  pub is : old ≡ get_or es i old

pub number-at : (n : ℕ) (es : List Entry) (i : ℕ) (old : Entry) → IsAt n es i old → old.number ≡ n
number-at n es i old a = ap (λ e. e.number) a.is ∙ (stands-at n es i a.at).numbered old

pub get-at : {X : Type 0} (read : Object → X) (n : ℕ) (es : List Entry) (i : ℕ) (old : Entry) → IsAt n es i old
    → get (by_number read es) n ≡ Some (read old.object)
get-at read n es i old a = get-stands read n es i old (stands-at n es i a.at) ∙ ap (λ e. Some (read e.object)) (sym a.is)

pub rising-at : (n : ℕ) (es : List Entry) (i : ℕ) (old : Entry) (object : Object) → IsAt n es i old → IsRising es
    → IsRising (set es i (record { number = old.number; object = object }))
rising-at n es i old object a rises =
    let s = stands-at n es i a.at in
    rising-set es i (record { number = old.number; object = object }) s.less (λ d. number-at n es i old a ∙ sym (s.numbered d)) rises

pub by_number-changed : {X : Type 0} (read : Object → X) (g : X → X) (n : ℕ) (es : List Entry) (i : ℕ) (old : Entry) (object : Object)
    → IsAt n es i old → read object ≡ g (read old.object)
    → by_number read (set es i (record { number = old.number; object = object })) ≡ adjust (by_number read es) n g
by_number-changed read g n es i old object a changed =
    by_number-adjust read g n es i old (record { number = old.number; object = object }) a.at (number-at n es i old a)
    (changed ∙ ap (λ e. g (read e.object)) a.is)

pub by_number-kept : {X : Type 0} (read : Object → X) (n : ℕ) (es : List Entry) (i : ℕ) (old : Entry) (object : Object)
    → IsAt n es i old → read object ≡ read old.object
    → by_number read (set es i (record { number = old.number; object = object })) ≡ by_number read es
by_number-kept read n es i old object a stays =
    by_number-same read n es i old (record { number = old.number; object = object }) a.at (number-at n es i old a)
    (stays ∙ ap (λ e. read e.object) a.is)

pub entry-at : (n : ℕ) (es part : List Entry) (r : Option ℕ) (i : ℕ) (old : Entry) → part ≡ es → r ≡ index_of n part → r ≡ Some i
    → old ≡ get_or es i old → IsAt n es i old
entry-at n es part r i old same found some is = record { at = ap (index_of n) (sym same) ∙ sym found ∙ some; is = is }

pub no-entry : (n : ℕ) (es part : List Entry) (r : Option ℕ) → part ≡ es → r ≡ index_of n part → r ≡ None → index_of n es ≡ None
no-entry n es part r same found none = ap (index_of n) (sym same) ∙ sym found ∙ none

pub by_number-none : {X : Type 0} (read : Object → X) → by_number read [] ≡ empty
unfolding by_number
by_number-none read = refl

pub get-changed : {X : Type 0} (read : Object → X) (n : ℕ) (es : List Entry) (i : ℕ) (old : Entry) (object : Object) → IsAt n es i old
    → get (by_number read (set es i (record { number = old.number; object = object }))) n ≡ Some (read object)
get-changed read n es i old object a =
    get-by_number read (set es i (record { number = old.number; object = object })) n
    ∙ ap (option_map read) (object_at-set n es i (record { number = old.number; object = object }) n a.at (number-at n es i old a)
    ∙ ap (λ b. cond b (Some object) (object_at n es)) (same-itself n))

-- what is read of the others
pub get-beside : {X : Type 0} (read : Object → X) (n : ℕ) (es : List Entry) (i : ℕ) (old : Entry) (object : Object) → IsAt n es i old
    → (q : ℕ) → (q ≡ n → ⊥)
    → get (by_number read (set es i (record { number = old.number; object = object }))) q ≡ get (by_number read es) q
get-beside read n es i old object a q apart =
    get-by_number read (set es i (record { number = old.number; object = object })) q
    ∙ ap (option_map read) (object_at-set n es i (record { number = old.number; object = object }) q a.at (number-at n es i old a)
    ∙ ap (λ b. cond b (Some object) (object_at q es)) (differs q n apart))
    ∙ sym (get-by_number read es q)
