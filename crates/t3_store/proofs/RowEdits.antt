-- A row of objects with one more, and cut off at a number.
use Rattle.std.proofs.Common.{◌≡◌, ◌∙◌, ap, sym, subst, refl, ℕ, zero, suc, ◌<◌, ◌≤◌, Bool, true, false, cond, List, [], ◌∷◌, ◌++◌, length, take, drop, Option, None, Some, true≢false, nat_lt, ltb-true, ltb-false, arith}
use Rattle.std.specs.Option.{option_map}
use Rattle.std.specs.Cmp.{nat_cmp_total}
use Rattle.std.specs.List.{AllByRecursion, AllWithin}
use Rattle.std.specs.FinMap.{same_map, get-insert, get-retain_keys, retain_keys, insert, nat_cmp-IsAntisymmetric}
use Rattle.t3_store.specs.Inner.Entries.{IsRising, object_at, by_number}
use Rattle.t3_store.specs.declared.object.Object.{Object}
use Rattle.t3_store.specs.declared.entries.Entry.{Entry}
use Rattle.t3_store.proofs.Rows.{exchanged, all-later, same, same-is, same-itself, differs, get-by_number}

-- an object more
all-append : (n : ℕ) (es fs : List Entry) → AllByRecursion (λ l. n < l.number) es → AllByRecursion (λ l. n < l.number) fs
    → AllByRecursion (λ l. n < l.number) (es ++ fs)
all-append n [] fs all more = more
all-append n (x ∷ es) fs all more = (all.0, all-append n es fs all.1 more)

all-take : (n : ℕ) (i : ℕ) (es : List Entry) → AllByRecursion (λ l. n < l.number) es → AllByRecursion (λ l. n < l.number) (take i es)
all-take n zero es all = tt
all-take n (suc i) [] all = all
all-take n (suc i) (x ∷ es) all = (all.0, all-take n i es all.1)

all-drop : (n : ℕ) (i : ℕ) (es : List Entry) → AllByRecursion (λ l. n < l.number) es → AllByRecursion (λ l. n < l.number) (drop i es)
all-drop n zero es all = all
all-drop n (suc i) [] all = all
all-drop n (suc i) (x ∷ es) all = all-drop n i es all.1

abbrev with_entry : ℕ → Entry → List Entry → List Entry
with_entry i new es = take i es ++ new ∷ drop i es

pub object_at-add : (es : List Entry) (i : ℕ) (new : Entry) (q : ℕ) → object_at new.number es ≡ None
    → object_at q (with_entry i new es) ≡ cond (same q new.number) (Some new.object) (object_at q es)
object_at-add es zero new q none = refl
object_at-add [] (suc i) new q none = refl
object_at-add (x ∷ es) (suc i) new q none = by (object_at-add es i new q) (same new.number x.number) refl none
  where
    by : (object_at new.number es ≡ None → object_at q (with_entry i new es) ≡ cond (same q new.number) (Some new.object) (object_at q es))
        → (b : Bool) → same new.number x.number ≡ b → cond b (Some x.object) (object_at new.number es) ≡ None
        → object_at q (with_entry (suc i) new (x ∷ es))
        ≡ cond (same q new.number) (Some new.object) (cond (same q x.number) (Some x.object) (object_at q es))
    by rest true t none = cc
    by rest false t none =
        ap (cond (same q x.number) (Some x.object)) (rest none)
        ∙ exchanged (same q x.number) (same q new.number) (Some x.object) (Some new.object) (object_at q es)
        (λ here there. true≢false (sym here ∙ (λ k. same (same-is q new.number there k) x.number) ∙ t))

pub by_number-add : {X : Type 0} (read : Object → X) (es : List Entry) (i : ℕ) (new : Entry) → object_at new.number es ≡ None
    → by_number read (with_entry i new es) ≡ insert (by_number read es) new.number (read new.object)
by_number-add {X} read es i new none =
    same_map nat_cmp_total nat_cmp-IsAntisymmetric _ _ (λ q.
    get-by_number read (with_entry i new es) q ∙ ap (option_map read) (object_at-add es i new q none) ∙ by (same q new.number) (object_at q es)
    ∙ ap (cond (same q new.number) (Some (read new.object))) (sym (get-by_number read es q))
    ∙ sym (get-insert nat_cmp_total (by_number read es) new.number (read new.object) q))
  where
    by : (b : Bool) (o : Option Object) → ◌≡◌ {A = Option X} (option_map read (cond b (Some new.object) o))
        (cond b (Some (read new.object)) (option_map read o))
    by true o = refl
    by false o = refl

-- it goes where the smaller numbers end
pub rising-add : (es : List Entry) (i : ℕ) (new : Entry) → IsRising es → object_at new.number es ≡ None
    → AllWithin (λ e. e.number < new.number) es 0 i → AllWithin (λ e. new.number ≤ e.number) es i (length es) → IsRising (with_entry i new es)
rising-add [] zero new rises none low high = (tt, tt)
rising-add [] (suc i) new rises none low high = (tt, tt)
rising-add (x ∷ es) zero new rises none low high =
    let from : new.number ≤ x.number = high 0 x (omega arith) (omega arith) in
    let apart : new.number ≡ x.number → ⊥ = λ is. there is none in
    let more : new.number < x.number = omega arith in
    ((more, all-later new.number x.number es more rises.0), rises)
  where
    there : new.number ≡ x.number → cond (same new.number x.number) (Some x.object) (object_at new.number es) ≡ None → ⊥
    there is none =
        let b : same new.number x.number ≡ true = subst (λ k. same new.number k ≡ true) is (same-itself new.number) in
        let some : Some x.object ≡ None = sym (ap (λ b. cond b (Some x.object) (object_at new.number es)) b) ∙ none in
        cc
rising-add (x ∷ es) (suc i) new rises none low high =
    let before : x.number < new.number = low 0 x (omega arith) (omega arith) in
    let apart = differs new.number x.number (λ is. omega arith) in (
      all-append x.number (take i es) (new ∷ drop i es) (all-take x.number i es rises.0) (before, all-drop x.number i es rises.0),
      rising-add es i new rises.1 (sym (ap (λ b. cond b (Some x.object) (object_at new.number es)) apart) ∙ none)
          (λ k d h l. low (suc k) d (omega arith) (omega arith)) (λ k d h l. high (suc k) d (omega arith) (omega arith)),
    )

-- the objects below a number
pub rising-take : (es : List Entry) (i : ℕ) → IsRising es → IsRising (take i es)
rising-take es zero rises = tt
rising-take [] (suc i) rises = rises
rising-take (x ∷ es) (suc i) rises = (all-take x.number i es rises.0, rising-take es i rises.1)

pub none-later : (q : ℕ) (n : ℕ) (es : List Entry) → q < n → AllByRecursion (λ l. n ≤ l.number) es → object_at q es ≡ None
none-later q n [] h all = refl
none-later q n (x ∷ es) h all =
    ap (λ b. cond b (Some x.object) (object_at q es)) (differs q x.number (λ is. omega (arith, all.0))) ∙ none-later q n es h all.1

from-all : (n : ℕ) (es : List Entry) → AllWithin (λ e. n ≤ e.number) es 0 (length es) → AllByRecursion (λ l. n ≤ l.number) es
from-all n [] all = tt
from-all n (x ∷ es) all = (all 0 x (omega arith) (omega arith), from-all n es (λ k d h l. all (suc k) d (omega arith) (omega arith)))

pub object_at-cut : (es : List Entry) (i next : ℕ) (q : ℕ) → AllWithin (λ e. e.number < next) es 0 i
    → AllWithin (λ e. next ≤ e.number) es i (length es) → object_at q (take i es) ≡ cond (nat_lt q next) (object_at q es) None
object_at-cut es zero next q low high = by (nat_lt q next) refl
  where
    by : (b : Bool) → nat_lt q next ≡ b → ◌≡◌ {A = Option Object} None (cond b (object_at q es) None)
    by true t = sym (none-later q next es (ltb-true q next t) (from-all next es high))
    by false t = refl
object_at-cut [] (suc i) next q low high = by (nat_lt q next)
  where
    by : (b : Bool) → ◌≡◌ {A = Option Object} None (cond b None None)
    by true = refl
    by false = refl
object_at-cut (x ∷ es) (suc i) next q low high =
    ap (cond (same q x.number) (Some x.object))
    (object_at-cut es i next q (λ k d h l. low (suc k) d (omega arith) (omega arith)) (λ k d h l. high (suc k) d (omega arith) (omega arith)))
    ∙ by (same q x.number) refl (nat_lt q next) refl
  where
    by : (b : Bool) → same q x.number ≡ b → (c : Bool) → nat_lt q next ≡ c
        → cond b (Some x.object) (cond c (object_at q es) None) ≡ cond c (cond b (Some x.object) (object_at q es)) None
    by true t true u = refl
    by true t false u =
        let is = same-is q x.number t in
        let small : x.number < next = low 0 x (omega arith) (omega arith) in
        let great : next ≤ q = ltb-false q next u in
        absurd (omega arith)
    by false t c u = refl

pub by_number-cut : {X : Type 0} (read : Object → X) (es : List Entry) (i next : ℕ) → AllWithin (λ e. e.number < next) es 0 i
    → AllWithin (λ e. next ≤ e.number) es i (length es) → by_number read (take i es) ≡ retain_keys (by_number read es) (λ number. nat_lt number next)
by_number-cut {X} read es i next low high =
    same_map nat_cmp_total nat_cmp-IsAntisymmetric _ _ (λ q.
    get-by_number read (take i es) q ∙ ap (option_map read) (object_at-cut es i next q low high) ∙ by (nat_lt q next) (object_at q es)
    ∙ ap (λ o. cond (nat_lt q next) o None) (sym (get-by_number read es q))
    ∙ sym (get-retain_keys (by_number read es) (λ number. nat_lt number next) q
    (λ x t. ap (λ n. nat_lt n next) (sym (nat_cmp-IsAntisymmetric q x t)))))
  where
    by : (b : Bool) (o : Option Object) → ◌≡◌ {A = Option X} (option_map read (cond b o None)) (cond b (option_map read o) None)
    by true o = refl
    by false o = refl
