-- Values are read, by their kinds: what is taken is spelled, and what is spelled is read.
use Rattle.std.proofs.Common.{◌≡◌, ℕ, Bool, true, false, cond, List, [], ◌∷◌, ◌++◌, Option, Some, refl, sym, ap, subst, ◌∙◌, append_assoc, ◌&&◌, ◌||◌, not}
use Rattle.std.specs.List.{AllByRecursion, list_any, IsDistinct}
use Rattle.std.specs.Ordering.{eq_by_cmp}
use Rattle.std.proofs.lemmas.Bool.{eqb-true}
use Rattle.t3_holder.specs.NumberText.{AreBytes}
use Rattle.t3_undo.specs.Key.{key_cmp}
use Rattle.t3_undo.specs.declared.key.Key.{Key}
use Rattle.t3_store.specs.Value.{Value, Tads, Text, Items, Vector, Table}
use Rattle.t3_snapshot.specs.Layout.{holder_text, entry_text, counted_text, value_text, keys_of, IsSpellable}
use Rattle.t3_snapshot.specs.Inner.Reading.{byte_at, holder_at, text_at, entry_at, counted_at, are_distinct, table_at, string_at, list_at, vector_at, value_by, value_at}
use Rattle.t3_snapshot.proofs.Leaves.{bind_some, some_is}
use Rattle.t3_snapshot.proofs.Readers.{Took, Reads, byte_takes, where_some, holders_read, texts_read, entries_read, counted_read}
use Rattle.t3_snapshot.proofs.TadsReaders.{tads_takes, tads_again}

-- ---- tests

or_false : (a b : Bool) → (a || b) ≡ false → (a ≡ false) × (b ≡ false)
or_false true b e = absurd cc
or_false false b e = (refl, e)

and_true : (a b : Bool) → (a && b) ≡ true → (a ≡ true) × (b ≡ true)
and_true true b e = (refl, e)
and_true false b e = absurd cc

not_back : (b : Bool) → not b ≡ true → b ≡ false
not_back true e = absurd cc
not_back false e = refl

chosen : {A P : Type 0} (b : Bool) (x y : Option A) {z : A} → cond b x y ≡ Some z → (b ≡ true → x ≡ Some z → P) → (y ≡ Some z → P) → P
chosen true x y e is_so is_not = is_so refl e
chosen false x y e is_so is_not = is_not e

-- ---- values

string_takes : (bytes : List ℕ) (value : Value) (rest : List ℕ) → AreBytes bytes → string_at bytes ≡ Some (value, rest)
    → (2 ∷ bytes ≡ value_text value ++ rest) × IsSpellable value × AreBytes rest
unfolding string_at value_text
string_takes bytes value rest are e =
    let x = bind_some (text_at bytes) _ (value, rest) e in
    let t = texts_read.takes bytes x.0.0 x.0.1 are x.1 in
    subst (λ (p : Value × List ℕ). (2 ∷ bytes ≡ value_text p.0 ++ p.1) × IsSpellable p.0 × AreBytes p.1) (some_is _ _ x.2)
    (ap (λ r. 2 ∷ r) t.is, t.fits, t.left)

list_takes : (bytes : List ℕ) (value : Value) (rest : List ℕ) → AreBytes bytes → list_at bytes ≡ Some (value, rest)
    → (3 ∷ bytes ≡ value_text value ++ rest) × IsSpellable value × AreBytes rest
unfolding list_at value_text
list_takes bytes value rest are e =
    let x = bind_some (counted_at holder_at 2 bytes) _ (value, rest) e in
    let t = (counted_read holders_read 2).takes bytes x.0.0 x.0.1 are x.1 in
    subst (λ (p : Value × List ℕ). (3 ∷ bytes ≡ value_text p.0 ++ p.1) × IsSpellable p.0 × AreBytes p.1) (some_is _ _ x.2)
    (ap (λ r. 3 ∷ r) t.is, t.fits, t.left)

vector_takes : (bytes : List ℕ) (value : Value) (rest : List ℕ) → AreBytes bytes → vector_at bytes ≡ Some (value, rest)
    → (4 ∷ bytes ≡ value_text value ++ rest) × IsSpellable value × AreBytes rest
unfolding vector_at value_text
vector_takes bytes value rest are e =
    let x = bind_some (counted_at holder_at 2 bytes) _ (value, rest) e in
    let t = (counted_read holders_read 2).takes bytes x.0.0 x.0.1 are x.1 in
    subst (λ (p : Value × List ℕ). (4 ∷ bytes ≡ value_text p.0 ++ p.1) × IsSpellable p.0 × AreBytes p.1) (some_is _ _ x.2)
    (ap (λ r. 4 ∷ r) t.is, t.fits, t.left)

-- ---- tables

none_same : (key : Key) (ks : List Key) → list_any (eq_by_cmp key_cmp key) ks ≡ false
    → AllByRecursion (λ y. eq_by_cmp key_cmp key y ≡ false) ks
none_same key [] e = tt
none_same key (k ∷ ks) e = let h = or_false (eq_by_cmp key_cmp key k) (list_any (eq_by_cmp key_cmp key) ks) e in (h.0, none_same key ks h.1)

same_none : (key : Key) (ks : List Key) → AllByRecursion (λ y. eq_by_cmp key_cmp key y ≡ false) ks
    → list_any (eq_by_cmp key_cmp key) ks ≡ false
same_none key [] e = refl
same_none key (k ∷ ks) e = ap (λ b. b || list_any (eq_by_cmp key_cmp key) ks) e.0 ∙ same_none key ks e.1

distinct_is : (ks : List Key) → are_distinct ks ≡ true → IsDistinct (eq_by_cmp key_cmp) ks
unfolding IsDistinct
distinct_is [] e = tt
distinct_is (k ∷ ks) e =
    let h = and_true (not (list_any (eq_by_cmp key_cmp k) ks)) (are_distinct ks) e in
    (none_same k ks (not_back (list_any (eq_by_cmp key_cmp k) ks) h.0), distinct_is ks h.1)

is_distinct : (ks : List Key) → IsDistinct (eq_by_cmp key_cmp) ks → are_distinct ks ≡ true
unfolding IsDistinct
is_distinct [] h = refl
is_distinct (k ∷ ks) h = ap (λ b. not b && are_distinct ks) (same_none k ks h.0) ∙ is_distinct ks h.1

table_takes : (bytes : List ℕ) (value : Value) (rest : List ℕ) → AreBytes bytes → table_at bytes ≡ Some (value, rest)
    → (5 ∷ bytes ≡ value_text value ++ rest) × IsSpellable value × AreBytes rest
unfolding table_at value_text
table_takes bytes value rest are e =
    let d = bind_some (holder_at bytes) _ (value, rest) e in
    let x = bind_some (counted_at entry_at 4 d.0.1) _ (value, rest) d.2 in
    let g = where_some (are_distinct (keys_of x.0.0)) (Table x.0.0 d.0.0, x.0.1) (value, rest) x.2 in
    let default = holders_read.takes bytes d.0.0 d.0.1 are d.1 in
    let pairs = (counted_read entries_read 4).takes d.0.1 x.0.0 x.0.1 default.left x.1 in
    subst (λ (p : Value × List ℕ). (5 ∷ bytes ≡ value_text p.0 ++ p.1) × IsSpellable p.0 × AreBytes p.1) g.1 (
      ap (λ r. 5 ∷ r) (default.is ∙ ap (λ r. holder_text d.0.0 ++ r) pairs.is
          ∙ sym (append_assoc (holder_text d.0.0) (counted_text 4 entry_text x.0.0) x.0.1)),
      (default.fits, pairs.fits, distinct_is (keys_of x.0.0) g.0),
      pairs.left,
    )

value_by_takes : (kind : ℕ) (bytes : List ℕ) (value : Value) (rest : List ℕ) → AreBytes bytes → value_by kind bytes ≡ Some (value, rest)
    → (kind ∷ bytes ≡ value_text value ++ rest) × IsSpellable value × AreBytes rest
unfolding value_by
value_by_takes kind bytes value rest are e =
    chosen _ _ _ e (λ is x. let t = tads_takes bytes value rest are x in (ap (λ k. k ∷ bytes) (eqb-true kind 1 is) ∙ t.0, t.1, t.2)) (λ e.
    chosen _ _ _ e (λ is x. let t = string_takes bytes value rest are x in (ap (λ k. k ∷ bytes) (eqb-true kind 2 is) ∙ t.0, t.1, t.2)) (λ e.
    chosen _ _ _ e (λ is x. let t = list_takes bytes value rest are x in (ap (λ k. k ∷ bytes) (eqb-true kind 3 is) ∙ t.0, t.1, t.2)) (λ e.
    chosen _ _ _ e (λ is x. let t = vector_takes bytes value rest are x in (ap (λ k. k ∷ bytes) (eqb-true kind 4 is) ∙ t.0, t.1, t.2)) (λ e.
    chosen _ _ _ e (λ is x. let t = table_takes bytes value rest are x in (ap (λ k. k ∷ bytes) (eqb-true kind 5 is) ∙ t.0, t.1, t.2)) (λ e.
    absurd cc)))))

value_takes : (bytes : List ℕ) (value : Value) (rest : List ℕ) → AreBytes bytes → value_at bytes ≡ Some (value, rest)
    → Took value_text IsSpellable bytes value rest
unfolding value_at
value_takes bytes value rest are e =
    let k = bind_some (byte_at bytes) _ (value, rest) e in
    let first = byte_takes bytes k.0.0 k.0.1 are k.1 in
    let t = value_by_takes k.0.0 k.0.1 value rest first.1 k.2 in
    record { is = first.0 ∙ t.0; fits = t.1; left = t.2 }

value_again : (value : Value) (rest : List ℕ) → IsSpellable value → value_at (value_text value ++ rest) ≡ Some (value, rest)
unfolding value_at value_by value_text string_at list_at vector_at table_at
value_again (Tads supers class props) rest fits = tads_again supers class props rest fits
value_again (Text bytes) rest fits = rw (texts_read.again bytes rest fits) refl
value_again (Items items) rest fits = rw ((counted_read holders_read 2).again items rest fits) refl
value_again (Vector items) rest fits = rw ((counted_read holders_read 2).again items rest fits) refl
value_again (Table pairs default) rest fits =
    rw (
      append_assoc (holder_text default) (counted_text 4 entry_text pairs) rest,
      holders_read.again default (counted_text 4 entry_text pairs ++ rest) fits.0,
      (counted_read entries_read 4).again pairs rest fits.1,
      is_distinct (keys_of pairs) fits.2,
    ) refl

pub values_read : Reads value_text IsSpellable value_at
values_read = record { takes = value_takes; again = value_again }
