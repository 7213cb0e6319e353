-- What a finite map answers after a key was set or its value changed. Other crates may use these.
use Rattle.std.proofs.Common.{◌≡◌, ◌∙◌, ap, sym, refl, ℕ, ◌+◌, ◌-◌, ◌<◌, ◌≤◌, Bool, true, false, cond, ◌&&◌, T, List, [], ◌∷◌, length, Option, None, Some, is_some, true≢false, arith}
use Rattle.std.specs.declared.cmp.Ordering.{Ordering}
use Rattle.std.specs.declared.cmp.Ordering.TheVariants.{Less, Equal, Greater}
use Rattle.std.specs.Ordering.{eq_by_cmp, is_eq, is_lt}
use Rattle.std.specs.Option.{option_map}
use Rattle.std.specs.Cmp.{IsTotalOrder, Equal-is, eq_by_cmp_equiv}
use Rattle.std.specs.FinMap.{FinMap, empty, entries, len, len-empty, len-entries, len-insert, len-remove, get, insert, remove, get-insert, get-remove, get-entries, get_tied, IsAntisymmetric, same_map}
use Rattle.std.specs.FinMap.Entries.{find, below_all}
use Rattle.t3_undo.specs.Objects.{set_at, adjust, adjusted}

-- one for a value, and nothing for none
abbrev pub one_if : {X : Type 0} → Option X → ℕ
one_if o = cond (is_some o) 1 0

pub one_if-small : {X : Type 0} (o : Option X) → one_if o ≤ 1
one_if-small None = omega arith
one_if-small (Some x) = omega arith

module _ {K X : Type 0} {R : K → K → Ordering} (total : IsTotalOrder R) where
  pub get-set_at : (m : FinMap R X) (k : K) (o : Option X) (q : K) → get (set_at m k o) q ≡ cond (eq_by_cmp R q k) o (get m q)
  unfolding set_at
  get-set_at m k None q = get-remove total m k q
  get-set_at m k (Some v) q = get-insert total m k v q

  -- a key that ties has the same value
  pub get-tied : (m : FinMap R X) (q k : K) → eq_by_cmp R q k ≡ true → get m k ≡ get m q
  get-tied m q k e = get_tied total m q k ((Equal-is (R q k)).0 e)

  get-adjusted : (m : FinMap R X) (k : K) (f : X → X) (q : K) (o : Option X) → get m k ≡ o → (b : Bool) → eq_by_cmp R q k ≡ b
      → get (adjusted m k f o) q ≡ cond b (option_map f (get m q)) (get m q)
  get-adjusted m k f q None is true t = (sym (get-tied m q k t) ∙ is) ∙ sym (ap (option_map f) (sym (get-tied m q k t) ∙ is))
  get-adjusted m k f q None is false t = refl
  get-adjusted m k f q (Some v) is true t =
      get-insert total m k (f v) q ∙ ap (λ b. cond b (Some (f v)) (get m q)) t ∙ sym (ap (option_map f) (sym (get-tied m q k t) ∙ is))
  get-adjusted m k f q (Some v) is false t = get-insert total m k (f v) q ∙ ap (λ b. cond b (Some (f v)) (get m q)) t

  pub get-adjust : (m : FinMap R X) (k : K) (f : X → X) (q : K) → get (adjust m k f) q
      ≡ cond (eq_by_cmp R q k) (option_map f (get m q)) (get m q)
  unfolding adjust
  get-adjust m k f q = get-adjusted m k f q (get m k) refl (eq_by_cmp R q k) refl

  -- a map that has a key has an entry
  len-filled : (m : FinMap R X) (k : K) (v : X) → get m k ≡ Some v → 0 < len m
  len-filled m k v there = by (entries m) refl
    where
      by : (es : List (K × X)) → entries m ≡ es → 0 < len m
      by [] e = absurd (true≢false (sym (ap is_some (sym (get-entries m k ∙ ap (find R k) e) ∙ there))))
      by (x ∷ xs) e = let a = len-entries m in let b = ap length e in omega (arith, a, b)

  -- how many keys there are once one is set or taken away
  pub len-set_at : (m : FinMap R X) (k : K) (o : Option X) → len (set_at m k o) + one_if (get m k) ≡ len m + one_if o
  unfolding set_at
  len-set_at m k None = by (get m k) refl (len-remove total m k)
    where
      by : (was : Option X) → get m k ≡ was → len (remove m k) ≡ cond (is_some (get m k)) (len m - 1) (len m)
          → len (remove m k) + one_if (get m k) ≡ len m + 0
      by None is e = let f = e ∙ ap (λ x. cond (is_some x) (len m - 1) (len m)) is in let g = ap one_if is in omega (arith, f, g)
      by (Some v) is e =
          let f = e ∙ ap (λ x. cond (is_some x) (len m - 1) (len m)) is in
          let g = ap one_if is in
          let h = len-filled m k v is in
          omega (arith, f, g, h)
  len-set_at m k (Some v) = by (get m k) refl (len-insert total m k v)
    where
      by : (was : Option X) → get m k ≡ was → len (insert m k v) ≡ cond (is_some (get m k)) (len m) (len m + 1)
          → len (insert m k v) + one_if (get m k) ≡ len m + 1
      by None is e = let f = e ∙ ap (λ x. cond (is_some x) (len m) (len m + 1)) is in let g = ap one_if is in omega (arith, f, g)
      by (Some w) is e = let f = e ∙ ap (λ x. cond (is_some x) (len m) (len m + 1)) is in let g = ap one_if is in omega (arith, f, g)

  -- what stood at a key put back
  pub set_at-back : IsAntisymmetric R → (m : FinMap R X) (k : K) (o : Option X) → set_at (set_at m k o) k (get m k) ≡ m
  set_at-back same m k o = same_map total same _ m (λ q. get-set_at (set_at m k o) k (get m k) q ∙ by q (eq_by_cmp R q k) refl)
    where
      by : (q : K) (b : Bool) → eq_by_cmp R q k ≡ b → cond b (get m k) (get (set_at m k o) q) ≡ get m q
      by q true t = get-tied m q k t
      by q false t = get-set_at m k o q ∙ ap (λ b. cond b o (get m q)) t

  -- and where both are known by equations
  pub set_at-restored : IsAntisymmetric R → (m new : FinMap R X) (k : K) (o old : Option X) → new ≡ set_at m k o → old ≡ get m k
      → set_at new k old ≡ m
  set_at-restored same m new k o old is was = (λ i. set_at (is i) k (was i)) ∙ set_at-back same m k o

  -- what is absent, taken away
  pub set_at-absent : IsAntisymmetric R → (m : FinMap R X) (k : K) → get m k ≡ None → set_at m k None ≡ m
  set_at-absent same m k none = same_map total same _ m (λ q. get-set_at m k None q ∙ by q (eq_by_cmp R q k) refl)
    where
      by : (q : K) (b : Bool) → eq_by_cmp R q k ≡ b → cond b None (get m q) ≡ get m q
      by q true t = sym none ∙ get-tied m q k t
      by q false t = refl

  -- a key set twice, and two keys in either order
  pub set_at-again : IsAntisymmetric R → (m : FinMap R X) (k : K) (o p : Option X) → set_at (set_at m k o) k p ≡ set_at m k p
  set_at-again same m k o p =
      same_map total same _ _ (λ q. get-set_at (set_at m k o) k p q ∙ by q (eq_by_cmp R q k) refl ∙ sym (get-set_at m k p q))
    where
      by : (q : K) (b : Bool) → eq_by_cmp R q k ≡ b → cond b p (get (set_at m k o) q) ≡ cond b p (get m q)
      by q true t = refl
      by q false t = get-set_at m k o q ∙ ap (λ b. cond b o (get m q)) t

  pub set_at-apart : IsAntisymmetric R → (m : FinMap R X) (k l : K) (o p : Option X) → eq_by_cmp R k l ≡ false
      → set_at (set_at m k o) l p ≡ set_at (set_at m l p) k o
  set_at-apart same m k l o p apart =
      same_map total same _ _ (λ q.
      get-set_at (set_at m k o) l p q
      ∙ ap (cond (eq_by_cmp R q l) p) (get-set_at m k o q)
      ∙ by q (eq_by_cmp R q k) refl (eq_by_cmp R q l) refl
      ∙ sym (get-set_at (set_at m l p) k o q ∙ ap (cond (eq_by_cmp R q k) o) (get-set_at m l p q)))
    where
      by : (q : K) (a : Bool) → eq_by_cmp R q k ≡ a → (b : Bool) → eq_by_cmp R q l ≡ b
          → cond b p (cond a o (get m q)) ≡ cond a o (cond b p (get m q))
      by q true s true t = absurd (true≢false (sym t ∙ (eq_by_cmp_equiv total).congr q k l s ∙ apart))
      by q true s false t = refl
      by q false s true t = refl
      by q false s false t = refl

-- a map without keys has no entries
no_length : {X : Type 0} (xs : List X) → length xs ≡ 0 → xs ≡ []
no_length [] e = refl
no_length (x ∷ xs) e = absurd (omega arith)

pub first : (a b : Bool) → T (a && b) → T a
first true b h = tt
first false b h = h

pub second : (a b : Bool) → T (a && b) → T b
second true b h = h
second false b h = absurd h

module _ {K X : Type 0} (R : K → K → Ordering) where
  -- what is below all others isn't found among them
  pub find-below : (x : K) (es : List (K × X)) → T (below_all R x es) → find R x es ≡ None
  find-below x [] below = refl
  find-below x (e ∷ es) below = by (find-below x es) (R x e.0) below
    where
      by : (T (below_all R x es) → find R x es ≡ None) → (r : Ordering) → T (is_lt r && below_all R x es)
          → cond (is_eq r) (Some e.1) (find R x es) ≡ None
      by rest Less below = rest below
      by rest Equal below = absurd below
      by rest Greater below = absurd below

pub entries-empty : {K X : Type 0} (R : K → K → Ordering) → entries (empty {K = K} {X = X} {R = R}) ≡ []
entries-empty {K} {X} R = no_length _ (sym (len-entries (empty {K = K} {X = X} {R = R})) ∙ len-empty R X)
