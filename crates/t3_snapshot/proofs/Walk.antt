-- A walk over objects by rising number meets each.
use Rattle.std.proofs.Common.{◌≡◌, ℕ, ◌<◌, ◌≤◌, cond, List, [], ◌∷◌, ◌++◌, map, Option, Some, None, IsTrue, IsSome, refl, sym, ap, subst, ◌∙◌, inl, inr, append_assoc, arith}
use Rattle.std.specs.Prelude.{◌⊎◌}
use Rattle.std.specs.FinMap.{get, entries, keys, find, is_sorted, get-entries}
use Rattle.std.specs.FinMap.Entries.{below_all}
use Rattle.std.specs.Ordering.{eq_by_cmp, nat_cmp}
use Rattle.std.specs.List.{AllByRecursion}
use Rattle.std.proofs.lemmas.Bool.{cases_lt}
use Rattle.std.proofs.lemmas.List.{append-nil, map-append}
use Rattle.t3_store.specs.Value.{Value, Objects, IsNextAbove}
use Rattle.t3_store.proofs.Rows.{same-itself}
use Rattle.t3_snapshot.proofs.Sorted.{differ, differ_below, and_parts, all_below, in_order}

skip : (n q : ℕ) (fs gs : List (ℕ × Value)) → n < q → AllByRecursion (λ e. e.0 ≤ n) fs → find nat_cmp q (fs ++ gs) ≡ find nat_cmp q gs
skip n q [] gs lt upto = refl
skip n q (e ∷ fs) gs lt upto =
    ap (λ b. cond b (Some e.1) (find nat_cmp q (fs ++ gs))) (differ q e.0 (omega (arith, upto.0))) ∙ skip n q fs gs lt upto.1

pub none_above : (q : ℕ) (gs : List (ℕ × Value)) → AllByRecursion (λ e. q < e.0) gs → find nat_cmp q gs ≡ None
none_above q [] above = refl
none_above q (e ∷ gs) above = ap (λ b. cond b (Some e.1) (find nat_cmp q gs)) (differ_below q e.0 above.0) ∙ none_above q gs above.1

sorted_tail : (fs : List (ℕ × Value)) (h : ℕ × Value) (t : List (ℕ × Value)) → IsTrue (is_sorted nat_cmp (fs ++ h ∷ t))
    → AllByRecursion (λ e. h.0 < e.0) t
sorted_tail [] h t s = all_below h.0 t (and_parts (below_all nat_cmp h.0 t) (is_sorted nat_cmp t) s).0
sorted_tail (e ∷ fs) h t s = sorted_tail fs h t (and_parts (below_all nat_cmp e.0 (fs ++ h ∷ t)) (is_sorted nat_cmp (fs ++ h ∷ t)) s).1

-- so far as the number, the numbers are those of the objects
pub record IsWalked (state : Objects) (numbers : List ℕ) (number : ℕ) : Type 0 where
  pub done : List (ℕ × Value)
  pub rest : List (ℕ × Value)
  pub is : entries state ≡ done ++ rest
  pub are : numbers ≡ map (λ e. e.0) done
  pub upto : AllByRecursion (λ e. e.0 ≤ number) done
  pub above : AllByRecursion (λ e. number < e.0) rest

sorted_so : (state : Objects) (done rest : List (ℕ × Value)) → entries state ≡ done ++ rest → IsTrue (is_sorted nat_cmp (done ++ rest))
sorted_so state done rest is = subst (λ es. IsTrue (is_sorted nat_cmp es)) is (in_order state)

found_at : (state : Objects) (done : List (ℕ × Value)) (h : ℕ × Value) (t : List (ℕ × Value)) (number : ℕ) → entries state ≡ done ++ h ∷ t
    → AllByRecursion (λ e. e.0 ≤ number) done → number < h.0
    → get state h.0 ≡ Some h.1
found_at state done h t number is upto lt =
    get-entries state h.0 ∙ ap (find nat_cmp h.0) is ∙ skip number h.0 done (h ∷ t) lt upto
    ∙ ap (λ b. cond b (Some h.1) (find nat_cmp h.0 t)) (same-itself h.0)

at_rest : (state : Objects) (done rest : List (ℕ × Value)) (number q : ℕ) → entries state ≡ done ++ rest
    → AllByRecursion (λ e. e.0 ≤ number) done → number < q
    → get state q ≡ find nat_cmp q rest
at_rest state done rest number q is upto lt = get-entries state q ∙ ap (find nat_cmp q) is ∙ skip number q done rest lt upto

upto_more : (number next : ℕ) (done : List (ℕ × Value)) (h : ℕ × Value) → number ≤ next → h.0 ≤ next
    → AllByRecursion (λ e. e.0 ≤ number) done
    → AllByRecursion (λ e. e.0 ≤ next) (done ++ h ∷ [])
upto_more number next [] h le here upto = (here, tt)
upto_more number next (e ∷ done) h le here upto = (omega (arith, upto.0), upto_more number next done h le here upto.1)

-- the next number is that of the first that is left
first_is : (state : Objects) (done : List (ℕ × Value)) (h : ℕ × Value) (t : List (ℕ × Value)) (number next : ℕ)
    → entries state ≡ done ++ h ∷ t
    → AllByRecursion (λ e. e.0 ≤ number) done → number < h.0 → IsNextAbove state number (Some next) → h.0 ≡ next
first_is state done h t number next is upto above found = by (cases_lt h.0 next)
  where
    later : (next < h.0) ⊎ (h.0 ≤ next) → next ≤ h.0 → h.0 ≡ next
    later (inl lt) le =
        let none = at_rest state done (h ∷ t) number next is upto found.0
        ∙ none_above next (h ∷ t) (lt, weaker h.0 t (sorted_tail done h t (sorted_so state done (h ∷ t) is)) lt) in
        let some = found.1 in
        absurd (some_none (get state next) some none)
      where
        weaker : (x : ℕ) (es : List (ℕ × Value)) → AllByRecursion (λ e. x < e.0) es → next < x → AllByRecursion (λ e. next < e.0) es
        weaker x [] all lt = tt
        weaker x (e ∷ es) all lt = (omega (arith, all.0), weaker x es all.1 lt)

        some_none : (o : Option Value) → IsSome o → o ≡ None → ⊥
        some_none None some none = absurd cc
        some_none (Some v) some none = absurd cc
    later (inr ge) le = omega arith

    by : (h.0 < next) ⊎ (next ≤ h.0) → h.0 ≡ next
    by (inl lt) =
        let none = found.2 h.0 above lt in
        let some = found_at state done h t number is upto above in
        absurd cc
    by (inr le) = later (cases_lt next h.0) le

no_some : IsSome {T = Value} None → ⊥
no_some some = absurd cc

pub walk_more : (state : Objects) (numbers : List ℕ) (number next : ℕ) → IsWalked state numbers number
    → IsNextAbove state number (Some next) → IsWalked state (numbers ++ next ∷ []) next
walk_more state numbers number next walked found = by walked.rest walked.is walked.above
  where
    by : (rest : List (ℕ × Value)) → entries state ≡ walked.done ++ rest → AllByRecursion (λ e. number < e.0) rest
        → IsWalked state (numbers ++ next ∷ []) next
    by [] is above =
        let none : get state next ≡ None = at_rest state walked.done [] number next is walked.upto found.0 in
        let some = found.1 in
        absurd (no_some (subst IsSome none some))
    by (h ∷ t) is above =
        let first = first_is state walked.done h t number next is walked.upto above.0 found in
        record {
          done = walked.done ++ h ∷ [];
          rest = t;
          is = is ∙ sym (append_assoc walked.done (h ∷ []) t);
          are = ap (λ x. x ++ next ∷ []) walked.are ∙ ap (λ k. map (λ e. e.0) walked.done ++ k ∷ []) (sym first)
              ∙ sym (map-append (λ (e : ℕ × Value). e.0) walked.done (h ∷ []));
          upto = upto_more number next walked.done h (let lt = found.0 in omega arith) (omega (arith, first)) walked.upto;
          above = subst (λ k. AllByRecursion (λ e. k < e.0) t) first (sorted_tail walked.done h t (sorted_so state walked.done (h ∷ t) is));
        }

pub all_walked : (state : Objects) (numbers : List ℕ) (number : ℕ) → IsWalked state numbers number → IsNextAbove state number None
    → numbers ≡ keys state
all_walked state numbers number walked none = by walked.rest walked.is walked.above
  where
    by : (rest : List (ℕ × Value)) → entries state ≡ walked.done ++ rest → AllByRecursion (λ e. number < e.0) rest → numbers ≡ keys state
    by [] is above = walked.are ∙ ap (map (λ e. e.0)) (sym (append-nil walked.done) ∙ sym is)
    by (h ∷ t) is above =
        let gone = none h.0 above.0 in
        let some = found_at state walked.done h t number is walked.upto above.0 in
        absurd cc

pub walk_starts : (state : Objects) → get state 0 ≡ None → IsWalked state [] 0
walk_starts state none = record {
  done = [];
  rest = entries state;
  is = refl;
  are = refl;
  upto = tt;
  above = positive (entries state) (sorted_so state [] (entries state) refl) (sym (get-entries state 0) ∙ none);
}
  where
    positive : (es : List (ℕ × Value)) → IsTrue (is_sorted nat_cmp es) → find nat_cmp 0 es ≡ None → AllByRecursion (λ e. 0 < e.0) es
    positive [] s gone = tt
    positive (e ∷ es) s gone =
        (first (cases_lt 0 e.0), behind es (all_below e.0 es (and_parts (below_all nat_cmp e.0 es) (is_sorted nat_cmp es) s).0))
      where
        first : (0 < e.0) ⊎ (e.0 ≤ 0) → 0 < e.0
        first (inl lt) = lt
        first (inr le) =
            let same : e.0 ≡ 0 = omega arith in
            let found : find nat_cmp 0 (e ∷ es) ≡ Some e.1 =
            ap (λ k. cond (eq_by_cmp nat_cmp 0 k) (Some e.1) (find nat_cmp 0 es)) same
            ∙ ap (λ b. cond b (Some e.1) (find nat_cmp 0 es)) (same-itself 0) in
            absurd cc

        behind : (fs : List (ℕ × Value)) → AllByRecursion (λ f. e.0 < f.0) fs → AllByRecursion (λ f. 0 < f.0) fs
        behind [] all = tt
        behind (f ∷ fs) all = (omega (arith, all.0), behind fs all.1)
