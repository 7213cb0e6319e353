-- A number that stands twice.
use Rattle.std.proofs.Common.{◌≡◌, ℕ, zero, suc, ◌<◌, Bool, true, false, ◌||◌, List, [], ◌∷◌, not, length, map, take, get_or, nat_eq, refl, sym, ap, ◌∙◌, arith}
use Rattle.std.proofs.lemmas.Bool.{eqb-true, eq-eqb}
use Rattle.std.proofs.lemmas.List.{take-map, get_or-map, length-map}
use Rattle.std.specs.List.{IsDistinct, AllByRecursion, list_any}
use Rattle.t3_tadsobj.specs.declared.props.PropValue.{PropValue}

here_false : (P : ℕ → Type 0) (xs : List ℕ) (i d : ℕ) → AllByRecursion P xs → i < length xs → P (get_or xs i d)
here_false P [] i d all less = absurd (omega arith)
here_false P (x ∷ xs) zero d all less = all.0
here_false P (x ∷ xs) (suc i) d all less = here_false P xs i d all.1 (omega arith)

-- one that is among those before it
pub not_distinct : (xs : List ℕ) (i d : ℕ) → i < length xs → list_any (λ y. nat_eq (get_or xs i d) y) (take i xs) ≡ true
    → ¬ IsDistinct nat_eq xs
unfolding IsDistinct
not_distinct [] i d less among distinct = absurd (omega arith)
not_distinct (x ∷ xs) zero d less among distinct = absurd cc
not_distinct (x ∷ xs) (suc i) d less among distinct =
    by_test (nat_eq (get_or xs i d) x) refl among
    (here_false (λ y. nat_eq x y ≡ false) xs i d distinct.0 (omega arith))
    (λ later. not_distinct xs i d (omega arith) later distinct.1)
  where
    by_test : (b : Bool) → nat_eq (get_or xs i d) x ≡ b → (b || list_any (λ y. nat_eq (get_or xs i d) y) (take i xs)) ≡ true
        → nat_eq x (get_or xs i d) ≡ false
        → (list_any (λ y. nat_eq (get_or xs i d) y) (take i xs) ≡ true → ⊥) → ⊥
    by_test true is among apart none =
        let same : nat_eq x (get_or xs i d) ≡ true = eq-eqb x (get_or xs i d) (sym (eqb-true (get_or xs i d) x is)) in
        absurd cc
    by_test false is among apart none = none among

-- a property whose number is among those before it
pub repeated : (props : List PropValue) (i : ℕ) (d : PropValue) (keys : List ℕ) (added : Bool) → i < length props
    → keys ≡ map (λ prop. prop.number) (take i props)
    → added ≡ not (list_any (λ y. nat_eq (get_or props i d).number y) keys) → added ≡ false
    → ¬ IsDistinct nat_eq (map (λ prop. prop.number) props)
repeated props i d keys added less keys_are is absent =
    let number : PropValue → ℕ = λ prop. prop.number in
    let front : keys ≡ take i (map number props) = keys_are ∙ sym (take-map number i props) in
    let here : get_or (map number props) i d.number ≡ (get_or props i d).number = get_or-map number props i d d.number less in
    let among : list_any (λ y. nat_eq (get_or props i d).number y) keys ≡ true =
    by_not (list_any (λ y. nat_eq (get_or props i d).number y) keys) (sym is ∙ absent) in
    let found : list_any (λ y. nat_eq (get_or (map number props) i d.number) y) (take i (map number props)) ≡ true =
    ap (λ n. list_any (λ y. nat_eq n y) (take i (map number props))) here
    ∙ ap (list_any (λ y. nat_eq (get_or props i d).number y)) (sym front) ∙ among in
    not_distinct (map number props) i d.number (omega (arith, less, length-map props number)) found
  where
    by_not : (b : Bool) → not b ≡ false → b ≡ true
    by_not true is = refl
    by_not false is = absurd cc
