-- The first of a list that breaks a rule: there is one at most, and there is one unless all keep it. Other crates may use what stands here.
use Rattle.std.proofs.Common.{◌≡◌, ◌⊎◌, inl, inr, List, [], ◌∷◌, ◌++◌, refl, sym, ap, ◌∙◌, subst}
use Rattle.std.specs.List.{AllByRecursion}
use Rattle.t3_pools.specs.First.{IsFirst}

-- what breaks a rule after others that keep it is the first that does
pub first_after : {X : Type 0} (Broken : X → Type 0) (before after : List X) (first : X)
    → AllByRecursion (λ item. ¬ Broken item) before → Broken first → IsFirst Broken (before ++ first ∷ after) first
first_after Broken before after first kept broken = record { before = before; after = after; is = refl; kept = kept; broken = broken }

-- of items that all keep a rule none is the first that breaks it
pub none_first : {X : Type 0} (Broken : X → Type 0) (items : List X) → AllByRecursion (λ item. ¬ Broken item) items → (first : X)
    → ¬ IsFirst Broken items first
none_first {X = X} Broken items all first is =
    at_first is.before items all is.is
  where
    at_first : (before xs : List X) → AllByRecursion (λ item. ¬ Broken item) xs → xs ≡ before ++ first ∷ is.after → ⊥
    at_first [] [] all e = absurd cc
    at_first [] (x ∷ xs) all e = all.0 (subst Broken (cc e) is.broken)
    at_first (b ∷ before) [] all e = absurd cc
    at_first (b ∷ before) (x ∷ xs) all e = at_first before xs all.1 (cc e)

one_split : {X : Type 0} (Broken : X → Type 0) (items before other : List X) (x y : X) (after rest : List X)
    → items ≡ before ++ x ∷ after → items ≡ other ++ y ∷ rest → AllByRecursion (λ item. ¬ Broken item) before
    → AllByRecursion (λ item. ¬ Broken item) other → Broken x → Broken y → x ≡ y
one_split Broken items [] [] x y after rest p q kept too at_x at_y = let both : x ∷ after ≡ y ∷ rest = sym p ∙ q in cc
one_split Broken items [] (o ∷ other) x y after rest p q kept too at_x at_y =
    let both : x ∷ after ≡ o ∷ (other ++ y ∷ rest) = sym p ∙ q in
    let here : x ≡ o = cc in
    absurd (too.0 (subst Broken here at_x))
one_split Broken items (b ∷ before) [] x y after rest p q kept too at_x at_y =
    let both : b ∷ (before ++ x ∷ after) ≡ y ∷ rest = sym p ∙ q in
    let here : y ≡ b = cc in
    absurd (kept.0 (subst Broken here at_y))
one_split Broken items (b ∷ before) (o ∷ other) x y after rest p q kept too at_x at_y =
    let both : b ∷ (before ++ x ∷ after) ≡ o ∷ (other ++ y ∷ rest) = sym p ∙ q in
    let tails : before ++ x ∷ after ≡ other ++ y ∷ rest = cc in
    one_split Broken (before ++ x ∷ after) before other x y after rest refl tails kept.1 too.1 at_x at_y

-- there is one first at most
pub one_first : {X : Type 0} (Broken : X → Type 0) (items : List X) (x y : X) → IsFirst Broken items x → IsFirst Broken items y → x ≡ y
one_first Broken items x y a b =
    one_split Broken items a.before b.before x y a.after b.after a.is b.is a.kept b.kept a.broken b.broken

-- there is a first that breaks a rule, or all keep it
pub first_or_all : {X : Type 0} (Broken : X → Type 0) → ((x : X) → Broken x ⊎ ¬ Broken x) → (items : List X)
    → ((first : X) × IsFirst Broken items first) ⊎ AllByRecursion (λ item. ¬ Broken item) items
first_or_all Broken decide [] = inr tt
first_or_all Broken decide (x ∷ items) =
    elim (decide x) [
      | inl broken ↦ inl (x, record { before = []; after = items; is = refl; kept = tt; broken = broken })
      | inr keeps ↦ elim (first_or_all Broken decide items) [
        | inl found ↦ inl (
          found.0,
          record {
            before = x ∷ found.1.before;
            after = found.1.after;
            is = ap (λ xs. x ∷ xs) found.1.is;
            kept = (keeps, found.1.kept);
            broken = found.1.broken;
          },
        )
        | inr all ↦ inr (keeps, all)
      ]
    ]
