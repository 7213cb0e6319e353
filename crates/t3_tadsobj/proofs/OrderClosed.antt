-- Each end of a preorder list has the superclasses of what it has.
use Rattle.std.proofs.Common.{◌≡◌, ℕ, zero, suc, ◌⊎◌, inl, inr, ⊎_elim, Option, Some, None, List, [], ◌∷◌, ◌++◌, sym, refl}
use Rattle.std.specs.List.{AllByRecursion, flat_map}
use Rattle.t3_tadsobj.specs.Order.{SupersAt, list_from, preorder}
use Rattle.t3_tadsobj.proofs.OrderMembers.{Has, Has-here, Has-cases, Has-left, Has-right, Has-either, weaker, both}
use Rattle.t3_tadsobj.proofs.OrderDepth.{EndsWithin}

-- not live, or in the list
abbrev pub IsIn : SupersAt → List ℕ → ℕ → Type 0
IsIn at list n = (at n ≡ None) ⊎ Has list n

-- whatever the list has, it has its live superclasses too
abbrev pub IsClosed : SupersAt → List ℕ → Type 0
IsClosed at list = (n : ℕ) → Has list n → (supers : List ℕ) → at n ≡ Some supers → AllByRecursion (IsIn at list) supers

in_left : (at : SupersAt) (xs ys : List ℕ) (n : ℕ) → IsIn at xs n → IsIn at (xs ++ ys) n
in_left at xs ys n is = ⊎_elim (λ missing. inl missing) (λ has. inr (Has-left xs ys n has)) is

in_right : (at : SupersAt) (xs ys : List ℕ) (n : ℕ) → IsIn at ys n → IsIn at (xs ++ ys) n
in_right at xs ys n is = ⊎_elim (λ missing. inl missing) (λ has. inr (Has-right xs ys n has)) is

closed_nil : (at : SupersAt) → IsClosed at []
closed_nil at n has supers is = absurd cc

closed_append : (at : SupersAt) (xs ys : List ℕ) → IsClosed at xs → IsClosed at ys → IsClosed at (xs ++ ys)
closed_append at xs ys left right n has supers is =
    ⊎_elim
    (λ in_xs. weaker (IsIn at xs) (IsIn at (xs ++ ys)) (in_left at xs ys) supers (left n in_xs supers is))
    (λ in_ys. weaker (IsIn at ys) (IsIn at (xs ++ ys)) (in_right at xs ys) supers (right n in_ys supers is))
    (Has-either xs ys n has)

-- a number before a closed list that has its superclasses
closed_cons : (at : SupersAt) (n : ℕ) (list supers : List ℕ) → at n ≡ Some supers → AllByRecursion (IsIn at list) supers
    → IsClosed at list → IsClosed at (n ∷ list)
closed_cons at n list supers are all closed m has those is =
    ⊎_elim
    (λ same.
    let equal : those ≡ supers = cc (is, are, same) in
    rw equal (weaker (IsIn at list) (IsIn at (n ∷ list)) (in_right at (n ∷ []) list) supers all))
    (λ later. weaker (IsIn at list) (IsIn at (n ∷ list)) (in_right at (n ∷ []) list) those (closed m later those is))
    (Has-cases n m list has)

-- ---- the ends of a list

-- a list that is cut in two ways
pub data Cut (a b c d : List ℕ) : Type 0 where
  within : (mid : List ℕ) → a ≡ c ++ mid → d ≡ mid ++ b → Cut a b c d
  past : (mid : List ℕ) → c ≡ a ++ mid → b ≡ mid ++ d → Cut a b c d

pub cut : (a b c d : List ℕ) → a ++ b ≡ c ++ d → Cut a b c d
cut [] b c d is = past c refl is
cut (x ∷ a) b [] d is = within (x ∷ a) refl (sym is)
cut (x ∷ a) b (y ∷ c) d is =
    let heads : x ≡ y = cc in
    let tails : a ++ b ≡ c ++ d = cc in
    elim (cut a b c d tails) [
      | within mid is_a is_d ↦ within mid (cc (heads, is_a)) is_d
      | past mid is_c is_b ↦ past mid (cc (heads, is_c)) is_b
    ]

head_in : (at : SupersAt) (depth n : ℕ) (o : Option (List ℕ)) → at n ≡ o → EndsWithin at depth n → IsIn at (preorder at depth n) n
unfolding preorder
head_in at depth n None is ends = inl is
head_in at zero n (Some supers) is ends = inl ends
head_in at (suc depth) n (Some supers) is ends = inr (rw is (Has-here n (flat_map (preorder at depth) supers)))

-- the live ones among numbers whose walks end are in their joined lists
heads_in : (at : SupersAt) (depth : ℕ) (supers : List ℕ) → AllByRecursion (EndsWithin at depth) supers
    → AllByRecursion (IsIn at (flat_map (preorder at depth) supers)) supers
heads_in at depth [] all = tt
heads_in at depth (n ∷ supers) all = (
  in_left at (preorder at depth n) (flat_map (preorder at depth) supers) n (head_in at depth n (at n) refl all.0),
  weaker (IsIn at (flat_map (preorder at depth) supers)) (IsIn at (preorder at depth n ++ flat_map (preorder at depth) supers))
      (in_right at (preorder at depth n) (flat_map (preorder at depth) supers)) supers (heads_in at depth supers all.1),
)

abbrev EndIsClosed : SupersAt → ℕ → ℕ → Type 0
EndIsClosed at depth n = (prefix end : List ℕ) → preorder at depth n ≡ prefix ++ end → IsClosed at end

closed_list : (at : SupersAt) (depth : ℕ) → ((n : ℕ) → EndsWithin at depth n → EndIsClosed at depth n) → (supers : List ℕ)
    → AllByRecursion (EndsWithin at depth) supers
    → (prefix end : List ℕ) → flat_map (preorder at depth) supers ≡ prefix ++ end → IsClosed at end
closed_list at depth here [] all [] end is = rw (← is) (closed_nil at)
closed_list at depth here [] all (x ∷ prefix) end is = absurd cc
closed_list at depth here (n ∷ supers) all prefix end is =
    elim (cut (preorder at depth n) (flat_map (preorder at depth) supers) prefix end is) [
      | within mid is_first is_end ↦ rw is_end (closed_append at mid (flat_map (preorder at depth) supers)
          (here n all.0 prefix mid is_first) (closed_list at depth here supers all.1 [] (flat_map (preorder at depth) supers) refl))
      | past mid is_prefix is_rest ↦ closed_list at depth here supers all.1 mid end is_rest
    ]

closed_from : (at : SupersAt) (depth n : ℕ) → ((m : ℕ) → EndsWithin at depth m → EndIsClosed at depth m) → (o : Option (List ℕ)) → at n ≡ o
    → ((supers : List ℕ) → o ≡ Some supers → AllByRecursion (EndsWithin at depth) supers)
    → (prefix end : List ℕ) → list_from (preorder at depth) n o ≡ prefix ++ end → IsClosed at end
closed_from at depth n here None are all [] end is = rw (← is) (closed_nil at)
closed_from at depth n here None are all (x ∷ prefix) end is = absurd cc
closed_from at depth n here (Some supers) are all [] end is =
    rw (← is) (closed_cons at n (flat_map (preorder at depth) supers) supers are (heads_in at depth supers (all supers refl))
    (closed_list at depth here supers (all supers refl) [] (flat_map (preorder at depth) supers) refl))
closed_from at depth n here (Some supers) are all (x ∷ prefix) end is =
    let tails : flat_map (preorder at depth) supers ≡ prefix ++ end = cc in closed_list at depth here supers
    (all supers refl) prefix end tails

-- each end of the preorder list of a number is closed
pub end_is_closed : (at : SupersAt) (depth n : ℕ) → EndsWithin at depth n → EndIsClosed at depth n
unfolding preorder
end_is_closed at zero n ends [] end is = rw (← is) (closed_nil at)
end_is_closed at zero n ends (x ∷ prefix) end is = absurd cc
end_is_closed at (suc depth) n ends prefix end is =
    closed_from at depth n (end_is_closed at depth) (at n) refl ends prefix end is

-- ---- what a closed list has

has_lists : (at : SupersAt) (depth : ℕ) (list : List ℕ) → ((n : ℕ) → IsIn at list n → AllByRecursion (Has list) (preorder at depth n))
    → (supers : List ℕ) → AllByRecursion (IsIn at list) supers → AllByRecursion (Has list) (flat_map (preorder at depth) supers)
has_lists at depth list here [] all = tt
has_lists at depth list here (n ∷ supers) all = both (Has list) (preorder at depth n) (flat_map (preorder at depth) supers)
    (here n all.0) (has_lists at depth list here supers all.1)

has_from : (at : SupersAt) (depth : ℕ) (list : List ℕ) → IsClosed at list
    → ((n : ℕ) → IsIn at list n → AllByRecursion (Has list) (preorder at depth n)) → (n : ℕ) (o : Option (List ℕ)) → at n ≡ o
    → IsIn at list n → AllByRecursion (Has list) (list_from (preorder at depth) n o)
has_from at depth list closed here n None is in' = tt
has_from at depth list closed here n (Some supers) is in' =
    let has : Has list n = ⊎_elim (λ missing. absurd (cc (is, missing))) (λ has. has) in' in
    (has, has_lists at depth list here supers (closed n has supers is))

-- a closed list that has a number has its whole preorder list
pub has_preorder : (at : SupersAt) (depth : ℕ) (list : List ℕ) → IsClosed at list → (n : ℕ) → IsIn at list n
    → AllByRecursion (Has list) (preorder at depth n)
unfolding preorder
has_preorder at zero list closed n in' = tt
has_preorder at (suc depth) list closed n in' = has_from at depth list closed (has_preorder at depth list closed) n (at n) refl in'
