-- Changes that are made one after the other.
use Rattle.std.proofs.Common.{◌≡◌, ℕ, ◌+◌, Bool, true, false, ◌||◌, cond, List, [], ◌∷◌, ◌++◌, length, take, Option, Some, None, sym, ap, ◌∙◌, subst}
use Rattle.std.specs.Prelude.{IfSome}
use Rattle.std.specs.Option.{option_map}
use Rattle.std.proofs.lemmas.List.{map-append}
use Rattle.std.proofs.lemmas.Option.{same_Some}
use Rattle.std.proofs.Math.Seq.{take-append_seam}
use Rattle.t3_store.specs.Value.{Value, units_of}
use Rattle.t3_store.specs.Store.{StoreValue, created_in, is_full_with, no_number, with_object}
use Rattle.t3_kinds.specs.declared.deed.Change as code
use Rattle.t3_kinds.specs.Changes.{Change, Makes, changed_by, after_change, changed, AreSomeMade}
use Rattle.t3_kinds.specs.Inner.Deeds.{change_of, changes_of, CanAllBeDone}

changed-then : (o : Option StoreValue) (xs ys : List Change) (old mid : StoreValue)
    → ((store : StoreValue) → changed xs store ≡ (true, mid) → changed (xs ++ ys) store ≡ changed ys mid)
    → after_change o (changed xs) old ≡ (true, mid) → after_change o (changed (xs ++ ys)) old ≡ changed ys mid
changed-then None xs ys old mid then none = let clash : false ≡ true = ap (λ (p : Bool × StoreValue). p.0) none in absurd cc
changed-then (Some store) xs ys old mid then made = then store made

-- changes that were all made, and then some more
pub changed-append : (xs ys : List Change) (old mid : StoreValue) → changed xs old ≡ (true, mid) → changed (xs ++ ys) old ≡ changed ys mid
changed-append [] ys old mid is = let same : old ≡ mid = ap (λ (p : Bool × StoreValue). p.1) is in ap (changed ys) same
changed-append (x ∷ xs) ys old mid is =
    changed-then (changed_by x old) xs ys old mid (λ store made. changed-append xs ys store mid made) is

-- one more that was made
changed-more : (xs : List Change) (x : Change) (old mid new : StoreValue) → changed xs old ≡ (true, mid) → changed_by x mid ≡ Some new
    → changed (xs ++ x ∷ []) old ≡ (true, new)
changed-more xs x old mid new is made =
    changed-append xs (x ∷ []) old mid is ∙ ap (λ (o : Option StoreValue). after_change o (changed []) mid) made

-- one that found no room, whatever comes after it
changed-full : (xs ys : List Change) (x : Change) (old mid : StoreValue) → changed xs old ≡ (true, mid) → changed_by x mid ≡ None
    → changed (xs ++ x ∷ ys) old ≡ (false, mid)
changed-full xs ys x old mid is full =
    changed-append xs (x ∷ ys) old mid is ∙ ap (λ (o : Option StoreValue). after_change o (changed ys) mid) full

-- ---- by the code's changes, of which some were made

pub one-made : (xs : List code.Change) (x : code.Change) (old mid new : StoreValue) → changed (changes_of xs) old ≡ (true, mid)
    → changed_by (change_of x) mid ≡ Some new → changed (changes_of (xs ++ x ∷ [])) old ≡ (true, new)
one-made xs x old mid new is made =
    ap (λ (c : List Change). changed c old) (map-append change_of xs (x ∷ []))
    ∙ changed-more (changes_of xs) (change_of x) old mid new is made

pub one-full : (all xs ys : List code.Change) (x : code.Change) (old mid : StoreValue) → xs ++ x ∷ ys ≡ all
    → changed (changes_of xs) old ≡ (true, mid) → changed_by (change_of x) mid ≡ None → changed (changes_of all) old ≡ (false, mid)
one-full all xs ys x old mid whole is full =
    ap (λ (c : List code.Change). changed (changes_of c) old) (sym whole)
    ∙ ap (λ (c : List Change). changed c old) (map-append change_of xs (x ∷ ys))
    ∙ changed-full (changes_of xs) (changes_of ys) (change_of x) old mid is full

pub some-made : (all xs ys : List code.Change) (old mid : StoreValue) → xs ++ ys ≡ all → changed (changes_of xs) old ≡ (true, mid)
    → AreSomeMade (changes_of all) old mid
some-made all xs ys old mid whole is =
    let front : take (length (changes_of xs)) (changes_of all) ≡ changes_of xs =
    ap (λ (c : List code.Change). take (length (changes_of xs)) (changes_of c)) (sym whole)
    ∙ ap (take (length (changes_of xs))) (map-append change_of xs ys) ∙ take-append_seam (changes_of xs) (changes_of ys) in
    (length (changes_of xs), ap (λ (c : List Change). changed c old) front ∙ is)

-- those that are left can be done in the store that one of them has left
pub can-next : (x : Change) (xs : List Change) (old new : StoreValue) → CanAllBeDone (x ∷ xs) old → changed_by x old ≡ Some new
    → CanAllBeDone xs new
can-next x xs old new can made = subst (λ (o : Option StoreValue). IfSome o (CanAllBeDone xs)) made can.1

-- ---- creations

-- the number of a persistent object that was made
pub made_number : (value : Value) (store new : StoreValue) (number : ℕ) → created_in value false store ≡ Some (number, new)
    → (number ≡ store.next) × (new.next ≡ store.next + 1) × (changed_by (Makes value) store ≡ Some new)
made_number value store new number is = by (is_full_with 1 (units_of value) store || no_number false store) is
  where
    by : (b : Bool) → cond {A = Option (ℕ × StoreValue)} b None (Some (store.next, with_object value false store)) ≡ Some (number, new)
        → (number ≡ store.next) × (new.next ≡ store.next + 1) × (changed_by (Makes value) store ≡ Some new)
    by true none = absurd cc
    by false some =
        let pair = same_Some (store.next, with_object value false store) (number, new) some in (
          sym (ap (λ (p : ℕ × StoreValue). p.0) pair),
          sym (ap (λ (p : ℕ × StoreValue). p.1.next) pair),
          ap (option_map (λ (made : ℕ × StoreValue). made.1)) is,
        )
