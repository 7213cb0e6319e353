-- How deep the walks from a number go. Other crates may use these.
use Rattle.std.proofs.Common.{◌≡◌, ℕ, zero, suc, ◌+◌, ◌≤◌, ◌⊎◌, inl, inr, ⊎_elim, Option, Some, None, List, [], ◌∷◌, ◌++◌, length, sym, refl, ap, ◌∙◌, subst, arith, add-zero, add-suc}
use Rattle.std.specs.List.{AllByRecursion, flat_map}
use Rattle.std.proofs.lemmas.Bool.{cases_eq}
use Rattle.t3_tadsobj.specs.Order.{SupersAt, list_from, preorder, IsPreorder, IsSuperclass, IsWalk, IsAncestor, IsAcyclicFrom}
use Rattle.t3_tadsobj.proofs.OrderMembers.{Has, each, weaker, without, without-shorter, without-has}

-- ---- walks

walk_push : (at : SupersAt) (n : ℕ) (path : List ℕ) (mid above : ℕ) → IsWalk at n path mid → IsSuperclass at mid above
    → IsWalk at n (path ++ mid ∷ []) above
walk_push at n [] mid above walk step = (walk, step)
walk_push at n (next ∷ path) mid above walk step = (walk.0, walk_push at next path mid above walk.1 step)

-- one step more at the end
pub further : (at : SupersAt) (n mid above : ℕ) → IsAncestor at n mid → IsSuperclass at mid above → IsAncestor at n above
further at n mid above walk step = (walk.0 ++ mid ∷ [], walk_push at n walk.0 mid above walk.1 step)

-- one step more at the start
pub nearer : (at : SupersAt) (n next above : ℕ) → IsSuperclass at n next → IsAncestor at next above → IsAncestor at n above
nearer at n next above step walk = (next ∷ walk.0, (step, walk.1))

pub acyclic_above : (at : SupersAt) (n next : ℕ) → IsSuperclass at n next → IsAcyclicFrom at n → IsAcyclicFrom at next
acyclic_above at n next step acyclic = record {
  itself = acyclic.ancestors next ([], step);
  ancestors = λ above walk. acyclic.ancestors above (nearer at n next above step walk);
}

-- ---- depths

-- no walk from the number has more steps
abbrev pub EndsWithin : SupersAt → ℕ → ℕ → Type 0
EndsWithin at zero n = at n ≡ None
EndsWithin at (suc depth) n = (supers : List ℕ) → at n ≡ Some supers → AllByRecursion (EndsWithin at depth) supers

pub ends_later : (at : SupersAt) (depth n : ℕ) → EndsWithin at depth n → EndsWithin at (suc depth) n
ends_later at zero n ends = λ supers is. absurd (cc (is, ends))
ends_later at (suc depth) n ends = λ supers is. weaker (EndsWithin at depth) (EndsWithin at (suc depth)) (ends_later at depth) supers
    (ends supers is)

pub ends_by : (at : SupersAt) (depth n more : ℕ) → EndsWithin at depth n → EndsWithin at (depth + more) n
ends_by at depth n zero ends = rw (add-zero depth) ends
ends_by at depth n (suc more) ends = rw (add-suc depth more) (ends_later at (depth + more) n (ends_by at depth n more ends))

-- where all numbers that have superclasses are left to visit or lead here, the walks end
pub ends : (at : SupersAt) (depth : ℕ) (left : List ℕ) → length left ≤ depth → (n : ℕ)
    → ((m : ℕ) (supers : List ℕ) → at m ≡ Some supers → Has left m ⊎ IsAncestor at m n) → IsAcyclicFrom at n → EndsWithin at depth n
ends at zero (m ∷ left) few n covered acyclic = absurd (omega arith)
ends at zero [] few n covered acyclic =
    elim (at n) as (λ o. at n ≡ o → at n ≡ None) [
      | None ↦ λ is. is
      | Some supers ↦ λ is. ⊎_elim (λ has. absurd cc) (λ back. absurd (acyclic.itself back)) (covered n supers is)
    ] refl
ends at (suc depth) left few n covered acyclic = λ supers is.
    let has_n : Has left n = ⊎_elim (λ has. has) (λ back. absurd (acyclic.itself back)) (covered n supers is) in
    let shorter = without-shorter n left has_n in
    each (EndsWithin at depth) supers (λ next among.
    let step : IsSuperclass at n next = record { supers = supers; are = is; among = among } in
    ends at depth (without n left) (omega arith) next
    (λ m those are.
    ⊎_elim
    (λ same. inr (subst (λ (k : ℕ). IsAncestor at k next) same ([], step)))
    (λ differ. ⊎_elim (λ has. inl (without-has n m left differ has)) (λ back. inr (further at m n next back step)) (covered m those are))
    (cases_eq n m))
    (acyclic_above at n next step acyclic))

-- ---- what is computed down to a depth

flat_map-same : (f g : ℕ → List ℕ) (xs : List ℕ) → AllByRecursion (λ x. f x ≡ g x) xs → flat_map f xs ≡ flat_map g xs
flat_map-same f g [] all = refl
flat_map-same f g (x ∷ xs) all = rw (all.0, flat_map-same f g xs all.1) refl

list_from-same : (at : SupersAt) (f g : ℕ → List ℕ) (n : ℕ) (o : Option (List ℕ))
    → ((supers : List ℕ) → o ≡ Some supers → AllByRecursion (λ x. f x ≡ g x) supers) → list_from f n o ≡ list_from g n o
list_from-same at f g n None same = refl
list_from-same at f g n (Some supers) same = ap (λ list. n ∷ list) (flat_map-same f g supers (same supers refl))

pub preorder-deeper : (at : SupersAt) (depth n : ℕ) → EndsWithin at depth n → preorder at (suc depth) n ≡ preorder at depth n
unfolding preorder
preorder-deeper at zero n ends = rw ends refl
preorder-deeper at (suc depth) n ends =
    list_from-same at (preorder at (suc depth)) (preorder at depth) n (at n)
    (λ supers is. weaker (EndsWithin at depth) (λ x. preorder at (suc depth) x ≡ preorder at depth x)
    (preorder-deeper at depth) supers (ends supers is))

pub preorder-more : (at : SupersAt) (depth n more : ℕ) → EndsWithin at depth n → preorder at (depth + more) n ≡ preorder at depth n
preorder-more at depth n zero ends = rw (add-zero depth) refl
preorder-more at depth n (suc more) ends =
    rw (add-suc depth more) (preorder-deeper at (depth + more) n (ends_by at depth n more ends) ∙ preorder-more at depth n more ends)

-- a list that ends is the preorder list
pub is_preorder : (at : SupersAt) (depth n : ℕ) → EndsWithin at depth n → IsPreorder at n (preorder at depth n)
is_preorder at depth n ends = record { depth = depth; is = λ more. preorder-more at depth n more ends }

pub superclasses_end : (at : SupersAt) (depth n : ℕ) (supers : List ℕ) → EndsWithin at depth n → at n ≡ Some supers
    → AllByRecursion (EndsWithin at depth) supers
superclasses_end at zero n supers ends is = absurd (cc (is, ends))
superclasses_end at (suc depth) n supers ends is = weaker (EndsWithin at depth) (EndsWithin at (suc depth))
    (ends_later at depth) supers (ends supers is)

unfold_once : (at : SupersAt) (depth n : ℕ) (supers : List ℕ) → at n ≡ Some supers
    → preorder at (suc depth) n ≡ n ∷ flat_map (preorder at depth) supers
unfolding preorder
unfold_once at depth n supers is = rw is refl

-- where the walks end, the list of a live number is it and the lists of its superclasses, to the same depth
pub preorder-live : (at : SupersAt) (depth n : ℕ) (supers : List ℕ) → EndsWithin at depth n → at n ≡ Some supers
    → preorder at depth n ≡ n ∷ flat_map (preorder at depth) supers
preorder-live at depth n supers ends is = sym (preorder-deeper at depth n ends) ∙ unfold_once at depth n supers is

pub preorder-missing : (at : SupersAt) (depth n : ℕ) → at n ≡ None → preorder at depth n ≡ []
unfolding preorder
preorder-missing at zero n missing = refl
preorder-missing at (suc depth) n missing = rw missing refl
