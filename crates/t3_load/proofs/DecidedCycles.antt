-- Whether an object is its own ancestor is decided, since no other numbers than those of objects have superclasses.
use Rattle.std.proofs.Common.{◌≡◌, ℕ, zero, suc, ◌⊎◌, inl, inr, List, [], ◌∷◌, ◌++◌, Option, None, Some, refl, sym, subst, arith}
use Rattle.std.specs.Prelude.{Contains, IsSome}
use Rattle.t3_tadsobj.specs.Order.{SupersAt, IsSuperclass, IsWalk, IsAncestor}
use Rattle.t3_load.specs.Inner.Numbers.{has_number}
use Rattle.t3_load.specs.ImageObjects.{object_numbers, supers_by, IsOwnAncestor}
use Rattle.t3_load.specs.declared.objects.ImageObject.{ImageObject}
use Rattle.t3_load.proofs.Decided.{both, either, contains_or_not}
use Rattle.t3_load.proofs.SuperRules.{first_step}

-- ---- one step

super_or_not : (at : SupersAt) (n above : ℕ) → IsSuperclass at n above ⊎ ¬ IsSuperclass at n above
super_or_not at n above = by_supers (at n) refl
  where
    by_supers : (o : Option (List ℕ)) → at n ≡ o → IsSuperclass at n above ⊎ ¬ IsSuperclass at n above
    by_supers None e = inr (λ is. let some = is.are in absurd cc)
    by_supers (Some supers) e =
        elim (contains_or_not supers above) [
          | inl there ↦ inl (record { supers = supers; are = e; among = there })
          | inr none ↦ inr (λ is.
              let some = is.are in
              let same : is.supers ≡ supers = cc in
              none (subst (λ ns. Contains ns above) same is.among))
        ]

-- ---- walks over some numbers

-- from one number to another by walks over these numbers at most
abbrev Within : SupersAt → List ℕ → ℕ → ℕ → Type 0
Within at [] m n = IsSuperclass at m n
Within at (v ∷ vs) m n = Within at vs m n ⊎ (Within at vs m v × Within at vs v n)

within_or_not : (at : SupersAt) (vs : List ℕ) (m n : ℕ) → Within at vs m n ⊎ ¬ Within at vs m n
within_or_not at [] m n = super_or_not at m n
within_or_not at (v ∷ vs) m n =
    either (within_or_not at vs m n) (both (within_or_not at vs m v) (within_or_not at vs v n))

-- two walks, one after the other
joined : (at : SupersAt) (m : ℕ) (path : List ℕ) (middle : ℕ) (more : List ℕ) (n : ℕ) → IsWalk at m path middle
    → IsWalk at middle more n → IsWalk at m (path ++ middle ∷ more) n
joined at m [] middle more n a b = (a, b)
joined at m (next ∷ path) middle more n a b = (a.0, joined at next path middle more n a.1 b)

walk_of : (at : SupersAt) (vs : List ℕ) (m n : ℕ) → Within at vs m n → IsAncestor at m n
walk_of at [] m n step = ([], step)
walk_of at (v ∷ vs) m n (inl within) = walk_of at vs m n within
walk_of at (v ∷ vs) m n (inr halves) =
    let first = walk_of at vs m v halves.0 in
    let second = walk_of at vs v n halves.1 in
    (first.0 ++ v ∷ second.0, joined at m first.0 v second.0 n first.1 second.1)

step_within : (at : SupersAt) (vs : List ℕ) (m n : ℕ) → IsSuperclass at m n → Within at vs m n
step_within at [] m n step = step
step_within at (v ∷ vs) m n step = inl (step_within at vs m n step)

-- to the number that is left out, and from it
to_first : (at : SupersAt) (v : ℕ) (vs : List ℕ) (m : ℕ) → Within at (v ∷ vs) m v → Within at vs m v
to_first at v vs m (inl within) = within
to_first at v vs m (inr halves) = halves.0

from_first : (at : SupersAt) (v : ℕ) (vs : List ℕ) (n : ℕ) → Within at (v ∷ vs) v n → Within at vs v n
from_first at v vs n (inl within) = within
from_first at v vs n (inr halves) = halves.1

-- the walks before and behind a number, where those over fewer are joined
over : (at : SupersAt) (v : ℕ) (vs : List ℕ) (m middle n : ℕ)
    → ((x y : ℕ) → Within at vs x middle → Within at vs middle y → Within at vs x y) → Within at (v ∷ vs) m middle
    → Within at (v ∷ vs) middle n → Within at (v ∷ vs) m n
over at v vs m middle n join (inl p) (inl q) = inl (join m n p q)
over at v vs m middle n join (inl p) (inr q) = inr (join m v p q.0, q.1)
over at v vs m middle n join (inr p) (inl q) = inr (p.0, join v n p.1 q)
over at v vs m middle n join (inr p) (inr q) = inr (p.0, q.1)

-- over a further number that is among them
through : (at : SupersAt) (vs : List ℕ) (m middle n : ℕ) → Contains vs middle → Within at vs m middle → Within at vs middle n
    → Within at vs m n
through at [] m middle n there a b = absurd (omega (arith, there.1))
through at (v ∷ vs) m middle n (zero, less, is) a b =
    inr (
      to_first at v vs m (subst (λ k. Within at (v ∷ vs) m k) (sym is) a),
      from_first at v vs n (subst (λ k. Within at (v ∷ vs) k n) (sym is) b),
    )
through at (v ∷ vs) m middle n (suc k, less, is) a b =
    let there : Contains vs middle = (k, omega (arith, less), is) in
    over at v vs m middle n (λ x y p q. through at vs x middle y there p q) a b

within_of : (at : SupersAt) (vs : List ℕ) → ((k : ℕ) → IsSome (at k) → Contains vs k) → (m : ℕ) (path : List ℕ) (n : ℕ)
    → IsWalk at m path n → Within at vs m n
within_of at vs known m [] n step = step_within at vs m n step
within_of at vs known m (next ∷ path) n walk =
    through at vs m next n (known next (first_step at next n path walk.1)) (step_within at vs m next walk.0)
    (within_of at vs known next path n walk.1)

-- ---- objects

pub own_or_not : (objects : List ImageObject) (object : ImageObject) → IsOwnAncestor objects object ⊎ ¬ IsOwnAncestor objects object
own_or_not objects object =
    elim (within_or_not (supers_by objects) (object_numbers objects) object.number object.number) [
      | inl within ↦ inl (walk_of (supers_by objects) (object_numbers objects) object.number object.number within)
      | inr none ↦ inr (λ ancestor.
          none (within_of (supers_by objects) (object_numbers objects) (has_number objects) object.number ancestor.0 object.number
          ancestor.1))
    ]
