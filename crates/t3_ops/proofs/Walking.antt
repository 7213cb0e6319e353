-- What is known of a walk over pairs while it goes on.
use Rattle.std.proofs.Common.{◌≡◌, ℕ, zero, suc, ◌-◌, List, [], ◌∷◌, ◌++◌, length, Ok, Err, refl, sym, ap, ◌∙◌, subst, append_assoc, append-nil, arith}
use Rattle.std.specs.Prelude.{Bool, true, false, ◌||◌}
use Rattle.t3_holder.specs.declared.holder.Holder.{Holder}
use Rattle.t3_pools.specs.Pool.{Pool}
use Rattle.t3_store.specs.Store.{StoreValue}
use Rattle.t3_ops.specs.declared.fault.Fault.TheVariants.{CompareLong, BadConstant}
use Rattle.t3_holder.specs.declared.holder.Holder.TheVariants as holders
use Rattle.t3_ops.specs.Values.{TextOrList, OfText, OfList, Neither, text_or_list_of, same_holder}
use Rattle.t3_ops.specs.Equality.{Comparison, Same, Different, Unreadable, Inside, Pairs, comparison_of, comparison_by, same_or_different, walk_after, walk}
use Rattle.t3_ops.specs.declared.equality.Level.{Level}
use Rattle.t3_ops.specs.References.{is_plain}
use Rattle.t3_ops.specs.Inner.Walk.{pairs_of, IsLevel}

-- the pairs that are left of several levels, the last of which is the innermost and comes first
abbrev pub pending_pairs : Pool → List Level → Pairs
pending_pairs constants [] = []
pending_pairs constants (level ∷ levels) = pending_pairs constants levels ++ pairs_of constants level

abbrev pub AreLevels : Pool → List Level → Type 0
AreLevels constants [] = Unit {0}
AreLevels constants (level ∷ levels) = IsLevel constants level × AreLevels constants levels

pub walk-end : (constants : Pool) (store : StoreValue) (turns : ℕ) → walk constants store turns [] ≡ Ok (true, turns)
unfolding walk
walk-end constants store zero = refl
walk-end constants store (suc turns) = refl

pub walk-long : (constants : Pool) (store : StoreValue) (pair : Holder × Holder) (rest : Pairs)
    → walk constants store 0 (pair ∷ rest) ≡ Err CompareLong
unfolding walk
walk-long constants store pair rest = refl

pub walk-turn : (constants : Pool) (store : StoreValue) (turns : ℕ) (pair : Holder × Holder) (rest : Pairs)
    → walk constants store (suc turns) (pair ∷ rest)
    ≡ walk_after (comparison_of constants store pair.0 pair.1) turns rest (λ pairs. walk constants store turns pairs)
unfolding walk
walk-turn constants store turns pair rest = refl

pub pending-push : (constants : Pool) (levels : List Level) (level : Level)
    → pending_pairs constants (levels ++ level ∷ []) ≡ pairs_of constants level ++ pending_pairs constants levels
pending-push constants [] level = sym (append-nil (pairs_of constants level))
pending-push constants (first ∷ levels) level =
    ap (λ (p : Pairs). p ++ pairs_of constants first) (pending-push constants levels level)
    ∙ append_assoc (pairs_of constants level) (pending_pairs constants levels) (pairs_of constants first)

pub levels-push : (constants : Pool) (levels : List Level) (level : Level) → AreLevels constants levels → IsLevel constants level
    → AreLevels constants (levels ++ level ∷ [])
levels-push constants [] level are is = (is, tt)
levels-push constants (first ∷ levels) level are is = (are.0, levels-push constants levels level are.1 is)

pub levels-pop : (constants : Pool) (levels : List Level) (level : Level) → AreLevels constants (levels ++ level ∷ [])
    → AreLevels constants levels × IsLevel constants level
levels-pop constants [] level are = (tt, are.0)
levels-pop constants (first ∷ levels) level are =
    let rest = levels-pop constants levels level are.1 in
    ((are.0, rest.0), rest.1)

-- a walk that began with this many turns and these pairs has come to a level, with others after it
pub record Walks (constants : Pool) (store : StoreValue) (from : ℕ) (all : Pairs) (turns : ℕ) (here : Level)
    (outer : List Level) : Type 0 where
  pub told : walk constants store turns (pairs_of constants here ++ pending_pairs constants outer) ≡ walk constants store from all
  pub level : IsLevel constants here
  pub levels : AreLevels constants outer

-- a turn on a pair of which this was found
turn : (constants : Pool) (store : StoreValue) (turns : ℕ) (pair : Holder × Holder) (rest : Pairs) (found : Comparison)
    → (turns ≡ 0 → ⊥) → found ≡ comparison_of constants store pair.0 pair.1
    → walk constants store turns (pair ∷ rest)
    ≡ walk_after found (turns - 1) rest (λ pairs. walk constants store (turns - 1) pairs)
turn constants store zero pair rest found some is = absurd (some refl)
turn constants store (suc turns) pair rest found some is =
    let left : turns ≡ suc turns - 1 = omega arith in
    walk-turn constants store turns pair rest
    ∙ (λ i. walk_after (sym is i) (left i) rest (λ pairs. walk constants store (left i) pairs))

-- what is left of the walk begins with a pair
at_pair : (constants : Pool) (store : StoreValue) (from : ℕ) (all : Pairs) (turns : ℕ) (here : Level) (outer : List Level)
    (pair : Holder × Holder) (left : Pairs) → Walks constants store from all turns here outer → pairs_of constants here ≡ pair ∷ left
    → walk constants store turns (pair ∷ (left ++ pending_pairs constants outer)) ≡ walk constants store from all
at_pair constants store from all turns here outer pair left walks is =
    ap (λ (p : Pairs). walk constants store turns (p ++ pending_pairs constants outer)) (sym is) ∙ walks.told

-- and goes on by what is found of it
goes : (constants : Pool) (store : StoreValue) (from : ℕ) (all : Pairs) (turns : ℕ) (here : Level) (outer : List Level)
    (pair : Holder × Holder) (left : Pairs) (found : Comparison) → Walks constants store from all turns here outer
    → pairs_of constants here ≡ pair ∷ left → (turns ≡ 0 → ⊥) → found ≡ comparison_of constants store pair.0 pair.1
    → walk_after found (turns - 1) (left ++ pending_pairs constants outer) (λ pairs. walk constants store (turns - 1) pairs)
    ≡ walk constants store from all
goes constants store from all turns here outer pair left found walks is some of =
    sym (turn constants store turns pair (left ++ pending_pairs constants outer) found some of)
    ∙ at_pair constants store from all turns here outer pair left walks is

pub walks-done : (constants : Pool) (store : StoreValue) (from : ℕ) (all : Pairs) (turns : ℕ) (here : Level) (outer : List Level)
    → Walks constants store from all turns here outer → pairs_of constants here ≡ [] → outer ≡ []
    → walk constants store from all ≡ Ok (true, turns)
walks-done constants store from all turns here outer walks none last =
    sym walks.told
    ∙ (λ i. walk constants store turns (none i ++ pending_pairs constants (last i)))
    ∙ walk-end constants store turns

pub walks-out : (constants : Pool) (store : StoreValue) (from : ℕ) (all : Pairs) (turns : ℕ) (here next : Level) (outer rest : List Level)
    → Walks constants store from all turns here outer → pairs_of constants here ≡ [] → outer ≡ rest ++ next ∷ []
    → Walks constants store from all turns next rest
walks-out constants store from all turns here next outer rest walks none last =
    let levels = levels-pop constants rest next (subst (λ (l : List Level). AreLevels constants l) last walks.levels) in
    record {
      told = ap (λ (p : Pairs). walk constants store turns p) (sym (pending-push constants rest next))
          ∙ (λ i. walk constants store turns (sym none i ++ pending_pairs constants (sym last i)))
          ∙ walks.told;
      level = levels.1;
      levels = levels.0;
    }

pub walks-long : (constants : Pool) (store : StoreValue) (from : ℕ) (all : Pairs) (turns : ℕ) (here : Level) (outer : List Level)
    (pair : Holder × Holder) (left : Pairs) → Walks constants store from all turns here outer → pairs_of constants here ≡ pair ∷ left
    → turns ≡ 0 → walk constants store from all ≡ Err CompareLong
walks-long constants store from all turns here outer pair left walks is none =
    sym (at_pair constants store from all turns here outer pair left walks is)
    ∙ ap (λ n. walk constants store n (pair ∷ (left ++ pending_pairs constants outer))) none
    ∙ walk-long constants store pair (left ++ pending_pairs constants outer)

pub walks-same : (constants : Pool) (store : StoreValue) (from : ℕ) (all : Pairs) (turns : ℕ) (here behind : Level) (outer : List Level)
    (pair : Holder × Holder) → Walks constants store from all turns here outer
    → pairs_of constants here ≡ pair ∷ pairs_of constants behind → IsLevel constants behind → (turns ≡ 0 → ⊥)
    → Same ≡ comparison_of constants store pair.0 pair.1 → Walks constants store from all (turns - 1) behind outer
walks-same constants store from all turns here behind outer pair walks is level some of = record {
  told = goes constants store from all turns here outer pair (pairs_of constants behind) Same walks is some of;
  level = level;
  levels = walks.levels;
}

pub walks-apart : (constants : Pool) (store : StoreValue) (from : ℕ) (all : Pairs) (turns : ℕ) (here : Level) (outer : List Level)
    (pair : Holder × Holder) (left : Pairs) → Walks constants store from all turns here outer → pairs_of constants here ≡ pair ∷ left
    → (turns ≡ 0 → ⊥) → Different ≡ comparison_of constants store pair.0 pair.1 → walk constants store from all ≡ Ok (false, turns - 1)
walks-apart constants store from all turns here outer pair left walks is some of =
    sym (goes constants store from all turns here outer pair left Different walks is some of)

pub walks-unread : (constants : Pool) (store : StoreValue) (from : ℕ) (all : Pairs) (turns : ℕ) (here : Level) (outer : List Level)
    (pair : Holder × Holder) (left : Pairs) → Walks constants store from all turns here outer → pairs_of constants here ≡ pair ∷ left
    → (turns ≡ 0 → ⊥) → Unreadable ≡ comparison_of constants store pair.0 pair.1 → walk constants store from all ≡ Err BadConstant
walks-unread constants store from all turns here outer pair left walks is some of =
    sym (goes constants store from all turns here outer pair left Unreadable walks is some of)

pub walks-inside : (constants : Pool) (store : StoreValue) (from : ℕ) (all : Pairs) (turns : ℕ) (here behind inner : Level)
    (outer : List Level) (pair : Holder × Holder) → Walks constants store from all turns here outer
    → pairs_of constants here ≡ pair ∷ pairs_of constants behind → IsLevel constants behind → (turns ≡ 0 → ⊥)
    → Inside (pairs_of constants inner) ≡ comparison_of constants store pair.0 pair.1 → IsLevel constants inner
    → Walks constants store from all (turns - 1) inner (outer ++ behind ∷ [])
walks-inside constants store from all turns here behind inner outer pair walks is level some of inside = record {
  told = ap (λ (p : Pairs). walk constants store (turns - 1) (pairs_of constants inner ++ p)) (pending-push constants outer behind)
      ∙ goes constants store from all turns here outer pair (pairs_of constants behind) (Inside (pairs_of constants inner)) walks is
      some of;
  level = inside;
  levels = levels-push constants outer behind walks.levels level;
}

-- with the level that is left pushed
pub walks-moved : (constants : Pool) (store : StoreValue) (from : ℕ) (all : Pairs) (turns : ℕ) (here behind inner pushed now : Level)
    (outer levels : List Level) (pair : Holder × Holder) → Walks constants store from all turns here outer
    → pairs_of constants here ≡ pair ∷ pairs_of constants behind → IsLevel constants behind → (turns ≡ 0 → ⊥)
    → Inside (pairs_of constants inner) ≡ comparison_of constants store pair.0 pair.1 → IsLevel constants inner
    → pushed ≡ behind → now ≡ inner → levels ≡ outer ++ pushed ∷ []
    → Walks constants store from all (turns - 1) now levels
walks-moved constants store from all turns here behind inner pushed now outer levels pair walks is level some of inside was goes pushes =
    let all_levels : outer ++ behind ∷ [] ≡ levels = ap (λ (l : Level). outer ++ l ∷ []) (sym was) ∙ sym pushes in
    subst (λ (l : Level). Walks constants store from all (turns - 1) l levels) (sym goes)
    (subst (λ (o : List Level). Walks constants store from all (turns - 1) inner o) all_levels
    (walks-inside constants store from all turns here behind inner outer pair walks is level some of inside))

-- ---- the first pair

pub first-long : (constants : Pool) (store : StoreValue) (turns : ℕ) (x y : Holder) → turns ≡ 0
    → walk constants store turns ((x, y) ∷ []) ≡ Err CompareLong
first-long constants store turns x y none =
    ap (λ n. walk constants store n ((x, y) ∷ [])) none ∙ walk-long constants store (x, y) []

pub first-goes : (constants : Pool) (store : StoreValue) (turns : ℕ) (x y : Holder) (found : Comparison) → (turns ≡ 0 → ⊥)
    → found ≡ comparison_of constants store x y
    → walk constants store turns ((x, y) ∷ [])
    ≡ walk_after found (turns - 1) [] (λ pairs. walk constants store (turns - 1) pairs)
first-goes constants store turns x y found some is = turn constants store turns (x, y) [] found some is

pub first-same : (constants : Pool) (store : StoreValue) (turns : ℕ) (x y : Holder) → (turns ≡ 0 → ⊥)
    → Same ≡ comparison_of constants store x y → walk constants store turns ((x, y) ∷ []) ≡ Ok (true, turns - 1)
first-same constants store turns x y some is =
    first-goes constants store turns x y Same some is ∙ walk-end constants store (turns - 1)

pub first-inside : (constants : Pool) (store : StoreValue) (turns : ℕ) (x y : Holder) (pairs : Pairs) → (turns ≡ 0 → ⊥)
    → Inside pairs ≡ comparison_of constants store x y
    → walk constants store turns ((x, y) ∷ []) ≡ walk constants store (turns - 1) pairs
first-inside constants store turns x y pairs some is =
    first-goes constants store turns x y (Inside pairs) some is
    ∙ ap (λ (p : Pairs). walk constants store (turns - 1) p) (append-nil pairs)

pub nil_of_none : (levels : List Level) → length levels ≡ 0 → levels ≡ []
nil_of_none [] none = refl
nil_of_none (level ∷ levels) none = absurd (omega arith)

-- ---- plain values

plain-neither : (constants : Pool) (store : StoreValue) (value : Holder) → is_plain value ≡ true
    → text_or_list_of constants store value ≡ Neither
plain-neither constants store (holders.Text address) is = absurd cc
plain-neither constants store (holders.List address) is = absurd cc
plain-neither constants store (holders.Obj number) is = absurd cc
plain-neither constants store _ is = refl

other_right : (other : TextOrList) (same : Bool) → comparison_by other Neither same ≡ same_or_different same
other_right (OfText bytes) same = refl
other_right (OfList elements) same = refl
other_right Neither same = refl

plain-found : (constants : Pool) (store : StoreValue) (x y : Holder) → (is_plain x || is_plain y) ≡ true
    → same_or_different (same_holder x y) ≡ comparison_of constants store x y
plain-found constants store x y plain =
    let by : (b : Bool) → is_plain x ≡ b → (b || is_plain y) ≡ true
    → same_or_different (same_holder x y) ≡ comparison_of constants store x y
    = λ b. elim b as (λ b. is_plain x ≡ b → (b || is_plain y) ≡ true
    → same_or_different (same_holder x y) ≡ comparison_of constants store x y) [
      | true ↦ λ is either.
          ap (λ shape. comparison_by shape (text_or_list_of constants store y) (same_holder x y)) (sym (plain-neither constants store x is))
      | false ↦ λ is either.
          sym (other_right (text_or_list_of constants store x) (same_holder x y))
          ∙ ap (λ shape. comparison_by (text_or_list_of constants store x) shape (same_holder x y))
          (sym (plain-neither constants store y either))
    ] in by (is_plain x) refl plain

-- two values of which one is plain are the same holder, or they aren't
pub first-plain : (constants : Pool) (store : StoreValue) (turns : ℕ) (x y : Holder) → (turns ≡ 0 → ⊥) → (is_plain x || is_plain y) ≡ true
    → walk constants store turns ((x, y) ∷ []) ≡ Ok (same_holder x y, turns - 1)
first-plain constants store turns x y some plain =
    let ends : (b : Bool)
    → walk_after (same_or_different b) (turns - 1) [] (λ pairs. walk constants store (turns - 1) pairs) ≡ Ok (b, turns - 1)
    = λ b. elim b as (λ b.
    walk_after (same_or_different b) (turns - 1) [] (λ pairs. walk constants store (turns - 1) pairs) ≡ Ok (b, turns - 1)) [
      | true ↦ walk-end constants store (turns - 1)
      | false ↦ refl
    ] in
    first-goes constants store turns x y (same_or_different (same_holder x y)) some (plain-found constants store x y plain)
    ∙ ends (same_holder x y)
