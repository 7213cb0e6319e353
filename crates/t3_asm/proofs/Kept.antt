-- The trees answer, and are changed, as the finite maps that they are seen as.
use Rattle.std.proofs.Common.{◌≡◌, ℕ, List, [], ◌∷◌, false, cond, Option, Some, is_some, refl, sym, ap, ◌∙◌}
use Rattle.std.specs.declared.cmp.Ordering.{Ordering}
use Rattle.std.specs.declared.cmp.Ordering.TheVariants.{Less, Equal, Greater}
use Rattle.std.specs.Ordering.{is_eq, match_ordering}
use Rattle.std.specs.Cmp.{IsTotalOrder}
use Rattle.std.specs.Map.{lookup}
use Rattle.std.specs.BTreeMap.{is_at, insert_entry}
use Rattle.std.specs.FinMap.{get, insert, find, put, from_entries, get-from_entries, get-insert, same_map, IsAntisymmetric}
use Rattle.std.specs.FinMap.Entries.{find-put, by_order}
use Rattle.t3_asm.specs.Inner.Tables.{kept_entries, with_size}
use Rattle.t3_asm.specs.Places.{PoolSizes}

find-kept_entries : {K C : Type 0} (R : C → C → Ordering) (key : K → C) (q : C) (es : List (K × ℕ))
    → lookup (is_at (λ k. R q (key k))) es ≡ find R q (kept_entries key es)
find-kept_entries R key q [] = refl
find-kept_entries R key q (e ∷ es) = ap (cond (is_eq (R q (key e.0))) (Some e.1)) (find-kept_entries R key q es)

-- what the tree answers is what the finite map has there
pub get-kept : {K C : Type 0} {R : C → C → Ordering} (o : IsTotalOrder R) (key : K → C) (q : C) (es : List (K × ℕ)) (found : Option ℕ)
    → found ≡ lookup (is_at (λ k. R q (key k))) es
    → found ≡ get {R = R} (from_entries (kept_entries key es)) q
get-kept {R = R} o key q es found is = is ∙ find-kept_entries R key q es ∙ sym (get-from_entries o (kept_entries key es) q)

kept_entries-insert_entry : {K C : Type 0} (R : C → C → Ordering) (key : K → C) (es : List (K × ℕ)) (k : K) (v : ℕ)
    → kept_entries key (insert_entry (λ x y. R (key x) (key y)) es k v) ≡ put R (key k) v (kept_entries key es)
kept_entries-insert_entry R key [] k v = refl
kept_entries-insert_entry {K} {C} R key (e ∷ es) k v =
    elim (R (key k) (key e.0)) as (λ r. kept_entries key
    (match_ordering r ((k, v) ∷ e ∷ es) ((e.0, v) ∷ es) (e ∷ insert_entry (λ x y. R (key x) (key y)) es k v))
    ≡ by_order r ((key k, v) ∷ (key e.0, e.1) ∷ kept_entries key es) ((key e.0, v) ∷ kept_entries key es)
    ((key e.0, e.1) ∷ put R (key k) v (kept_entries key es))) [
      | Less ↦ refl
      | Equal ↦ refl
      | Greater ↦ ap (λ (fs : List (C × ℕ)). (key e.0, e.1) ∷ fs) (kept_entries-insert_entry R key es k v)
    ]

-- an insert into the tree is one into the finite map
pub kept-insert : {K C : Type 0} {R : C → C → Ordering} (o : IsTotalOrder R) (same : IsAntisymmetric R) (key : K → C) (es : List (K × ℕ))
    (k : K) (v : ℕ)
    → from_entries {R = R} (kept_entries key (insert_entry (λ x y. R (key x) (key y)) es k v))
    ≡ insert (from_entries (kept_entries key es)) (key k) v
kept-insert {R = R} o same key es k v =
    same_map o same _ _ (λ q.
    get-from_entries o _ q ∙ ap (find R q) (kept_entries-insert_entry R key es k v) ∙ find-put R o q (key k) v (kept_entries key es)
    ∙ sym (get-insert o (from_entries (kept_entries key es)) (key k) v q
    ∙ ap (cond (is_eq (R q (key k))) (Some v)) (get-from_entries o (kept_entries key es) q)))

-- a pool that isn't there gets its size
pub with_size-new : (sizes : PoolSizes) (pool size : ℕ) → is_some (get sizes pool) ≡ false
    → insert sizes pool size ≡ with_size sizes pool size
with_size-new sizes pool size new = sym (ap (λ b. cond b sizes (insert sizes pool size)) new)
