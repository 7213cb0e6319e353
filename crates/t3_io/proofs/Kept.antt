-- The map of byte vectors answers, and is changed, as the finite map that it is seen as.
use Rattle.std.proofs.Common.{◌≡◌, ℕ, List, [], ◌∷◌, Bool, true, false, cond, Option, Some, refl, sym, ap, ◌∙◌}
use Rattle.std.specs.Global.{Vec}
use Rattle.std.specs.Option.{option_map}
use Rattle.std.specs.declared.cmp.Ordering.{Ordering}
use Rattle.std.specs.declared.cmp.Ordering.TheVariants.{Less, Equal, Greater}
use Rattle.std.specs.Ordering.{nat_cmp, is_eq, match_ordering}
use Rattle.std.specs.Cmp.Lexicographic.{slice_cmp, nat_list_cmp_total}
use Rattle.std.specs.Map.{lookup}
use Rattle.std.specs.BTreeMap.{is_at, insert_entry}
use Rattle.std.specs.FinMap.{get, insert, find, put, from_entries, get-from_entries, get-insert, same_map, slice_cmp-IsAntisymmetric, nat_cmp-IsAntisymmetric}
use Rattle.std.specs.FinMap.Entries.{find-put, by_order}
use Rattle.t3_io.specs.Inner.Kept.{kept_entries}

-- the order of byte vectors, which is that of their bytes
abbrev pub vec_cmp : Vec ℕ → Vec ℕ → Ordering
vec_cmp x y = slice_cmp nat_cmp x.items y.items

-- where a vector is, its bytes
abbrev pub bytes_of : Option (Vec ℕ) → Option (List ℕ)
bytes_of o = option_map (λ v. v.items) o

bytes_of-cond : (b : Bool) (v : Vec ℕ) (o : Option (Vec ℕ)) → bytes_of (cond b (Some v) o) ≡ cond b (Some v.items) (bytes_of o)
bytes_of-cond true v o = refl
bytes_of-cond false v o = refl

find-kept_entries : (name : List ℕ) (es : List (Vec ℕ × Vec ℕ))
    → bytes_of (lookup (is_at (λ k. slice_cmp nat_cmp name k.items)) es) ≡ find (slice_cmp nat_cmp) name (kept_entries es)
find-kept_entries name [] = refl
find-kept_entries name (e ∷ es) =
    let test = is_eq (slice_cmp nat_cmp name e.0.items) in
    bytes_of-cond test e.1 (lookup (is_at (λ k. slice_cmp nat_cmp name k.items)) es) ∙ ap (cond test (Some e.1.items)) (find-kept_entries name es)

-- what the tree answers is what the finite map has there
pub get-kept : (name : List ℕ) (es : List (Vec ℕ × Vec ℕ)) (o : Option (Vec ℕ))
    → o ≡ lookup (is_at (λ k. slice_cmp nat_cmp name k.items)) es
    → bytes_of o ≡ get {R = slice_cmp nat_cmp} (from_entries (kept_entries es)) name
get-kept name es o is = ap bytes_of is ∙ find-kept_entries name es ∙ sym (get-from_entries nat_list_cmp_total (kept_entries es) name)

kept_entries-insert_entry : (es : List (Vec ℕ × Vec ℕ)) (k v : Vec ℕ)
    → kept_entries (insert_entry vec_cmp es k v) ≡ put (slice_cmp nat_cmp) k.items v.items (kept_entries es)
kept_entries-insert_entry [] k v = refl
kept_entries-insert_entry (e ∷ es) k v =
    elim (slice_cmp nat_cmp k.items e.0.items) as (λ r. kept_entries (match_ordering r ((k, v) ∷ e ∷ es) ((e.0, v) ∷ es) (e ∷ insert_entry vec_cmp es k v)) ≡ by_order r ((k.items, v.items) ∷ (e.0.items, e.1.items) ∷ kept_entries es) ((e.0.items, v.items) ∷ kept_entries es) ((e.0.items, e.1.items) ∷ put (slice_cmp nat_cmp) k.items v.items (kept_entries es))) [
      | Less ↦ refl
      | Equal ↦ refl
      | Greater ↦ ap (λ (fs : List (List ℕ × List ℕ)). (e.0.items, e.1.items) ∷ fs) (kept_entries-insert_entry es k v)
    ]

-- an insert into the tree is one into the finite map
pub kept-insert : (es : List (Vec ℕ × Vec ℕ)) (k v : Vec ℕ)
    → from_entries {R = slice_cmp nat_cmp} (kept_entries (insert_entry vec_cmp es k v)) ≡ insert
    (from_entries (kept_entries es)) k.items v.items
kept-insert es k v =
    let o = nat_list_cmp_total in
    same_map o (slice_cmp-IsAntisymmetric nat_cmp-IsAntisymmetric) _ _ (λ q.
    get-from_entries o _ q ∙ ap (find (slice_cmp nat_cmp) q) (kept_entries-insert_entry es k v) ∙ find-put (slice_cmp nat_cmp) o q k.items v.items (kept_entries es)
    ∙ sym (get-insert o (from_entries (kept_entries es)) k.items v.items q ∙ ap (cond (is_eq (slice_cmp nat_cmp q k.items)) (Some v.items)) (get-from_entries o (kept_entries es) q)))
