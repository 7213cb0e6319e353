-- One line more of a draft: its labels and its pools.
use Rattle.std.proofs.Common.{◌≡◌, ℕ, List, [], ◌∷◌, ◌++◌, Bool, true, false, ◌&&◌, cond, Option, Some, None, is_some, refl, sym, ap, ◌∙◌}
use Rattle.std.specs.List.{flat_map}
use Rattle.std.specs.declared.cmp.Ordering.{Ordering}
use Rattle.std.specs.declared.cmp.Ordering.TheVariants.{Less, Equal, Greater}
use Rattle.std.specs.Ordering.{nat_cmp, is_eq}
use Rattle.std.specs.Cmp.{nat_cmp_total}
use Rattle.std.specs.Cmp.Lexicographic.{slice_cmp, nat_list_cmp_total}
use Rattle.std.specs.FinMap.{get, insert, find, from_entries, get-from_entries, from_entries_push, same_map, slice_cmp-IsAntisymmetric, nat_cmp-IsAntisymmetric}
use Rattle.std.proofs.lemmas.List.{append-nil}
use Rattle.std.proofs.lemmas.Grind.{flat_map-append}
use Rattle.t3_asm_line.specs.declared.keyword.Keyword.{Keyword}
use Rattle.t3_asm_line.specs.declared.keyword.Keyword.TheVariants as of
use Rattle.t3_asm.specs.declared.item.Item.{Item}
use Rattle.t3_asm.specs.Arguments.{number_at, short_at, text_at}
use Rattle.t3_asm.specs.Forms.{is_label_line, is_twice}
use Rattle.t3_asm.specs.Inner.Tables.{labels_with, sizes_with}
use Rattle.t3_asm.specs.Places.{labels_of, pool_sizes_of, label_in, pool_in}

-- ---- sizes: the first of a pool stays

first_of : Option ℕ → Option ℕ → Option ℕ
first_of None next = next
first_of (Some x) next = Some x

first_of-cond : (b : Bool) (x : ℕ) (o next : Option ℕ) → first_of (cond b (Some x) o) next ≡ cond b (Some x) (first_of o next)
unfolding first_of
first_of-cond true x o next = refl
first_of-cond false x o next = refl

first_of-None : (o : Option ℕ) → first_of o None ≡ o
unfolding first_of
first_of-None None = refl
first_of-None (Some x) = refl

find-push : (es : List (ℕ × ℕ)) (k v q : ℕ)
    → find nat_cmp q (es ++ (k, v) ∷ []) ≡ first_of (find nat_cmp q es) (cond (is_eq (nat_cmp q k)) (Some v) None)
unfolding first_of
find-push [] k v q = refl
find-push (e ∷ es) k v q =
    ap (cond (is_eq (nat_cmp q e.0)) (Some e.1)) (find-push es k v q)
    ∙ sym (first_of-cond (is_eq (nat_cmp q e.0)) e.1 (find nat_cmp q es) (cond (is_eq (nat_cmp q k)) (Some v) None))

known_first : (o : Option ℕ) (w v : ℕ) → o ≡ Some w → first_of o (Some v) ≡ o
unfolding first_of
known_first None w v e = absurd cc
known_first (Some x) w v e = refl

-- a pool that is known is found as before
find_known : (es : List (ℕ × ℕ)) (k v q w : ℕ) → find nat_cmp k es ≡ Some w → (r : Ordering) → nat_cmp q k ≡ r
    → first_of (find nat_cmp q es) (cond (is_eq r) (Some v) None) ≡ find nat_cmp q es
find_known es k v q w known Less e = first_of-None (find nat_cmp q es)
find_known es k v q w known Greater e = first_of-None (find nat_cmp q es)
find_known es k v q w known Equal e =
    known_first (find nat_cmp q es) w v (ap (λ n. find nat_cmp n es) (nat_cmp-IsAntisymmetric q k e) ∙ known)

entries_known : (es : List (ℕ × ℕ)) (k v w : ℕ) → find nat_cmp k es ≡ Some w
    → from_entries {R = nat_cmp} (es ++ (k, v) ∷ []) ≡ from_entries es
entries_known es k v w known =
    same_map nat_cmp_total nat_cmp-IsAntisymmetric _ _ (λ q.
    get-from_entries nat_cmp_total _ q ∙ find-push es k v q ∙ find_known es k v q w known (nat_cmp q k) refl
    ∙ sym (get-from_entries nat_cmp_total es q))

entries_with : (es : List (ℕ × ℕ)) (k v : ℕ) (found : Option ℕ) → get {R = nat_cmp} (from_entries es) k ≡ found
    → from_entries {R = nat_cmp} (es ++ (k, v) ∷ []) ≡ cond (is_some found) (from_entries es) (insert (from_entries es) k v)
entries_with es k v None e =
    from_entries_push nat_cmp_total nat_cmp-IsAntisymmetric es k v (sym (get-from_entries nat_cmp_total es k) ∙ e)
entries_with es k v (Some w) e = entries_known es k v w (sym (get-from_entries nat_cmp_total es k) ∙ e)

sizes_pushed : (keyword : Keyword) (es : List (ℕ × ℕ)) (item : Item)
    → from_entries {R = nat_cmp} (es ++ pool_in keyword item) ≡ sizes_with (from_entries es) keyword item
sizes_pushed of.Pool es item =
    entries_with es (short_at item.arguments 0) (number_at item.arguments 2) (get (from_entries es) (short_at item.arguments 0)) refl
sizes_pushed keyword es item = ap (λ fs. from_entries {R = nat_cmp} fs) (append-nil es)

push_one : {A : Type 0} (f : Item → List A) (before : List Item) (item : Item)
    → flat_map f (before ++ item ∷ []) ≡ flat_map f before ++ f item
push_one f before item = flat_map-append f before (item ∷ []) ∙ ap (λ l. flat_map f before ++ l) (append-nil (f item))

-- the pools of lines and one more
pub pool_sizes_of-push : (before : List Item) (item : Item)
    → sizes_with (pool_sizes_of before) item.keyword item ≡ pool_sizes_of (before ++ item ∷ [])
unfolding pool_sizes_of
pool_sizes_of-push before item =
    sym (ap (λ es. from_entries {R = nat_cmp} es) (push_one (λ i. pool_in i.keyword i) before item)
    ∙ sizes_pushed item.keyword (flat_map (λ i. pool_in i.keyword i) before) item)

-- ---- labels: each is put once

none_found : (o : Option ℕ) → is_some o ≡ false → o ≡ None
none_found None e = refl
none_found (Some x) e = absurd cc

labels_pushed : (keyword : Keyword) (es : List (List ℕ × ℕ)) (item : Item)
    → (is_label_line keyword && is_some (get {R = slice_cmp nat_cmp} (from_entries es) (text_at item.arguments 0))) ≡ false
    → from_entries {R = slice_cmp nat_cmp} (es ++ label_in keyword item) ≡ labels_with (from_entries es) keyword item
labels_pushed of.Label es item new =
    from_entries_push nat_list_cmp_total (slice_cmp-IsAntisymmetric nat_cmp-IsAntisymmetric) es
    (text_at item.arguments 0) item.place.address
    (sym (get-from_entries nat_list_cmp_total es (text_at item.arguments 0)) ∙ none_found _ new)
labels_pushed keyword es item new = ap (λ fs. from_entries {R = slice_cmp nat_cmp} fs) (append-nil es)

-- the labels of lines and one more, which puts none that another puts
pub labels_of-push : (before : List Item) (item : Item) → is_twice before item ≡ false
    → labels_with (labels_of before) item.keyword item ≡ labels_of (before ++ item ∷ [])
unfolding labels_of
labels_of-push before item new =
    sym (ap (λ es. from_entries {R = slice_cmp nat_cmp} es) (push_one (λ i. label_in i.keyword i) before item)
    ∙ labels_pushed item.keyword (flat_map (λ i. label_in i.keyword i) before) item new)
