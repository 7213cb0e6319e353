-- The entries among parts, ordered: what is found there, and how a change of one cell changes them. Other crates may use these.
use Rattle.std.proofs.Common.{◌≡◌, ◌∙◌, ap, sym, subst, refl, ℕ, Bool, true, false, cond, ◌&&◌, T, List, [], ◌∷◌, filter_map, Option, None, Some, is_some, true≢false}
use Rattle.std.specs.Option.{option_map, option_or}
use Rattle.std.specs.List.{cons_option, AllByRecursion}
use Rattle.std.specs.declared.cmp.Ordering.{Ordering}
use Rattle.std.specs.declared.cmp.Ordering.TheVariants.{Less, Equal, Greater}
use Rattle.std.specs.Ordering.{nat_cmp, eq_by_cmp, is_eq, ordering_then, match_ordering}
use Rattle.std.specs.Cmp.{IsTotalOrder, Equal-is, eq_by_cmp_equiv, nat_cmp_total}
use Rattle.std.proofs.lemmas.Cmp.{on_total, then_total}
use Rattle.std.specs.BTreeMap.{insert_entry}
use Rattle.std.specs.FinMap.{FinMap, IsAntisymmetric, get, insert, entries, entries_sorted, from_entries, put, same_map, get-insert, get-entries, get-from_entries, entries-insert, nat_cmp-IsAntisymmetric}
use Rattle.std.specs.FinMap.Entries.{find, by_order, below_all, is_sorted, find_tied}
use Rattle.t3_holder.specs.declared.holder.Holder.{Holder}
use Rattle.t3_undo.specs.Cell.{cell_cmp, cell_cmp_total, cell_cmp-IsAntisymmetric}
use Rattle.t3_undo.specs.Content.{Parts}
use Rattle.t3_undo.specs.Present.{Present}
use Rattle.t3_undo.specs.Present as presents
use Rattle.t3_undo.specs.Key.{key_cmp, key_cmp_total, key_cmp-IsAntisymmetric}
use Rattle.t3_undo.specs.Objects.{set_at}
use Rattle.t3_undo.specs.Slots.{parts_of}
use Rattle.t3_undo.specs.declared.key.Key.{Key}
use Rattle.t3_undo.specs.declared.cell.Cell.{Cell}
use Rattle.t3_undo.specs.declared.cell.Cell.TheVariants as cells
use Rattle.t3_undo.proofs.Maps.{get-set_at, get-tied, set_at-absent, entries-empty, first, second, find-below}
use Rattle.t3_undo.proofs.SlotLists.{same}
use Rattle.t3_tables.specs.Table.{place_cmp, entry_in, ordered}
use Rattle.t3_tables.specs.Inner.Slots.{with_entry}

abbrev pub Place : Type 0
Place = ℕ × Key

pub place_cmp_total : IsTotalOrder place_cmp
place_cmp_total = then_total (on_total (λ (x : Place). x.0) nat_cmp_total) (on_total (λ (x : Place). x.1) key_cmp_total)

then-Equal : (r s : Ordering) → ordering_then r s ≡ Equal → (r ≡ Equal) × (s ≡ Equal)
then-Equal Less s e = cc
then-Equal Equal s e = (refl, e)
then-Equal Greater s e = cc

pub place_cmp-IsAntisymmetric : IsAntisymmetric place_cmp
place_cmp-IsAntisymmetric x y e =
    let both = then-Equal (nat_cmp x.0 y.0) (key_cmp x.1 y.1) e in
    let tick = nat_cmp-IsAntisymmetric x.0 y.0 both.0 in
    let key = key_cmp-IsAntisymmetric x.1 y.1 both.1 in
    λ i. (tick i, key i)

is_eq-then : (r s : Ordering) → is_eq (ordering_then r s) ≡ (is_eq r && is_eq s)
is_eq-then Less s = refl
is_eq-then Equal s = refl
is_eq-then Greater s = refl

-- two entries are the same cell where their keys are the same
pub same-Key : (k l : Key) → same (cells.Key k) (cells.Key l) ≡ eq_by_cmp key_cmp k l
same-Key k l = refl

abbrev same_tick : ℕ → ℕ → Bool
same_tick = eq_by_cmp nat_cmp

abbrev pub same_key : Key → Key → Bool
same_key = eq_by_cmp key_cmp

same-place : (t s : ℕ) (k l : Key) → eq_by_cmp place_cmp (t, k) (s, l) ≡ (same_tick t s && same_key k l)
same-place t s k l = is_eq-then (nat_cmp t s) (key_cmp k l)

-- the value that has this tick
abbrev pub at_tick : ℕ → Option ℕ → Holder → Option Holder
at_tick t None value = None
at_tick t (Some s) value = cond (same_tick t s) (Some value) None

abbrev pub value_at : ℕ → Option Present → Option Holder
value_at t None = None
value_at t (Some (presents.Value tick value)) = at_tick t tick value
value_at t (Some (presents.Supers supers)) = None

none-here : {X : Type 0} (b : Bool) (v : X) (o : Option X) → cond b (Some v) o ≡ None → (b ≡ false) × (o ≡ None)
none-here true v o e = cc
none-here false v o e = (refl, e)

abbrev Found : Type 0
Found = List (Cell × Present)

abbrev gathered : Found → List (Place × Holder)
gathered es = filter_map (λ e. entry_in e.0 e.1) es

-- an entry among those that are gathered
find-gathered-Key : (t : ℕ) (k l : Key) (tick : Option ℕ) (value : Holder) (rest : List (Place × Holder)) (b : Bool) → same_key k l ≡ b
    → find place_cmp (t, k) (cons_option (option_map (λ s. ((s, l), value)) tick) rest)
    ≡ cond b (option_or (at_tick t tick value) (find place_cmp (t, k) rest)) (find place_cmp (t, k) rest)
find-gathered-Key t k l None value rest true e = refl
find-gathered-Key t k l None value rest false e = refl
find-gathered-Key t k l (Some s) value rest b e =
    ap (λ b. cond b (Some value) (find place_cmp (t, k) rest)) (same-place t s k l ∙ ap (λ b. same_tick t s && b) e)
    ∙ by (same_tick t s) b
  where
    by : (a b : Bool) → cond (a && b) (Some value) (find place_cmp (t, k) rest)
        ≡ cond b (option_or (cond a (Some value) None) (find place_cmp (t, k) rest)) (find place_cmp (t, k) rest)
    by true true = refl
    by true false = refl
    by false true = refl
    by false false = refl

none-gathered : (t : ℕ) (k : Key) (es : Found) → find cell_cmp (cells.Key k) es ≡ None → find place_cmp (t, k) (gathered es) ≡ None
none-gathered t k [] e = refl
none-gathered t k ((cells.Key l, presents.Value tick value) ∷ es) e =
    let here = none-here (same_key k l) (presents.Value tick value) (find cell_cmp (cells.Key k) es) e in
    find-gathered-Key t k l tick value (gathered es) false here.0 ∙ none-gathered t k es here.1
none-gathered t k ((cells.Key l, presents.Supers supers) ∷ es) e =
    none-gathered t k es (none-here (same_key k l) (presents.Supers supers) (find cell_cmp (cells.Key k) es) e).1
none-gathered t k ((cells.Prop n, p) ∷ es) e = none-gathered t k es e
none-gathered t k ((cells.Elem n, p) ∷ es) e = none-gathered t k es e
none-gathered t k ((cells.Default, p) ∷ es) e = none-gathered t k es e

or-None : (o : Option Holder) → option_or o None ≡ o
or-None None = refl
or-None (Some v) = refl

find-gathered : (t : ℕ) (k : Key) (es : Found) → T (is_sorted cell_cmp es) → find place_cmp (t, k) (gathered es)
    ≡ value_at t (find cell_cmp (cells.Key k) es)
find-gathered t k [] sorted = refl
find-gathered t k ((cells.Key l, p) ∷ es) sorted =
    by p (find-gathered t k es (second (below_all cell_cmp (cells.Key l) es) (is_sorted cell_cmp es) sorted)) (same_key k l) refl
  where
    none : same_key k l ≡ true → find cell_cmp (cells.Key k) es ≡ None
    none e =
        let P : Key → Type 0 = λ key. find cell_cmp (cells.Key key) es ≡ None in
        subst P (sym (key_cmp-IsAntisymmetric k l ((Equal-is (key_cmp k l)).0 e)))
        (find-below cell_cmp (cells.Key l) es (first (below_all cell_cmp (cells.Key l) es) (is_sorted cell_cmp es) sorted))

    by : (p : Present) → find place_cmp (t, k) (gathered es) ≡ value_at t (find cell_cmp (cells.Key k) es) → (b : Bool) → same_key k l ≡ b
        → find place_cmp (t, k) (gathered ((cells.Key l, p) ∷ es)) ≡ value_at t (cond b (Some p) (find cell_cmp (cells.Key k) es))
    by (presents.Value tick value) rest true e =
        find-gathered-Key t k l tick value (gathered es) true e
        ∙ ap (option_or (at_tick t tick value)) (none-gathered t k es (none e))
        ∙ or-None (at_tick t tick value)
    by (presents.Value tick value) rest false e = find-gathered-Key t k l tick value (gathered es) false e ∙ rest
    by (presents.Supers supers) rest true e = none-gathered t k es (none e)
    by (presents.Supers supers) rest false e = rest
find-gathered t k ((cells.Prop n, p) ∷ es) sorted =
    find-gathered t k es (second (below_all cell_cmp (cells.Prop n) es) (is_sorted cell_cmp es) sorted)
find-gathered t k ((cells.Elem n, p) ∷ es) sorted =
    find-gathered t k es (second (below_all cell_cmp (cells.Elem n) es) (is_sorted cell_cmp es) sorted)
find-gathered t k ((cells.Default, p) ∷ es) sorted =
    find-gathered t k es (second (below_all cell_cmp cells.Default es) (is_sorted cell_cmp es) sorted)

-- under a tick and a key stands the key's value, if that is its tick
pub get-ordered : (parts : Parts) (t : ℕ) (k : Key) → get (ordered parts) (t, k) ≡ value_at t (get parts (cells.Key k))
unfolding ordered
get-ordered parts t k =
    get-from_entries place_cmp_total (gathered (entries parts)) (t, k)
    ∙ find-gathered t k (entries parts) (entries_sorted parts)
    ∙ ap (value_at t) (sym (get-entries parts (cells.Key k)))

-- the ordered entries are known by what stands under the keys
pub same_ordered : (parts : Parts) (m : FinMap place_cmp Holder)
    → ((t : ℕ) (k : Key) → value_at t (get parts (cells.Key k)) ≡ get m (t, k)) → ordered parts ≡ m
same_ordered parts m alike = same_map place_cmp_total place_cmp-IsAntisymmetric _ _ (λ q. get-ordered parts q.0 q.1 ∙ alike q.0 q.1)

-- what isn't a key leaves them
pub ordered-alike : (parts : Parts) (cell : Cell) (o : Option Present)
    → ((k : Key) → get (set_at parts cell o) (cells.Key k) ≡ get parts (cells.Key k)) → ordered (set_at parts cell o) ≡ ordered parts
ordered-alike parts cell o alike = same_ordered _ _ (λ t k. ap (value_at t) (alike k) ∙ sym (get-ordered parts t k))

pub ordered-Default : (parts : Parts) (o : Option Present) → ordered (set_at parts cells.Default o) ≡ ordered parts
ordered-Default parts o = ordered-alike parts cells.Default o (λ k. get-set_at cell_cmp_total parts cells.Default o (cells.Key k))

-- a key set with a tick, that was absent or had the tick
set-tick : (s t : ℕ) (k l : Key) (v : Holder) (o : Option Present) → (b : Bool) → same_key l k ≡ b
    → (b ≡ true → cond (same_tick s t) (Some v) (value_at s o) ≡ cond (same_tick s t) (Some v) None)
    → value_at s (cond b (Some (presents.Value (Some t) v)) o)
    ≡ cond (eq_by_cmp place_cmp (s, l) (t, k)) (Some v) (value_at s o)
set-tick s t k l v o true e alike =
    sym (alike refl) ∙ by (same_tick s t) ∙ ap (λ b. cond (same_tick s t && b) (Some v) (value_at s o)) (sym e)
    ∙ ap (λ b. cond b (Some v) (value_at s o)) (sym (same-place s t l k))
  where
    by : (a : Bool) → cond a (Some v) (value_at s o) ≡ cond (a && true) (Some v) (value_at s o)
    by true = refl
    by false = refl
set-tick s t k l v o false e alike =
    by (same_tick s t) ∙ ap (λ b. cond (same_tick s t && b) (Some v) (value_at s o)) (sym e)
    ∙ ap (λ b. cond b (Some v) (value_at s o)) (sym (same-place s t l k))
  where
    by : (a : Bool) → value_at s o ≡ cond (a && false) (Some v) (value_at s o)
    by true = refl
    by false = refl

-- a key that was absent, with a tick
pub ordered-new : (parts : Parts) (t : ℕ) (k : Key) (v : Holder) → get parts (cells.Key k) ≡ None
    → ordered (set_at parts (cells.Key k) (Some (presents.Value (Some t) v))) ≡ insert (ordered parts) (t, k) v
ordered-new parts t k v none =
    same_ordered _ _ (λ s l.
    ap (value_at s) (get-set_at cell_cmp_total parts (cells.Key k) (Some (presents.Value (Some t) v)) (cells.Key l))
    ∙ set-tick s t k l v (get parts (cells.Key l)) (same_key l k) refl
    (λ e. ap (λ o. cond (same_tick s t) (Some v) (value_at s o)) (sym (get-tied cell_cmp_total parts (cells.Key l) (cells.Key k) e) ∙ none))
    ∙ ap (cond (eq_by_cmp place_cmp (s, l) (t, k)) (Some v)) (sym (get-ordered parts s l))
    ∙ sym (get-insert place_cmp_total (ordered parts) (t, k) v (s, l)))

-- what has no tick isn't among them
ordered-unlisted : (parts : Parts) (k : Key) (p : Present) → ((t : ℕ) → value_at t (Some p) ≡ None) → get parts (cells.Key k) ≡ None
    → ordered (set_at parts (cells.Key k) (Some p)) ≡ ordered parts
ordered-unlisted parts k p untimed none =
    same_ordered _ _ (λ s l.
    ap (value_at s) (get-set_at cell_cmp_total parts (cells.Key k) (Some p) (cells.Key l))
    ∙ by s l (same_key l k) refl
    ∙ sym (get-ordered parts s l))
  where
    by : (s : ℕ) (l : Key) (b : Bool) → same_key l k ≡ b
        → value_at s (cond b (Some p) (get parts (cells.Key l))) ≡ value_at s (get parts (cells.Key l))
    by s l true e = untimed s ∙ ap (value_at s) (sym (sym (get-tied cell_cmp_total parts (cells.Key l) (cells.Key k) e) ∙ none))
    by s l false e = refl

-- what stands in a further cell, among the ordered entries
pub entries-with_entry : (parts : Parts) (cell : Cell) (o : Option Present) → get parts cell ≡ None
    → with_entry cell o (entries (ordered parts)) ≡ entries (ordered (set_at parts cell o))
entries-with_entry parts cell None none =
    ap (λ parts. entries (ordered parts)) (sym (set_at-absent cell_cmp_total cell_cmp-IsAntisymmetric parts cell none))
entries-with_entry parts (cells.Key k) (Some p) none = by p
  where
    by : (p : Present) → with_entry (cells.Key k) (Some p) (entries (ordered parts)) ≡ entries (ordered (set_at parts (cells.Key k) (Some p)))
    by (presents.Value None value) = ap entries (sym (ordered-unlisted parts k (presents.Value None value) (λ t. refl) none))
    by (presents.Value (Some t) value) =
        sym (entries-insert place_cmp_total (ordered parts) (t, k) value) ∙ ap entries (sym (ordered-new parts t k value none))
    by (presents.Supers supers) = ap entries (sym (ordered-unlisted parts k (presents.Supers supers) (λ t. refl) none))
entries-with_entry parts (cells.Prop n) (Some p) none =
    ap entries (sym (ordered-alike parts (cells.Prop n) (Some p)
    (λ k. get-set_at cell_cmp_total parts (cells.Prop n) (Some p) (cells.Key k))))
entries-with_entry parts (cells.Elem n) (Some p) none =
    ap entries (sym (ordered-alike parts (cells.Elem n) (Some p)
    (λ k. get-set_at cell_cmp_total parts (cells.Elem n) (Some p) (cells.Key k))))
entries-with_entry parts cells.Default (Some p) none = ap entries (sym (ordered-Default parts (Some p)))

-- to insert into ordered entries is to put
insert_entry-put : (es : List (Place × Holder)) (k : Place) (v : Holder) → insert_entry place_cmp es k v ≡ put place_cmp k v es
insert_entry-put [] k v = refl
insert_entry-put (e ∷ es) k v = by (insert_entry-put es k v) (place_cmp k e.0)
  where
    by : insert_entry place_cmp es k v ≡ put place_cmp k v es → (r : Ordering)
        → match_ordering r ((k, v) ∷ e ∷ es) ((e.0, v) ∷ es) (e ∷ insert_entry place_cmp es k v)
        ≡ by_order r ((k, v) ∷ e ∷ es) ((e.0, v) ∷ es) (e ∷ put place_cmp k v es)
    by rest Less = refl
    by rest Equal = refl
    by rest Greater = ap (λ xs. e ∷ xs) rest

pub inserted : (es new : List (Place × Holder)) (k : Place) (v : Holder) → new ≡ insert_entry place_cmp es k v → new ≡ put place_cmp k v es
inserted es new k v e = e ∙ insert_entry-put es k v

-- what is true of each that is found is true of all
pub all-found : {K X : Type 0} {R : K → K → Ordering} → IsTotalOrder R → (P : K → X → Type 0) (es : List (K × X)) → T (is_sorted R es)
    → ((q : K) (v : X) → find R q es ≡ Some v → P q v) → AllByRecursion (λ e. P e.0 e.1) es
all-found total P [] sorted each = tt
all-found {R = R} total P (e ∷ es) sorted each = (
  each e.0 e.1 (ap (λ b. cond b (Some e.1) (find R e.0 es)) ((eq_by_cmp_equiv total).refl e.0)),
  all-found total P es (second (below_all R e.0 es) (is_sorted R es) sorted)
      (λ q v found. each q v (by q v found (eq_by_cmp R q e.0) refl ∙ found)),
)
  where
    by : (q : _) (v : _) → find R q es ≡ Some v → (b : Bool) → eq_by_cmp R q e.0 ≡ b
        → cond b (Some e.1) (find R q es) ≡ find R q es
    by q v found true t =
        let none : find R q es ≡ None =
        sym (find_tied R total q e.0 ((Equal-is (R q e.0)).0 t) es)
        ∙ find-below R e.0 es (first (below_all R e.0 es) (is_sorted R es) sorted) in
        absurd (true≢false (ap is_some (sym found ∙ none)))
    by q v found false t = refl

-- no slots, no entries
pub no-entries : entries (ordered (parts_of [])) ≡ []
unfolding parts_of ordered
no-entries = (λ i. entries (from_entries {R = place_cmp} (gathered (entries-empty cell_cmp i)))) ∙ entries-empty place_cmp
