-- What a change of one cell does to the order of the entries. Other crates may use these.
use Rattle.std.proofs.Common.{◌≡◌, ◌∙◌, ap, sym, subst, refl, ℕ, ◌<◌, Bool, true, false, cond, not, ◌&&◌, T, List, [], ◌∷◌, ◌++◌, map, filter, Option, None, Some, arith}
use Rattle.std.specs.Option.{option_map}
use Rattle.std.specs.declared.cmp.Ordering.TheVariants.{Less}
use Rattle.std.specs.Ordering.{nat_cmp, eq_by_cmp, is_lt, ordering_then}
use Rattle.std.specs.Cmp.{nat_cmp_is, Equal-is, eq_by_cmp_equiv}
use Rattle.std.specs.List.{AllByRecursion}
use Rattle.std.specs.FinMap.{nat_cmp-IsAntisymmetric, get, get-insert, entries, entries_sorted, get-entries}
use Rattle.std.specs.FinMap.Entries.{find, below_all, is_sorted, where_key, is_sorted-where_key, find-where_key, find-append, same_entries}
use Rattle.t3_holder.specs.declared.holder.Holder.{Holder}
use Rattle.t3_undo.specs.Cell.{cell_cmp_total, cell_cmp-IsAntisymmetric}
use Rattle.t3_undo.specs.Content.{Parts, shown}
use Rattle.t3_undo.specs.Present.{Present, tick_in}
use Rattle.t3_undo.specs.Present as presents
use Rattle.t3_undo.specs.Key.{key_cmp, key_cmp_total}
use Rattle.t3_undo.specs.Objects.{set_at}
use Rattle.t3_undo.specs.declared.key.Key.{Key}
use Rattle.t3_undo.specs.declared.cell.Cell.TheVariants as cells
use Rattle.t3_undo.specs.declared.content.Content.TheVariants.{Held, Slot}
use Rattle.t3_undo.proofs.Maps.{get-set_at, get-tied, set_at-back, first, second}
use Rattle.t3_tables.specs.declared.pair.Pair.{Pair}
use Rattle.t3_tables.specs.Table.{place_cmp, ordered, pair_of, entries_of}
use Rattle.t3_tables.specs.Order.{with_value, NewComesLast, PresentKeepsPlace, OthersStay, OldStandsWhereItStood, DefaultIsApart}
use Rattle.t3_tables.proofs.OrderedEntries.{Place, place_cmp_total, place_cmp-IsAntisymmetric, same_key, value_at, get-ordered, ordered-new, ordered-Default, all-found}

abbrev Entries : Type 0
Entries = List (Place × Holder)

-- ordered entries are known by what is found among them
known : (parts : Parts) (es : Entries) → T (is_sorted place_cmp es)
    → ((t : ℕ) (k : Key) → value_at t (get parts (cells.Key k)) ≡ find place_cmp (t, k) es) → entries (ordered parts) ≡ es
known parts es sorted alike =
    same_entries place_cmp place_cmp_total place_cmp-IsAntisymmetric (entries (ordered parts)) es (entries_sorted (ordered parts)) sorted
    (λ q. sym (get-entries (ordered parts) q) ∙ get-ordered parts q.0 q.1 ∙ alike q.0 q.1)

found-before : (parts : Parts) (t : ℕ) (k : Key) → find place_cmp (t, k) (entries (ordered parts)) ≡ value_at t (get parts (cells.Key k))
found-before parts t k = sym (get-entries (ordered parts) (t, k)) ∙ get-ordered parts t k

-- values changed by their keys
module _ (g : Key → Holder → Holder) where
  changed : Entries → Entries
  changed [] = []
  changed (e ∷ es) = (e.0, g e.0.1 e.1) ∷ changed es

  below-changed : (q : Place) (es : Entries) → below_all place_cmp q (changed es) ≡ below_all place_cmp q es
  unfolding changed
  below-changed q [] = refl
  below-changed q (e ∷ es) = ap (λ b. is_lt (place_cmp q e.0) && b) (below-changed q es)

  sorted-changed : (es : Entries) → is_sorted place_cmp (changed es) ≡ is_sorted place_cmp es
  unfolding changed
  sorted-changed [] = refl
  sorted-changed (e ∷ es) = λ i. below-changed e.0 es i && sorted-changed es i

  find-changed : (q : Place) (es : Entries) → find place_cmp q (changed es) ≡ option_map (g q.1) (find place_cmp q es)
  unfolding changed
  find-changed q [] = refl
  find-changed q (e ∷ es) = by (find-changed q es) (eq_by_cmp place_cmp q e.0) refl
    where
      by : find place_cmp q (changed es) ≡ option_map (g q.1) (find place_cmp q es) → (b : Bool) → eq_by_cmp place_cmp q e.0 ≡ b
          → cond b (Some (g e.0.1 e.1)) (find place_cmp q (changed es)) ≡ option_map (g q.1) (cond b (Some e.1) (find place_cmp q es))
      by rest true t =
          let place : q ≡ e.0 = place_cmp-IsAntisymmetric q e.0 ((Equal-is (place_cmp q e.0)).0 t) in
          ap (λ (p : Place). Some (g p.1 e.1)) (sym place)
      by rest false t = rest

key-symm : (k l : Key) → same_key k l ≡ same_key l k
key-symm = (eq_by_cmp_equiv key_cmp_total).symm

-- a present key keeps its place
renewed : Key → Holder → Key → Holder → Holder
renewed key value k old = cond (same_key key k) value old

kept-value : (s t : ℕ) (key l : Key) (old value : Holder) (o : Option Present) → (b : Bool) → same_key l key ≡ b
    → (b ≡ true → o ≡ shown (Slot t old))
    → value_at s (cond b (shown (Slot t value)) o) ≡ option_map (renewed key value l) (value_at s o)
unfolding renewed
kept-value s t key l old value o true e is =
    by (eq_by_cmp nat_cmp s t) ∙ ap (λ o. option_map (λ old. cond (same_key key l) value old) (value_at s o)) (sym (is refl))
  where
    by : (a : Bool) → cond a (Some value) None ≡ option_map (λ old. cond (same_key key l) value old) (cond a (Some old) None)
    by true = ap (λ b. Some (cond b value old)) (sym (key-symm key l ∙ e))
    by false = refl
kept-value s t key l old value o false e is = by (value_at s o)
  where
    by : (v : Option Holder) → v ≡ option_map (λ old. cond (same_key key l) value old) v
    by None = refl
    by (Some v) = ap (λ b. Some (cond b value v)) (sym (key-symm key l ∙ e))

pairs-changed : (key : Key) (value : Holder) (es : Entries) → map pair_of (changed (renewed key value) es)
    ≡ map (with_value key value) (map pair_of es)
unfolding changed renewed
pairs-changed key value [] = refl
pairs-changed key value (e ∷ es) = λ i. by (same_key key e.0.1) i ∷ pairs-changed key value es i
  where
    by : (b : Bool) → ◌≡◌ {A = Pair} (record { key = e.0.1; value = cond b value e.1 })
        (cond b (record { key = e.0.1; value = value }) (record { key = e.0.1; value = e.1 }))
    by true = refl
    by false = refl

pub entries-kept : PresentKeepsPlace
unfolding entries_of
entries-kept parts key tick old value stands =
    ap (map pair_of) (known (set_at parts (cells.Key key) (shown (Slot tick value))) (changed (renewed key value) (entries (ordered parts)))
    (subst T (sym (sorted-changed (renewed key value) (entries (ordered parts)))) (entries_sorted (ordered parts)))
    (λ s l.
    ap (value_at s) (get-set_at cell_cmp_total parts (cells.Key key) (shown (Slot tick value)) (cells.Key l))
    ∙ kept-value s tick key l old value (get parts (cells.Key l)) (same_key l key) refl
    (λ e. sym (get-tied cell_cmp_total parts (cells.Key l) (cells.Key key) e) ∙ stands)
    ∙ ap (option_map (renewed key value l)) (sym (found-before parts s l))
    ∙ sym (find-changed (renewed key value) (s, l) (entries (ordered parts)))))
    ∙ pairs-changed key value (entries (ordered parts))

-- a key taken away leaves the others in their order
abbrev others : Key → Entries → Entries
others key es = where_key place_cmp (λ q. not (same_key key q.1)) es

abbrev other_pairs : Key → List Pair → List Pair
other_pairs key pairs = filter (λ pair. not (same_key key pair.key)) pairs

pairs-filter : (key : Key) (es : Entries) → map pair_of (others key es)
    ≡ other_pairs key (map pair_of es)
pairs-filter key [] = refl
pairs-filter key (e ∷ es) = by (not (same_key key e.0.1)) (pairs-filter key es)
  where
    by : (b : Bool) → map pair_of (others key es) ≡ other_pairs key (map pair_of es)
        → map pair_of (cond b (e ∷ others key es) (others key es))
        ≡ cond b (pair_of e ∷ other_pairs key (map pair_of es)) (other_pairs key (map pair_of es))
    by true rest = ap (λ xs. pair_of e ∷ xs) rest
    by false rest = rest

away-value : (s : ℕ) (key l : Key) (o : Option Present) (b : Bool) → value_at s (cond b None o) ≡ cond (not b) (value_at s o) None
away-value s key l o true = refl
away-value s key l o false = refl

pub entries-away : OthersStay
unfolding entries_of
entries-away parts key =
    ap (map pair_of) (known (set_at parts (cells.Key key) None) (others key (entries (ordered parts)))
    (is_sorted-where_key place_cmp (λ q. not (same_key key q.1)) (entries (ordered parts)) (entries_sorted (ordered parts)))
    (λ s l.
    ap (value_at s) (get-set_at cell_cmp_total parts (cells.Key key) None (cells.Key l))
    ∙ away-value s key l (get parts (cells.Key l)) (same_key l key)
    ∙ ap (λ b. cond (not b) (value_at s (get parts (cells.Key l))) None) (key-symm l key)
    ∙ ap (λ o. cond (not (same_key key l)) o None) (sym (found-before parts s l))
    ∙ sym (find-where_key place_cmp (λ q. not (same_key key q.1)) (s, l)
    (λ x e. ap (λ (q : Place). not (same_key key q.1)) (sym (place_cmp-IsAntisymmetric (s, l) x e)))
    (entries (ordered parts)))))
    ∙ pairs-filter key (entries (ordered parts))

-- a new key comes last
below-last : (q last : Place) (v : Holder) (es : Entries) → T (below_all place_cmp q es) → T (is_lt (place_cmp q last))
    → T (below_all place_cmp q (es ++ (last, v) ∷ []))
below-last q last v [] below less = by (is_lt (place_cmp q last)) less
  where
    by : (b : Bool) → T b → T (b && true)
    by true h = tt
    by false h = h
below-last q last v (e ∷ es) below less =
    both (is_lt (place_cmp q e.0)) (below_all place_cmp q (es ++ (last, v) ∷ []))
    (first (is_lt (place_cmp q e.0)) (below_all place_cmp q es) below)
    (below-last q last v es (second (is_lt (place_cmp q e.0)) (below_all place_cmp q es) below) less)
  where
    both : (a b : Bool) → T a → T b → T (a && b)
    both true b h g = g
    both false b h g = h

sorted-last : (last : Place) (v : Holder) (es : Entries) → T (is_sorted place_cmp es)
    → AllByRecursion (λ (e : Place × Holder). T (is_lt (place_cmp e.0 last))) es
    → T (is_sorted place_cmp (es ++ (last, v) ∷ []))
sorted-last last v [] sorted all = tt
sorted-last last v (e ∷ es) sorted all =
    both (below_all place_cmp e.0 (es ++ (last, v) ∷ [])) (is_sorted place_cmp (es ++ (last, v) ∷ []))
    (below-last e.0 last v es (first (below_all place_cmp e.0 es) (is_sorted place_cmp es) sorted) all.0)
    (sorted-last last v es (second (below_all place_cmp e.0 es) (is_sorted place_cmp es) sorted) all.1)
  where
    both : (a b : Bool) → T a → T b → T (a && b)
    both true b h g = g
    both false b h g = h

pairs-push : (es : Entries) (e : Place × Holder) → map pair_of (es ++ e ∷ []) ≡ map pair_of es ++ pair_of e ∷ []
pairs-push [] e = refl
pairs-push (f ∷ es) e = ap (λ xs. pair_of f ∷ xs) (pairs-push es e)

value-below : (s tick : ℕ) (o : Option Present) (v : Holder)
    → ((present : Present) (t : ℕ) → o ≡ Some present → tick_in present ≡ Some t → t < tick)
    → value_at s o ≡ Some v → s < tick
value-below s tick None v below e = cc
value-below s tick (Some (presents.Supers supers)) v below e = cc
value-below s tick (Some (presents.Value None value)) v below e = cc
value-below s tick (Some (presents.Value (Some t) value)) v below e = at (eq_by_cmp nat_cmp s t) refl e
  where
    at : (b : Bool) → eq_by_cmp nat_cmp s t ≡ b → cond b (Some value) None ≡ Some v → s < tick
    at true same e =
        let tie : s ≡ t = nat_cmp-IsAntisymmetric s t ((Equal-is (nat_cmp s t)).0 same) in
        let h : t < tick = below (presents.Value (Some t) value) t refl refl in
        omega arith
    at false same e = cc

less-last : (q last : Place) → q.0 < last.0 → T (is_lt (place_cmp q last))
less-last q last h = subst (λ r. T (is_lt (ordering_then r (key_cmp q.1 last.1)))) (nat_cmp_is q.0 last.0 Less h) tt

pub entries-last : NewComesLast
unfolding entries_of
entries-last parts key tick value none below =
    ap (map pair_of) (known (set_at parts (cells.Key key) (shown (Slot tick value))) (entries (ordered parts) ++ ((tick, key), value) ∷ [])
    (sorted-last (tick, key) value (entries (ordered parts)) (entries_sorted (ordered parts))
    (all-found place_cmp_total (λ (q : Place) (v : Holder). T (is_lt (place_cmp q (tick, key)))) (entries (ordered parts))
    (entries_sorted (ordered parts))
    (λ q v found. less-last q (tick, key) (value-below q.0 tick (get parts (cells.Key q.1)) v (below (cells.Key q.1))
    (sym (found-before parts q.0 q.1) ∙ found)))))
    (λ s l.
    sym (get-ordered (set_at parts (cells.Key key) (shown (Slot tick value))) s l)
    ∙ ap (λ m. get m (s, l)) (ordered-new parts tick key value none)
    ∙ get-insert place_cmp_total (ordered parts) (tick, key) value (s, l)
    ∙ ap (cond (eq_by_cmp place_cmp (s, l) (tick, key)) (Some value)) (get-entries (ordered parts) (s, l))
    ∙ sym (find-append place_cmp place_cmp_total (entries (ordered parts)) (tick, key) value (s, l)
    (found-before parts tick key ∙ ap (value_at tick) none))))
    ∙ pairs-push (entries (ordered parts)) ((tick, key), value)

-- old contents put back, and the default
pub entries-back : OldStandsWhereItStood
entries-back parts cell content = ap entries_of (set_at-back cell_cmp_total cell_cmp-IsAntisymmetric parts cell content)

pub entries-apart : DefaultIsApart
unfolding entries_of
entries-apart parts value = ap (λ m. map pair_of (entries m)) (ordered-Default parts (shown (Held value)))
