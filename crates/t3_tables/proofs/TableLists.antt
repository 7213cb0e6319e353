-- A table's slots: what is true of them, and of those for numbered entries. Other crates may use these.
use Rattle.std.proofs.Common.{◌≡◌, T, ◌∙◌, ap, sym, subst, refl, ℕ, suc, ◌+◌, ◌<◌, Bool, true, false, cond, ◌||◌, List, [], ◌∷◌, map, length, Option, None, Some, is_some, true≢false, arith}
use Rattle.std.specs.Option.{option_and_then}
use Rattle.std.specs.Ordering.{nat_cmp, eq_by_cmp, is_eq, is_lt, ordering_then}
use Rattle.std.specs.declared.cmp.Ordering.{Ordering}
use Rattle.std.specs.declared.cmp.Ordering.TheVariants.{Less, Equal, Greater}
use Rattle.std.specs.Cmp.{nat_cmp_is, Equal-is, eq_by_cmp_equiv}
use Rattle.std.specs.List.{AllByRecursion, IsDistinct, list_any}
use Rattle.std.specs.Map.{keys_of, lookup}
use Rattle.std.specs.FinMap.{get, insert, contains_key, entries, entries_sorted, put, get-insert, entries-insert, get-entries, same_map, nat_cmp-IsAntisymmetric}
use Rattle.std.specs.FinMap.Entries.{by_order, below_all, is_sorted}
use Rattle.t3_holder.specs.declared.holder.Holder.{Holder}
use Rattle.t3_undo.specs.Cell.{cell_cmp_total, cell_cmp-IsAntisymmetric}
use Rattle.t3_undo.specs.Content.{Parts, shown, with_place, places_for}
use Rattle.t3_undo.specs.Present.{Present, tick_in}
use Rattle.t3_undo.specs.Present as presents
use Rattle.t3_undo.specs.Key.{key_cmp, key_cmp-IsAntisymmetric}
use Rattle.t3_undo.specs.Objects.{set_at}
use Rattle.t3_undo.specs.Slots.{parts_of, places_of, unstamped}
use Rattle.t3_undo.specs.declared.key.Key.{Key}
use Rattle.t3_undo.specs.declared.cell.Cell.{Cell}
use Rattle.t3_undo.specs.declared.cell.Cell.TheVariants as cells
use Rattle.t3_undo.specs.declared.content.Content.TheVariants.{Held, Slot}
use Rattle.t3_undo.specs.declared.place.Place.{Place as SlotPlace}
use Rattle.t3_undo.proofs.Maps.{get-set_at, first, second}
use Rattle.t3_undo.proofs.SlotLists.{same, same-is, seen, stamped, zero_if, get-parts_of, get-places_of, get-places_for, contains-places_of, lookup-none}
use Rattle.t3_tables.specs.declared.pair.Pair.{Pair}
use Rattle.t3_tables.specs.Table.{AreBelow, tick_after, place_cmp, ordered, pair_of, entries_of, with_default, numbered, filled}
use Rattle.t3_tables.specs.Inner.Slots.{IsEntry, IsTable}
use Rattle.t3_tables.proofs.OrderedEntries.{Place, place_cmp_total, same_key, value_at, at_tick, get-ordered, ordered-new, all-found, no-entries}
use Rattle.t3_tables.proofs.NumberedSlots.{distinct-numbered}
use Rattle.t3_tables.proofs.Defaults.{only-empty, only-insert, only-with_place, below-empty, below-set, entries-default}

some-of : {X : Type 0} (o : Option X) → is_some o ≡ true → (x : X) × (o ≡ Some x)
some-of None e = absurd (true≢false (sym e))
some-of (Some x) e = (x, refl)

-- a new table
pub table-new : IsTable [] 1
unfolding parts_of places_of
table-new = record { only = only-empty; below = below-empty 1 }

-- a place more, a cell that is set, another stamp, and places that go
module _ (old new : List (Cell × SlotPlace)) (next : ℕ) (table : IsTable old next) where
  alike : parts_of new ≡ parts_of old → AreBelow next (parts_of new)
  alike parts q present tick stands = table.below q present tick (sym (ap (λ p. get p q) parts) ∙ stands)

  pub table-place : (cell : Cell) → IsEntry cell → parts_of new ≡ parts_of old → places_of new ≡ with_place (places_of old) cell
      → IsTable new next
  table-place cell is parts places = record {
    only = λ q placed. only-with_place (places_of old) cell table.only is q (sym (ap (λ p. contains_key p q) places) ∙ placed);
    below = alike parts;
  }

  pub table-put : (cell : Cell) (o : Option Present) (after : ℕ) → parts_of new ≡ set_at (parts_of old) cell o
      → places_of new ≡ places_of old → after ≡ tick_after next o → IsTable new after
  table-put cell o after parts places is = record {
    only = λ q placed. table.only q (sym (ap (λ p. contains_key p q) places) ∙ placed);
    below = λ q present tick stands ticks.
        subst (λ n. tick < n) (sym is)
        (below-set next (parts_of old) cell o table.below q present tick (sym (ap (λ p. get p q) parts) ∙ stands) ticks);
  }

  pub table-stamp : (cell : Cell) (stamp : ℕ) → contains_key (places_of old) cell ≡ true → parts_of new ≡ parts_of old
      → places_of new ≡ insert (places_of old) cell stamp → IsTable new next
  table-stamp cell stamp placed parts places = record {
    only = λ q there.
        only-insert (places_of old) cell table.only (table.only cell placed) stamp q (sym (ap (λ p. contains_key p q) places) ∙ there);
    below = alike parts;
  }

  pub table-purge : parts_of new ≡ parts_of old
      → ((cell : Cell) (stamp : ℕ) → get (places_of new) cell ≡ Some stamp → get (places_of old) cell ≡ Some stamp) → IsTable new next
  table-purge parts fewer = record {
    only = λ q placed. let stamp = some-of (get (places_of new) q) placed in table.only q (ap is_some (fewer q stamp.0 stamp.1));
    below = alike parts;
  }

-- the default is none of the entries
pub absent-default : (slots : List (Cell × SlotPlace)) (next : ℕ) → IsTable slots next → get (parts_of slots) cells.Default ≡ None
absent-default slots next table = by (lookup (same cells.Default) slots) refl
  where
    by : (o : Option SlotPlace) → lookup (same cells.Default) slots ≡ o → get (parts_of slots) cells.Default ≡ None
    by None e = get-parts_of slots cells.Default ∙ ap seen e
    by (Some place) e = absurd (table.only cells.Default (contains-places_of slots cells.Default ∙ ap is_some e))

-- the keys of the entries are distinct
tick_of : Option Present → Option ℕ
tick_of None = None
tick_of (Some present) = tick_in present

at_tick-is : (t : ℕ) (tick : Option ℕ) (value v : Holder) → at_tick t tick value ≡ Some v → tick ≡ Some t
at_tick-is t None value v e = cc
at_tick-is t (Some s) value v e = by (eq_by_cmp nat_cmp t s) refl e
  where
    by : (b : Bool) → eq_by_cmp nat_cmp t s ≡ b → cond b (Some value) None ≡ Some v → Some s ≡ Some t
    by true is e = ap Some (sym (nat_cmp-IsAntisymmetric t s ((Equal-is (nat_cmp t s)).0 is)))
    by false is e = cc

value_at-is : (t : ℕ) (o : Option Present) (v : Holder) → value_at t o ≡ Some v → tick_of o ≡ Some t
unfolding tick_of
value_at-is t None v e = cc
value_at-is t (Some (presents.Value tick value)) v e = at_tick-is t tick value v e
value_at-is t (Some (presents.Supers supers)) v e = cc

-- each entry has the tick that its key has
ticked : (parts : Parts) → AllByRecursion (λ (e : Place × Holder). tick_of (get parts (cells.Key e.0.1)) ≡ Some e.0.0)
    (entries (ordered parts))
ticked parts =
    all-found place_cmp_total (λ (q : Place) (v : Holder). tick_of (get parts (cells.Key q.1)) ≡ Some q.0) (entries (ordered parts))
    (entries_sorted (ordered parts))
    (λ q v found. value_at-is q.0 (get parts (cells.Key q.1)) v
    (sym (get-ordered parts q.0 q.1) ∙ get-entries (ordered parts) q ∙ found))

module _ (tick_at : Key → Option ℕ) where
  abbrev Ticked : Place × Holder → Type 0
  Ticked e = tick_at e.0.1 ≡ Some e.0.0

  other_keys : (e : Place × Holder) (es : List (Place × Holder)) → Ticked e → AllByRecursion Ticked es → T (below_all place_cmp e.0 es)
      → AllByRecursion (λ key. same_key e.0.1 key ≡ false) (map (λ pair. pair.key) (map pair_of es))
  other_keys e [] is all below = tt
  other_keys e (f ∷ es) is all below =
      (by (same_key e.0.1 f.0.1) refl, other_keys e es is all.1 (second (is_lt (place_cmp e.0 f.0)) (below_all place_cmp e.0 es) below))
    where
      by : (b : Bool) → same_key e.0.1 f.0.1 ≡ b → b ≡ false
      by true t =
          let key : e.0.1 ≡ f.0.1 = key_cmp-IsAntisymmetric e.0.1 f.0.1 ((Equal-is (key_cmp e.0.1 f.0.1)).0 t) in
          let tick : e.0.0 ≡ f.0.0 = cc (is, all.0, ap tick_at key) in
          let place : e.0 ≡ f.0 = λ i. (tick i, key i) in
          let P : Place → Type 0 = λ p. T (is_lt (place_cmp e.0 p)) in
          let less : T (is_lt (place_cmp e.0 e.0)) =
          subst P (sym place) (first (is_lt (place_cmp e.0 f.0)) (below_all place_cmp e.0 es) below) in
          absurd (itself (place_cmp e.0 e.0) ((eq_by_cmp_equiv place_cmp_total).refl e.0) less)
        where
          itself : (r : Ordering) → is_eq r ≡ true → T (is_lt r) → ⊥
          itself Less e h = true≢false (sym e)
          itself Equal e h = h
          itself Greater e h = h
      by false t = refl

  distinct_keys : (es : List (Place × Holder)) → AllByRecursion Ticked es → T (is_sorted place_cmp es)
      → IsDistinct same_key (map (λ pair. pair.key) (map pair_of es))
  unfolding IsDistinct
  distinct_keys [] all sorted = tt
  distinct_keys (e ∷ es) all sorted = (
    other_keys e es all.0 all.1 (first (below_all place_cmp e.0 es) (is_sorted place_cmp es) sorted),
    distinct_keys es all.1 (second (below_all place_cmp e.0 es) (is_sorted place_cmp es) sorted),
  )

pub distinct-gathered : (parts : Parts) → IsDistinct same_key (map (λ pair. pair.key) (map pair_of (entries (ordered parts))))
distinct-gathered parts =
    distinct_keys (λ key. tick_of (get parts (cells.Key key))) (entries (ordered parts)) (ticked parts) (entries_sorted (ordered parts))

-- the entries of slots with the ticks from one on
abbrev timed : ℕ → List Pair → List (Place × Holder)
timed tick [] = []
timed tick (pair ∷ pairs) = ((tick, pair.key), pair.value) ∷ timed (suc tick) pairs

put-first : (t tick : ℕ) (key : Key) (value : Holder) (pairs : List Pair) → t < tick
    → put place_cmp (t, key) value (timed tick pairs) ≡ ((t, key), value) ∷ timed tick pairs
put-first t tick key value [] h = refl
put-first t tick key value (pair ∷ pairs) h =
    ap (λ r. by_order (ordering_then r (key_cmp key pair.key)) (((t, key), value) ∷ ((tick, pair.key), pair.value) ∷ timed (suc tick) pairs)
    (((tick, pair.key), value) ∷ timed (suc tick) pairs)
    (((tick, pair.key), pair.value) ∷ put place_cmp (t, key) value (timed (suc tick) pairs)))
    (sym (nat_cmp_is t tick Less h))

entries-numbered : (tick : ℕ) (pairs : List Pair) → IsDistinct same (keys_of (numbered tick pairs))
    → entries (ordered (parts_of (numbered tick pairs))) ≡ timed tick pairs
unfolding parts_of IsDistinct
entries-numbered tick [] apart = no-entries
entries-numbered tick (pair ∷ pairs) apart =
    ap entries (ordered-new (parts_of (numbered (suc tick) pairs)) tick pair.key pair.value
    (get-parts_of (numbered (suc tick) pairs) (cells.Key pair.key)
    ∙ ap seen (lookup-none (numbered (suc tick) pairs) (cells.Key pair.key)
    (none_among (cells.Key pair.key) (keys_of (numbered (suc tick) pairs)) apart.0))))
    ∙ entries-insert place_cmp_total (ordered (parts_of (numbered (suc tick) pairs))) (tick, pair.key) pair.value
    ∙ ap (put place_cmp (tick, pair.key) pair.value) (entries-numbered (suc tick) pairs apart.1)
    ∙ put-first tick (suc tick) pair.key pair.value pairs (omega arith)
  where
    none_among : (cell : Cell) (cells : List Cell) → AllByRecursion (λ c. same cell c ≡ false) cells → list_any (same cell) cells ≡ false
    none_among cell [] all = refl
    none_among cell (c ∷ cs) all = ap (λ b. b || list_any (same cell) cs) all.0 ∙ none_among cell cs all.1

pairs-timed : (tick : ℕ) (pairs : List Pair) → map pair_of (timed tick pairs) ≡ pairs
pairs-timed tick [] = refl
pairs-timed tick (pair ∷ pairs) = ap (λ xs. pair ∷ xs) (pairs-timed (suc tick) pairs)

-- the entries of a table that has just these
pub entries-filled : (default : Holder) (pairs : List Pair) → IsDistinct same_key (map (λ pair. pair.key) pairs)
    → entries_of (filled default pairs) ≡ pairs
unfolding entries_of
entries-filled default pairs apart =
    entries-default (parts_of (numbered 1 pairs)) default
    ∙ ap (map pair_of) (entries-numbered 1 pairs (distinct-numbered 1 pairs apart))
    ∙ pairs-timed 1 pairs

-- what is found among numbered slots
abbrev IsBelow : ℕ → SlotPlace → Type 0
IsBelow limit place = (present : Present) (t : ℕ) → shown place.content ≡ Some present → tick_in present ≡ Some t → t < limit

found-numbered : (tick : ℕ) (pairs : List Pair) (cell : Cell) (place : SlotPlace)
    → lookup (same cell) (numbered tick pairs) ≡ Some place → IsEntry cell × IsBelow (tick + length pairs) place
found-numbered tick [] cell place e = cc
found-numbered tick (pair ∷ pairs) cell place e =
    by (found-numbered (suc tick) pairs cell place) (same cell (cells.Key pair.key)) refl e
  where
    by : (lookup (same cell) (numbered (suc tick) pairs) ≡ Some place → IsEntry cell × IsBelow (suc tick + length pairs) place)
        → (b : Bool) → same cell (cells.Key pair.key) ≡ b
        → cond b (Some (unstamped (Slot tick pair.value))) (lookup (same cell) (numbered (suc tick) pairs)) ≡ Some place
        → IsEntry cell × IsBelow (tick + suc (length pairs)) place
    by rest true is e =
        let slot : unstamped (Slot tick pair.value) ≡ place = cc in (
          subst IsEntry (sym (same-is cell (cells.Key pair.key) is)) tt,
          λ present t shows ticks.
              let held : Some (presents.Value (Some tick) pair.value) ≡ Some present = ap (λ p. shown p.content) slot ∙ shows in
              let timed : Some tick ≡ Some t = ap (option_and_then tick_in) held ∙ ticks in
              let same_tick : t ≡ tick = cc in
              omega (arith, same_tick),
        )
    by rest false is e = let r = rest e in (r.0, λ present t shows ticks. let h = r.1 present t shows ticks in omega (arith, h))

stamps-numbered : (tick : ℕ) (pairs : List Pair) (cell : Cell) → stamped (lookup (same cell) (numbered tick pairs))
    ≡ zero_if (is_some (seen (lookup (same cell) (numbered tick pairs))))
stamps-numbered tick [] cell = refl
stamps-numbered tick (pair ∷ pairs) cell = by (same cell (cells.Key pair.key)) (stamps-numbered (suc tick) pairs cell)
  where
    by : (b : Bool) → stamped (lookup (same cell) (numbered (suc tick) pairs))
        ≡ zero_if (is_some (seen (lookup (same cell) (numbered (suc tick) pairs))))
        → stamped (cond b (Some (unstamped (Slot tick pair.value))) (lookup (same cell) (numbered (suc tick) pairs)))
        ≡ zero_if (is_some (seen (cond b (Some (unstamped (Slot tick pair.value))) (lookup (same cell) (numbered (suc tick) pairs)))))
    by true rest = refl
    by false rest = rest

seen-some : (o : Option SlotPlace) (present : Present) → seen o ≡ Some present
    → (place : SlotPlace) × ((o ≡ Some place) × (shown place.content ≡ Some present))
seen-some None present e = cc
seen-some (Some place) present e = (place, (refl, e))

pub table-numbered : (pairs : List Pair) → IsTable (numbered 1 pairs) (length pairs + 1)
table-numbered pairs = record {
  only = λ cell placed.
      let found = some-of (lookup (same cell) (numbered 1 pairs)) (sym (contains-places_of (numbered 1 pairs) cell) ∙ placed) in
      (found-numbered 1 pairs cell found.0 found.1).0;
  below = λ cell present tick stands is.
      let found = seen-some (lookup (same cell) (numbered 1 pairs)) present (sym (get-parts_of (numbered 1 pairs) cell) ∙ stands) in
      let h = (found-numbered 1 pairs cell found.0 found.1.0).1 present tick found.1.1 is in
      omega (arith, h);
}

-- a place with stamp 0 for each present cell alone
pub places-filled : (default : Holder) (pairs : List Pair)
    → insert (places_of (numbered 1 pairs)) cells.Default 0 ≡ places_for (filled default pairs)
places-filled default pairs =
    same_map cell_cmp_total cell_cmp-IsAntisymmetric _ _ (λ q.
    get-insert cell_cmp_total (places_of (numbered 1 pairs)) cells.Default 0 q
    ∙ ap (cond (same q cells.Default) (Some 0)) (get-places_of (numbered 1 pairs) q ∙ stamps-numbered 1 pairs q
    ∙ ap (λ o. zero_if (is_some o)) (sym (get-parts_of (numbered 1 pairs) q)))
    ∙ by (same q cells.Default) (get (parts_of (numbered 1 pairs)) q)
    ∙ ap (λ o. zero_if (is_some o)) (sym (get-set_at cell_cmp_total (parts_of (numbered 1 pairs)) cells.Default (shown (Held default)) q))
    ∙ sym (get-places_for (filled default pairs) q))
  where
    by : (b : Bool) (o : Option Present) → cond b (Some 0) (zero_if (is_some o)) ≡ zero_if (is_some (cond b (shown (Held default)) o))
    by true o = refl
    by false o = refl

-- the entries as they are gathered
pub gathered-entries : (parts : Parts) (default : Holder) → map pair_of (entries (ordered parts)) ≡ entries_of (with_default parts default)
unfolding entries_of
gathered-entries parts default = sym (entries-default parts default)

pub distinct-entries_of : (parts : Parts) → IsDistinct same_key (map (λ pair. pair.key) (entries_of parts))
unfolding entries_of
distinct-entries_of parts = distinct-gathered parts
