-- A state that can be saved is sound once it is trimmed.
use Rattle.std.proofs.Common.{ℕ, ◌<◌, ◌≤◌, List, [], ◌∷◌, length, map, IsTrue, sym, ap, subst, arith}
use Rattle.std.specs.Prelude.{sum_by}
use Rattle.std.specs.FinMap.{entries, is_sorted, len-entries}
use Rattle.std.specs.FinMap.Entries.{below_all}
use Rattle.std.specs.Ordering.{nat_cmp}
use Rattle.std.specs.List.{AllByRecursion, flat_map}
use Rattle.std.proofs.lemmas.List.{length-map}
use Rattle.std.proofs.lemmas.List.Sums.{sum_by-cons}
use Rattle.t3_store.specs.Value.{Value, Objects, units_of}
use Rattle.t3_store.specs.Whole.{IsWhole}
use Rattle.t3_snapshot.specs.Layout.{IsSpellable, AreInTurn}
use Rattle.t3_snapshot.specs.State.{trimmed, named_in, named_as_keys, IsSoundState}
use Rattle.t3_snapshot.specs.Savable.{IsHeldKey, IsSavable}
use Rattle.t3_snapshot.proofs.Sorted.{and_parts, all_below, in_order}
use Rattle.t3_snapshot.proofs.Trim.{trim, IsThere, trimmed_entries_are, entries_there}
use Rattle.t3_snapshot.proofs.TrimmedValues.{AsKey, Named, all_flat, all_to, supers_trim, value_good, value_keys, value_less, value_named}

-- what is known of an object
record IsKnown (top : ℕ) (state : Objects) (e : ℕ × Value) : Type 0 where
  numbered : (0 < e.0) × (e.0 < top)
  good : IsSpellable e.1
  held : AllByRecursion (IsHeldKey top state) (named_as_keys e.1)

known_each : (top : ℕ) (state : Objects) → IsSavable top state → (es : List (ℕ × Value)) → AllByRecursion (IsThere state) es
    → AllByRecursion (IsKnown top state) es
known_each top state savable [] all = tt
known_each top state savable (e ∷ es) all = (
  record { numbered = savable.numbers e.0 e.1 all.0; good = savable.spellable e.0 e.1 all.0; held = savable.keys e.0 e.1 all.0 },
  known_each top state savable es all.1,
)

in_turn : (top : ℕ) (state : Objects) (last : ℕ) (es : List (ℕ × Value)) → AllByRecursion (λ e. last < e.0) es
    → IsTrue (is_sorted nat_cmp es) → AllByRecursion (IsKnown top state) es
    → AreInTurn last top (map (trim state) es)
in_turn top state last [] above sorted known = tt
in_turn top state last (e ∷ es) above sorted known =
    let p = and_parts (below_all nat_cmp e.0 es) (is_sorted nat_cmp es) sorted in
    (above.0, known.0.numbered.1, value_good state e.1 known.0.good, in_turn top state e.0 es (all_below e.0 es p.0) p.1 known.1)

above_zero : (top : ℕ) (state : Objects) (es : List (ℕ × Value)) → AllByRecursion (IsKnown top state) es → AllByRecursion (λ e. 0 < e.0) es
above_zero top state [] known = tt
above_zero top state (e ∷ es) known = (known.0.numbered.0, above_zero top state es known.1)

units_less : (top : ℕ) (state : Objects) (es : List (ℕ × Value)) → AllByRecursion (IsKnown top state) es
    → sum_by (λ (e : ℕ × Value). units_of e.1) (map (trim state) es) ≤ sum_by (λ (e : ℕ × Value). units_of e.1) es
units_less top state [] known = omega arith
units_less top state (e ∷ es) known =
    omega (
      arith,
      units_less top state es known.1,
      value_less state e.1 known.0.good,
      sum_by-cons (λ (e : ℕ × Value). units_of e.1) e es,
      sum_by-cons (λ (e : ℕ × Value). units_of e.1) (trim state e) (map (trim state) es),
    )

pub savable_sound : (top : ℕ) (state : Objects) → IsSavable top state → IsSoundState (trimmed state) top
savable_sound top state savable =
    let known = known_each top state savable (entries state) (entries_there state) in
    let are = trimmed_entries_are state in
    record {
      turn = subst (AreInTurn 0 top) (sym are)
          (in_turn top state 0 (entries state) (above_zero top state (entries state) known) (in_order state) known);
      complete = record {
        next = savable.next;
        references = subst (λ es. AllByRecursion (Named state) (flat_map (λ (o : ℕ × Value). named_in o.1) es)) (sym are)
            (all_flat (Named state) (IsNamed state) (λ (o : ℕ × Value). named_in o.1) (λ o named. named) (map (trim state) (entries state))
            (all_to (IsKnown top state) (IsNamed state) (trim state) (λ e k. value_named state e.1 k.good) (entries state) known));
        keys = subst (λ es. AllByRecursion (AsKey state) (flat_map (λ (o : ℕ × Value). named_as_keys o.1) es)) (sym are)
            (all_flat (AsKey state) (IsNamedAsKeys state) (λ (o : ℕ × Value). named_as_keys o.1) (λ o named. named)
            (map (trim state) (entries state))
            (all_to (IsKnown top state) (IsNamedAsKeys state) (trim state) (λ e k. value_keys top state e.1 k.held) (entries state) known));
        whole = subst IsWhole (sym (supers_trim state)) savable.whole;
        objects = omega (
          arith,
          savable.few,
          len-entries state,
          len-entries (trimmed state),
          ap length are,
          length-map (entries state) (trim state),
        );
        units = omega (
          arith,
          savable.few_units,
          units_less top state (entries state) known,
          ap (sum_by (λ (e : ℕ × Value). units_of e.1)) are,
        );
      };
    }
  where
    IsNamed : Objects → ℕ × Value → Type 0
    IsNamed s o = AllByRecursion (Named s) (named_in o.1)

    IsNamedAsKeys : Objects → ℕ × Value → Type 0
    IsNamedAsKeys s o = AllByRecursion (AsKey s) (named_as_keys o.1)
