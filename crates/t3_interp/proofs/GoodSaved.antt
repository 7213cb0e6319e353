-- What is left of values without references to what isn't there still has what all of their holders have, where nil has it.
use Rattle.std.proofs.Common.{◌≡◌, ℕ, Bool, true, false, cond, List, [], ◌∷◌, map, Option, Some, None, refl, sym, ap, subst, ◌∙◌}
use Rattle.std.specs.Prelude.{filter, is_some, option_map}
use Rattle.std.specs.FinMap.{get, entries, find, get-entries}
use Rattle.std.specs.Ordering.{nat_cmp, eq_by_cmp}
use Rattle.std.specs.List.{AllByRecursion}
use Rattle.t3_holder.specs.declared.holder.Holder.{Holder}
use Rattle.t3_holder.specs.declared.holder.Holder.TheVariants as holders
use Rattle.t3_tables.specs.declared.pair.Pair.{Pair}
use Rattle.t3_store.specs.Value.{Value, Objects, Tads, Text, Items, Vector, Table}
use Rattle.t3_tadsobj.specs.Props.{PropMap}
use Rattle.t3_store.specs.Invariant.{HoldsOfEach}
use Rattle.t3_snapshot.specs.Good.{IsGoodPair, HasGoodProps, IsGoodProp, HasGoodParts}
use Rattle.t3_snapshot.specs.State.{trimmed, trimmed_holder, trimmed_value, trimmed_props, trimmed_entry, trimmed_entries, keeps_key}
use Rattle.t3_snapshot.proofs.Sorted.{mapped_are}
use Rattle.t3_snapshot.proofs.TrimmedValues.{all_to, get_trimmed}

option-step : {A B : Type 0} (f : A → B) (b : Bool) (v : A) (o : Option A) (p : Option B) → p ≡ option_map f o
    → cond b (Some (f v)) p ≡ option_map f (cond b (Some v) o)
option-step f true v o p e = refl
option-step f false v o p e = e

find-mapped : {A B : Type 0} (f : A → B) (n : ℕ) (es : List (ℕ × A))
    → find nat_cmp n (map (λ e. (e.0, f e.1)) es) ≡ option_map f (find nat_cmp n es)
find-mapped f n [] = refl
find-mapped f n (e ∷ es) =
    option-step f (eq_by_cmp nat_cmp n e.0) e.1 (find nat_cmp n es) (find nat_cmp n (map (λ e. (e.0, f e.1)) es)) (find-mapped f n es)

get-trimmed-props : (state : Objects) (props : PropMap) (n : ℕ)
    → get (trimmed_props state props) n ≡ option_map (trimmed_holder state) (get props n)
get-trimmed-props state props n =
    get-entries (trimmed_props state props) n ∙ ap (find nat_cmp n) (mapped_are (trimmed_holder state) props)
    ∙ find-mapped (trimmed_holder state) n (entries props) ∙ ap (option_map (trimmed_holder state)) (sym (get-entries props n))

module _ (Good : Holder → Type 0) (nil : Good holders.Nil) where
  good-holder : (state : Objects) (h : Holder) → Good h → Good (trimmed_holder state h)
  good-holder state holders.Nil good = good
  good-holder state holders.True good = good
  good-holder state (holders.Obj n) good = by (is_some (get state n))
    where
      by : (b : Bool) → Good (cond b (holders.Obj n) holders.Nil)
      by true = good
      by false = nil
  good-holder state (holders.Prop n) good = good
  good-holder state (holders.Int n) good = good
  good-holder state (holders.Text n) good = good
  good-holder state (holders.Shown n) good = good
  good-holder state (holders.List n) good = good
  good-holder state (holders.Code n) good = good
  good-holder state (holders.Func n) good = good
  good-holder state (holders.Enum n) good = good

  good-props : (state : Objects) (props : PropMap) → HasGoodProps Good props → HasGoodProps Good (trimmed_props state props)
  good-props state props good number value there = by (get props number) refl (sym (get-trimmed-props state props number) ∙ there)
    where
      by : (o : Option Holder) → get props number ≡ o → option_map (trimmed_holder state) o ≡ Some value → IsGoodProp Good number value
      by None e is = absurd cc
      by (Some h) e is =
          let own = good number h e in
          let same : trimmed_holder state h ≡ value = cc in
          record { named = own.named; fits = own.fits; value = subst Good same (good-holder state h own.value) }

  good-pair : (state : Objects) (pair : Pair) → IsGoodPair Good pair → IsGoodPair Good (trimmed_entry state pair)
  good-pair state pair good = record { key = good.key; value = good-holder state pair.value good.value }

  good-pairs : (state : Objects) (pairs : List Pair) → AllByRecursion (IsGoodPair Good) pairs
      → AllByRecursion (IsGoodPair Good) (trimmed_entries state pairs)
  unfolding trimmed_entries
  good-pairs state [] good = tt
  good-pairs state (pair ∷ pairs) good = by (keeps_key state pair.key) (good-pairs state pairs good.1)
    where
      rest : List Pair
      rest = filter (λ p. keeps_key state p.key) pairs

      by : (b : Bool) → AllByRecursion (IsGoodPair Good) (map (trimmed_entry state) rest)
          → AllByRecursion (IsGoodPair Good) (map (trimmed_entry state) (cond b (pair ∷ rest) rest))
      by true others = (good-pair state pair good.0, others)
      by false others = others

  good-value : (state : Objects) (v : Value) → HasGoodParts Good v → HasGoodParts Good (trimmed_value state v)
  good-value state (Tads supers class props) good = (good.0, good-props state props good.1)
  good-value state (Text bytes) good = good
  good-value state (Items items) good = all_to Good Good (trimmed_holder state) (good-holder state) items good
  good-value state (Vector items) good = all_to Good Good (trimmed_holder state) (good-holder state) items good
  good-value state (Table pairs default) good =
      record { pairs = good-pairs state pairs good.pairs; default = good-holder state default good.default }

  pub good-trimmed : (state : Objects) → HoldsOfEach (HasGoodParts Good) state → HoldsOfEach (HasGoodParts Good) (trimmed state)
  good-trimmed state good number value there = by (get state number) refl (sym (get_trimmed state number) ∙ there)
    where
      by : (o : Option Value) → get state number ≡ o → option_map (trimmed_value state) o ≡ Some value → HasGoodParts Good value
      by None e is = absurd cc
      by (Some v) e is =
          let same : trimmed_value state v ≡ value = cc in
          subst (HasGoodParts Good) same (good-value state v (good number v e))
