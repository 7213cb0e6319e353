-- Of a sound state nothing is trimmed.
use Rattle.std.proofs.Common.{◌≡◌, ℕ, true, cond, List, [], ◌∷◌, map, Option, Some, None, IsTrue, IsSome, refl, ap, subst, ◌∙◌}
use Rattle.std.specs.Prelude.{filter, is_some}
use Rattle.std.specs.FinMap.{get, entries, from_entries}
use Rattle.std.specs.Ordering.{nat_cmp}
use Rattle.std.specs.List.{AllByRecursion, flat_map}
use Rattle.std.proofs.lemmas.List.Concat.{flat_map-cons}
use Rattle.t3_holder.specs.declared.holder.Holder.{Holder}
use Rattle.t3_holder.specs.declared.holder.Holder.TheVariants as holders
use Rattle.t3_undo.specs.declared.key.Key.{Key}
use Rattle.t3_undo.specs.declared.key.Key.TheVariants as keys
use Rattle.t3_tables.specs.declared.pair.Pair.{Pair}
use Rattle.t3_store.specs.Value.{Value, Objects, Tads, Text, Items, Vector, Table}
use Rattle.t3_snapshot.specs.State.{trimmed, trimmed_value, trimmed_holder, trimmed_prop, trimmed_entry, trimmed_entries, keeps_key, named_by, named_by_key, named_in, named_as_keys, can_be_key, IsSoundState}
use Rattle.t3_snapshot.proofs.Sorted.{map_of_entries}
use Rattle.t3_snapshot.proofs.TrimmedValues.{all_parts}
use Rattle.t3_snapshot.proofs.Trim.{trim}

-- each of these is an object
abbrev AreThere : Objects → List ℕ → Type 0
AreThere state numbers = AllByRecursion (λ number. IsSome (get state number)) numbers

-- each of these is an object that can be a key
abbrev AreKeys : Objects → List ℕ → Type 0
AreKeys state numbers = AllByRecursion (λ number. IsTrue (can_be_key (get state number))) numbers

-- what is named in each of a list's items
each_named : {A : Type 0} (P : ℕ → Type 0) (f : A → List ℕ) (x : A) (xs : List A) → AllByRecursion P (flat_map f (x ∷ xs))
    → AllByRecursion P (f x) × AllByRecursion P (flat_map f xs)
each_named P f x xs all = all_parts P (f x) (flat_map f xs) (subst (AllByRecursion P) (flat_map-cons f x xs) all)

holder_stays : (state : Objects) (h : Holder) → AreThere state (named_by h) → trimmed_holder state h ≡ h
holder_stays state holders.Nil all = refl
holder_stays state holders.True all = refl
holder_stays state (holders.Obj n) all = ap (λ b. cond b (holders.Obj n) holders.Nil) all.0
holder_stays state (holders.Prop n) all = refl
holder_stays state (holders.Int n) all = refl
holder_stays state (holders.Text n) all = refl
holder_stays state (holders.Shown n) all = refl
holder_stays state (holders.List n) all = refl
holder_stays state (holders.Code n) all = refl
holder_stays state (holders.Func n) all = refl
holder_stays state (holders.Enum n) all = refl

items_stay : (state : Objects) (items : List Holder) → AreThere state (flat_map named_by items) → map (trimmed_holder state) items ≡ items
items_stay state [] all = refl
items_stay state (h ∷ items) all =
    let parts = each_named (λ number. IsSome (get state number)) named_by h items all in
    ap (λ x. x ∷ map (trimmed_holder state) items) (holder_stays state h parts.0) ∙ ap (λ xs. h ∷ xs) (items_stay state items parts.1)

props_stay : (state : Objects) (props : List (ℕ × Holder)) → AreThere state (flat_map (λ (p : ℕ × Holder). named_by p.1) props)
    → map (trimmed_prop state) props ≡ props
props_stay state [] all = refl
props_stay state (prop ∷ props) all =
    let parts = each_named (λ number. IsSome (get state number)) (λ (p : ℕ × Holder). named_by p.1) prop props all in
    ap (λ h. (prop.0, h) ∷ map (trimmed_prop state) props) (holder_stays state prop.1 parts.0)
    ∙ ap (λ ps. prop ∷ ps) (props_stay state props parts.1)

key_there : (o : Option Value) → IsTrue (can_be_key o) → is_some o ≡ true
key_there None able = absurd cc
key_there (Some value) able = refl

key_stays : (state : Objects) (key : Key) → AreKeys state (named_by_key key) → keeps_key state key ≡ true
key_stays state keys.Nil all = refl
key_stays state keys.True all = refl
key_stays state (keys.Int n) all = refl
key_stays state (keys.Enum n) all = refl
key_stays state (keys.Prop n) all = refl
key_stays state (keys.Func n) all = refl
key_stays state (keys.Obj n) all = key_there (get state n) all.0
key_stays state (keys.Text bytes) all = refl

pairs_stay : (state : Objects) (pairs : List Pair) → AreThere state (flat_map (λ (p : Pair). named_by p.value) pairs)
    → AreKeys state (flat_map (λ (p : Pair). named_by_key p.key) pairs) → trimmed_entries state pairs ≡ pairs
unfolding trimmed_entries
pairs_stay state [] values keys = refl
pairs_stay state (pair ∷ pairs) values keys =
    let value = each_named (λ number. IsSome (get state number)) (λ (p : Pair). named_by p.value) pair pairs values in
    let key = each_named (λ number. IsTrue (can_be_key (get state number))) (λ (p : Pair). named_by_key p.key) pair pairs keys in
    let rest : List Pair = filter (λ p. keeps_key state p.key) pairs in
    ap (λ b. map (trimmed_entry state) (cond b (pair ∷ rest) rest)) (key_stays state pair.key key.0)
    ∙ ap (λ h. record { key = pair.key; value = h } ∷ map (trimmed_entry state) rest) (holder_stays state pair.value value.0)
    ∙ ap (λ ps. pair ∷ ps) (pairs_stay state pairs value.1 key.1)

value_stays : (state : Objects) (v : Value) → AreThere state (named_in v) → AreKeys state (named_as_keys v) → trimmed_value state v ≡ v
unfolding named_in named_as_keys
value_stays state (Tads supers class props) named keys =
    ap (λ ps. Tads supers class (from_entries {R = nat_cmp} ps)) (props_stay state (entries props) named)
    ∙ ap (Tads supers class) (map_of_entries props)
value_stays state (Text bytes) named keys = refl
value_stays state (Items items) named keys = ap Items (items_stay state items named)
value_stays state (Vector items) named keys = ap Vector (items_stay state items named)
value_stays state (Table pairs default) named keys =
    let parts = all_parts (λ number. IsSome (get state number)) (named_by default)
    (flat_map (λ (p : Pair). named_by p.value) pairs) named in
    ap (λ ps. Table ps (trimmed_holder state default)) (pairs_stay state pairs parts.1 keys)
    ∙ ap (Table pairs) (holder_stays state default parts.0)

objects_stay : (state : Objects) (es : List (ℕ × Value)) → AreThere state (flat_map (λ (o : ℕ × Value). named_in o.1) es)
    → AreKeys state (flat_map (λ (o : ℕ × Value). named_as_keys o.1) es) → map (trim state) es ≡ es
objects_stay state [] named keys = refl
objects_stay state (e ∷ es) named keys =
    let holders = each_named (λ number. IsSome (get state number)) (λ (o : ℕ × Value). named_in o.1) e es named in
    let key = each_named (λ number. IsTrue (can_be_key (get state number))) (λ (o : ℕ × Value). named_as_keys o.1) e es keys in
    ap (λ v. (e.0, v) ∷ map (trim state) es) (value_stays state e.1 holders.0 key.0)
    ∙ ap (λ es. e ∷ es) (objects_stay state es holders.1 key.1)

pub sound_trimmed : (state : Objects) (next : ℕ) → IsSoundState state next → trimmed state ≡ state
unfolding trimmed
sound_trimmed state next sound =
    ap (from_entries {R = nat_cmp}) (objects_stay state (entries state) sound.complete.references sound.complete.keys)
    ∙ map_of_entries state
