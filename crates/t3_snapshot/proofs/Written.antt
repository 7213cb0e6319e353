-- What is written item by item.
use Rattle.std.proofs.Common.{◌≡◌, ℕ, zero, suc, ◌<◌, Bool, true, false, List, [], ◌∷◌, ◌++◌, length, map, get_or, IsTrue, cond, refl, sym, ap, subst, ◌∙◌, arith, append_assoc}
use Rattle.std.specs.Prelude.{filter, Result, Ok, Err, OnOk}
use Rattle.std.specs.List.{flat_map, AllByRecursion}
use Rattle.std.proofs.lemmas.List.{length-map}
use Rattle.std.proofs.lemmas.List.Concat.{flat_map-cons}
use Rattle.t3_tables.specs.declared.pair.Pair.{Pair}
use Rattle.t3_store.specs.Value.{Objects}
use Rattle.t3_holder.specs.NumberText.{little_endian}
use Rattle.t3_snapshot.specs.Layout.{entry_text, IsEntry, counted_text}
use Rattle.t3_snapshot.specs.State.{keeps_key, trimmed_entry, trimmed_entries}
use Rattle.t3_snapshot.specs.Inner.Writing.{kept_text}

pub each_item : {A B : Type 0} (P : B → Type 0) (f : A → B) (xs : List A) (i : ℕ) (x : A) → AllByRecursion P (map f xs) → i < length xs
    → x ≡ get_or xs i x → P (f x)
each_item P f [] i x all lt is = absurd (omega arith)
each_item P f (y ∷ xs) zero x all lt is = subst (λ z. P (f z)) (sym is) all.0
each_item P f (y ∷ xs) (suc i) x all lt is = each_item P f xs i x all.1 (omega arith) is

pub each_of : {A : Type 0} (P : A → Type 0) (xs : List A) (i : ℕ) (x : A) → AllByRecursion P xs → i < length xs → x ≡ get_or xs i x → P x
each_of P [] i x all lt is = absurd (omega arith)
each_of P (y ∷ xs) zero x all lt is = subst P (sym is) all.0
each_of P (y ∷ xs) (suc i) x all lt is = each_of P xs i x all.1 (omega arith) is

-- the texts of the entries that are kept
pub kept_texts : (state : Objects) (pairs : List Pair)
    → flat_map (kept_text state) pairs ≡ flat_map entry_text (trimmed_entries state pairs)
unfolding trimmed_entries
kept_texts state [] = refl
kept_texts state (pair ∷ pairs) =
    flat_map-cons (kept_text state) pair pairs ∙ ap (λ x. kept_text state pair ++ x) (kept_texts state pairs)
    ∙ by (keeps_key state pair.key)
  where
    by : (b : Bool) → cond b (entry_text (trimmed_entry state pair)) []
        ++ flat_map entry_text (map (trimmed_entry state) (filter (λ p. keeps_key state p.key) pairs))
        ≡ flat_map entry_text (map (trimmed_entry state)
        (cond b (pair ∷ filter (λ p. keeps_key state p.key) pairs) (filter (λ p. keeps_key state p.key) pairs)))
    by true =
        sym (flat_map-cons entry_text (trimmed_entry state pair) (map (trimmed_entry state) (filter (λ p. keeps_key state p.key) pairs)))
    by false = refl

-- what holds of the entries that are kept
pub kept_fit : (state : Objects) (pairs : List Pair) → AllByRecursion IsEntry (trimmed_entries state pairs)
    → AllByRecursion (λ pair. IsTrue (keeps_key state pair.key) → IsEntry (trimmed_entry state pair)) pairs
unfolding trimmed_entries
kept_fit state [] all = tt
kept_fit state (pair ∷ pairs) all = by (keeps_key state pair.key) refl all (λ rest. kept_fit state pairs rest)
  where
    by : (b : Bool) → keeps_key state pair.key ≡ b
        → AllByRecursion IsEntry (map (trimmed_entry state)
        (cond b (pair ∷ filter (λ p. keeps_key state p.key) pairs) (filter (λ p. keeps_key state p.key) pairs)))
        → (AllByRecursion IsEntry (map (trimmed_entry state) (filter (λ p. keeps_key state p.key) pairs))
        → AllByRecursion (λ pair. IsTrue (keeps_key state pair.key) → IsEntry (trimmed_entry state pair)) pairs)
        → (IsTrue (keeps_key state pair.key) → IsEntry (trimmed_entry state pair))
        × AllByRecursion (λ pair. IsTrue (keeps_key state pair.key) → IsEntry (trimmed_entry state pair)) pairs
    by true is all go = ((λ _. all.0), go all.1)
    by false is all go = ((λ so. absurd cc), go all)

pub kept_count : (state : Objects) (pairs : List Pair)
    → length (trimmed_entries state pairs) ≡ length (filter (λ p. keeps_key state p.key) pairs)
unfolding trimmed_entries
kept_count state pairs = length-map (filter (λ p. keeps_key state p.key) pairs) (trimmed_entry state)

pub each_index : {A B : Type 0} (P : B → Type 0) (f : A → B) (xs : List A) (i : ℕ) (d : A) → AllByRecursion P (map f xs) → i < length xs
    → P (f (get_or xs i d))
each_index P f [] i d all lt = absurd (omega arith)
each_index P f (y ∷ xs) zero d all lt = all.0
each_index P f (y ∷ xs) (suc i) d all lt = each_index P f xs i d all.1 (omega arith)

-- a count and items written one after the other
pub counted_written : {A : Type 0} (width : ℕ) (text : A → List ℕ) (items : List A) (n : ℕ) (old bytes mid new : List ℕ) {written : List ℕ}
    → n ≡ length items
    → bytes ≡ little_endian width n → mid ≡ old ++ bytes → new ≡ mid ++ written → written ≡ flat_map text items
    → new ≡ old ++ counted_text width text items
unfolding counted_text
counted_written width text items n old bytes mid new {written} count number first second same =
    second ∙ ap (λ x. x ++ written) (first ∙ ap (λ x. old ++ x) (number ∙ ap (little_endian width) count))
    ∙ ap (λ x. (old ++ little_endian width (length items)) ++ x) same
    ∙ append_assoc old (little_endian width (length items)) (flat_map text items)

pub on_ok : {R E : Type 0} (r : Result R E) (P Q : Type 0) → OnOk r P → (P → Q) → OnOk r Q
on_ok (Ok x) P Q p f = f p
on_ok (Err e) P Q p f = tt

pub state_written : (old a b new head next count objects texts : List ℕ) → a ≡ old ++ head → b ≡ a ++ (next ++ count) → new ≡ b ++ objects
    → objects ≡ texts
    → new ≡ old ++ (head ++ (next ++ (count ++ texts)))
state_written old a b new head next count objects texts first second third same =
    third ∙ ap (λ x. x ++ objects) (second ∙ ap (λ x. x ++ (next ++ count)) first) ∙ ap (λ x. ((old ++ head) ++ (next ++ count)) ++ x) same
    ∙ append_assoc (old ++ head) (next ++ count) texts ∙ append_assoc old head ((next ++ count) ++ texts)
    ∙ ap (λ x. old ++ (head ++ x)) (append_assoc next count texts)

-- ---- what is mapped twice, as properties are

pub each_at : {A : Type 0} (P : A → Type 0) (xs : List A) (i : ℕ) (d : A) → AllByRecursion P xs → i < length xs → P (get_or xs i d)
each_at P [] i d all lt = absurd (omega arith)
each_at P (x ∷ xs) zero d all lt = all.0
each_at P (x ∷ xs) (suc i) d all lt = each_at P xs i d all.1 (omega arith)

pub mapped_length : {A B C : Type 0} (f : A → B) (g : B → C) (xs : List A) → length (map g (map f xs)) ≡ length xs
mapped_length f g [] = refl
mapped_length f g (x ∷ xs) = ap suc (mapped_length f g xs)

pub all_unmapped : {A B C : Type 0} (P : C → Type 0) (f : A → B) (g : B → C) (xs : List A) → AllByRecursion P (map g (map f xs))
    → AllByRecursion (λ x. P (g (f x))) xs
all_unmapped P f g [] all = tt
all_unmapped P f g (x ∷ xs) all = (all.0, all_unmapped P f g xs all.1)

pub texts_mapped : {A B C : Type 0} (text : C → List ℕ) (f : A → B) (g : B → C) (xs : List A)
    → flat_map (λ x. text (g (f x))) xs ≡ flat_map text (map g (map f xs))
texts_mapped text f g [] = refl
texts_mapped text f g (x ∷ xs) =
    flat_map-cons (λ x. text (g (f x))) x xs ∙ ap (λ t. text (g (f x)) ++ t) (texts_mapped text f g xs)
    ∙ sym (flat_map-cons text (g (f x)) (map g (map f xs)))
