-- A store of which a cell of an object is set, or taken away, has that cell changed, and all else as before. Other crates may use these.
use Rattle.std.proofs.Common.{◌≡◌, ◌∙◌, ap, sym, subst, refl, ℕ, Bool, true, false, cond, Option, None, Some, is_some}
use Rattle.std.specs.Prelude.{◌≢◌}
use Rattle.std.specs.Option.{option_map}
use Rattle.std.specs.FinMap.{get}
use Rattle.std.specs.Cmp.{nat_cmp_total}
use Rattle.t3_holder.specs.declared.holder.Holder.{Holder}
use Rattle.t3_undo.specs.Objects.{adjust}
use Rattle.t3_undo.proofs.Maps.{get-adjust}
use Rattle.t3_undo.specs.declared.cell.Cell.{Cell}
use Rattle.t3_store.specs.Value.{Value, Objects, holder_at, with_cell, without_cell}
use Rattle.t3_store.specs.Store.{StoreValue, value_at, either, is_persistent, with_value, noted, set_cell, taken, changed_in}
use Rattle.t3_store.specs.CellLaw.{HasSetCell}
use Rattle.t3_store.proofs.Rows.{differs, same-itself}

get-same : (m : Objects) (n : ℕ) (g : Value → Value) → get (adjust m n g) n ≡ option_map g (get m n)
get-same m n g =
    get-adjust nat_cmp_total m n g n
    ∙ ap (λ b. cond b (option_map g (get m n)) (get m n)) (same-itself n)

get-other : (m : Objects) (n q : ℕ) (g : Value → Value) → n ≢ q → get (adjust m n g) q ≡ get m q
get-other m n q g apart =
    get-adjust nat_cmp_total m n g q
    ∙ ap (λ b. cond b (option_map g (get m q)) (get m q)) (differs q n (λ same. apart (sym same)))

-- the store in which a cell of an object was changed, by whether the object is a persistent one
abbrev pub left_by : StoreValue → ℕ → Cell → (Value → Value) → Bool → StoreValue
left_by s n cell g true = record s {
  persistent = adjust s.persistent n g;
  marks = changed_in s.limits.records n cell s.marks;
}
left_by s n cell g false = record s { transient = adjust s.transient n g }

pub changed-left : (s : StoreValue) (n : ℕ) (cell : Cell) (g : Value → Value) (b : Bool) → is_persistent s n ≡ b
    → with_value n g (noted n cell s) ≡ left_by s n cell g b
changed-left s n cell g true is =
    ap (λ b. with_value n g (cond b (record s { marks = changed_in s.limits.records n cell s.marks }) s)) is
    ∙ ap (λ b. cond b (left_by s n cell g true)
    (record s { transient = adjust s.transient n g; marks = changed_in s.limits.records n cell s.marks })) is
changed-left s n cell g false is =
    ap (λ b. with_value n g (cond b (record s { marks = changed_in s.limits.records n cell s.marks }) s)) is
    ∙ ap (λ b. cond b (record s { persistent = adjust s.persistent n g }) (left_by s n cell g false)) is

value_at-left : (s : StoreValue) (n : ℕ) (cell : Cell) (g : Value → Value) (p : Option Value) → get s.persistent n ≡ p
    → value_at (left_by s n cell g (is_some p)) n ≡ option_map g (either p (get s.transient n))
value_at-left s n cell g None is = ap (λ o. either o (get (adjust s.transient n g) n)) is ∙ get-same s.transient n g
value_at-left s n cell g (Some value) is = ap (λ o. either o (get s.transient n)) (get-same s.persistent n g ∙ ap (option_map g) is)

value_at-other : (s : StoreValue) (n q : ℕ) (cell : Cell) (g : Value → Value) (b : Bool) → n ≢ q
    → value_at (left_by s n cell g b) q ≡ value_at s q
value_at-other s n q cell g true apart = ap (λ o. either o (get s.transient q)) (get-other s.persistent n q g apart)
value_at-other s n q cell g false apart = ap (λ o. either (get s.persistent q) o) (get-other s.transient n q g apart)

next-left : (s : StoreValue) (n : ℕ) (cell : Cell) (g : Value → Value) (b : Bool) → (left_by s n cell g b).next ≡ s.next
next-left s n cell g true = refl
next-left s n cell g false = refl

next_transient-left : (s : StoreValue) (n : ℕ) (cell : Cell) (g : Value → Value) (b : Bool)
    → (left_by s n cell g b).next_transient ≡ s.next_transient
next_transient-left s n cell g true = refl
next_transient-left s n cell g false = refl

limits-left : (s : StoreValue) (n : ℕ) (cell : Cell) (g : Value → Value) (b : Bool) → (left_by s n cell g b).limits ≡ s.limits
limits-left s n cell g true = refl
limits-left s n cell g false = refl

-- the object of which a cell is set has that cell set, and all else is as before
pub set_cell-sets : (s : StoreValue) (n : ℕ) (cell : Cell) (holder : Holder) → HasSetCell n cell holder s (set_cell n cell holder s)
set_cell-sets s n cell holder =
    let g : Value → Value = with_cell cell holder in
    let left : set_cell n cell holder s ≡ left_by s n cell g (is_persistent s n) = changed-left s n cell g (is_persistent s n) refl in
    let P : StoreValue → Type 0 = HasSetCell n cell holder s in
    subst P (sym left) (record {
      set = value_at-left s n cell g (get s.persistent n) refl;
      others = λ q apart. value_at-other s n q cell g (is_persistent s n) apart;
      next = next-left s n cell g (is_persistent s n);
      next_transient = next_transient-left s n cell g (is_persistent s n);
      limits = limits-left s n cell g (is_persistent s n);
    })

-- and the object of which a present cell is taken away hasn't it any more
pub value_at-taken : (s : StoreValue) (n : ℕ) (cell : Cell) → is_some (holder_at (value_at s n) cell) ≡ true
    → value_at (taken n cell s) n ≡ option_map (without_cell cell) (value_at s n)
value_at-taken s n cell there =
    let g : Value → Value = without_cell cell in
    ap (λ b. value_at (cond b (with_value n g (noted n cell s)) s) n) there
    ∙ ap (λ (t : StoreValue). value_at t n) (changed-left s n cell g (is_persistent s n) refl)
    ∙ value_at-left s n cell g (get s.persistent n) refl

pub value_at-set_cell : (s : StoreValue) (n : ℕ) (cell : Cell) (holder : Holder)
    → value_at (set_cell n cell holder s) n ≡ option_map (with_cell cell holder) (value_at s n)
value_at-set_cell s n cell holder = (set_cell-sets s n cell holder).set
