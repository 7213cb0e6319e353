-- A store whose values are good stays so with changes one after the other. Other crates may use these.
use Rattle.std.proofs.Common.{◌≡◌, refl, ℕ, zero, suc, ◌+◌, ◌-◌, false, List, [], ◌∷◌, ◌++◌, Option, Some, None}
use Rattle.std.specs.List.{AllByRecursion}
use Rattle.std.specs.Option.{option_map}
use Rattle.t3_holder.specs.declared.holder.Holder.{Holder}
use Rattle.t3_holder.specs.declared.holder.Holder.TheVariants.{Nil}
use Rattle.t3_undo.specs.declared.cell.Cell.{Cell}
use Rattle.t3_undo.specs.declared.cell.Cell.TheVariants as cells
use Rattle.t3_store.specs.Store.{StoreValue, created_in, written}
use Rattle.t3_ops.specs.Elements.{after_writes, write_and_then, nil_writes, element_writes}
use Rattle.t3_kinds.specs.Changes.{Change, Makes, Sets, changed, changed_by, after_change}
use Rattle.t3_good_values.specs.Values.{IsClosed}
use Rattle.t3_good_values.specs.Stores.{IsGoodStore, IsGoodCell, IsGoodSet, IsGoodChange}
use Rattle.t3_good_values.proofs.Lists.{all-append}
use Rattle.t3_good_values.proofs.Stores.{good-created, good-written, good-taken}

module _ (Good : Holder → Type 0) where
  -- a store that is there is good
  abbrev IsGoodIf : Option StoreValue → Type 0
  IsGoodIf None = Unit {0}
  IsGoodIf (Some s) = IsGoodStore Good s

  -- ---- writes

  -- a cell that can be set in any store, and a good value
  abbrev IsGoodWrite : Cell × Holder → Type 0
  IsGoodWrite write = ((s : StoreValue) → IsGoodCell Good s write.0) × Good write.1

  if-written : (n : ℕ) (write : Cell × Holder) (s : StoreValue) → IsGoodWrite write → IsGoodStore Good s
      → IsGoodIf (written n write.0 write.1 s)
  if-written n write s own good = by (written n write.0 write.1 s) refl
    where
      by : (o : Option StoreValue) → written n write.0 write.1 s ≡ o → IsGoodIf o
      by None is = tt
      by (Some new) is = good-written Good n write.0 write.1 s new is (own.0 s) own.1 good

  after-writes : (n : ℕ) (writes : List (Cell × Holder)) (s : StoreValue) → AllByRecursion IsGoodWrite writes → IsGoodStore Good s
      → IsGoodStore Good (after_writes n writes s).1
  unfolding after_writes
  after-writes n [] s all good = good
  after-writes n (write ∷ writes) s all good =
      by (λ next is. after-writes n writes next all.1 is) (written n write.0 write.1 s) (if-written n write s all.0 good)
    where
      by : ((next : StoreValue) → IsGoodStore Good next → IsGoodStore Good (after_writes n writes next).1) → (next : Option StoreValue)
          → IsGoodIf next → IsGoodStore Good (write_and_then next s (λ next. after_writes n writes next)).1
      by rest None is = good
      by rest (Some next) is = rest next is

  nil-writes : (count first : ℕ) → Good Nil → AllByRecursion IsGoodWrite (nil_writes count first)
  nil-writes zero first nil = tt
  nil-writes (suc count) first nil = ((λ s. tt, nil), nil-writes count (first + 1) nil)

  pub good-elements : (number length index : ℕ) (value : Holder) (old : StoreValue) → IsClosed Good → Good value → IsGoodStore Good old
      → IsGoodStore Good (after_writes number (element_writes length index value) old).1
  unfolding element_writes
  good-elements number length index value old closed own good =
      after-writes number (nil_writes (index - (length + 1)) (length + 1) ++ (cells.Elem index, value) ∷ []) old
      (all-append IsGoodWrite (nil_writes (index - (length + 1)) (length + 1)) ((cells.Elem index, value) ∷ [])
      (nil-writes (index - (length + 1)) (length + 1) closed.nil) ((λ s. tt, own), tt)) good

  -- ---- changes

  set-cell : (s : StoreValue) (cell : Cell) (value : Holder) → IsGoodSet Good cell (Some value) → IsGoodCell Good s cell × Good value
  set-cell s (cells.Prop number) value is = ((is.0, is.1), is.2)
  set-cell s (cells.Elem number) value is = (tt, is)
  set-cell s (cells.Key key) value is = absurd is
  set-cell s cells.Default value is = (tt, is)

  if-changed : (change : Change) (s : StoreValue) → IsClosed Good → IsGoodChange Good change → IsGoodStore Good s
      → IsGoodIf (changed_by change s)
  if-changed (Makes value) s closed own good = by (created_in value false s) refl
    where
      by : (made : Option (ℕ × StoreValue)) → created_in value false s ≡ made
          → IsGoodIf (option_map (λ (m : ℕ × StoreValue). m.1) made)
      by None is = tt
      by (Some made) is = (good-created Good value false s made.1 made.0 closed is own good).0
  if-changed (Sets number cell None) s closed own good = good-taken Good number cell s good
  if-changed (Sets number cell (Some value)) s closed own good = by (written number cell value s) refl
    where
      by : (o : Option StoreValue) → written number cell value s ≡ o → IsGoodIf o
      by None is = tt
      by (Some new) is = let both = set-cell s cell value own in good-written Good number cell value s new is both.0 both.1 good

  pub good-after_changes : (changes : List Change) (old : StoreValue) → IsClosed Good → AllByRecursion (IsGoodChange Good) changes
      → IsGoodStore Good old → IsGoodStore Good (changed changes old).1
  good-after_changes [] old closed all good = good
  good-after_changes (change ∷ changes) old closed all good =
      by (λ next is. good-after_changes changes next closed all.1 is) (changed_by change old) (if-changed change old closed all.0 good)
    where
      by : ((next : StoreValue) → IsGoodStore Good next → IsGoodStore Good (changed changes next).1)
          → (next : Option StoreValue) → IsGoodIf next → IsGoodStore Good (after_change next (changed changes) old).1
      by rest None is = good
      by rest (Some next) is = rest next is
