-- What is made, and what is computed, is good.
use Rattle.std.proofs.Common.{◌≡◌, refl, ℕ, ℤ, ◌<◌, ◌^◌, Bool, true, false, List, [], ◌∷◌, Option, Some, None, Result, Ok, Err, option_map}
use Rattle.std.specs.Prelude.{FitsSigned}
use Rattle.std.specs.Int.{w32}
use Rattle.t3_holder.specs.declared.holder.Holder.{Holder}
use Rattle.t3_holder.specs.declared.holder.Holder.TheVariants as holders
use Rattle.t3_undo.specs.declared.cell.Cell.{Cell}
use Rattle.t3_store.specs.Value.{Value}
use Rattle.t3_store.specs.Store.{StoreValue, created_in, written}
use Rattle.t3_ops.specs.declared.fault.Fault.{Fault}
use Rattle.t3_ops.specs.declared.arithmetic.ArithOp.{ArithOp}
use Rattle.t3_ops.specs.Arithmetic.{arith_of}
use Rattle.t3_ops.specs.Making.{Made, AsIs, New, made_in}
use Rattle.t3_ops.specs.Values.{integer}
use Rattle.t3_frame_instructions.specs.Context.{Context, Action, with_store}
use Rattle.t3_frame_instructions.specs.Making.{takes_made, makes}
use Rattle.t3_frame_instructions.specs.Relations.{truth_value_of}
use Rattle.t3_frame_instructions.specs.Computing.{result_of, of_integers, computed_of}
use Rattle.t3_good_values.specs.Values.{IsClosed, IsGoodNew, IsGoodResult}
use Rattle.t3_good_values.specs.Stores.{IsGoodStore, IsGoodCell, IsGoodMade}
use Rattle.t3_good_instructions.specs.Contexts.{IsGoodContext, IsGoodAction}
use Rattle.t3_good_values.proofs.Stores.{good-created, good-written}
use Rattle.t3_good_values.proofs.Arithmetic.{arith_of-fits}
use Rattle.t3_good_instructions.proofs.Actions.{Keeps, KeepsWith, stored, keeps-faults, keeps-fills}

-- ---- computing

-- an integer that is there fits
abbrev FitsIfAny : Option ℤ → Type 0
FitsIfAny None = Unit {0}
FitsIfAny (Some z) = FitsSigned w32 z

module _ (Good : Holder → Type 0) (closed : IsClosed Good) where
  pub good-truth : (is : Bool) → Good (truth_value_of is)
  good-truth true = closed.true
  good-truth false = closed.nil

  pub good-told : (told : Result Bool Fault) → IsGoodResult Good (result_of truth_value_of told)
  good-told (Ok is) = good-truth is
  good-told (Err fault) = tt

  pub integer-fits : (value : Holder) → Good value → FitsIfAny (integer value)
  integer-fits (holders.Int z) good = closed.integers z good
  integer-fits _ good = tt

  good-number : (found : Result ℤ Fault) → IsGoodResult (λ z. FitsSigned w32 z) found → IsGoodResult Good (result_of holders.Int found)
  good-number (Ok z) fits = closed.integer z fits
  good-number (Err fault) fits = tt

  good-integers : (op : ArithOp) (x y : Option ℤ) → FitsIfAny x → FitsIfAny y → IsGoodResult Good (of_integers op x y)
  good-integers op (Some x) (Some y) fits also = good-number (arith_of op x y) (arith_of-fits op x y fits also)
  good-integers op (Some x) None fits also = tt
  good-integers op None y fits also = tt

  pub good-computed : (op : ArithOp) (x y : Holder) → Good x → Good y → IsGoodResult Good (computed_of op x y)
  good-computed op x y good also = good-integers op (integer x) (integer y) (integer-fits x good) (integer-fits y also)

  -- ---- objects that are made

  -- one that was made, in its store
  abbrev pub IsGoodCreated : Option (ℕ × StoreValue) → Type 0
  IsGoodCreated None = Unit {0}
  IsGoodCreated (Some made) = IsGoodStore Good made.1 × Good (holders.Obj made.0)

  pub good-creation : (value : Value) (transient : Bool) (store : StoreValue) → IsGoodNew Good value → IsGoodStore Good store
      → IsGoodCreated (created_in value transient store)
  good-creation value transient store new has = by (created_in value transient store) refl
    where
      by : (made : Option (ℕ × StoreValue)) → created_in value transient store ≡ made → IsGoodCreated made
      by None e = tt
      by (Some made) e = good-created Good value transient store made.1 made.0 closed e new has

  -- a value, with the store in which it was made
  abbrev pub IsGoodWith : Option (Holder × StoreValue) → Type 0
  IsGoodWith None = Unit {0}
  IsGoodWith (Some made) = Good made.0 × IsGoodStore Good made.1

  -- a reference to what was made
  pub good-reference : (made : Option (ℕ × StoreValue)) → IsGoodCreated made
      → IsGoodWith (option_map (λ m. (holders.Obj m.0, m.1)) made)
  good-reference None good = tt
  good-reference (Some made) good = (good.1, good.0)

  good-made : (made : Made) (store : StoreValue) → IsGoodMade Good made → IsGoodStore Good store → IsGoodWith (made_in made store)
  good-made (AsIs value) store good has = (good, has)
  good-made (New object) store good has =
      good-reference (created_in object false store) (good-creation object false store good has)

  pub keeps-taken : (made : Option (Holder × StoreValue)) (act : Holder → Context → Action) → KeepsWith Good act → (context : Context)
      → IsGoodWith made → IsGoodContext Good context → IsGoodAction Good (takes_made (Ok made) act context)
  keeps-taken None act keeps context good has = keeps-fills Good context has
  keeps-taken (Some made) act keeps context good has =
      keeps made.0 good.0 (with_store made.1 context) (stored Good made.1 context good.1 has)

  pub keeps-makes : (wanted : Result Made Fault) (act : Holder → Context → Action) → KeepsWith Good act → (context : Context)
      → IsGoodResult (IsGoodMade Good) wanted → IsGoodContext Good context → IsGoodAction Good (makes wanted act context)
  keeps-makes (Err fault) act keeps context good has = keeps-faults Good fault context has
  keeps-makes (Ok made) act keeps context good has =
      keeps-taken (made_in made context.store) act keeps context (good-made made context.store good has.store) has

-- ---- cells that are set

-- a store that is there is good
abbrev pub IsGoodIfStored : (Holder → Type 0) → Option StoreValue → Type 0
IsGoodIfStored Good None = Unit {0}
IsGoodIfStored Good (Some store) = IsGoodStore Good store

pub good-writing : (Good : Holder → Type 0) (number : ℕ) (cell : Cell) (value : Holder) (store : StoreValue) → IsGoodCell Good store cell
    → Good value → IsGoodStore Good store → IsGoodIfStored Good (written number cell value store)
good-writing Good number cell value store can good has = by (written number cell value store) refl
  where
    by : (new : Option StoreValue) → written number cell value store ≡ new → IsGoodIfStored Good new
    by None e = tt
    by (Some new) e = good-written Good number cell value store new e can good has
