-- What an instruction does to the objects, but for savepoints and undos, is that objects are made, and that cells are set or taken away. So
-- what these keep is kept by each of them.
use Rattle.std.proofs.Common.{ℕ, ◌+◌, nat_le, ◌&&◌, ◌||◌, Bool, true, false, if◌then◌else◌, List, [], ◌∷◌, drop, Option, Some, None, Result, Ok, Err, is_none, option_map}
use Rattle.t3_holder.specs.declared.holder.Holder.{Holder}
use Rattle.t3_holder.specs.declared.holder.Holder.TheVariants as holders
use Rattle.t3_undo.specs.declared.cell.Cell.{Cell}
use Rattle.t3_store.specs.Value.{Value, Objects, holder_at, units_of}
use Rattle.t3_undo.specs.Units.{cell_units}
use Rattle.t3_store.specs.Store.{StoreValue, value_at, is_full_with, no_number, next_number, with_object, set_cell, taken, written, created_in, replaced}
use Rattle.t3_ops.specs.declared.fault.Fault.{Fault}
use Rattle.t3_ops.specs.declared.fault.Fault.TheVariants as faulty
use Rattle.t3_ops.specs.Making.{Made, AsIs, New, made_in}
use Rattle.t3_ops.specs.Elements.{after_writes, write_and_then}
use Rattle.t3_frames.specs.Frame.{values_of, value_limit, topmost_two}
use Rattle.t3_frame_instructions.specs.Context.{Context, Action, leaving, with_store, faults, with_room, by_top, pops, by_two, pops_two}
use Rattle.t3_frame_instructions.specs.Making.{gives, takes_made, makes}

-- what is kept where an object is made, where a cell is set or taken away, and where a state takes the place of the persistent objects
pub record AreKept (P : StoreValue → Type 0) : Type 0 where
  pub made : (value : Value) (transient : Bool) (store : StoreValue) → P store → P (with_object value transient store)
  pub set : (number : ℕ) (cell : Cell) (value : Holder) (store : StoreValue) → P store → P (set_cell number cell value store)
  pub taken : (number : ℕ) (cell : Cell) (store : StoreValue) → P store → P (taken number cell store)
  pub replaced : (objects : Objects) (next : ℕ) (store : StoreValue) → P store → P (replaced objects next store)

-- an action keeps it
abbrev pub Keeps : (StoreValue → Type 0) → (Context → Action) → Type 0
Keeps P act = (context : Context) → P context.store → P (act context).1.store

-- ---- what is taken off, and put on

pub keeps-room : (P : StoreValue → Type 0) (action : Action) (context : Context) → P context.store → P action.1.store
    → P (with_room action context).1.store
keeps-room P action context old new = by (nat_le value_limit (values_of context.frame + context.others))
  where
    by : (full : Bool) → P (if full then faults faulty.StackFull context else action).1.store
    by true = old
    by false = new

pub keeps-pops : (P : StoreValue → Type 0) (act : Holder → Context → Action) → ((value : Holder) → Keeps P (act value)) → Keeps P (pops act)
keeps-pops P act keeps context has = by context.frame.operands
  where
    by : (operands : List Holder) → P (by_top act operands context).1.store
    by [] = has
    by (value ∷ rest) = keeps value (leaving rest context) has

pub keeps-two : (P : StoreValue → Type 0) (act : Holder → Holder → Context → Action)
    → ((upper lower : Holder) → Keeps P (act upper lower)) → Keeps P (pops_two act)
keeps-two P act keeps context has = by (topmost_two context.frame.operands)
  where
    by : (two : Option (Holder × Holder)) → P (by_two act two context).1.store
    by None = has
    by (Some two) = keeps two.0 two.1 (leaving (drop 2 context.frame.operands) context) has

pub keeps-gives : (P : StoreValue → Type 0) (outcome : Result Holder Fault) → Keeps P (gives outcome)
keeps-gives P (Ok value) context has = has
keeps-gives P (Err fault) context has = has

-- ---- making and setting

-- a store that is there has it
abbrev pub HasSome : (StoreValue → Type 0) → Option StoreValue → Type 0
HasSome P None = Unit {0}
HasSome P (Some store) = P store

abbrev pub HasMade : (StoreValue → Type 0) → {A : Type 0} → Option (A × StoreValue) → Type 0
HasMade P None = Unit {0}
HasMade P (Some made) = P made.1

pub kept-created : (P : StoreValue → Type 0) → AreKept P → (value : Value) (transient : Bool) (store : StoreValue) → P store
    → HasMade P (created_in value transient store)
kept-created P kept value transient store has = by (is_full_with 1 (units_of value) store || no_number transient store)
  where
    by : (full : Bool) → HasMade P (if full then None else Some (next_number transient store, with_object value transient store))
    by true = tt
    by false = kept.made value transient store has

pub kept-written : (P : StoreValue → Type 0) → AreKept P → (number : ℕ) (cell : Cell) (value : Holder) (store : StoreValue) → P store
    → HasSome P (written number cell value store)
kept-written P kept number cell value store has =
    by (is_none (holder_at (value_at store number) cell) && is_full_with 0 (cell_units cell) store)
  where
    by : (full : Bool) → HasSome P (if full then None else Some (set_cell number cell value store))
    by true = tt
    by false = kept.set number cell value store has

pub kept-writes : (P : StoreValue → Type 0) → AreKept P → (object : ℕ) (writes : List (Cell × Holder)) (store : StoreValue) → P store
    → P (after_writes object writes store).1
unfolding after_writes
kept-writes P kept object [] store has = has
kept-writes P kept object (write ∷ writes) store has =
    by (λ next there. kept-writes P kept object writes next there) (written object write.0 write.1 store)
    (kept-written P kept object write.0 write.1 store has)
  where
    by : ((next : StoreValue) → P next → P (after_writes object writes next).1) → (next : Option StoreValue) → HasSome P next
        → P (write_and_then next store (λ s. after_writes object writes s)).1
    by rest None there = has
    by rest (Some next) there = rest next there

kept-made : (P : StoreValue → Type 0) → AreKept P → (made : Made) (store : StoreValue) → P store → HasMade P (made_in made store)
kept-made P kept (AsIs value) store has = has
kept-made P kept (New object) store has = by (created_in object false store) (kept-created P kept object false store has)
  where
    by : (made : Option (ℕ × StoreValue)) → HasMade P made → HasMade P (option_map (λ m. (holders.Obj m.0, m.1)) made)
    by None there = tt
    by (Some made) there = there

pub keeps-made : (P : StoreValue → Type 0) (made : Option (Holder × StoreValue)) (act : Holder → Context → Action)
    → ((value : Holder) → Keeps P (act value)) → (context : Context) → P context.store → HasMade P made
    → P (takes_made (Ok made) act context).1.store
keeps-made P None act keeps context has there = has
keeps-made P (Some made) act keeps context has there = keeps made.0 (with_store made.1 context) there

pub keeps-makes : (P : StoreValue → Type 0) → AreKept P → (wanted : Result Made Fault) (act : Holder → Context → Action)
    → ((value : Holder) → Keeps P (act value)) → Keeps P (makes wanted act)
keeps-makes P kept (Err fault) act keeps context has = has
keeps-makes P kept (Ok made) act keeps context has =
    keeps-made P (made_in made context.store) act keeps context has (kept-made P kept made context.store has)
