-- The small actions of which instructions are made leave all good, where they see all good and are given what is good.
use Rattle.std.proofs.Common.{ℕ, ◌+◌, ◌<◌, ◌^◌, nat_le, Bool, true, false, if◌then◌else◌, List, [], ◌∷◌, drop, Option, Some, None, Result, Ok, Err}
use Rattle.std.specs.List.{AllByRecursion}
use Rattle.t3_holder.specs.declared.holder.Holder.{Holder}
use Rattle.t3_frames.specs.declared.call.Call.{Call}
use Rattle.t3_frames.specs.Frame.{FrameValue, values_of, value_limit, with_operands, topmost_two}
use Rattle.t3_store.specs.Store.{StoreValue}
use Rattle.t3_ops.specs.declared.fault.Fault.{Fault}
use Rattle.t3_ops.specs.declared.fault.Fault.TheVariants as faulty
use Rattle.t3_frame_instructions.specs.declared.effect.CodeWhy.{CodeWhy}
use Rattle.t3_frame_instructions.specs.declared.effect.CodeWhy.TheVariants.{Underflow}
use Rattle.t3_frame_instructions.specs.Context.{Context, Action, leaving, with_frame, with_store, goes, faults, stops, jumps, calls, returns, with_room, pushes, answers, fills, by_top, pops, by_two, pops_two}
use Rattle.t3_frame_instructions.specs.Making.{puts, gives}
use Rattle.t3_good_values.specs.Values.{IsGoodResult}
use Rattle.t3_good_values.specs.Stores.{IsGoodStore}
use Rattle.t3_good_instructions.specs.Contexts.{IsGoodFrame, IsGoodContext, IsGoodAction, IsGoodCall, IsGoodSay}
use Rattle.t3_good_instructions.proofs.Holders.{AreGoodIfAny, good-drop, good-topmost_two}

module _ (Good : Holder → Type 0) where
  -- an action leaves all good, where it sees that; and so it does with a value that is good, or two
  abbrev pub Keeps : (Context → Action) → Type 0
  Keeps act = (context : Context) → IsGoodContext Good context → IsGoodAction Good (act context)

  abbrev pub KeepsWith : (Holder → Context → Action) → Type 0
  KeepsWith act = (value : Holder) → Good value → Keeps (act value)

  abbrev pub KeepsWithTwo : (Holder → Holder → Context → Action) → Type 0
  KeepsWithTwo act = (upper lower : Holder) → Good upper → Good lower → Keeps (act upper lower)

  -- ---- what is seen, with a part changed

  pub framed : (frame : FrameValue) (context : Context) → IsGoodFrame Good frame → frame.next < 2 ^ 31 → IsGoodContext Good context
      → IsGoodContext Good (with_frame frame context)
  framed frame context good next has =
      record { frame = good; next = next; register = has.register; store = has.store; say = has.say }

  pub operated : (operands : List Holder) (context : Context) → AllByRecursion Good operands → IsGoodContext Good context
      → IsGoodContext Good (leaving operands context)
  operated operands context good has =
      framed (with_operands operands context.frame) context (record {
        arguments = has.frame.arguments;
        locals = has.frame.locals;
        operands = good;
        this = has.frame.this;
        gives = has.frame.gives;
        given = has.frame.given;
        method = has.frame.method;
      }) has.next has

  pub registered : (value : Holder) (context : Context) → Good value → IsGoodContext Good context
      → IsGoodContext Good (record context { register = value })
  registered value context good has =
      record { frame = has.frame; next = has.next; register = good; store = has.store; say = has.say }

  pub stored : (store : StoreValue) (context : Context) → IsGoodStore Good store → IsGoodContext Good context
      → IsGoodContext Good (with_store store context)
  stored store context good has =
      record { frame = has.frame; next = has.next; register = has.register; store = good; say = has.say }

  pub said-by : (say : Option ℕ) (context : Context) → IsGoodSay Good say → IsGoodContext Good context
      → IsGoodContext Good (record context { say = say })
  said-by say context good has =
      record { frame = has.frame; next = has.next; register = has.register; store = has.store; say = good }

  -- the topmost operands dropped, so many
  pub dropped : (count : ℕ) (context : Context) → IsGoodContext Good context
      → IsGoodContext Good (leaving (drop count context.frame.operands) context)
  dropped count context has =
      operated (drop count context.frame.operands) context (good-drop Good count context.frame.operands has.frame.operands) has

  -- ---- what is asked for

  pub keeps-goes : (operands : List Holder) (context : Context) → AllByRecursion Good operands → IsGoodContext Good context
      → IsGoodAction Good (goes operands context)
  keeps-goes operands context good has = record { effect = tt; context = operated operands context good has }

  pub keeps-jumps : (target : Option ℕ) (operands : List Holder) (context : Context) → AllByRecursion Good operands
      → IsGoodContext Good context → IsGoodAction Good (jumps target operands context)
  keeps-jumps target operands context good has = record { effect = tt; context = operated operands context good has }

  -- with the operands as they are
  pub keeps-goes-on : (context : Context) → IsGoodContext Good context → IsGoodAction Good (goes context.frame.operands context)
  keeps-goes-on context has = keeps-goes context.frame.operands context has.frame.operands has

  pub keeps-jumps-on : (target : Option ℕ) (context : Context) → IsGoodContext Good context
      → IsGoodAction Good (jumps target context.frame.operands context)
  keeps-jumps-on target context has = keeps-jumps target context.frame.operands context has.frame.operands has

  pub keeps-faults : (fault : Fault) → Keeps (faults fault)
  keeps-faults fault context has = record { effect = tt; context = has }

  pub keeps-stops : (why : CodeWhy) → Keeps (stops why)
  keeps-stops why context has = record { effect = tt; context = has }

  pub keeps-fills : Keeps fills
  keeps-fills context has = record { effect = tt; context = has }

  pub keeps-calls : (call : Call) → IsGoodCall Good call → Keeps (calls call)
  keeps-calls call good context has = record { effect = good; context = has }

  pub keeps-returns : KeepsWith returns
  keeps-returns value good context has = record { effect = tt; context = registered value context good has }

  pub keeps-answers : (value : Holder) (count : ℕ) → Good value → Keeps (answers value count)
  keeps-answers value count good context has =
      record { effect = tt; context = registered value _ good (dropped count context has) }

  pub keeps-puts : KeepsWith puts
  keeps-puts value good context has = keeps-goes (value ∷ context.frame.operands) context (good, has.frame.operands) has

  pub keeps-gives : (outcome : Result Holder Fault) → IsGoodResult Good outcome → Keeps (gives outcome)
  keeps-gives (Ok value) good context has = keeps-puts value good context has
  keeps-gives (Err fault) good context has = keeps-faults fault context has

  -- either of two actions
  pub keeps-either : (b : Bool) (first second : Action) → IsGoodAction Good first → IsGoodAction Good second
      → IsGoodAction Good (if b then first else second)
  keeps-either true first second good also = good
  keeps-either false first second good also = also

  pub keeps-room : (action : Action) (context : Context) → IsGoodAction Good action → IsGoodContext Good context
      → IsGoodAction Good (with_room action context)
  keeps-room action context good has =
      keeps-either (nat_le value_limit (values_of context.frame + context.others)) (faults faulty.StackFull context) action
      (keeps-faults faulty.StackFull context has) good

  pub keeps-pushes : KeepsWith pushes
  keeps-pushes value good context has =
      keeps-room (goes (value ∷ context.frame.operands) context) context (keeps-puts value good context has) has

  -- ---- what is popped

  pub keeps-pops : (act : Holder → Context → Action) → KeepsWith act → Keeps (pops act)
  keeps-pops act keeps context has = by context.frame.operands has.frame.operands
    where
      by : (operands : List Holder) → AllByRecursion Good operands → IsGoodAction Good (by_top act operands context)
      by [] good = keeps-stops Underflow context has
      by (value ∷ rest) good = keeps value good.0 (leaving rest context) (operated rest context good.1 has)

  pub keeps-two : (act : Holder → Holder → Context → Action) → KeepsWithTwo act → Keeps (pops_two act)
  keeps-two act keeps context has =
      by (topmost_two context.frame.operands) (good-topmost_two Good context.frame.operands has.frame.operands)
    where
      by : (two : Option (Holder × Holder)) → AreGoodIfAny Good two → IsGoodAction Good (by_two act two context)
      by None good = keeps-stops Underflow context has
      by (Some two) good =
          keeps two.0 two.1 good.0 good.1 (leaving (drop 2 context.frame.operands) context) (dropped 2 context has)
