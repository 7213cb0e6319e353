-- What comes of an instruction, of a fault, of a call and of the entry keeps of a state that all of its values have a property, where the
-- program's values have it.
use Rattle.std.proofs.Common.{◌≡◌, ℕ, zero, suc, ◌+◌, ◌^◌, ◌<◌, ◌≤◌, Bool, true, false, List, [], ◌∷◌, length, take, drop, Option, Some, None, Result, Ok, Err, refl, arith}
use Rattle.std.specs.List.{AllByRecursion}
use Rattle.std.specs.Option.{option_to_list}
use Rattle.t3_holder.specs.declared.holder.Holder.{Holder}
use Rattle.t3_holder.specs.declared.holder.Holder.TheVariants.{Nil, Obj}
use Rattle.t3_store.specs.Value.{Value, Objects, Items}
use Rattle.t3_store.specs.Store.{StoreValue, created_in, admit_of, replaced}
use Rattle.t3_store.specs.declared.admit.Admit.{Admit}
use Rattle.t3_store.specs.declared.admit.Admit.TheVariants as admits
use Rattle.t3_methods.specs.declared.instr.Instr.{Instr}
use Rattle.t3_methods.specs.declared.instr.Instr.TheVariants as of
use Rattle.t3_methods.specs.declared.header.Header.{Header}
use Rattle.t3_methods.specs.declared.refusal.CodeRefusal.{CodeRefusal}
use Rattle.t3_methods.specs.MethodHeader.{header_in}
use Rattle.t3_methods.specs.ExceptionTable.{handler_of}
use Rattle.t3_methods.specs.Answers.{Stands, FindsInstr}
use Rattle.t3_frames.specs.declared.call.Call.{Call}
use Rattle.t3_frames.specs.Frame.{FrameValue, function, called, arguments_of, with_operands, goes_to, carries_out}
use Rattle.t3_ops.specs.declared.fault.Fault.{Fault}
use Rattle.t3_ops.specs.declared.fault.Fault.TheVariants.{BadSnapshot}
use Rattle.t3_load.specs.Loading.{ProgramValue}
use Rattle.t3_frame_instructions.specs.Effect.{Effect}
use Rattle.t3_frame_instructions.specs.Effect as effects
use Rattle.t3_frame_instructions.specs.declared.effect.CodeWhy.{CodeWhy}
use Rattle.t3_frame_instructions.specs.Context.{Context, leaving}
use Rattle.t3_object_instructions.specs.Exceptions.{exception_of, classes_of}
use Rattle.t3_snapshot.specs.State.{named_as_keys}
use Rattle.t3_snapshot.specs.Good.{AreGoodObjects}
use Rattle.t3_good_values.specs.Values.{IsGoodNew}
use Rattle.t3_good_values.specs.Stores.{IsGoodStore}
use Rattle.t3_good_values.proofs.Lists.{all-append, all-take, all-drop, all-replicate}
use Rattle.t3_good_values.proofs.Stores.{good-created, good-replaced}
use Rattle.t3_good_instructions.proofs.Frames.{keeps-stack, keeps-jump, keeps-math}
use Rattle.t3_good_instructions.proofs.Variables.{keeps-variable-set}
use Rattle.t3_good_instructions.proofs.Calling.{keeps-call}
use Rattle.t3_good_instructions.proofs.Instructions.{keeps-push, keeps-make}
use Rattle.std.proofs.lemmas.List.{length-append}
use Rattle.t3_good_instructions.specs.Contexts.{IsGoodProgram, IsGoodFrame, IsGoodSay, IsGoodGift, IsGoodCall, IsGoodLaid, IsGoodEffect, IsGoodAction, IsGoodContext}
use Rattle.t3_interp.specs.declared.event.Event.{Event}
use Rattle.t3_interp.specs.declared.event.Event.TheVariants.{Went, Said, WantLine, WantPut, WantGet}
use Rattle.t3_interp.specs.declared.event.Want.{Want}
use Rattle.t3_interp.specs.declared.event.Want.TheVariants as wants
use Rattle.t3_interp.specs.Machine.{State}
use Rattle.t3_interp.specs.Instructions.{action_of}
use Rattle.t3_interp.specs.Step.{Catcher, Nobody, Broken, Handler, over, left_in, went, waits, answered, catcher_by, catcher_in, after_catcher, after_throw, after_exception, after_fault, faulted, missing_arguments, count_of, after_enter, after_header, after_call, returned, after_return, state_bytes, after_admit, after_replacing, after_effect, context_in, after_found, after_instruction, after_begin, after_list, after_entering, after_entry}
use Rattle.t3_interp.specs.Good.{IsGoodState}
use Rattle.t3_interp.proofs.GoodCode.{instruction-ends, method-begins}
use Rattle.t3_interp.proofs.GoodExceptions.{good-exception_of}

module _ (Good : Holder → Type 0) (program : ProgramValue) (good : IsGoodProgram Good program) where
  -- what a state has beside its frames
  pub record IsGoodRest (state : State) : Type 0 where
    pub register : Good state.register
    pub store : IsGoodStore Good state.store
    pub say : IsGoodSay Good state.say

  abbrev pub AreGoodFrames : List FrameValue → Type 0
  AreGoodFrames frames = AllByRecursion (IsGoodFrame Good) frames

  pub rest-of : (state : State) → IsGoodState Good state → IsGoodRest state
  rest-of state has = record { register = has.register; store = has.store; say = has.say }

  pub good-over : (state : State) → IsGoodRest state → IsGoodState Good (over state)
  good-over state rest = record { frames = tt; register = rest.register; store = rest.store; say = rest.say }

  -- ---- frames

  good-operands : (operands : List Holder) (frame : FrameValue) → AllByRecursion Good operands → IsGoodFrame Good frame
      → IsGoodFrame Good (with_operands operands frame)
  good-operands operands frame new has = record {
    arguments = has.arguments;
    locals = has.locals;
    operands = new;
    this = has.this;
    gives = has.gives;
    given = has.given;
    method = has.method;
  }

  good-there : (address : ℕ) (frame : FrameValue) → IsGoodFrame Good frame → IsGoodFrame Good (goes_to address frame)
  good-there address frame has = record {
    arguments = has.arguments;
    locals = has.locals;
    operands = has.operands;
    this = has.this;
    gives = has.gives;
    given = has.given;
    method = has.method;
  }

  good-carried : (size : ℕ) (frame : FrameValue) → IsGoodFrame Good frame → IsGoodFrame Good (carries_out size frame)
  good-carried size frame has = record {
    arguments = has.arguments;
    locals = has.locals;
    operands = has.operands;
    this = has.this;
    gives = has.gives;
    given = has.given;
    method = has.method;
  }

  good-went : (frame : FrameValue) (older : List FrameValue) (state : State) (event : Event) → IsGoodFrame Good frame → AreGoodFrames older
      → IsGoodRest state → IsGoodState Good (went frame older state event).state
  good-went frame older state event newest others rest =
      record { frames = (newest, others); register = rest.register; store = rest.store; say = rest.say }

  good-waits : (want : Want) (event : Event) (frame : FrameValue) (older : List FrameValue) (state : State) → IsGoodFrame Good frame
      → AreGoodFrames older → IsGoodRest state → IsGoodState Good (waits want event frame older state).state
  good-waits want event frame older state newest others rest =
      record { frames = (newest, others); register = rest.register; store = rest.store; say = rest.say }

  pub good-answered : (value : Holder) (frame : FrameValue) (older : List FrameValue) (state : State) → Good value → IsGoodFrame Good frame
      → AreGoodFrames older → IsGoodRest state → IsGoodState Good (answered value frame older state).state
  good-answered value frame older state has newest others rest =
      good-went (goes_to frame.next frame) older (record state { register = value }) Went (good-there frame.next frame newest) others
      (record { register = has; store = rest.store; say = rest.say })

  -- ---- throwing

  abbrev IsGoodCatcher : Catcher → Type 0
  IsGoodCatcher Nobody = Unit {0}
  IsGoodCatcher (Broken method refusal) = Unit {0}
  IsGoodCatcher (Handler address frame older) = IsGoodFrame Good frame × AreGoodFrames older

  good-catcher : (classes : List ℕ) (frames : List FrameValue) → AreGoodFrames frames
      → IsGoodCatcher (catcher_in program.pools.code classes frames)
  good-catcher classes [] has = tt
  good-catcher classes (frame ∷ older) has =
      by (handler_of program.pools.code frame.method frame.place classes) _ (good-catcher classes older has.1)
    where
      by : (found : Result (Option ℕ) CodeRefusal) (rest : Catcher) → IsGoodCatcher rest → IsGoodCatcher (catcher_by found frame older rest)
      by (Err refusal) rest further = tt
      by (Ok (Some handler)) rest further = has
      by (Ok None) rest further = further

  good-caught : (object : ℕ) (fault : Option Fault) (catcher : Catcher) (state : State) → Good (Obj object) → IsGoodCatcher catcher
      → IsGoodRest state → IsGoodState Good (after_catcher object fault catcher state).state
  good-caught object fault Nobody state has catches rest = good-over state rest
  good-caught object fault (Broken method refusal) state has catches rest = good-over state rest
  good-caught object fault (Handler address frame older) state has catches rest =
      good-went (goes_to address (with_operands (Obj object ∷ []) frame)) older state Went
      (good-there address (with_operands (Obj object ∷ []) frame) (good-operands (Obj object ∷ []) frame (has, tt) catches.0)) catches.1 rest

  good-thrown : (object : ℕ) (fault : Option Fault) (state : State) → Good (Obj object) → AreGoodFrames state.frames → IsGoodRest state
      → IsGoodState Good (after_throw program object fault state).state
  good-thrown object fault state has frames rest =
      good-caught object fault (catcher_in program.pools.code (classes_of state.store object) state.frames) state has
      (good-catcher (classes_of state.store object) state.frames frames) rest

  -- what was made, where there was room
  abbrev pub HasGoodMade : Option (ℕ × StoreValue) → Type 0
  HasGoodMade None = Unit {0}
  HasGoodMade (Some made) = IsGoodStore Good made.1 × Good (Obj made.0)

  pub good-made : (value : Value) (store : StoreValue) → IsGoodNew Good value → IsGoodStore Good store → HasGoodMade (created_in value false store)
  good-made value store new has = by (created_in value false store) refl
    where
      by : (made : Option (ℕ × StoreValue)) → created_in value false store ≡ made → HasGoodMade made
      by None is = tt
      by (Some made) is = good-created Good value false store made.1 made.0 good.closed is new has

  good-exception : (fault : Fault) (made : Option (ℕ × StoreValue)) (state : State) → HasGoodMade made → AreGoodFrames state.frames
      → IsGoodRest state → IsGoodState Good (after_exception program fault made state).state
  good-exception fault None state made frames rest = good-over state rest
  good-exception fault (Some new) state made frames rest =
      good-thrown new.0 (Some fault) (record state { store = new.1 }) made.1 frames
      (record { register = rest.register; store = made.0; say = rest.say })

  good-fault : (fault : Fault) (state : State) → AreGoodFrames state.frames → IsGoodRest state
      → IsGoodState Good (after_fault program fault state).state
  good-fault fault state frames rest =
      good-exception fault _ state
      (good-made (exception_of program.symbols state.store fault) state.store
      (good-exception_of Good good.closed program.symbols state.store fault rest.store) rest.store) frames rest

  pub good-faulted : (fault : Fault) (frame : FrameValue) (older : List FrameValue) (state : State) → IsGoodFrame Good frame → AreGoodFrames older
      → IsGoodRest state → IsGoodState Good (faulted program fault frame older state).state
  good-faulted fault frame older state newest others rest =
      good-fault fault _ (good-operands [] frame tt newest, others)
      (record { register = rest.register; store = rest.store; say = rest.say })

  -- ---- calling and returning

  good-laid : (call : Call) → IsGoodCall Good call → AllByRecursion Good (option_to_list call.laid)
  good-laid call has = by call.laid has.laid
    where
      by : (laid : Option Holder) → IsGoodLaid Good laid → AllByRecursion Good (option_to_list laid)
      by None is = tt
      by (Some value) is = (is, tt)

  few-taken : (count : ℕ) (values : List Holder) → length (take count values) ≤ count
  few-taken zero values = omega arith
  few-taken (suc count) [] = omega arith
  few-taken (suc count) (value ∷ values) = let few = few-taken count values in omega (arith, few)

  few-laid : (laid : Option Holder) → length (option_to_list laid) ≤ 1
  few-laid None = omega arith
  few-laid (Some value) = omega arith

  few-arguments : (call : Call) (operands : List Holder) → call.count < 2 ^ 16 → length (arguments_of call operands) < 2 ^ 31
  few-arguments call operands few =
      let laid = few-laid call.laid in
      let taken = few-taken call.count operands in
      let both = length-append (option_to_list call.laid) (take call.count operands) in
      omega (arith, few, laid, taken, both)

  good-called : (call : Call) (locals missing : ℕ) (arguments : List Holder) → Good call.this → IsGoodGift Good call.gives
      → AllByRecursion Good arguments → length arguments < 2 ^ 31 → call.method < 2 ^ 31
      → IsGoodFrame Good (called call locals missing arguments)
  good-called call locals missing arguments this gives has few begins = record {
    arguments = all-append Good arguments _ has (all-replicate Good missing Nil good.closed.nil);
    locals = all-replicate Good locals Nil good.closed.nil;
    operands = tt;
    this = this;
    gives = gives;
    given = few;
    method = begins;
  }

  good-entered : (call : Call) (header : Header) (frame : FrameValue) (older : List FrameValue) (state : State) (fault : Option Fault)
      → header_in program.pools.code call.method ≡ Ok header → IsGoodCall Good call → IsGoodFrame Good frame → AreGoodFrames older
      → IsGoodRest state → IsGoodState Good (after_enter program call header frame older state fault).state
  good-entered call header frame older state (Some fault) is calls newest others rest =
      good-faulted fault frame older state newest others rest
  good-entered call header frame older state None is calls newest others rest =
      let arguments = arguments_of call frame.operands in
      good-went (called call header.locals (missing_arguments header (count_of call)) arguments)
      (with_operands (drop call.count frame.operands) frame ∷ older) state Went
      (good-called call header.locals (missing_arguments header (count_of call)) arguments calls.this calls.gives
      (all-append Good (option_to_list call.laid) _ (good-laid call calls) (all-take Good call.count frame.operands newest.operands))
      (few-arguments call frame.operands calls.count) (method-begins program.pools.code good.within call.method header is))
      (good-operands (drop call.count frame.operands) frame (all-drop Good call.count frame.operands newest.operands) newest, others) rest

  good-call : (call : Call) (frame : FrameValue) (older : List FrameValue) (state : State) → IsGoodCall Good call → IsGoodFrame Good frame
      → AreGoodFrames older → IsGoodRest state → IsGoodState Good (after_call program call frame older state).state
  good-call call frame older state calls newest others rest = by (header_in program.pools.code call.method) refl
    where
      by : (found : Result Header CodeRefusal) → header_in program.pools.code call.method ≡ found
          → IsGoodState Good (after_header program call found frame older state).state
      by (Ok header) is = good-entered call header frame older state _ is calls newest others rest
      by (Err refusal) is = good-over state rest

  good-given : (gives : Option ℕ) (register : Holder) → IsGoodGift Good gives → Good register → Good (returned gives register)
  good-given None register gift has = has
  good-given (Some object) register gift has = gift

  good-return : (frame : FrameValue) (older : List FrameValue) (state : State) → IsGoodFrame Good frame → AreGoodFrames older
      → IsGoodRest state → IsGoodState Good (after_return frame older state).state
  good-return frame [] state newest others rest =
      good-over (record state { register = returned frame.gives state.register })
      (record { register = good-given frame.gives state.register newest.gives rest.register; store = rest.store; say = rest.say })
  good-return frame (caller ∷ older) state newest others rest =
      good-went (goes_to caller.next caller) older (record state { register = returned frame.gives state.register }) Went
      (good-there caller.next caller others.0) others.1
      (record { register = good-given frame.gives state.register newest.gives rest.register; store = rest.store; say = rest.say })

  -- ---- restoring and restarting

  good-admitted : (admit : Admit) (objects : Objects) (next : ℕ) (frame : FrameValue) (older : List FrameValue) (state : State)
      → AreGoodObjects Good next objects → next ≤ 2 ^ 31 → IsGoodFrame Good frame → AreGoodFrames older → IsGoodRest state
      → IsGoodState Good (after_admit program admit objects next frame older state).state
  good-admitted admits.Fits objects next frame older state are fits newest others rest =
      good-answered Nil frame older (record state { store = replaced objects next state.store }) good.closed.nil newest others
      (record { register = rest.register; store = good-replaced Good objects next state.store are fits rest.store; say = rest.say })
  good-admitted admits.Clash objects next frame older state are fits newest others rest =
      good-faulted BadSnapshot frame older state newest others rest
  good-admitted admits.Full objects next frame older state are fits newest others rest = good-over state rest

  pub good-replacing : (objects : Objects) (next : ℕ) (frame : FrameValue) (older : List FrameValue) (state : State)
      → AreGoodObjects Good next objects → next ≤ 2 ^ 31 → IsGoodFrame Good frame → AreGoodFrames older → IsGoodRest state
      → IsGoodState Good (after_replacing program objects next frame older state).state
  good-replacing objects next frame older state are fits newest others rest =
      good-admitted (admit_of objects state.store) objects next frame older state are fits newest others rest

  -- ---- what comes of an instruction

  left-rest : (older : List FrameValue) (steps : ℕ) (context : Context) → IsGoodContext Good context → IsGoodRest (left_in older steps context)
  left-rest older steps context has = record { register = has.register; store = has.store; say = has.say }

  good-effect : (older : List FrameValue) (steps : ℕ) (effect : Effect) (context : Context) → IsGoodEffect Good effect
      → IsGoodContext Good context → AreGoodFrames older → IsGoodState Good (after_effect program older steps effect context).state
  good-effect older steps effects.Next context asks has others =
      good-went _ older _ Went (good-there context.frame.next context.frame has.frame) others (left-rest older steps context has)
  good-effect older steps (effects.Jump (Some address)) context asks has others =
      good-went _ older _ Went (good-there address context.frame has.frame) others (left-rest older steps context has)
  good-effect older steps (effects.Jump None) context asks has others = good-over _ (left-rest older steps context has)
  good-effect older steps (effects.Call call) context asks has others =
      good-call call context.frame older _ asks has.frame others (left-rest older steps context has)
  good-effect older steps effects.Return context asks has others =
      good-return context.frame older _ has.frame others (left-rest older steps context has)
  good-effect older steps (effects.Say text) context asks has others =
      good-went _ older _ (Said text) (good-there context.frame.next context.frame has.frame) others (left-rest older steps context has)
  good-effect older steps effects.WantLine context asks has others =
      good-waits wants.Line WantLine context.frame older _ has.frame others (left-rest older steps context has)
  good-effect older steps (effects.Save name) context asks has others =
      good-waits wants.Stored (WantPut name (state_bytes program context.store)) context.frame older _ has.frame others (left-rest older steps context has)
  good-effect older steps (effects.Restore name) context asks has others =
      good-waits wants.File (WantGet name) context.frame older _ has.frame others (left-rest older steps context has)
  good-effect older steps effects.Restart context asks has others =
      good-replacing program.first program.next context.frame older _ good.first good.next.1 has.frame others (left-rest older steps context has)
  good-effect older steps (effects.Fault fault) context asks has others =
      good-fault fault (left_in older steps (leaving [] context)) (good-operands [] context.frame tt has.frame, others)
      (record { register = has.register; store = has.store; say = has.say })
  good-effect older steps (effects.Stop why) context asks has others = good-over _ (left-rest older steps context has)
  good-effect older steps (effects.Throw object) context asks has others =
      good-thrown object None (left_in older steps (leaving [] context)) asks (good-operands [] context.frame tt has.frame, others)
      (record { register = has.register; store = has.store; say = has.say })
  good-effect older steps effects.StoreFull context asks has others = good-over _ (left-rest older steps context has)

  good-acted : (instr : Instr) (address size : ℕ) (context : Context) → Stands program.pools.code address instr size
      → IsGoodContext Good context → IsGoodAction Good (action_of program instr context)
  good-acted (of.Push code) address size context stands has = keeps-push Good program good address size code stands context has
  good-acted (of.Math code) address size context stands has = keeps-math Good good.closed program.pools good.constants code context has
  good-acted (of.Call code) address size context stands has = keeps-call Good program good address size code stands context has
  good-acted (of.Stack code) address size context stands has = keeps-stack Good good.closed code context has
  good-acted (of.Jump code) address size context stands has = keeps-jump Good good.closed program.pools code context has
  good-acted (of.Make code) address size context stands has = keeps-make Good program good address size code stands context has
  good-acted (of.Local code) address size context stands has = keeps-variable-set Good program good address size code stands context has

  pub good-context : (size : ℕ) (frame : FrameValue) (older : List FrameValue) (state : State) → frame.place + size < 2 ^ 31
      → IsGoodFrame Good frame → IsGoodRest state → IsGoodContext Good (context_in (carries_out size frame) older state)
  good-context size frame older state ends newest rest =
      record { frame = good-carried size frame newest; next = ends; register = rest.register; store = rest.store; say = rest.say }

  good-found : (frame : FrameValue) (older : List FrameValue) (state : State) (found : Instr × ℕ) (lack : Option CodeWhy)
      → Stands program.pools.code frame.place found.0 found.1 → IsGoodFrame Good frame → AreGoodFrames older → IsGoodRest state
      → IsGoodState Good (after_found program frame older state found lack).state
  good-found frame older state found (Some why) stands newest others rest = good-over state rest
  good-found frame older state found None stands newest others rest =
      let context = context_in (carries_out found.1 frame) older state in
      let ends = instruction-ends program.pools.code good.within frame.place found.1 found.0 stands in
      let acted = good-acted found.0 frame.place found.1 context stands (good-context found.1 frame older state ends newest rest) in
      let action = action_of program found.0 context in
      good-effect older state.steps action.0 action.1 acted.effect acted.context others

  pub good-instruction : (frame : FrameValue) (older : List FrameValue) (state : State) (found : Result (Instr × ℕ) CodeRefusal)
      → FindsInstr program.pools.code frame.place found → IsGoodFrame Good frame → AreGoodFrames older → IsGoodRest state
      → IsGoodState Good (after_instruction program frame older state found).state
  good-instruction frame older state (Ok found) stands newest others rest =
      good-found frame older state found _ stands newest others rest
  good-instruction frame older state (Err refusal) stands newest others rest = good-over state rest

  -- ---- the entry

  few-entry : (header : Header) (arguments : List Holder) (state : State) → header_in program.pools.code program.entry ≡ Ok header
      → AllByRecursion Good arguments → length arguments < 2 ^ 31 → IsGoodRest state
      → IsGoodState Good (after_begin program header arguments state).state
  few-entry header arguments state is has few rest =
      good-went _ [] state Went
      (good-called (function program.entry 0) header.locals (missing_arguments header (length arguments)) arguments good.closed.nil tt has few
      (method-begins program.pools.code good.within program.entry header is)) tt rest

  good-listed : (header : Header) (made : Option (ℕ × StoreValue)) (state : State) → header_in program.pools.code program.entry ≡ Ok header
      → HasGoodMade made → IsGoodRest state → IsGoodState Good (after_list program header made state).state
  good-listed header None state is made rest = good-over state rest
  good-listed header (Some list) state is made rest =
      few-entry header (Obj list.0 ∷ []) (record state { store = list.1 }) is (made.1, tt) (omega arith)
      (record { register = rest.register; store = made.0; say = rest.say })

  good-entering : (header : Header) (argued : Bool) (state : State) (fault : Option Fault)
      → header_in program.pools.code program.entry ≡ Ok header → AreGoodFrames state.frames → IsGoodRest state
      → IsGoodState Good (after_entering program header argued state fault).state
  unfolding named_as_keys
  good-entering header argued state (Some fault) is frames rest = good-fault fault state frames rest
  good-entering header true state None is frames rest =
      good-listed header _ state is (good-made (Items []) state.store (record { parts = tt; keyless = refl }) rest.store) rest
  good-entering header false state None is frames rest = few-entry header [] state is tt (omega arith) rest

  pub good-entry : (state : State) → AreGoodFrames state.frames → IsGoodRest state
      → IsGoodState Good (after_entry program (header_in program.pools.code program.entry) state).state
  good-entry state frames rest = by (header_in program.pools.code program.entry) refl
    where
      by : (found : Result Header CodeRefusal) → header_in program.pools.code program.entry ≡ found
          → IsGoodState Good (after_entry program found state).state
      by (Ok header) is = good-entering header _ state _ is frames rest
      by (Err refusal) is = good-over state rest
