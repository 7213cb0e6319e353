use Rattle.std.proofs.Common.{◌≡◌, take, drop, Ok, Err, List, [], sym, ap, ◌∙◌, arith}
use Rattle.t3_holder.specs.declared.holder.Holder.{Holder}
use Rattle.t3_holder.specs.declared.holder.Holder.TheVariants.{Nil}
use Rattle.t3_frames.specs.Frame.{FramesValue, all_values, of_newest, with_operands}
use Rattle.t3_frame_instructions.specs.declared.context.Core.{Core}
use Rattle.t3_frame_instructions.specs.Context.{Action, leaving}
use Rattle.t3_object_instructions.proofs.Turning.{drop-turned, shown-turned}
use Rattle.t3_object_instructions.proofs.Arguments.{texts_said}
use Rattle.t3_object_instructions.proofs.builtin.say.Goals as goal

pub returns-in-Ok-clause-done : goal.returns-in-Ok-clause-done
returns-in-Ok-clause-done c =
    let old : Core = c.args.core.now in
    let count = c.args.count in
    let operands = old.frames.newest.operands in
    let constants = c.args.pools.now.constants in
    let shown : c.topmost.result.now ≡ take count operands =
    shown-turned count operands c.topmost.result.now
    (c.topmost.ensures ∙ ap (λ (f : FramesValue). take count f.newest.operands) c.turn_operands.ensures) in
    let said = texts_said constants count old c.topmost.result.now (Ok c.in-Ok.text) c.if-count-eq0.false shown
    (sym c.in-Ok.is ∙ c.in_ok-text.ensures) in
    let frames : c.drop_operands.new.self ≡ of_newest (with_operands (drop count operands)) old.frames =
    c.drop_operands.ensures
    ∙ ap (λ (f : FramesValue). of_newest (with_operands (drop count f.newest.operands)) f) c.turn_operands.ensures
    ∙ ap (λ (o : List Holder). of_newest (with_operands o) old.frames) (drop-turned count operands) in
    record {
      asks = ap (λ (a : Action). a.0) said;
      leaves =
          (λ i. record {
            frame = (frames i).newest;
            others = all_values (frames i).older;
            register = Nil;
            store = old.store.store;
            say = old.say;
          })
          ∙ sym (ap (λ (a : Action). a.1) said);
      older = ap (λ (f : FramesValue). f.older) frames;
      writes = omega arith;
      savepoints = omega arith;
    }

pub returns-in-Err-clause-done : goal.returns-in-Err-clause-done
returns-in-Err-clause-done c =
    let old : Core = c.args.core.now in
    let count = c.args.count in
    let operands = old.frames.newest.operands in
    let constants = c.args.pools.now.constants in
    let shown : c.topmost.result.now ≡ take count operands =
    shown-turned count operands c.topmost.result.now
    (c.topmost.ensures ∙ ap (λ (f : FramesValue). take count f.newest.operands) c.turn_operands.ensures) in
    let said = texts_said constants count old c.topmost.result.now (Err c.in-Err.fault) c.if-count-eq0.false shown
    (sym c.in-Err.is ∙ c.in_ok-text.ensures) in
    let turned = c.turn_operands.ensures in
    record {
      asks = ap (λ (a : Action). a.0) said;
      leaves =
          (λ i. leaving [] (record {
            frame = (turned i).newest;
            others = all_values (turned i).older;
            register = old.register;
            store = old.store.store;
            say = old.say;
          }))
          ∙ sym (ap (λ (a : Action). leaving [] a.1) said);
      older = ap (λ (f : FramesValue). f.older) turned;
      writes = omega arith;
      savepoints = omega arith;
    }
