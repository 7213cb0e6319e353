use Rattle.std.proofs.Common.{◌∙◌, ◌≤◌, ◌+◌, sym, subst, arith}
use Rattle.t3_object_instructions.specs.declared.effect.MakeEffect.{MakeEffect}
use Rattle.t3_object_instructions.specs.Instructions.{make_action}
use Rattle.t3_interp.specs.Step.{after_effect}
use Rattle.t3_frame_instructions.specs.Acting.{HasAction}
use Rattle.t3_object_instructions.specs.Acting.{effect_of}
use Rattle.t3_frame_instructions.specs.Acting.{context_of}
use Rattle.t3_frame_instructions.specs.Context.{Context}
use Rattle.t3_snapshot.specs.Good.{AreGoodObjects}
use Rattle.t3_snapshot.specs.Layout.{IsGoodHolder}
use Rattle.t3_good_instructions.proofs.Instructions.{keeps-make}
use Rattle.t3_interp.proofs.act.act_make.Goals as goal

pub returns-in-Say-clause-acted : goal.returns-in-Say-clause-acted
returns-in-Say-clause-acted c =
    let program = c.args.program.now in
    let made = subst (λ (effect : MakeEffect). HasAction (make_action program c.args.code.now)
    c.args.running.now.core (effect_of effect c.make.new.core.call) c.make.new.core)
    c.in-Say.is c.in_ok-effect.ensures.done in
    record {
      after = c.say.ensures.after program ∙ (λ i. after_effect program (made.older i) c.args.running.now.steps (sym made.asks i) (made.leaves i));
      writes =
          let few = c.requires.few.0 in
          let wrote = made.writes in
          let said = c.say.ensures.writes in
          let same = c.say.ensures.steps in
          omega (arith, few, wrote, said, same);
      savepoints = subst (λ n. n ≤ c.args.running.now.core.store.savepoints + 1) (sym c.say.ensures.savepoints) made.savepoints;
      steps = c.say.ensures.steps;
    }

-- the objects that are saved are those that there were
pub save-requires-clause-objects : goal.save-requires-clause-objects
save-requires-clause-objects c =
    let program = c.args.program.now in
    let old = c.args.running.now.core in
    let made = subst (λ (effect : MakeEffect). HasAction (make_action program c.args.code.now)
    old (effect_of effect c.make.new.core.call) c.make.new.core)
    c.in-Save.is c.in_ok-effect.ensures.done in
    let good =
    keeps-make IsGoodHolder program c.requires.program old.frames.newest.place c.requires.stands.0 c.args.code.now c.requires.stands.1
    (context_of old) c.requires.context in
    subst (λ (context : Context). AreGoodObjects IsGoodHolder context.store.next context.store.persistent) (sym made.leaves)
    good.context.store.persistent
