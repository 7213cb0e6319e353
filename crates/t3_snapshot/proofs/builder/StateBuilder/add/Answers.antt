use Rattle.t3_snapshot.proofs.Written.{on_ok}
use Rattle.t3_snapshot.proofs.Taking.{kept_number, kept_new, adds_object}
use Rattle.t3_snapshot.proofs.builder.StateBuilder.add.Goals as goal

pub keep-requires-clause-number : goal.keep-requires-clause-number
keep-requires-clause-number c = kept_number c.args.self.now c.args.number c.requires.number

pub keep-requires-clause-new : goal.keep-requires-clause-new
keep-requires-clause-new c = kept_new c.args.self.now c.args.number c.requires.number

pub returns : goal.returns
returns c = on_ok c.keep.result _ _ c.keep.ensures (adds_object c.args.self.now c.keep.new.self c.args.number _ c.requires.spellable)
