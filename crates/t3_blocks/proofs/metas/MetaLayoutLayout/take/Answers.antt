use Rattle.std.proofs.Common.{Option, subst}
use Rattle.t3_blocks.specs.declared.items.Meta.{Meta}
use Rattle.t3_blocks.specs.Inner.Metas.{IsMetaOrNone}
use Rattle.t3_blocks.proofs.MetaEntries.{no_meta_body}
use Rattle.t3_blocks.proofs.metas.MetaLayoutLayout.take.Goals as goal

pub returns-in-None-2 : goal.returns-in-None-2
returns-in-None-2 c =
    let found = subst (λ (meta : Option Meta). IsMetaOrNone c.in-Some.body.now meta) c.in-None-2.is c.in_ok-meta-in-Some.ensures in
    no_meta_body c.args.bytes.now c.in-Some.body.now c.in-Some.trailing.now c.in-Some.ensures.0 c.in-Some.ensures.1 found
