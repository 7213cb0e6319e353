use Rattle.std.proofs.Common.{subst}
use Rattle.t3_blocks.specs.Inner.Lists.{FailsAt}
use Rattle.t3_blocks.specs.Inner.Metas.{MetaHead}
use Rattle.t3_blocks.specs.Spelling.{prop_text, IsProp}
use Rattle.t3_blocks.proofs.MetaEntries.{no_meta_head, no_meta_props}
use Rattle.t3_blocks.proofs.metas.take_meta.Goals as goal

pub returns-in-Err-Malformed : goal.returns-in-Err-Malformed
returns-in-Err-Malformed c =
    let head : MetaHead = record { name = c.in-Some.name.now; count = c.in-Some.count; size = c.in-Some.property_size } in
    let fails = subst (FailsAt prop_text
    (IsProp head.size) head.count c.in-Some.rest.now) c.in-Err-Malformed.field-0-is c.in-Err-Malformed.ensures in
    no_meta_props c.args.body.now c.in-Some.rest.now head c.in-Err-Malformed.field-0-0 c.in-Some.ensures.0 c.in-Some.ensures.1 fails

pub returns-in-None : goal.returns-in-None
returns-in-None c = no_meta_head c.args.body.now c.in-None.ensures
