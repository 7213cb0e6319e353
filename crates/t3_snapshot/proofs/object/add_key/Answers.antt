use Rattle.std.proofs.Common.{ap, ◌∙◌, not}
use Rattle.t3_snapshot.proofs.Keys.{any_now}
use Rattle.t3_snapshot.proofs.object.add_key.Goals as goal

pub returns-clause-added : goal.returns-clause-added
returns-clause-added c = c.in_ok-_index.ensures.added ∙ ap not (any_now c.args.key.now c.args.seen.now.keys)
