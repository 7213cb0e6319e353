use Rattle.t3_store.specs.Value.{new_value}
use Rattle.std.proofs.Common.{ap, Err}
use Rattle.t3_store.specs.declared.limits.StoreRefusal.{StoreRefusal}
use Rattle.t3_snapshot.proofs.OneMore.{over_added}
use Rattle.t3_snapshot.proofs.adding.add_made.Goals as goal

pub returns-in-Err-Full : goal.returns-in-Err-Full
returns-in-Err-Full c =
    over_added c.args.state.now c.args.number (new_value c.args.what) c.requires.new
    (c.in-Err-Full.ensures.full.0 (ap (λ (e : StoreRefusal). Err e) c.in-Err-Full.field-0-is))
