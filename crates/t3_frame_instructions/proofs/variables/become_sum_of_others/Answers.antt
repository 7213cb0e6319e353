use Rattle.std.proofs.Common.{refl}
use Rattle.t3_ops.specs.Adding.{sum_of}
use Rattle.t3_frame_instructions.specs.declared.context.Core.{Core}
use Rattle.t3_frame_instructions.specs.Variables.{becomes_sum, sets_local}
use Rattle.t3_frame_instructions.proofs.Made.{KeepsFrames, carried-ok, carried-fault, carried-full}
use Rattle.t3_frame_instructions.proofs.variables.become_sum_of_others.Goals as goal

pub returns-in-Ok : goal.returns-in-Ok
returns-in-Ok c =
    let old : Core = c.args.core.now in
    let between : Core = record old { store = c.sum.new.store } in
    let keeps : KeepsFrames old between =
    record { frames = refl; register = refl; say = refl; writes = c.sum.ensures.writes; savepoints = c.sum.ensures.savepoints } in
    carried-ok (becomes_sum c.args.pools.now.constants c.args.n c.args.right c.args.left) (sum_of c.args.pools.now.constants old.store.store c.args.left c.args.right) (sets_local c.args.n) old between
    c.set_local.new.core c.in-Ok.value _ refl c.in-Ok.ensures.carried keeps c.set_local.ensures

pub returns-in-Err-Fault : goal.returns-in-Err-Fault
returns-in-Err-Fault c =
    let old : Core = c.args.core.now in
    let new : Core = record old { store = c.sum.new.store } in
    let keeps : KeepsFrames old new =
    record { frames = refl; register = refl; say = refl; writes = c.sum.ensures.writes; savepoints = c.sum.ensures.savepoints } in
    carried-fault (becomes_sum c.args.pools.now.constants c.args.n c.args.right c.args.left) (sum_of c.args.pools.now.constants old.store.store c.args.left c.args.right) (sets_local c.args.n) old new _ c.in-Err-Fault.fault
    refl c.in-Err-Fault.field-0-is c.in-Err-Fault.ensures.carried keeps

pub returns-in-Err-Full : goal.returns-in-Err-Full
returns-in-Err-Full c =
    let old : Core = c.args.core.now in
    let new : Core = record old { store = c.sum.new.store } in
    let keeps : KeepsFrames old new =
    record { frames = refl; register = refl; say = refl; writes = c.sum.ensures.writes; savepoints = c.sum.ensures.savepoints } in
    carried-full (becomes_sum c.args.pools.now.constants c.args.n c.args.right c.args.left) (sum_of c.args.pools.now.constants old.store.store c.args.left c.args.right) (sets_local c.args.n) old new _ refl
    c.in-Err-Full.field-0-is c.in-Err-Full.ensures.carried keeps
