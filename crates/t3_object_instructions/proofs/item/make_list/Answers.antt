use Rattle.std.proofs.Common.{refl}
use Rattle.t3_ops.specs.Indexing.{list_with_element_of}
use Rattle.t3_frame_instructions.specs.declared.context.Core.{Core}
use Rattle.t3_frame_instructions.specs.Making.{puts}
use Rattle.t3_frame_instructions.proofs.Made.{KeepsFrames, carried-ok, carried-fault, carried-full}
use Rattle.t3_object_instructions.specs.Setting.{makes_list}
use Rattle.t3_object_instructions.proofs.item.make_list.Goals as goal

pub returns-in-Ok : goal.returns-in-Ok
returns-in-Ok c =
    let old : Core = c.args.core.now in
    let between : Core = record old { store = c.list_with_element.new.store } in
    let made = c.list_with_element.ensures in
    let keeps : KeepsFrames old between =
    record { frames = refl; register = refl; say = refl; writes = made.writes; savepoints = made.savepoints } in
    carried-ok (makes_list c.args.pools.now.constants c.args.at c.args.list c.args.value)
    (list_with_element_of c.args.pools.now.constants old.store.store c.args.list c.args.at c.args.value) puts old between c.put.new.core
    c.in-Ok.value _ refl c.in-Ok.ensures.carried keeps c.put.ensures.done

pub returns-in-Err-Fault : goal.returns-in-Err-Fault
returns-in-Err-Fault c =
    let old : Core = c.args.core.now in
    let new : Core = record old { store = c.list_with_element.new.store } in
    let made = c.list_with_element.ensures in
    let keeps : KeepsFrames old new =
    record { frames = refl; register = refl; say = refl; writes = made.writes; savepoints = made.savepoints } in
    carried-fault (makes_list c.args.pools.now.constants c.args.at c.args.list c.args.value)
    (list_with_element_of c.args.pools.now.constants old.store.store c.args.list c.args.at c.args.value) puts old new _ c.in-Err-Fault.fault
    refl c.in-Err-Fault.field-0-is c.in-Err-Fault.ensures.carried keeps

pub returns-in-Err-Full : goal.returns-in-Err-Full
returns-in-Err-Full c =
    let old : Core = c.args.core.now in
    let new : Core = record old { store = c.list_with_element.new.store } in
    let made = c.list_with_element.ensures in
    let keeps : KeepsFrames old new =
    record { frames = refl; register = refl; say = refl; writes = made.writes; savepoints = made.savepoints } in
    carried-full (makes_list c.args.pools.now.constants c.args.at c.args.list c.args.value)
    (list_with_element_of c.args.pools.now.constants old.store.store c.args.list c.args.at c.args.value) puts old new _ refl
    c.in-Err-Full.field-0-is c.in-Err-Full.ensures.carried keeps
