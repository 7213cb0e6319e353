use Rattle.std.proofs.Common.{◌≡◌, ℕ, reverse, refl, sym, ap, ◌∙◌, List, Result}
use Rattle.std.proofs.lemmas.List.{reverse-reverse}
use Rattle.t3_holder.specs.declared.holder.Holder.{Holder}
use Rattle.t3_ops.specs.declared.fault.Fault.{Fault}
use Rattle.t3_kinds.specs.Changes.{Deed}
use Rattle.t3_kinds.specs.Methods.{listed_deed}
use Rattle.t3_frame_instructions.specs.declared.context.Core.{Core}
use Rattle.t3_frame_instructions.specs.Context.{Context, Action}
use Rattle.t3_frame_instructions.specs.Relations.{turn_limit}
use Rattle.t3_frame_instructions.specs.Acting.{context_of}
use Rattle.t3_object_instructions.specs.Creating.{arguments}
use Rattle.t3_object_instructions.specs.Listed.{deed_action}
use Rattle.t3_object_instructions.proofs.CarriedOut.{ChangesObjects, asks-fault, asks-end, gives-answer}
use Rattle.t3_object_instructions.proofs.listed.call_turned.Goals as goal

pub returns-in-Ok : goal.returns-in-Ok
returns-in-Ok c =
    let old : Core = c.args.core.now in
    let between : Core = record old { store = c.listed_method.new.store } in
    let count = c.args.count in
    let by : List Holder → Context → Result (Deed × ℕ) Fault =
    λ args context. listed_deed c.args.pools.now.constants context.store turn_limit c.args.kind c.args.index c.args.this args in
    let act : Context → Action = λ context. deed_action (by (reverse (arguments count context)) context) count context in
    let shown : c.topmost.result.now ≡ reverse (arguments count (context_of old)) =
    sym (reverse-reverse c.topmost.result.now) ∙ ap reverse c.topmost.ensures in
    let done = c.listed_method.ensures in
    let changes : ChangesObjects old between =
    record { frames = refl; register = refl; say = refl; writes = done.writes; savepoints = done.savepoints } in
    gives-answer act (by c.topmost.result.now (context_of old)) count old between _
    (ap (λ (args : List Holder). deed_action (by args (context_of old)) count (context_of old)) (sym shown)) changes
    c.in-Ok.value c.answer.new.core _ c.in-Ok.ensures.done c.answer.ensures.done c.answer.ensures.store

pub returns-in-Err-Fault : goal.returns-in-Err-Fault
returns-in-Err-Fault c =
    let old : Core = c.args.core.now in
    let new : Core = record old { store = c.listed_method.new.store } in
    let count = c.args.count in
    let by : List Holder → Context → Result (Deed × ℕ) Fault =
    λ args context. listed_deed c.args.pools.now.constants context.store turn_limit c.args.kind c.args.index c.args.this args in
    let act : Context → Action = λ context. deed_action (by (reverse (arguments count context)) context) count context in
    let shown : c.topmost.result.now ≡ reverse (arguments count (context_of old)) =
    sym (reverse-reverse c.topmost.result.now) ∙ ap reverse c.topmost.ensures in
    let done = c.listed_method.ensures in
    let changes : ChangesObjects old new =
    record { frames = refl; register = refl; say = refl; writes = done.writes; savepoints = done.savepoints } in
    asks-fault act (by c.topmost.result.now (context_of old)) count old new _
    (ap (λ (args : List Holder). deed_action (by args (context_of old)) count (context_of old)) (sym shown)) changes
    _ c.in-Err-Fault.fault c.in-Err-Fault.field-0-is c.in-Err-Fault.ensures.done

pub returns-in-Err-Full : goal.returns-in-Err-Full
returns-in-Err-Full c =
    let old : Core = c.args.core.now in
    let new : Core = record old { store = c.listed_method.new.store } in
    let count = c.args.count in
    let by : List Holder → Context → Result (Deed × ℕ) Fault =
    λ args context. listed_deed c.args.pools.now.constants context.store turn_limit c.args.kind c.args.index c.args.this args in
    let act : Context → Action = λ context. deed_action (by (reverse (arguments count context)) context) count context in
    let shown : c.topmost.result.now ≡ reverse (arguments count (context_of old)) =
    sym (reverse-reverse c.topmost.result.now) ∙ ap reverse c.topmost.ensures in
    let done = c.listed_method.ensures in
    let changes : ChangesObjects old new =
    record { frames = refl; register = refl; say = refl; writes = done.writes; savepoints = done.savepoints } in
    asks-end act (by c.topmost.result.now (context_of old)) count old new _
    (ap (λ (args : List Holder). deed_action (by args (context_of old)) count (context_of old)) (sym shown)) changes
    _ c.in-Err-Full.field-0-is c.in-Err-Full.ensures.done
