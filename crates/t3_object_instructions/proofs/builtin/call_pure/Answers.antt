use Rattle.std.proofs.Common.{◌≡◌, reverse, refl, sym, ap, ◌∙◌, List}
use Rattle.std.proofs.lemmas.List.{reverse-reverse}
use Rattle.t3_holder.specs.declared.holder.Holder.{Holder}
use Rattle.t3_ops.specs.Builtins.{pure_builtin_of}
use Rattle.t3_frame_instructions.specs.declared.context.Core.{Core}
use Rattle.t3_frame_instructions.specs.Context.{answers}
use Rattle.t3_frame_instructions.specs.Making.{makes}
use Rattle.t3_frame_instructions.specs.Acting.{context_of}
use Rattle.t3_frame_instructions.proofs.Made.{KeepsFrames, carried-ok, carried-fault, carried-full}
use Rattle.t3_object_instructions.specs.Creating.{arguments}
use Rattle.t3_object_instructions.proofs.builtin.call_pure.Goals as goal

pub returns-in-Ok : goal.returns-in-Ok
returns-in-Ok c =
    let old : Core = c.args.core.now in
    let between : Core = record old { store = c.pure_builtin.new.store } in
    let constants = c.args.pools.now.constants in
    let shown : c.topmost.result.now ≡ reverse (arguments c.args.count (context_of old)) =
    sym (reverse-reverse c.topmost.result.now) ∙ ap reverse c.topmost.ensures in
    let made = c.pure_builtin.ensures in
    let keeps : KeepsFrames old between =
    record { frames = refl; register = refl; say = refl; writes = made.writes; savepoints = made.savepoints } in
    carried-ok
    (λ context. makes (pure_builtin_of constants context.store c.args.index (reverse (arguments c.args.count context)))
    (λ value context. answers value c.args.count context) context)
    (pure_builtin_of constants old.store.store c.args.index c.topmost.result.now) (λ value context. answers value c.args.count context)
    old between c.answer.new.core c.in-Ok.value _
    (ap (λ (args : List Holder). makes (pure_builtin_of constants old.store.store c.args.index args)
    (λ value context. answers value c.args.count context) (context_of old)) (sym shown))
    c.in-Ok.ensures.carried keeps c.answer.ensures.done

pub returns-in-Err-Fault : goal.returns-in-Err-Fault
returns-in-Err-Fault c =
    let old : Core = c.args.core.now in
    let new : Core = record old { store = c.pure_builtin.new.store } in
    let constants = c.args.pools.now.constants in
    let shown : c.topmost.result.now ≡ reverse (arguments c.args.count (context_of old)) =
    sym (reverse-reverse c.topmost.result.now) ∙ ap reverse c.topmost.ensures in
    let made = c.pure_builtin.ensures in
    let keeps : KeepsFrames old new =
    record { frames = refl; register = refl; say = refl; writes = made.writes; savepoints = made.savepoints } in
    carried-fault
    (λ context. makes (pure_builtin_of constants context.store c.args.index (reverse (arguments c.args.count context)))
    (λ value context. answers value c.args.count context) context)
    (pure_builtin_of constants old.store.store c.args.index c.topmost.result.now) (λ value context. answers value c.args.count context)
    old new _ c.in-Err-Fault.fault
    (ap (λ (args : List Holder). makes (pure_builtin_of constants old.store.store c.args.index args)
    (λ value context. answers value c.args.count context) (context_of old)) (sym shown))
    c.in-Err-Fault.field-0-is c.in-Err-Fault.ensures.carried keeps

pub returns-in-Err-Full : goal.returns-in-Err-Full
returns-in-Err-Full c =
    let old : Core = c.args.core.now in
    let new : Core = record old { store = c.pure_builtin.new.store } in
    let constants = c.args.pools.now.constants in
    let shown : c.topmost.result.now ≡ reverse (arguments c.args.count (context_of old)) =
    sym (reverse-reverse c.topmost.result.now) ∙ ap reverse c.topmost.ensures in
    let made = c.pure_builtin.ensures in
    let keeps : KeepsFrames old new =
    record { frames = refl; register = refl; say = refl; writes = made.writes; savepoints = made.savepoints } in
    carried-full
    (λ context. makes (pure_builtin_of constants context.store c.args.index (reverse (arguments c.args.count context)))
    (λ value context. answers value c.args.count context) context)
    (pure_builtin_of constants old.store.store c.args.index c.topmost.result.now) (λ value context. answers value c.args.count context)
    old new _
    (ap (λ (args : List Holder). makes (pure_builtin_of constants old.store.store c.args.index args)
    (λ value context. answers value c.args.count context) (context_of old)) (sym shown))
    c.in-Err-Full.field-0-is c.in-Err-Full.ensures.carried keeps
