use Rattle.std.proofs.Common.{subst}
use Rattle.std.proofs.lemmas.List.{take_rest}
use Rattle.std.proofs.lemmas.Result.{err_from_is_err_and}
use Rattle.t3_blocks.specs.Spelling.{static_text, IsStatic, size_width}
use Rattle.t3_blocks.specs.Malformed.{BreaksList}
use Rattle.t3_blocks.specs.Inner.Lists.{IsList, Breaks}
use Rattle.t3_blocks.proofs.Counted.{has_head, objects_refused, spells_objects}
use Rattle.t3_blocks.proofs.objects.objects.Goals as goal

pub returns-in_err-objects : goal.returns-in_err-objects
returns-in_err-objects c =
    let payload = c.args.payload.now in
    let due = c.u16_at-due.result in
    let flags = c.u16_at-flags.result in
    let width = size_width flags in
    let head = has_head payload due c.u16_at-metaclass.result flags c.u16_at-due.type_inv c.u16_at-metaclass.type_inv
    c.u16_at-flags.type_inv c.u16_at-due.ensures c.u16_at-metaclass.ensures c.u16_at-flags.ensures in
    let p = err_from_is_err_and c.from_residual.result c.from_residual.ensures.1 in
    let breaks = subst (λ list. Breaks (BreaksList (static_text width) (IsStatic width) due list) c.in_err-objects.field-0.0)
    (take_rest payload 6) c.in_err-objects.ensures in
    rw (p.1, p.2) (objects_refused payload due c.u16_at-metaclass.result flags c.in_err-objects.field-0.0 head breaks)

pub returns : goal.returns
returns c =
    let payload = c.args.payload.now in
    let due = c.u16_at-due.result in
    let flags = c.u16_at-flags.result in
    let width = size_width flags in
    let head = has_head payload due c.u16_at-metaclass.result flags c.u16_at-due.type_inv c.u16_at-metaclass.type_inv
    c.u16_at-flags.type_inv c.u16_at-due.ensures c.u16_at-metaclass.ensures c.u16_at-flags.ensures in
    let whole = subst (λ list. IsList (static_text width) (IsStatic width) due list c.in_ok-objects.objects.items)
    (take_rest payload 6) c.in_ok-objects.ensures in
    spells_objects payload due c.u16_at-metaclass.result flags c.in_ok-objects.objects.items head whole
