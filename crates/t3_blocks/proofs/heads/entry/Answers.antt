use Rattle.std.proofs.Common.{◌∙◌}
use Rattle.std.proofs.lemmas.List.{take_rest}
use Rattle.t3_blocks.proofs.Layouts.{spells_entry, entry_short}
use Rattle.t3_blocks.proofs.heads.entry.Goals as goal

pub returns-then-payload-lt-ENTRY_HEAD : goal.returns-then-payload-lt-ENTRY_HEAD
returns-then-payload-lt-ENTRY_HEAD c = entry_short c.args.payload.now c.if-payload-lt-ENTRY_HEAD.true

pub returns : goal.returns
returns c =
    let payload = c.args.payload.now in
    spells_entry payload c.u32_at.result c.u16_at.result c.u16_at-2.result c.u16_at-3.result c.u16_at-4.result c.u16_at-5.result
    c.u16_at-6.result c.in_ok-from_slice.field-0.items
    c.u32_at.type_inv c.u16_at.type_inv c.u16_at-2.type_inv c.u16_at-3.type_inv c.u16_at-4.type_inv c.u16_at-5.type_inv c.u16_at-6.type_inv
    c.u32_at.ensures c.u16_at.ensures c.u16_at-2.ensures c.u16_at-3.ensures c.u16_at-4.ensures c.u16_at-5.ensures c.u16_at-6.ensures
    (c.in_ok-from_slice.ensures.items ∙ take_rest payload 16)
