use Rattle.std.proofs.Common.{length, refl, ap, ◌∙◌, arith}
use Rattle.std.specs.List.{flat_map}
use Rattle.t3_blocks.specs.Spelling.{size_width, static_text}
use Rattle.t3_asm.specs.Arguments.{short_at, text_at}
use Rattle.t3_asm.specs.Blocks.{statics_of}
use Rattle.t3_asm.specs.declared.stage.Stage.TheVariants as stages
use Rattle.t3_asm.proofs.Payloads.{sized_at, kept_size}
use Rattle.t3_asm.proofs.blocks.stage_size.Goals as goal

pub returns-in-EntryHead : goal.returns-in-EntryHead
returns-in-EntryHead c labels name =
    sized_at labels name c.args.behind.now c.args.stage stages.EntryHead _ c.in-EntryHead.is
    (omega (arith, ap length c.text_at.ensures, ap (λ h. length (text_at h 7)) c.head_arguments-head.ensures))

pub returns-in-PoolHead : goal.returns-in-PoolHead
returns-in-PoolHead c labels name =
    sized_at labels name c.args.behind.now c.args.stage stages.PoolHead _ c.in-PoolHead.is (refl)

pub returns-in-PageHead : goal.returns-in-PageHead
returns-in-PageHead c labels name =
    sized_at labels name c.args.behind.now c.args.stage stages.PageHead _ c.in-PageHead.is (omega (arith, c.contents_size.ensures labels))

pub returns-in-ObjectsHead : goal.returns-in-ObjectsHead
returns-in-ObjectsHead c labels name =
    let behind = c.args.behind.now in
    let width = c.size_width.ensures ∙ ap size_width (c.short_at.ensures ∙ ap (λ h. short_at h 1) c.head_arguments-head.ensures) in
    sized_at labels name behind c.args.stage stages.ObjectsHead _ c.in-ObjectsHead.is
    (omega (arith, c.entries_size.ensures labels, ap (λ w. length (flat_map (static_text w) (statics_of labels behind))) width))

pub returns-in-Metaclasses : goal.returns-in-Metaclasses
returns-in-Metaclasses c labels name =
    sized_at labels name c.args.behind.now c.args.stage stages.Metaclasses _ c.in-Metaclasses.is
    (omega (arith, c.entries_size-in-Metaclasses.ensures labels))

pub returns-in-FunctionSets : goal.returns-in-FunctionSets
returns-in-FunctionSets c labels name =
    sized_at labels name c.args.behind.now c.args.stage stages.FunctionSets _ c.in-FunctionSets.is
    (omega (arith, c.entries_size-in-FunctionSets.ensures labels))

pub returns-in-Symbols : goal.returns-in-Symbols
returns-in-Symbols c labels name =
    sized_at labels name c.args.behind.now c.args.stage stages.Symbols _ c.in-Symbols.is
    (omega (arith, c.entries_size-in-Symbols.ensures labels))

pub returns-in_default : goal.returns-in_default
returns-in_default c labels name =
    let other = c.in_default in
    kept_size labels name c.args.behind.now c.args.stage _ other.not-EntryHead other.not-PoolHead other.not-PageHead other.not-ObjectsHead
    other.not-Metaclasses other.not-FunctionSets other.not-Symbols (c.contents_size-in_default.ensures labels)
