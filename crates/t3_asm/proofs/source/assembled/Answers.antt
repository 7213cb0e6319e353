use Rattle.std.proofs.Common.{◌≡◌, None, sym, subst, ◌∙◌}
use Rattle.t3_image_read.specs.Validity.{IsValid}
use Rattle.t3_asm.specs.Blocks.{image_of}
use Rattle.t3_asm.specs.Places.{labels_of}
use Rattle.t3_asm.specs.Source.{head_size, refused_from}
use Rattle.t3_asm.proofs.Sourcing.{lines_valid}
use Rattle.t3_asm.proofs.source.assembled.Goals as goal

pub image-requires-clause-valid : goal.image-requires-clause-valid
image-requires-clause-valid c =
    let draft = c.in_ok-draft.draft in
    let labels = c.labels-labels.ensures in
    let items = c.items-items.ensures in
    let good : None ≡ refused_from (labels_of draft) head_size 0 draft =
    c.in_default.ensures.refused ∙ λ i. refused_from (labels i) head_size 0 (items i) in
    subst (λ l. IsValid (image_of l c.items-items.result.now)) (sym labels)
    (subst (λ lines. IsValid (image_of (labels_of draft) lines)) (sym items)
    (lines_valid c.args.text.now draft c.in_ok-draft.ensures.due good))
