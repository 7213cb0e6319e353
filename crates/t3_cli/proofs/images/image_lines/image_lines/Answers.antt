use Rattle.std.proofs.Common.{◌++◌, [], sym, ap, ◌∙◌}
use Rattle.std.specs.Prelude.{string_bytes}
use Rattle.t3_image_read.specs.ImageText.{ImageValue}
use Rattle.t3_image_read.specs.Reader.{totals_of}
use Rattle.t3_image_read.proofs.Heads.{length-head_text}
use Rattle.t3_cli.specs.BlockLines.{block_lines, totals_text, show_text}
use Rattle.t3_cli.proofs.Lining.{image_lined, blocks_within}
use Rattle.t3_cli.proofs.images.image_lines.image_lines.Goals as goal

pub append_blocks-requires-clause-within : goal.append_blocks-requires-clause-within
append_blocks-requires-clause-within c =
    blocks_within (record { head = c.image.inside.head; blocks = c.image.inside.blocks; eof_flags = c.image.inside.eof_flags }) c.image.invariant

pub returns : goal.returns
returns c =
    let image : ImageValue = record { head = c.image.inside.head; blocks = c.image.inside.blocks; eof_flags = c.image.inside.eof_flags } in
    let first = c.in_ok-end.ensures.lines image.head (length-head_text image.head c.image.invariant.head) ∙ ap (λ t. t ++ block_lines image.head [] image.blocks) c.new-out.ensures.bytes in
    let joined = c.in_ok-push_str.ensures.bytes ∙ ap (λ t. string_bytes c.append_end.new.out ++ t) c.as_str.ensures.value in
    let whole = c.in_ok-whole.ensures ∙ ap totals_text (c.totals.ensures ∙ ap totals_of (sym c.image.view_is)) in
    image_lined image c.in_ok-end.end (string_bytes c.append_blocks.new.out) (string_bytes c.append_end.new.out) (string_bytes c.in_ok-whole.whole) (string_bytes c.push_str.new.self)
    c.image.invariant first c.in_ok-end.ensures.place c.in_ok-append_end.ensures whole joined
    ∙ ap show_text c.image.view_is
