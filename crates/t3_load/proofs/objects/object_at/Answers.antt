use Rattle.std.proofs.Common.{◌∙◌, ap, option_map, option_and_then, slice_get}
use Rattle.t3_load.proofs.ObjectRules.{by_position, found_at}
use Rattle.t3_load.proofs.objects.object_at.Goals as goal

pub returns-in_err-get_index_of : goal.returns-in_err-get_index_of
returns-in_err-get_index_of c =
    ap (option_map (λ object. object.now)) c.from_residual.ensures
    ∙ ap (option_and_then (λ i. slice_get c.args.objects.now i)) c.in_err-get_index_of.ensures.index
    ∙ by_position c.args.objects.now c.args.number c.args.numbers.now.keys c.requires.are

pub returns : goal.returns
returns c =
    found_at c.get.result c.args.objects.now c.in_ok-get_index_of.field-0 c.get.ensures.lookup.0 c.get.ensures.lookup.1
    ∙ ap (option_and_then (λ i. slice_get c.args.objects.now i)) c.in_ok-get_index_of.ensures.index
    ∙ by_position c.args.objects.now c.args.number c.args.numbers.now.keys c.requires.are
