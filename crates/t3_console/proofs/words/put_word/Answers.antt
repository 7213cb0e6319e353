use Rattle.std.proofs.Common.{arith}
use Rattle.t3_console.proofs.Stepping.{size-no_longer, word_put, column_put}
use Rattle.t3_console.proofs.words.put_word.Goals as goal

pub overflow_add-size_of : goal.overflow_add-size_of
overflow_add-size_of c = omega (arith, size-no_longer c.args.begun.now, size-no_longer c.args.rest.now, c.size_of.ensures, c.requires)

pub returns-clause-put : goal.returns-clause-put
returns-clause-put c =
    word_put c.args.line.width c.args.line.column c.args.begun.now c.args.rest.now _ _ _ _ _ c.size_of.result c.args.rest_size
    c.size_of.ensures c.requires (omega arith)
    c.lead_and_column-lead.ensures.lead c.in_ok-put_lead.ensures c.in_ok-extend_from_slice.ensures.items
    c.in_ok-extend_from_slice-2.ensures.items

pub returns-clause-column : goal.returns-clause-column
returns-clause-column c =
    column_put c.args.line.width c.args.line.column c.args.begun.now c.args.rest.now c.size_of.result c.args.rest_size _
    c.size_of.ensures c.requires (omega arith)
    c.lead_and_column-lead.ensures.column
