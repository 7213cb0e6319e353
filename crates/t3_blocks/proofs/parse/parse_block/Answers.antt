use Rattle.std.proofs.Common.{refl, sym, ◌∙◌}
use Rattle.t3_blocks.proofs.Giving as giving
use Rattle.t3_blocks.proofs.parse.parse_block.Goals as goal

pub returns-then-is_unknown_mandatory-clause-unknown : goal.returns-then-is_unknown_mandatory-clause-unknown
returns-then-is_unknown_mandatory-clause-unknown c =
    let refused = c.if-is_unknown_mandatory.ensures c.args.name c.of-kind.ensures in
    ((λ is. giving.is_true _ refused), (λ is. refl))

pub returns-then-is_unknown_mandatory-clause-gives : goal.returns-then-is_unknown_mandatory-clause-gives
returns-then-is_unknown_mandatory-clause-gives c block spells known =
    let refused = c.if-is_unknown_mandatory.ensures c.args.name c.of-kind.ensures in
    absurd cc

pub returns-then-is_unknown_mandatory-clause-refuses : goal.returns-then-is_unknown_mandatory-clause-refuses
returns-then-is_unknown_mandatory-clause-refuses c items malformed =
    let refused = c.if-is_unknown_mandatory.ensures c.args.name c.of-kind.ensures in
    let known = giving.malformed_not_refused c.args.name c.args.payload.now c.args.flags items malformed in
    absurd cc

pub returns-clause-block : goal.returns-clause-block
returns-clause-block c = rw c.as_block_answer.ensures
    (giving.parsed_block c.args.name c.args.payload.now c.args.flags c.payload_block.result c.payload_block.ensures)

pub returns-clause-unknown : goal.returns-clause-unknown
returns-clause-unknown c =
    let known = c.if-is_unknown_mandatory.ensures c.args.name c.of-kind.ensures in (
      (λ is. absurd (giving.not_unknown c.args.name c.args.payload.now c.args.flags c.payload_block.result
          (sym c.as_block_answer.ensures ∙ is))),
      (λ refused. absurd (giving.not_true _ known refused)),
    )

pub returns-clause-malformed : goal.returns-clause-malformed
returns-clause-malformed c items is =
    giving.parsed_malformed c.args.name c.args.payload.now c.args.flags c.payload_block.result c.payload_block.ensures items
    (sym c.as_block_answer.ensures ∙ is)

pub returns-clause-gives : goal.returns-clause-gives
returns-clause-gives c block spells known =
    rw c.as_block_answer.ensures
    (giving.parsed_gives c.args.name c.args.payload.now c.args.flags c.payload_block.result c.payload_block.ensures block spells)

pub returns-clause-refuses : goal.returns-clause-refuses
returns-clause-refuses c items malformed =
    rw c.as_block_answer.ensures
    (giving.parsed_refuses c.args.name c.args.payload.now c.args.flags c.payload_block.result c.payload_block.ensures items malformed)
