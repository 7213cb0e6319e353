use Rattle.t3_blocks.proofs.Laws.{same_block, not_both, one_count}
use Rattle.t3_blocks.proofs.Decided.{decided}
use Rattle.t3_blocks.proofs.block.block_spelling.Goals as goal

pub returns-clause-one_block : goal.returns-clause-one_block
returns-clause-one_block c a b name payload = same_block a b name payload

pub returns-clause-not_both : goal.returns-clause-not_both
returns-clause-not_both c block name payload items = not_both block name payload items

pub returns-clause-one_count : goal.returns-clause-one_count
returns-clause-one_count c name payload m n = one_count name payload m n

pub returns-clause-some : goal.returns-clause-some
returns-clause-some c name payload four other bytes = decided name payload four other bytes
