use Rattle.std.proofs.Common.{rules}
use Rattle.t3_blocks.specs.BlockName.{IsPlain}
use Rattle.t3_blocks.proofs.BlockNames.{kept_name, unknown_name}
use Rattle.t3_blocks.proofs.kind.without_layout.Goals as goal

pub returns-then-contains : goal.returns-then-contains
returns-then-contains c = (record { not_end = search rules; no_layout = c.requires }, kept_name c.args.name (search rules))

pub returns-else-contains : goal.returns-else-contains
returns-else-contains c =
    let plain : IsPlain c.args.name = record { not_end = search rules; no_layout = c.requires } in
    (plain, unknown_name c.args.name plain (search rules))
