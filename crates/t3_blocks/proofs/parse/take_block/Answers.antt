use Rattle.std.proofs.Common.{Ok, subst, inl, inr, ◌∙◌, rules}
use Rattle.t3_blocks.specs.BlockName.{IsPlain}
use Rattle.t3_blocks.specs.declared.block.Block.TheVariants.{Opaque}
use Rattle.t3_blocks.specs.Spelling.{Spells}
use Rattle.t3_blocks.specs.Parsing.{Gives}
use Rattle.t3_blocks.proofs.BlockNames.{plain_name}
use Rattle.t3_blocks.proofs.Giving.{gives_each, spells_opaque}
use Rattle.t3_blocks.proofs.parse.take_block.Goals as goal

spells : (c : goal.In-Kept) → Spells (Opaque c.args.name c.args.payload) c.args.name c.args.payload
spells c =
    let plain : IsPlain c.args.name = plain_name c.args.name c.args.kind c.requires.kind c.requires.name
    (elim c.in-Kept.is [ inl kept ↦ inl kept | inr unknown ↦ inr (inr unknown) ]) in
    spells_opaque c.args.name c.args.payload (search rules) plain

pub returns-in-Kept-clause-gives : goal.returns-in-Kept-clause-gives
returns-in-Kept-clause-gives c = spells c

pub returns-in-Kept-clause-gives_each : goal.returns-in-Kept-clause-gives_each
returns-in-Kept-clause-gives_each c = gives_each c.args.name c.args.payload (Ok (Opaque c.args.name c.args.payload)) (spells c)

pub returns-in_default : goal.returns-in_default
returns-in_default c =
    let gives = subst (λ payload. Gives c.args.name payload c.payload_block.result)
    (c.deref.ensures.value ∙ c.payload.view_is) c.payload_block.ensures in
    record { gives = gives; gives_each = gives_each c.args.name c.args.payload c.payload_block.result gives }
