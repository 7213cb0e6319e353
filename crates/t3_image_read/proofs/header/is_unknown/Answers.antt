use Rattle.t3_image_read.proofs.header.is_unknown.Goals as goal

pub returns : goal.returns
returns c = c.is_unknown_mandatory.ensures c.args.header.name c.requires
