use Rattle.t3_pools.proofs.Texts.{characters-stand}
use Rattle.t3_pools.proofs.Standing.{stands_take}
use Rattle.t3_pools.proofs.paged.PagedPool.characters_in_page.Goals as goal

pub returns-clause-whole : goal.returns-clause-whole
returns-clause-whole c =
    characters-stand c.args.self.now.bytes c.args.address c.whole_characters.result _
    (stands_take c.args.self.now.bytes c.run-run.result.now c.args.address c.min.result c.run-run.ensures.stand) c.whole_characters.ensures
