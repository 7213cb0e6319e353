use Rattle.std.proofs.Common.{ap, Some, subst}
use Rattle.t3_io.specs.Files.{Files}
use Rattle.t3_io.specs.Putting.{MaySpoil}
use Rattle.t3_io.proofs.Halves.{half_spoils}
use Rattle.t3_io.proofs.memory.MemoryDepotDepot.put.Goals as goal

pub returns-then-next_fails-clause-put : goal.returns-then-next_fails-clause-put
returns-then-next_fails-clause-put c =
    let left = c.keep.new.self in
    let name = c.args.name.now in
    let bytes = c.args.bytes.now in
    let spoiled = half_spoils c.self.inside.files left name bytes c.keep.result c.keep.ensures.ok c.keep.ensures.err in
    subst (λ (files : Files). MaySpoil files name bytes (Some left)) (ap (λ d. d.files) c.self.view_is) spoiled
