use Rattle.std.proofs.Common.{ap, ◌∙◌}
use Rattle.std.specs.FinMap as map
use Rattle.t3_io.specs.Inner.Kept.{kept_entries}
use Rattle.t3_io.proofs.Kept.{kept-insert}
use Rattle.t3_io.proofs.contents.KeptFiles.keep.Goals as goal

pub returns-clause-ok : goal.returns-clause-ok
returns-clause-ok c =
    let k = c.in_ok-name.name in
    let v = c.in_ok-bytes.bytes in
    let before = c.self.view_is in
    let name = c.in_ok-name.ensures.items in
    let bytes = c.in_ok-bytes.ensures.items in
    ap (λ es. map.from_entries (kept_entries es)) c.in_ok-insert.ensures.entries ∙ kept-insert c.self.inside.files.entries k v ∙ cc
