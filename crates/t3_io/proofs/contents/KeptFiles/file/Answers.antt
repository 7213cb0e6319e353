use Rattle.std.proofs.Common.{ap, ◌∙◌, Some}
use Rattle.std.specs.FinMap as map
use Rattle.t3_io.proofs.Kept.{get-kept}
use Rattle.t3_io.proofs.contents.KeptFiles.file.Goals as goal

pub returns-in-Some : goal.returns-in-Some
returns-in-Some c =
    ap Some c.as_slice.ensures.value ∙ get-kept c.args.name.now _ _ c.in-Some.ensures.value
    ∙ ap (λ m. map.get m c.args.name.now) c.self.view_is

pub returns-in-None : goal.returns-in-None
returns-in-None c = get-kept c.args.name.now _ _ c.in-None.ensures.value ∙ ap (λ m. map.get m c.args.name.now) c.self.view_is
