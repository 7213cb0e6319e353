use Rattle.std.proofs.Common.{◌∙◌, ap, sym}
use Rattle.std.specs.Option.{option_map}
use Rattle.t3_store.proofs.Lacking.{lacks-some}
use Rattle.t3_store.proofs.broken.lacks_super.Goals as goal

pub returns-in-Some : goal.returns-in-Some
returns-in-Some g c = lacks-some (g.S.Supers.supers_at c.args.objects.now) c.args.number _ _
    (sym c.supers.ensures ∙ ap (option_map (λ s. s.now)) c.in-Some.is) c.has_missing.ensures
