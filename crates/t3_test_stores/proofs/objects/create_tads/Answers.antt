use Rattle.std.proofs.Common.{◌∙◌, ap, sym, subst, Some}
use Rattle.std.specs.Prelude.{MatchOption}
use Rattle.t3_store.specs.Whole.{AreThere, supers_for}
use Rattle.t3_test_stores.proofs.objects.create_tads.Goals as goal

pub create-requires-clause-supers : goal.create-requires-clause-supers
create-requires-clause-supers c =
    subst (λ supers. MatchOption supers (Unit {0}) (AreThere (supers_for c.args.transient c.args.store.now.store)))
    (sym (c.tads.ensures.supers ∙ ap Some c.new.ensures.items)) tt
