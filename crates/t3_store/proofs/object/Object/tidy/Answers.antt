use Rattle.std.proofs.Common.{sym, inl, inr, ◌∙◌, ltb-false}
use Rattle.t3_store.specs.Inner.Shapes.{places_of}
use Rattle.t3_store.proofs.Purged.{there-stamped}
use Rattle.t3_store.proofs.object.Object.tidy.Goals as goal

pub returns-then-has_too_many_places-clause-places : goal.returns-then-has_too_many_places-clause-places
returns-then-has_too_many_places-clause-places c = record {
  fewer = c.purge.ensures.fewer;
  kept = c.purge.ensures.kept;
  few = inr (λ cell there. let at = there-stamped (places_of c.purge.new.self) cell there in c.purge.ensures.gone cell at.0 at.1);
}

pub returns-else-has_too_many_places-clause-places : goal.returns-else-has_too_many_places-clause-places
returns-else-has_too_many_places-clause-places c = record {
  fewer = λ cell stamp there. there;
  kept = λ cell stamp there stays. there;
  few = inl (ltb-false _ _ (sym c.has_too_many_places.ensures ∙ c.if-has_too_many_places.false));
}
