use Rattle.std.proofs.Common.{◌≡◌, ◌∙◌, ap, sym, subst, refl, Some, is_some, true≢false}
use Rattle.t3_undo.specs.Content.{Parts, Places}
use Rattle.t3_store.specs.Inner.Shapes.{thing_of, places_of, tick_of}
use Rattle.t3_store.specs.Inner.Bounded.{parts_of, IsTidied}
use Rattle.t3_store.proofs.Rows.{entry-at, no-entry, get-at, get-changed, get-beside, get-nowhere, rising-at, by_number-kept}
use Rattle.t3_store.proofs.entries.tidy.Goals as goal

some-is : (o p : Places) → Some o ≡ Some p → o ≡ p
some-is o p e = cc

pub returns-in-Some-clause-rising : goal.returns-in-Some-clause-rising
returns-in-Some-clause-rising c =
    rising-at _ _ _ _ c.tidy.new.self
    (entry-at c.args.number c.args.entries.now.items _ _ c.in-Some.index _ c.deref.ensures.value c.index_of.ensures.index c.in-Some.is
    c.index_mut.ensures.value)
    c.requires

pub returns-in-Some-clause-places : goal.returns-in-Some-clause-places
returns-in-Some-clause-places c =
    let at = entry-at c.args.number c.args.entries.now.items _ _ c.in-Some.index _ c.deref.ensures.value c.index_of.ensures.index c.in-Some.is
    c.index_mut.ensures.value in
    let stood = get-at places_of _ _ _ _ at in
    record {
      objects = by_number-kept thing_of _ _ _ _ c.tidy.new.self at c.tidy.ensures.thing;
      ticks = by_number-kept tick_of _ _ _ _ c.tidy.new.self at c.tidy.ensures.ticks;
      others = λ other apart. get-beside places_of _ _ _ _ c.tidy.new.self at other apart;
      own = λ was there. (
        places_of c.tidy.new.self,
        get-changed places_of _ _ _ _ c.tidy.new.self at,
        (let same = sym stood ∙ there in
            subst (λ (x : Parts × Places). IsTidied c.args.record_limit c.args.oldest x.0 x.1 (places_of c.tidy.new.self))
            (λ i. (sym (ap parts_of (get-at thing_of _ _ _ _ at)) i, some-is _ _ same i)) c.tidy.ensures.places),
      );
      none = λ gone. absurd (true≢false (ap is_some (sym stood ∙ gone)));
    }

pub returns-in_default-clause-places : goal.returns-in_default-clause-places
returns-in_default-clause-places c = record {
  objects = refl;
  ticks = refl;
  others = λ other apart. refl;
  own = λ was there. absurd (true≢false (ap is_some (sym there ∙ get-nowhere places_of c.args.number c.args.entries.now.items
      (no-entry c.args.number c.args.entries.now.items _ _ c.deref.ensures.value c.index_of.ensures.index c.in_default.is))));
  none = λ gone. gone;
}
