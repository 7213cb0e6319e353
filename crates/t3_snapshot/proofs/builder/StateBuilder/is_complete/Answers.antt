use Rattle.t3_snapshot.proofs.Complete.{not_kept, not_named, not_whole, is_whole, told, none_of, some_of}
use Rattle.t3_snapshot.proofs.builder.StateBuilder.is_complete.Goals as goal

pub returns-then-not-self : goal.returns-then-not-self
returns-then-not-self c = λ next objects has. not_kept next objects c.args.self.now has c.if-not-self.true

pub returns-then-not-names_objects : goal.returns-then-not-names_objects
returns-then-not-names_objects c = λ next objects has.
    not_named next objects c.args.self.now has c.if-not-self.false
    (λ named. let t = c.names_objects.ensures.1 named in let f = c.if-not-names_objects.true in absurd cc)

pub returns : goal.returns
returns c = λ next objects has.
    told c.is_none.result _ _
    (λ so. is_whole next objects c.args.self.now has c.if-not-self.false (c.names_objects.ensures.0 c.if-not-names_objects.false)
    (c.in_ok-first_broken.ensures.whole.0 (none_of c.in_ok-first_broken.field-0 c.is_none.result c.is_none.ensures so))
    c.units-units.ensures.few c.units-units.ensures.few_units)
    (λ so. not_whole next objects c.args.self.now has c.if-not-self.false
    (λ whole. some_of c.in_ok-first_broken.field-0 c.is_none.result c.is_none.ensures so (c.in_ok-first_broken.ensures.whole.1 whole)))
