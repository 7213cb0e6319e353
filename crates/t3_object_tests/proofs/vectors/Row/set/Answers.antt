use Rattle.t3_object_tests.proofs.vectors.Row.set.Goals as goal

pub put-requires-clause-form : goal.put-requires-clause-form
put-requires-clause-form c = c.content.ensures c.args.number
