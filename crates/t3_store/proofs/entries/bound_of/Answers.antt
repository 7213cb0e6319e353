use Rattle.std.proofs.Common.{◌≡◌, true, false, ltb, ltb-true, ltb-false, rules}
use Rattle.std.proofs.lemmas.List.Sorted.{IsPartitionPoint-from_clause, IsPartitionedBy-ltb}
use Rattle.std.specs.List.Sorted.{IsPartitionPoint}
use Rattle.t3_store.specs.declared.entries.Entry.{Entry}
use Rattle.t3_store.proofs.Rows.{rising-before}
use Rattle.t3_store.proofs.entries.bound_of.Goals as goal
use Rattle.t3_store.proofs.entries.bound_of.Goals.{After-partition_point}

point : (c : After-partition_point)
    → IsPartitionPoint (λ (e : Entry). ltb e.number c.args.number ≡ true) (λ e. ltb e.number c.args.number ≡ false) c.args.entries.now
    c.partition_point.result
point c =
    IsPartitionPoint-from_clause (λ e. ltb e.number c.args.number) _ _ c.partition_point.ensures.partitioned
    (IsPartitionedBy-ltb (λ e. e.number) c.args.entries.now c.args.number (λ i j d h l. rising-before c.args.entries.now i j d c.requires h l))
    (λ a r q k. search rules)

pub returns-clause-below : goal.returns-clause-below
returns-clause-below c = λ k d h l. ltb-true _ _ ((point c).0 k d h l)

pub returns-clause-above : goal.returns-clause-above
returns-clause-above c = λ k d h l. ltb-false _ _ ((point c).1 k d h l)
