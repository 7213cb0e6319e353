use Rattle.std.proofs.Common.{◌≡◌, ◌+◌, ◌++◌, replicate, vec_len, vec_capacity}
use Rattle.t3_holder.specs.declared.holder.Holder.TheVariants.{Nil}
use Rattle.t3_frames.proofs.stack.push_nils.Given as goal

abbrev pub invariant-loop : goal.invariant-loop
invariant-loop l = record {
  items : l.values.items ≡ l.initial.values.items ++ replicate l.counter Nil;
  len : vec_len l.values ≡ vec_len l.initial.values + l.counter;
  room : vec_capacity l.values ≡ vec_capacity l.initial.values;
}
