use Rattle.std.proofs.Common.{◌≡◌, sym, ap, subst, ◌∙◌, ◌++◌, length, arith}
use Rattle.std.specs.List.{AllByRecursion, flat_map}
use Rattle.t3_holder.specs.NumberText.{little_endian}
use Rattle.t3_snapshot.specs.State.{body_text, trimmed}
use Rattle.std.specs.FinMap.{entries}
use Rattle.t3_snapshot.specs.Inner.Writing.{IsWritable, object_written}
use Rattle.t3_snapshot.proofs.Written.{state_written}
use Rattle.t3_snapshot.proofs.Trim.{none_zero, few_keys, all_writable, all_written, keys_long}
use Rattle.t3_snapshot.proofs.encoding.append_state.Goals as goal

pub numbers_of-requires : goal.numbers_of-requires
numbers_of-requires c = none_zero c.args.state.now c.args.next c.requires

pub overflow_cast-len : goal.overflow_cast-len
overflow_cast-len c = omega (arith, few_keys c.args.state.now c.args.next c.requires, ap length c.in_ok-numbers.ensures, c.len.ensures)

pub append_objects-requires : goal.append_objects-requires
append_objects-requires c =
    subst (AllByRecursion (IsWritable c.args.state.now)) (sym (c.deref.ensures.value ∙ c.in_ok-numbers.ensures))
    (all_writable c.args.state.now c.args.next c.requires)

pub returns : goal.returns
unfolding body_text
returns c =
    let long : c.len.result ≡ length (entries (trimmed c.args.state.now)) =
    omega (arith, c.len.ensures, ap length c.in_ok-numbers.ensures, keys_long c.args.state.now) in
    state_written c.args.out.now.items c.append_head.new.out.items c.append_counts.new.out.items c.append_objects.new.out.items _ _ _ _ _
    c.in_ok-append_head.ensures
    (c.in_ok-append_counts.ensures ∙ ap (λ k. c.append_head.new.out.items ++ (little_endian 4 c.args.next ++ little_endian 4 k)) long)
    c.in_ok-append_objects.ensures
    (ap (flat_map (object_written c.args.state.now)) (c.deref.ensures.value ∙ c.in_ok-numbers.ensures) ∙ all_written c.args.state.now)
