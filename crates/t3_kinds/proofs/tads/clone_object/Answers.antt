use Rattle.std.proofs.Common.{◌≡◌, [], ◌∷◌, Some, Result, sym, ap, subst, ◌∙◌}
use Rattle.std.specs.Prelude.{option_and_then}
use Rattle.t3_holder.specs.declared.holder.Holder.TheVariants.{Obj}
use Rattle.t3_store.specs.Value.{Value, supers_of, new_value}
use Rattle.t3_store.specs.Store.{value_at}
use Rattle.t3_ops.specs.declared.fault.Fault.{Fault}
use Rattle.t3_ops.specs.Values.{kind_fault}
use Rattle.t3_kinds.specs.Deeds.{answers_new}
use Rattle.t3_kinds.specs.Inner.Deeds.{Comes}
use Rattle.t3_kinds.proofs.Clones.{clone-is, clone-can}
use Rattle.t3_kinds.proofs.tads.clone_object.Goals as goal

pub answer_made-requires : goal.answer_made-requires
answer_made-requires c =
    let s = c.args.store.now.store in
    let supers = c.in-Some.supers.now in
    let are : option_and_then supers_of c.at-object.result ≡ Some supers = sym c.in-Some.ensures in
    let made : option_and_then supers_of (Some (new_value c.in_ok-what.what)) ≡ Some supers = ap (option_and_then supers_of) c.in_ok-what.ensures ∙ are in
    clone-can s (new_value c.in_ok-what.what) supers made (sym c.supers_fault.ensures ∙ c.in_default-supers_fault.is)

pub returns : goal.returns
returns c =
    let s = c.args.store.now.store in
    let number = c.args.number in
    let what = new_value c.in_ok-what.what in
    let supers = c.in-Some.supers.now in
    let are : option_and_then supers_of (value_at s number) ≡ Some supers =
    ap (option_and_then supers_of) (sym c.at-object.ensures) ∙ sym c.in-Some.ensures in
    let fine = sym c.supers_fault.ensures ∙ c.in_default-supers_fault.is in
    let is = clone-is s (kind_fault s (Obj number ∷ [])) (value_at s number) supers what are fine (c.in_ok-what.ensures ∙ c.at-object.ensures) in
    subst (λ (w : Result Value Fault). Comes (answers_new w s) s c.answer_made.result) (sym is) c.answer_made.ensures
