use Rattle.std.proofs.Common.{Ok, FitsSigned, w32, sym, ap, ◌∙◌, rules}
use Rattle.std.proofs.lemmas.Int.{to_z-of_z}
use Rattle.t3_frame_instructions.specs.Relations.{related_of, related_numbers_of}
use Rattle.t3_frame_instructions.proofs.Comparing.{related-numbers}
use Rattle.t3_frame_instructions.proofs.relation.related.Goals as goal

pub returns-in-Int-Int : goal.returns-in-Int-Int
returns-in-Int-Int c =
    let pool = c.args.pools.now.constants in
    let store = c.args.store.now.store in
    let fits_left : FitsSigned w32 c.in-Int-Int.left = search rules in
    let fits_right : FitsSigned w32 c.in-Int-Int.right = search rules in
    let told = c.related_numbers.ensures
    ∙ (λ i. related_numbers_of c.args.relation (to_z-of_z w32 c.in-Int-Int.left fits_left i)
    (to_z-of_z w32 c.in-Int-Int.right fits_right i)) in
    (λ i. related_of pool store c.args.relation (c.in-Int-Int.is-0 i) (c.in-Int-Int.is-1 i))
    ∙ related-numbers pool store c.args.relation c.in-Int-Int.left c.in-Int-Int.right
    ∙ ap Ok (sym told)
