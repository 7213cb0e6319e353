use Rattle.std.proofs.Common.{◌≡◌, ℕ, ◌+◌, ◌-◌, List, [], ◌∷◌, ◌++◌, sym, ap, ◌∙◌, append_assoc, arith, rules}
use Rattle.std.specs.List.{flat_map}
use Rattle.t3_drill.specs.Drill.{add_object, instructions_text, objects}
use Rattle.t3_drill.proofs.Numbers.{appended_twice, row_step, row_done}
use Rattle.t3_drill.proofs.Texts.{instructions_text-append, additions_text, no_text, ending_text}
use Rattle.t3_drill.proofs.code.append_ending.Goals as goal

pub loop-object-init : goal.loop-object-init
unfolding objects
loop-object-init c =
    let there : c.push.new.self.items ≡ c.args.code.now.items ++ 1 ∷ [] = search rules in
    ap (λ t. t ++ additions_text objects) there

pub loop-object-preserved : goal.loop-object-preserved
loop-object-preserved c =
    let object = c.loop-object.object in
    row_step additions_text (instructions_text (add_object object)) c.loop-object.code.items c.append_addition.new.code.items _ object
    (65 - object) (65 - (object + 1)) (λ rest. instructions_text-append (add_object object) (flat_map add_object rest)) (omega arith)
    c.in_ok-append_addition.ensures c.loop-object.invariant

pub returns : goal.returns
returns c =
    let object = c.loop-object.object in
    let old = c.args.code.now.items in
    let mid = c.loop-object.code.items in
    let new = c.extend_from_slice.new.self.items in
    let first : List ℕ = 1 ∷ [] in
    let last : List ℕ = 178 ∷ 1 ∷ 0 ∷ 81 ∷ [] in
    let all = additions_text objects in
    let is_all : mid ≡ (old ++ first) ++ all =
    row_done additions_text mid ((old ++ first) ++ all) object (65 - object) no_text (omega arith) c.loop-object.invariant in
    let is_last : new ≡ mid ++ last = search rules in
    appended_twice (old ++ first) mid new all last is_all is_last ∙ append_assoc old first (all ++ last)
    ∙ ap (λ t. old ++ t) (sym ending_text)
