use Rattle.std.proofs.Common.{◌≡◌, ℕ, ◌<◌, List, [], ◌∷◌, ◌++◌, sym, ap, ◌∙◌, arith, rules}
use Rattle.t3_holder.specs.NumberText.{little_endian}
use Rattle.t3_drill.specs.Drill.{instructions_text, set_object}
use Rattle.t3_drill.proofs.Numbers.{appended_twice, ok_then}
use Rattle.t3_drill.proofs.Texts.{set_text}
use Rattle.t3_drill.proofs.actions.append_set.Goals as goal

pub returns : goal.returns
returns c =
    let old = c.args.code.now.items in
    let mid = c.extend_from_slice.new.self.items in
    let new = c.append_property.new.code.items in
    let first : List ℕ = 3 ∷ c.args.number ∷ [] in
    let then : List ℕ = 232 ∷ (little_endian 4 c.args.object ++ little_endian 2 1) in
    let fits : c.args.number < 256 = omega arith in
    let is_first : mid ≡ old ++ first = search rules in
    ok_then c.append_property.result (new ≡ mid ++ then) (new ≡ old ++ instructions_text (set_object c.args.object c.args.number))
    (λ is_then.
    appended_twice old mid new first then is_first is_then ∙ ap (λ t. old ++ t) (sym (set_text c.args.object c.args.number fits)))
    c.append_property.ensures
