use Rattle.std.proofs.Common.{◌≡◌, ℕ, List, [], ◌∷◌, ◌++◌, sym, ap, ◌∙◌, rules}
use Rattle.t3_holder.specs.NumberText.{little_endian}
use Rattle.t3_drill.proofs.Numbers.{appended_twice}
use Rattle.t3_drill.proofs.Texts.{add_text}
use Rattle.t3_drill.proofs.code.append_addition.Goals as goal

pub returns : goal.returns
returns c =
    let old = c.args.code.now.items in
    let mid = c.append_property.new.code.items in
    let new = c.extend_from_slice.new.self.items in
    let first : List ℕ = 102 ∷ (little_endian 4 c.args.object ++ little_endian 2 1) in
    let then : List ℕ = 139 ∷ 34 ∷ [] in
    let is_then : new ≡ mid ++ then = search rules in
    appended_twice old mid new first then c.in_ok-append_property.ensures is_then ∙ ap (λ t. old ++ t) (sym (add_text c.args.object))
