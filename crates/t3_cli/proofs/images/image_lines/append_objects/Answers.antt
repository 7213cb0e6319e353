use Rattle.std.proofs.Common.{◌≡◌, ℕ, ◌++◌, IfOk, subst}
use Rattle.std.specs.Prelude.{codes, string_bytes}
use Rattle.t3_cli.specs.BlockLines.{field}
use Rattle.t3_cli.proofs.Lining.{appends_two}
use Rattle.t3_cli.proofs.images.image_lines.append_objects.Goals as goal

pub returns : goal.returns
returns c =
    let mid = string_bytes c.append_field.new.out in
    let new = string_bytes c.append_field-2.new.out in
    let second = subst (λ (n : ℕ). IfOk c.append_field-2.result (λ _. new ≡ mid ++ field (codes "metaclass") n)) c.from.ensures c.append_field-2.ensures in
    appends_two (string_bytes c.args.out.now) mid new (field (codes "objects") c.args.count) (field (codes "metaclass") c.args.metaclass) c.append_field-2.result c.in_ok-append_field.ensures second
