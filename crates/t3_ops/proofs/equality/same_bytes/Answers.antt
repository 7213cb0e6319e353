use Rattle.std.proofs.Common.{◌∙◌, sym, ap}
use Rattle.std.specs.Ordering.{is_eq}
use Rattle.std.specs.Cmp.Lexicographic.{texts_ties}
use Rattle.t3_ops.specs.References.{bytes_of}
use Rattle.t3_ops.proofs.Fronts.{apart-eq}
use Rattle.t3_ops.proofs.equality.same_bytes.Goals as goal

pub returns-in-Equal : goal.returns-in-Equal
returns-in-Equal c =
    ap is_eq c.in-Equal.ensures
    ∙ sym (texts_ties (bytes_of c.args.pools.now.constants c.args.left) (bytes_of c.args.pools.now.constants c.args.right))

pub returns-in_default : goal.returns-in_default
returns-in_default c =
    apart-eq c.order_of_bytes.result c.in_default.not-Equal
    ∙ ap is_eq c.order_of_bytes.ensures
    ∙ sym (texts_ties (bytes_of c.args.pools.now.constants c.args.left) (bytes_of c.args.pools.now.constants c.args.right))
