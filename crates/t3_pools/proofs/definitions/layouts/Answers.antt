use Rattle.std.proofs.Common.{◌∷◌, [], rules}
use Rattle.t3_pools.specs.declared.refusal.PoolRefusal.TheVariants.{NoCode, TwoDefs, TooWide}
use Rattle.t3_pools.specs.Building.{Breaks, Keeps, page_rules}
use Rattle.t3_pools.proofs.Firsts.{first_after}
use Rattle.t3_pools.proofs.definitions.layouts.Goals as goal

pub returns-in-Absent-default : goal.returns-in-Absent-default
returns-in-Absent-default c =
    let blocks = c.args.blocks.now in
    let broken : Breaks NoCode blocks = search rules in
    first_after (λ rule. Breaks rule blocks) [] (TwoDefs ∷ TooWide ∷ page_rules) NoCode tt broken

pub returns-in_default : goal.returns-in_default
returns-in_default c =
    let blocks = c.args.blocks.now in
    let parts : Breaks TwoDefs blocks × Keeps (NoCode ∷ []) blocks = search rules in
    first_after (λ rule. Breaks rule blocks) (NoCode ∷ []) (TooWide ∷ page_rules) TwoDefs parts.1 parts.0

pub returns-in_default-2 : goal.returns-in_default-2
returns-in_default-2 c =
    let blocks = c.args.blocks.now in
    let parts : Breaks TwoDefs blocks × Keeps (NoCode ∷ []) blocks = search rules in
    first_after (λ rule. Breaks rule blocks) (NoCode ∷ []) (TooWide ∷ page_rules) TwoDefs parts.1 parts.0

pub returns-then-is_wide : goal.returns-then-is_wide
returns-then-is_wide c =
    let blocks = c.args.blocks.now in
    let parts : Breaks TooWide blocks × Keeps (NoCode ∷ TwoDefs ∷ []) blocks = search rules in
    first_after (λ rule. Breaks rule blocks) (NoCode ∷ TwoDefs ∷ []) page_rules TooWide parts.1 parts.0
