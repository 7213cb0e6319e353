-- The rules on definitions and those on pages, each with its refusal.
use Rattle.std.specs.Prelude.{ℕ}
use Rattle.t3_pools.specs.declared.refusal.PoolRefusal.{PoolRefusal}
use Rattle.t3_pools.specs.declared.refusal.PoolRefusal.TheVariants as refusals
use Rattle.t3_pools.specs.declared.refusal.DefinitionRule.{DefinitionRule}
use Rattle.t3_pools.specs.declared.refusal.DefinitionRule.TheVariants.{NoCode, TwoDefs, TooWide}
use Rattle.t3_pools.specs.declared.refusal.PageRule.{PageRule}
use Rattle.t3_pools.specs.declared.refusal.PageRule.TheVariants.{Index, Twice, Missing, Long}

abbrev pub definition_refusal : DefinitionRule → PoolRefusal
definition_refusal NoCode = refusals.NoCode
definition_refusal TwoDefs = refusals.TwoDefs
definition_refusal TooWide = refusals.TooWide

abbrev pub page_refusal : PageRule → PoolRefusal
page_refusal Index = refusals.PageIndex
page_refusal Twice = refusals.PageTwice
page_refusal Missing = refusals.PageMissing
page_refusal Long = refusals.PageLong

-- how many rules on pages come before one
abbrev pub rank : PageRule → ℕ
rank Index = 0
rank Twice = 1
rank Missing = 2
rank Long = 3
