-- The rules on names and on pools.
use Rattle.std.proofs.Common.{◌≡◌, List, [], Some, map, sym, subst}
use Rattle.t3_image_read.specs.declared.image.PlacedBlock.{PlacedBlock}
use Rattle.t3_store.specs.declared.limits.StoreLimits.{StoreLimits}
use Rattle.t3_load.specs.declared.kinds.KindEntry.{KindEntry}
use Rattle.t3_load.specs.declared.sets.SetKind.{SetKind}
use Rattle.t3_load.specs.Names.{metas_in, names_in, unknown_from}
use Rattle.t3_load.specs.Kinds.{kind_entry_of}
use Rattle.t3_load.specs.Sets.{set_named}
use Rattle.t3_load.specs.Rules.{Breaks, KeepsRules}
use Rattle.t3_load.proofs.RuleSteps.{kept_one}
use Rattle.t3_load.proofs.Tables.{none_unknown}

-- rule 5 is kept
pub kinds_kept : (blocks : List PlacedBlock) (kinds : List KindEntry) → map kind_entry_of (metas_in blocks) ≡ map Some kinds
    → (limits : StoreLimits) → KeepsRules blocks limits 5 6
kinds_kept blocks kinds is limits =
    kept_one blocks limits 5 (λ why of broken.
    let found : unknown_from kind_entry_of 0 (metas_in blocks) ≡ Some of.0 = subst (λ w. Breaks blocks limits w) of.1 broken in
    let none = none_unknown kind_entry_of [] kinds (metas_in blocks) 0 (sym is) in absurd cc)

-- rule 6 is kept
pub sets_kept : (blocks : List PlacedBlock) (sets : List SetKind) → map set_named (names_in blocks) ≡ map Some sets
    → (limits : StoreLimits) → KeepsRules blocks limits 6 7
sets_kept blocks sets is limits =
    kept_one blocks limits 6 (λ why of broken.
    let found : unknown_from set_named 0 (names_in blocks) ≡ Some of.0 = subst (λ w. Breaks blocks limits w) of.1 broken in
    let none = none_unknown set_named [] sets (names_in blocks) 0 (sym is) in absurd cc)
