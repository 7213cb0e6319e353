-- What the functions answer that try some of the rules.
use Rattle.std.specs.Prelude.{◌≡◌, ℕ, ◌≤◌, ◌<◌, ◌⊎◌, List, [], ◌∷◌, Option, None, Some, Result, Ok, Err, map}
use Rattle.t3_image_read.specs.declared.image.PlacedBlock.{PlacedBlock}
use Rattle.t3_store.specs.declared.limits.StoreLimits.{StoreLimits}
use Rattle.t3_load.specs.declared.refusal.LoadRefusal.{LoadRefusal}
use Rattle.t3_load.specs.declared.refusal.LoadRefusal.TheVariants.{NoMemory}
use Rattle.t3_load.specs.declared.entry.Entry.{Entry}
use Rattle.t3_load.specs.Entries.{EntryValue, entries}
use Rattle.t3_load.specs.Rules.{Breaks, KeepsRules, rule_of}
use Rattle.t3_load.specs.declared.basis.Basis.{Basis}
use Rattle.t3_load.specs.Names.{metas_in, names_in}
use Rattle.t3_load.specs.Kinds.{kind_entry_of}
use Rattle.t3_load.specs.Sets.{set_named}
use Rattle.t3_pools.specs.Pool.{pools_in}

-- of the rules from one on and before another this is the first that is broken, whatever the limits
pub record IsFirstBroken (blocks : List PlacedBlock) (from until : ℕ) (why : LoadRefusal) : Type 0 where
  pub from_on : from ≤ rule_of why
  pub before : rule_of why < until
  pub broken : (limits : StoreLimits) → Breaks blocks limits why
  pub kept : (limits : StoreLimits) → KeepsRules blocks limits from (rule_of why)

-- these rules are kept, or this is the first that is broken; memory may always be wanting
abbrev pub Decides : {X : Type 0} → List PlacedBlock → ℕ → ℕ → Result X LoadRefusal → Type 0
Decides blocks from until (Ok _) = (limits : StoreLimits) → KeepsRules blocks limits from until
Decides blocks from until (Err why) = (why ≡ NoMemory) ⊎ IsFirstBroken blocks from until why

-- what was found of an entry, as a list
abbrev pub listed_entry : Option Entry → List EntryValue
listed_entry None = []
listed_entry (Some entry) = record { code = entry.code; method_size = entry.method_size; exception_size = entry.exception_size } ∷ []

-- what an image says of its entry, its pools, its metaclasses and its function sets
pub record IsBasis (blocks : List PlacedBlock) (basis : Basis) : Type 0 where
  pub entry : entries blocks ≡ record { code = basis.entry; method_size = 10; exception_size = 10 } ∷ []
  pub pools : basis.pools ≡ pools_in blocks
  pub kinds : map kind_entry_of (metas_in blocks) ≡ map Some basis.kinds
  pub sets : map set_named (names_in blocks) ≡ map Some basis.sets
