-- The program of an image, or the first rule that it breaks.
use Rattle.std.specs.Prelude.{◌≡◌, ℕ, ◌+◌, ◌<◌, ◌≤◌, ◌^◌, ◌⊎◌, true, false, List, [], ◌∷◌, Result, Ok, Err, Some, map, max, fold}
use Rattle.t3_blocks.specs.declared.items.Symbol.{Symbol}
use Rattle.t3_image_read.specs.declared.image.PlacedBlock.{PlacedBlock}
use Rattle.t3_pools.specs.Pool.{PoolsValue, pools_in}
use Rattle.t3_store.specs.Value.{Value, Objects, units_in, new_value}
use Rattle.t3_store.specs.Store.{AreLimits, AreBelow}
use Rattle.t3_store.specs.Whole.{IsWhole, AreApart, supers_in, supers_among}
use Rattle.t3_store.specs.declared.new_object.NewObject.{NewObject}
use Rattle.t3_load.specs.Statics.{static_numbers}
use Rattle.t3_load.specs.declared.kinds.MetaKind.{MetaKind}
use Rattle.t3_load.specs.Layout.{BeginsObject}
use Rattle.std.specs.FinMap.{get, len}
use Rattle.t3_store.specs.declared.limits.StoreLimits.{StoreLimits}
use Rattle.t3_load.specs.declared.refusal.LoadRefusal.{LoadRefusal}
use Rattle.t3_load.specs.declared.refusal.LoadRefusal.TheVariants.{NoMemory}
use Rattle.t3_load.specs.declared.kinds.KindEntry.{KindEntry}
use Rattle.t3_load.specs.declared.sets.SetKind.{SetKind}
use Rattle.t3_load.specs.declared.objects.ImageObject.{ImageObject}
use Rattle.t3_load.specs.Entries.{entries}
use Rattle.t3_load.specs.Names.{metas_in, names_in, symbols_in}
use Rattle.t3_load.specs.Kinds.{kind_entry_of}
use Rattle.t3_load.specs.Sets.{set_named}
use Rattle.t3_load.specs.Symbols.{raw_of, firsts}
use Rattle.t3_load.specs.Statics.{statics_in}
use Rattle.t3_load.specs.ImageObjects.{IsHalf}
use Rattle.t3_load.specs.Rules.{Breaks, KeepsRules, AreObjectsIn, rule_of}

-- a program: its entry method's address, its pools, its metaclasses, function sets and symbols, its persistent and its transient objects, the
-- number that comes next, the digest of its image, and how much a store of it has room for
pub record ProgramValue : Type 0 where
  pub entry : ℕ
  pub pools : PoolsValue
  pub kinds : List KindEntry
  pub sets : List SetKind
  pub symbols : List Symbol
  pub first : Objects
  pub passing : Objects
  pub next : ℕ
  pub fingerprint : List ℕ
  pub limits : StoreLimits

-- one past the greatest of these numbers, at least 1
abbrev pub next_above : List ℕ → ℕ
next_above numbers = fold max 0 numbers + 1

-- each object is one with which some bytes begin
pub record IsSound (value : Value) : Type 0 where
  pub metaclass : MetaKind
  pub object : NewObject
  pub bytes : List ℕ
  pub begins : BeginsObject metaclass object bytes
  pub is : new_value object ≡ value

abbrev pub AreSound : Objects → Type 0
AreSound objects = (number : ℕ) (value : Value) → get objects number ≡ Some value → IsSound value

-- a store can be begun with these objects, of which each is one with which bytes may begin
pub record CanStart (limits : StoreLimits) (first passing : Objects) (next : ℕ) : Type 0 where
  pub limits_are : AreLimits limits
  pub next_is : (0 < next) × (next ≤ 2 ^ 31)
  pub first_below : AreBelow next first
  pub passing_below : AreBelow next passing
  pub apart : AreApart first passing
  pub whole : IsWhole (supers_in first)
  pub both : IsWhole (supers_among first passing)
  pub objects : len first + len passing ≤ limits.objects
  pub units : units_in first + units_in passing ≤ limits.units
  pub first_sound : AreSound first
  pub passing_sound : AreSound passing

-- the program of an image
pub record LoadsAs (blocks : List PlacedBlock) (fingerprint : List ℕ) (limits : StoreLimits) (program : ProgramValue) : Type 0 where
  pub entry : entries blocks ≡ record { code = program.entry; method_size = 10; exception_size = 10 } ∷ []
  pub pools : program.pools ≡ pools_in blocks
  pub kinds : map kind_entry_of (metas_in blocks) ≡ map Some program.kinds
  pub sets : map set_named (names_in blocks) ≡ map Some program.sets
  pub symbols : program.symbols ≡ firsts (symbols_in blocks)
  pub named : (name : List ℕ) → raw_of program.symbols name ≡ raw_of (symbols_in blocks) name
  pub objects : List ImageObject
  pub are : AreObjectsIn blocks objects
  pub first : IsHalf false objects program.first
  pub passing : IsHalf true objects program.passing
  pub next : program.next ≡ next_above (static_numbers (statics_in blocks))
  pub fingerprint_is : program.fingerprint ≡ fingerprint
  pub limits_are : program.limits ≡ limits

-- the program of an image that keeps all rules, or the first rule that it breaks; memory may always be wanting
abbrev pub Loads : List PlacedBlock → List ℕ → StoreLimits → Result ProgramValue LoadRefusal → Type 0
Loads blocks fingerprint limits (Ok program) = KeepsRules blocks limits 1 14 × LoadsAs blocks fingerprint limits program
Loads blocks fingerprint limits (Err why) = (why ≡ NoMemory) ⊎ (Breaks blocks limits why × KeepsRules blocks limits 1 (rule_of why))
