-- What the functions that take the items of a list apart answer.
use Rattle.std.specs.Prelude.{◌≡◌, ℕ, ◌^◌, ◌<◌, ◌≤◌, List, ◌++◌, length, Option, MatchOption}
use Rattle.std.specs.Borrow.{Bor}
use Rattle.std.specs.List.{flat_map, AllByRecursion}
use Rattle.t3_holder.specs.NumberText.{little_endian}
use Rattle.t3_blocks.specs.declared.refusal.PayloadRefusal.{PayloadRefusal}
use Rattle.t3_blocks.specs.declared.refusal.PayloadRefusal.TheVariants.{Malformed, NoMemory}
use Rattle.t3_blocks.specs.Malformed.{BeginsWithItem}

-- an item and what follows it are the bytes, or no item begins them
abbrev pub TakesItem : {Item : Type 0} → (Item → List ℕ) → (Item → Type 0) → List ℕ
    → Option (Item × Bor (List ℕ)) → Type 0
TakesItem item_text Fits bytes answer =
    MatchOption answer (¬ BeginsWithItem item_text Fits bytes)
    (λ parts. Fits parts.0 × (bytes ≡ item_text parts.0 ++ parts.1.now))

-- the same of an item that is itself bytes, and isn't copied
abbrev pub SplitsItem : (List ℕ → List ℕ) → (List ℕ → Type 0) → List ℕ
    → Option (Bor (List ℕ) × Bor (List ℕ)) → Type 0
SplitsItem item_text Fits bytes answer =
    MatchOption answer (¬ BeginsWithItem item_text Fits bytes)
    (λ parts. Fits parts.0.now × (bytes ≡ item_text parts.0.now ++ parts.1.now))

-- these items were taken of the bytes, and the rest is left
pub record HasTaken {Item : Type 0} (item_text : Item → List ℕ) (Fits : Item → Type 0) (due : ℕ)
    (bytes : List ℕ) (items : List Item) (rest : List ℕ) : Type 0 where
  pub is : bytes ≡ flat_map item_text items ++ rest
  pub fit : AllByRecursion Fits items
  pub within : length items ≤ due

-- so many items begin the bytes, and a further one is due and doesn't follow
pub record OneFails {Item : Type 0} (item_text : Item → List ℕ) (Fits : Item → Type 0) (due : ℕ)
    (bytes : List ℕ) (count : ℕ) : Type 0 where
  pub items : List Item
  pub rest : List ℕ
  pub taken : HasTaken item_text Fits due bytes items rest
  pub long : length items ≡ count
  pub less : count < due
  pub none : ¬ BeginsWithItem item_text Fits rest

-- what a refusal says of the items, if it isn't want of memory
abbrev pub Breaks : (ℕ → Type 0) → PayloadRefusal → Type 0
Breaks AtItem (Malformed items) = AtItem items
Breaks AtItem NoMemory = Unit {0}

abbrev pub FailsAt : {Item : Type 0} → (Item → List ℕ) → (Item → Type 0) → ℕ → List ℕ
    → PayloadRefusal → Type 0
FailsAt item_text Fits due bytes refusal = Breaks (OneFails item_text Fits due bytes) refusal

-- the bytes are the texts of so many items
pub record IsList {Item : Type 0} (item_text : Item → List ℕ) (Fits : Item → Type 0) (due : ℕ)
    (bytes : List ℕ) (items : List Item) : Type 0 where
  pub fit : AllByRecursion Fits items
  pub long : length items ≡ due
  pub is : flat_map item_text items ≡ bytes

-- the payload is a count, and so many items
pub record IsCounted {Item : Type 0} (item_text : Item → List ℕ) (Fits : Item → Type 0)
    (payload : List ℕ) (items : List Item) : Type 0 where
  pub few : length items < 2 ^ 16
  pub fit : AllByRecursion Fits items
  pub is : little_endian 2 (length items) ++ flat_map item_text items ≡ payload
