-- Which payloads spell no block, and how many of their items spell.
use Rattle.std.specs.Prelude.{◌≡◌, ◌≢◌, ℕ, ◌^◌, ◌<◌, ◌⊎◌, List, [], ◌++◌, codes, length}
use Rattle.std.specs.List.{flat_map, AllByRecursion}
use Rattle.t3_holder.specs.NumberText.{little_endian}
use Rattle.t3_blocks.specs.declared.block.Block.{Block}
use Rattle.t3_blocks.specs.Spelling.{Spells, name_text, IsName, meta_text, IsMeta, size_width, static_text, IsStatic, symbol_text, IsSymbol, objects_head}

-- no block has this payload under this name
abbrev pub IsUnspelled : List ℕ → List ℕ → Type 0
IsUnspelled name payload = (block : Block) → ¬ Spells block name payload

-- an item's text begins the bytes
pub record BeginsWithItem {Item : Type 0} (item_text : Item → List ℕ) (Fits : Item → Type 0)
    (bytes : List ℕ) : Type 0 where
  pub item : Item
  pub trailing : List ℕ
  pub fits : Fits item
  pub is : bytes ≡ item_text item ++ trailing

-- so many items are due, and so many spell: then a due one doesn't begin the rest, or none is due and bytes are left
pub record BreaksList {Item : Type 0} (item_text : Item → List ℕ) (Fits : Item → Type 0) (due : ℕ)
    (bytes : List ℕ) (spelled : ℕ) : Type 0 where
  pub items : List Item
  pub rest : List ℕ
  pub fit : AllByRecursion Fits items
  pub is : bytes ≡ flat_map item_text items ++ rest
  pub count : length items ≡ spelled
  pub breaks : ((spelled < due) × ¬ BeginsWithItem item_text Fits rest)
      ⊎ ((spelled ≡ due) × (rest ≢ []))

-- the payload is this head, and then a list that breaks, in which so many items are due
pub record BreaksAfterHead {Item : Type 0} (item_text : Item → List ℕ) (Fits : Item → Type 0)
    (head : List ℕ) (due : ℕ) (payload : List ℕ) (spelled : ℕ) : Type 0 where
  pub body : List ℕ
  pub is : payload ≡ head ++ body
  pub breaks : BreaksList item_text Fits due body spelled

-- the payload is shorter than the head, and no item spells
abbrev pub HasShortHead : ℕ → List ℕ → ℕ → Type 0
HasShortHead long payload spelled = (length payload < long) × (spelled ≡ 0)

-- the head is a count in two bytes
abbrev pub BreaksCounted : {Item : Type 0} → (Item → List ℕ) → (Item → Type 0) → List ℕ → ℕ → Type 0
BreaksCounted item_text Fits payload spelled =
    HasShortHead 2 payload spelled ⊎
    ((due : ℕ) × (due < 2 ^ 16) × BreaksAfterHead item_text Fits
    (little_endian 2 due) due payload spelled)

-- the head of objects has six bytes, and says how many bytes their sizes have
abbrev pub BreaksObjects : List ℕ → ℕ → Type 0
BreaksObjects payload spelled =
    HasShortHead 6 payload spelled
    ⊎ ((due : ℕ) × (metaclass : ℕ) × (flags : ℕ) × (due < 2 ^ 16) × (metaclass < 2 ^ 16)
    × (flags < 2 ^ 16) × BreaksAfterHead (static_text (size_width flags))
    (IsStatic (size_width flags)) (objects_head due metaclass flags) due payload spelled)

-- the kinds that have a head alone
abbrev pub HasHeadAlone : List ℕ → Type 0
HasHeadAlone name = (name ≡ codes "ENTP") ⊎ ((name ≡ codes "CPDF") ⊎ (name ≡ codes "CPPG"))

-- under this name no block has this payload, of which so many items spell; a kind that has a head alone has none
abbrev pub IsMalformed : List ℕ → List ℕ → ℕ → Type 0
IsMalformed name payload items =
    (HasHeadAlone name × (items ≡ 0) × IsUnspelled name payload)
    ⊎ (((name ≡ codes "FNSD") × BreaksCounted name_text IsName payload items)
    ⊎ (((name ≡ codes "MCLD") × BreaksCounted meta_text IsMeta payload items)
    ⊎ (((name ≡ codes "OBJS") × BreaksObjects payload items)
    ⊎ ((name ≡ codes "SYMD") × BreaksCounted symbol_text IsSymbol payload items))))
