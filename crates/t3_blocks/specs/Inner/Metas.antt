-- The parts of a metaclass's entry.
use Rattle.std.specs.Prelude.{◌≡◌, ◌≢◌, ℕ, ◌^◌, ◌<◌, List, ◌++◌, Option, Some, None}
use Rattle.t3_holder.specs.NumberText.{little_endian}
use Rattle.t3_blocks.specs.declared.items.Meta.{Meta}
use Rattle.t3_blocks.specs.Spelling.{name_text, IsName, meta_body, IsMetaBody}

-- what comes before the properties of a metaclass: its name, how many properties there are, and how many bytes each has
pub record MetaHead : Type 0 where
  pub name : List ℕ
  pub count : ℕ
  pub size : ℕ

abbrev pub meta_head_text : MetaHead → List ℕ
meta_head_text head =
    name_text head.name ++ (little_endian 2 head.count ++ little_endian 2 head.size)

pub record IsMetaHead (head : MetaHead) : Type 0 where
  pub name : IsName head.name
  pub count : head.count < 2 ^ 16
  pub size : head.size < 2 ^ 16

-- the metaclass that the body of an entry is, or none where it is none
abbrev pub IsMetaOrNone : List ℕ → Option Meta → Type 0
IsMetaOrNone body None = (meta : Meta) → IsMetaBody meta → body ≢ meta_body meta
IsMetaOrNone body (Some meta) = IsMetaBody meta × (body ≡ meta_body meta)
