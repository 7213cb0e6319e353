-- The image of a drill: a story that sets objects, makes savepoints and undoes as its seeds tell, and then says a sum of what is left.
-- The published specification knows no drills: they are this project's own.
use Rattle.std.specs.Prelude.{ℕ, zero, suc, ◌+◌, ◌*◌, ◌/◌, ◌%◌, ◌^◌, ◌==◌, if◌then◌else◌, pos, false, codes, List, [], ◌∷◌, ◌++◌, map, take, drop, length, replicate}
use Rattle.std.specs.Int.{div_ceil}
use Rattle.std.specs.List.{flat_map, range_with_len}
use Rattle.t3_holder.specs.NumberText.{little_endian}
use Rattle.t3_holder.specs.HolderText.{raw_text}
use Rattle.t3_blocks.specs.declared.block.Block.{Block}
use Rattle.t3_blocks.specs.declared.block.Block.TheVariants as block
use Rattle.t3_blocks.specs.declared.items.Meta.{Meta}
use Rattle.t3_blocks.specs.declared.items.Static.{Static}
use Rattle.t3_image_read.specs.declared.image.Head.{Head}
use Rattle.t3_image_read.specs.declared.image.PlacedBlock.{PlacedBlock}
use Rattle.t3_image_read.specs.ImageText.{ImageValue}
use Rattle.t3_methods.specs.declared.header.Header.{Header}
use Rattle.t3_methods.specs.declared.instr.Instr.{Instr}
use Rattle.t3_methods.specs.declared.instr.Instr.TheVariants as of
use Rattle.t3_methods.specs.declared.instr.PushCode.TheVariants as push
use Rattle.t3_methods.specs.declared.instr.MathCode.TheVariants as math
use Rattle.t3_methods.specs.declared.instr.CallCode.TheVariants as call
use Rattle.t3_methods.specs.declared.instr.StackCode.TheVariants as stack
use Rattle.t3_methods.specs.declared.instr.MakeCode.TheVariants as make
use Rattle.t3_methods.specs.declared.instr.LocalCode.TheVariants as local
use Rattle.t3_methods.specs.InstructionTable.{row_of}
use Rattle.t3_methods.specs.MethodHeader.{method_header_text}
use Rattle.t3_methods.specs.Operands.{operand_text}

-- ---- seeds

-- how many actions a drill has
abbrev pub drill_actions : ℕ → ℕ
drill_actions number = 1000 * number

-- the seed that follows a seed
abbrev pub next_seed : ℕ → ℕ
next_seed seed = (seed * 1103515245 + 12345) % 2 ^ 31

-- so many seeds after a seed, each of which follows the one before
unfoldable pub seeds_after : ℕ → ℕ → List ℕ
seeds_after seed zero = []
seeds_after seed (suc count) = next_seed seed ∷ seeds_after (next_seed seed) count

-- ---- instructions

-- how many objects there are
abbrev pub object_count : ℕ
object_count = 64

-- makes a savepoint, by the function 13 of the first set
abbrev pub savepoint : Instr
savepoint = of.Make (make.Builtina 0 13)

-- undoes, by the function 14 of the first set
abbrev pub undo : Instr
undo = of.Make (make.Builtina 0 14)

-- sets the property 1 of an object to a number
abbrev pub set_object : (object number : ℕ) → List Instr
set_object object number = of.Push (push.Pushint8 (pos number)) ∷ of.Local (local.Objsetprop object 1) ∷ []

-- the action that is drawn: of sixteen, one is a savepoint, one an undo, and the others set an object
abbrev pub drawn_action : ℕ → List Instr
drawn_action draw =
    if draw % 16 == 0 then savepoint ∷ []
    else (if draw % 16 == 1 then undo ∷ [] else set_object (1 + draw % object_count) (draw % 100))

-- the action of a seed, whose lowest 16 bits aren't used
abbrev pub action : ℕ → List Instr
action seed = drawn_action (seed / 65536)

-- the actions of a drill: the first seed follows its number
unfoldable pub actions : ℕ → List Instr
actions number = flat_map action (seeds_after number (drill_actions number))

-- adds the property 1 of an object to what is on the stack
abbrev pub add_object : ℕ → List Instr
add_object object = of.Call (call.Objgetprop object 1) ∷ of.Stack stack.Getr0 ∷ of.Math math.Add ∷ []

-- the numbers of the objects
unfoldable pub objects : List ℕ
objects = range_with_len 1 object_count

-- says the sum of the objects, by the function 0 of the second set, and returns
unfoldable pub ending : List Instr
ending =
    of.Push push.Push0 ∷ (flat_map add_object objects ++ of.Make (make.Builtinb 1 0) ∷ of.Call call.Retnil ∷ [])

-- ---- code

-- the bytes of an instruction: its opcode and its operands, as the table has them
unfoldable pub instruction_text : Instr → List ℕ
instruction_text instr = (row_of instr).opcode ∷ flat_map operand_text (row_of instr).operands

-- those of instructions, one after the other
unfoldable pub instructions_text : List Instr → List ℕ
instructions_text instrs = flat_map instruction_text instrs

-- the header of the one method: no parameters, no locals, a depth of 4, no tables
abbrev pub method : Header
method = record { least = 0; varying = false; optional = 0; locals = 0; depth = 4; exceptions = 0; debug = 0 }

-- the bytes of the one method: its header, and its instructions
unfoldable pub code : ℕ → List ℕ
code number = method_header_text method ++ instructions_text (actions number ++ ending)

-- ---- blocks

-- how many bytes a page has, of which the last may have fewer
abbrev pub page_size : ℕ
page_size = 4096

-- a block that may not be skipped
abbrev pub mandatory : Block → PlacedBlock
mandatory block = record { flags = 1; block = block }

-- how many pages some bytes take
abbrev pub page_count : List ℕ → ℕ
page_count bytes = div_ceil (length bytes) page_size

-- the page of this index, in the pool of code and under the mask 0
abbrev pub page : List ℕ → ℕ → PlacedBlock
page bytes index = mandatory (block.Page 1 index 0 (take page_size (drop (index * page_size) bytes)))

-- the pages of some code
unfoldable pub pages : List ℕ → List PlacedBlock
pages bytes = map (page bytes) (range_with_len 0 (page_count bytes))

-- a tads-object: no superclass, one property, no flags; its property 1 is the integer 0
abbrev pub static_object : ℕ → Static
static_object number = record {
  number = number;
  bytes =
      little_endian 2 0 ++ little_endian 2 1 ++ little_endian 2 0 ++ little_endian 2 1
      ++ raw_text (record { tag = 7; bits = 0 });
}

-- the one metaclass, which lists no properties
abbrev pub tads_object : Meta
tads_object = record { name = codes "tads-object/030005"; property_size = 2; props = []; tail = [] }

-- what comes before so many pages: the story begins at the address 0, and uses a pool, a metaclass, two function sets and the objects
unfoldable pub front : ℕ → List PlacedBlock
front count =
    mandatory (block.Entry 0 10 10 (0 ∷ 0 ∷ 0 ∷ 0 ∷ []) [])
    ∷ mandatory (block.PoolDef 1 count page_size)
    ∷ mandatory (block.Metas (tads_object ∷ []))
    ∷ mandatory (block.Functions (codes "tads-gen/030008" ∷ codes "tads-io/030007" ∷ []))
    ∷ mandatory (block.Objects 0 0 (map static_object objects))
    ∷ []

-- the reserved bytes are 0, and the time is spaces
abbrev pub head : Head
head = record { reserved = replicate 32 0; stamp = replicate 24 32 }

-- the image of the drill of a number
unfoldable pub drill_image : ℕ → ImageValue
drill_image number = record {
  head = head;
  blocks = front (page_count (code number)) ++ pages (code number);
  eof_flags = 0;
}
