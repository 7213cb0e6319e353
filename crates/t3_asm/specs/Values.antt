-- What arguments say once labels have addresses, the bytes of lines that pages and objects have, and the rules on values.
use Rattle.std.specs.Prelude.{ℕ, ◌+◌, ◌-◌, Bool, false, ◌||◌, nat_le, nat_lt, if◌then◌else◌, List, [], ◌∷◌, ◌++◌, length, drop, slice_get, Option, Some, None, is_none, unwrap_or}
use Rattle.std.specs.FinMap.{get}
use Rattle.t3_holder.specs.NumberText.{little_endian}
use Rattle.t3_asm_line.specs.declared.argument.Argument.{Argument}
use Rattle.t3_asm_line.specs.declared.argument.Argument.TheVariants.{Number, Address, Offset, Text}
use Rattle.t3_asm_line.specs.declared.field.Field.{Field}
use Rattle.t3_asm_line.specs.declared.field.Field.TheVariants.{Jump, Offset as Place}
use Rattle.t3_asm_line.specs.declared.keyword.Keyword.{Keyword}
use Rattle.t3_asm_line.specs.declared.keyword.Keyword.TheVariants as of
use Rattle.t3_asm_line.specs.Keywords.{fields_of}
use Rattle.t3_asm.specs.declared.item.Item.{Item}
use Rattle.t3_asm.specs.declared.values.Rule.{Rule}
use Rattle.t3_asm.specs.declared.values.Rule.TheVariants.{Missing, Far, Wide}
use Rattle.t3_asm.specs.Arguments.{number_at, text_at}
use Rattle.t3_asm.specs.Places.{Labels}
use Rattle.t3_asm.specs.Sizes.{width_of}

-- the address of a label; 0 where no line puts it, which the rules refuse
abbrev pub address_of : Labels → List ℕ → ℕ
address_of labels label = unwrap_or (get labels label) 0

-- a jump's distance from its own address, as two's complement of two bytes
abbrev pub distance : ℕ → ℕ → ℕ
distance own address = if nat_le own address then address - own else 65536 - (own - address)

-- an address stands as it is, but for a jump's
abbrev pub address_value : Field → ℕ → ℕ → ℕ
address_value Jump own address = distance own address
address_value field own address = address

-- the number that an argument says in a field, which stands at its own address behind a method's
abbrev pub value_of : Labels → Option ℕ → ℕ → Field → Argument → ℕ
value_of labels method own field (Number n) = n
value_of labels method own field (Address label) = address_value field own (address_of labels label)
value_of labels method own field (Offset label) = address_of labels label - unwrap_or method 0
value_of labels method own field (Text text) = 0

abbrev pub value_in : Labels → Option ℕ → ℕ → Field → Option Argument → ℕ
value_in labels method own field None = 0
value_in labels method own field (Some argument) = value_of labels method own field argument

-- the numbers in fields, one after the other from this address on
abbrev pub fields_text : Labels → Option ℕ → ℕ → List Field → List Argument → List ℕ
fields_text labels method own [] arguments = []
fields_text labels method own (field ∷ fields) arguments =
    little_endian (width_of field) (value_in labels method own field (slice_get arguments 0))
    ++ fields_text labels method (own + width_of field) fields (drop 1 arguments)

-- how many bytes a line has before its fields: an instruction its opcode
abbrev pub lead_size : Keyword → ℕ
lead_size (of.Instruction opcode) = 1
lead_size keyword = 0

-- the numbers of a line
abbrev pub numbers_text : Labels → Item → List ℕ
numbers_text labels item =
    fields_text labels item.place.method (item.place.address + lead_size item.keyword) (fields_of item.keyword) item.arguments

-- a method's header: its parameters, its optional ones, its locals, its stack, its table, and 0 twice
abbrev pub header_text : (parameters optional locals stack table : ℕ) → List ℕ
header_text parameters optional locals stack table =
    little_endian 1 parameters
    ++ (little_endian 1 optional
    ++ (little_endian 2 locals ++ (little_endian 2 stack ++ (little_endian 2 table ++ 0 ∷ 0 ∷ []))))

-- the header that a line says; its optional parameters come last there, and are 0 where the line doesn't have them
abbrev pub method_text : Labels → Item → List ℕ
method_text labels item =
    header_text (number_at item.arguments 0) (number_at item.arguments 4) (number_at item.arguments 1) (number_at item.arguments 2)
    (value_in labels item.place.method 0 Place (slice_get item.arguments 3))

abbrev pub content_by : Labels → Item → Keyword → List ℕ
content_by labels item of.Bytes = text_at item.arguments 0
content_by labels item of.Text = little_endian 2 (length (text_at item.arguments 0)) ++ text_at item.arguments 0
content_by labels item of.U1 = numbers_text labels item
content_by labels item of.U2 = numbers_text labels item
content_by labels item of.U4 = numbers_text labels item
content_by labels item of.Hold = numbers_text labels item
content_by labels item of.Method = method_text labels item
content_by labels item of.MethodOptional = method_text labels item
content_by labels item of.Table = numbers_text labels item
content_by labels item of.Handler = numbers_text labels item
content_by labels item of.Case = numbers_text labels item
content_by labels item of.Default = numbers_text labels item
content_by labels item (of.Instruction opcode) = opcode ∷ numbers_text labels item
content_by labels item keyword = []

-- the bytes that a line puts where it stands in a page, in an object or in a kept block
unfoldable pub content_text : Labels → Item → List ℕ
content_text labels item = content_by labels item item.keyword

-- ---- the rules on one value

-- a label that no line puts
abbrev pub is_missing : Labels → Argument → Bool
is_missing labels (Number n) = false
is_missing labels (Address label) = is_none (get labels label)
is_missing labels (Offset label) = is_none (get labels label)
is_missing labels (Text text) = false

-- a distance that isn't from -32,768 to 32,767
abbrev pub is_far : ℕ → ℕ → Bool
is_far own address = nat_lt (own + 32767) address || nat_lt (address + 32768) own

-- a jump to a label that is too far
abbrev pub is_far_jump : Labels → ℕ → Field → Argument → Bool
is_far_jump labels own Jump (Address label) = is_far own (address_of labels label)
is_far_jump labels own field argument = false

-- an address that four bytes don't hold
abbrev pub is_wide_address : Field → ℕ → Bool
is_wide_address Jump address = false
is_wide_address field address = nat_le 4294967296 address

-- a place in a method that two bytes don't hold
abbrev pub is_wide_offset : ℕ → ℕ → Bool
is_wide_offset method address = nat_lt address method || nat_lt (method + 65535) address

abbrev pub is_wide : Labels → Option ℕ → Field → Argument → Bool
is_wide labels method field (Number n) = false
is_wide labels method field (Address label) = is_wide_address field (address_of labels label)
is_wide labels method field (Offset label) = is_wide_offset (unwrap_or method 0) (address_of labels label)
is_wide labels method field (Text text) = false

-- an argument breaks a rule in a field that stands at its own address behind a method's
abbrev pub breaks : Rule → Labels → Option ℕ → ℕ → Field → Argument → Bool
breaks Missing labels method own field argument = is_missing labels argument
breaks Far labels method own field argument = is_far_jump labels own field argument
breaks Wide labels method own field argument = is_wide labels method field argument

-- one of some arguments breaks it
abbrev pub some_breaks : Rule → Labels → Option ℕ → ℕ → List Field → List Argument → Bool
some_breaks rule labels method own [] arguments = false
some_breaks rule labels method own (field ∷ fields) [] = false
some_breaks rule labels method own (field ∷ fields) (argument ∷ arguments) =
    breaks rule labels method own field argument
    || some_breaks rule labels method (own + width_of field) fields arguments

-- a line breaks a rule in one of its fields
abbrev pub line_breaks : Rule → Labels → Item → Bool
line_breaks rule labels item =
    some_breaks rule labels item.place.method (item.place.address + lead_size item.keyword) (fields_of item.keyword) item.arguments
