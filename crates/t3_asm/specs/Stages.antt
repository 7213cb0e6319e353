-- The order of lines: what stands behind each, and which may stand where.
use Rattle.std.specs.Prelude.{ℕ, Bool, true, false, if◌then◌else◌, List, codes}
use Rattle.std.specs.Str.{bytes_eq}
use Rattle.t3_asm_line.specs.declared.argument.Argument.{Argument}
use Rattle.t3_asm_line.specs.declared.keyword.Keyword.{Keyword}
use Rattle.t3_asm_line.specs.declared.keyword.Keyword.TheVariants as of
use Rattle.t3_asm.specs.declared.stage.Stage.{Stage}
use Rattle.t3_asm.specs.declared.stage.Stage.TheVariants.{Image, Between, EntryHead, PoolHead, PageHead, ObjectsHead, Page, Objects, Object, Metaclasses, Metaclass, FunctionSets, Symbols, Kept, End}
use Rattle.t3_asm.specs.Arguments.{short_at, block_name}

-- what a block of this name takes first
unfoldable pub stage_of_name : List ℕ → Stage
stage_of_name name =
    if bytes_eq (codes "ENTP") name then EntryHead
    else (if bytes_eq (codes "OBJS") name then ObjectsHead
    else (if bytes_eq (codes "CPDF") name then PoolHead
    else (if bytes_eq (codes "CPPG") name then PageHead
    else (if bytes_eq (codes "MCLD") name then Metaclasses
    else (if bytes_eq (codes "FNSD") name then FunctionSets
    else (if bytes_eq (codes "SYMD") name then Symbols else Kept))))))

-- an object stands in the block of the one before it
abbrev pub object_stage : Stage → Stage
object_stage (Objects flags) = Object flags
object_stage stage = stage

-- where the line stands that follows a line which stands here
abbrev pub stage_behind : Stage → Keyword → List Argument → Stage
stage_behind stage of.Image arguments = Between
stage_behind stage of.ImageHead arguments = Between
stage_behind stage of.Block arguments = stage_of_name (block_name arguments)
stage_behind stage of.End arguments = End
stage_behind stage of.Entry arguments = Between
stage_behind stage of.Pool arguments = Between
stage_behind stage of.Page arguments = Page
stage_behind stage of.Objects arguments = Objects (short_at arguments 1)
stage_behind stage of.Object arguments = object_stage stage
stage_behind stage of.Metaclass arguments = Metaclass (short_at arguments 1)
stage_behind stage keyword arguments = stage

abbrev pub is_image : Stage → Bool
is_image Image = true
is_image stage = false

abbrev pub is_entry_head : Stage → Bool
is_entry_head EntryHead = true
is_entry_head stage = false

abbrev pub is_pool_head : Stage → Bool
is_pool_head PoolHead = true
is_pool_head stage = false

abbrev pub is_page_head : Stage → Bool
is_page_head PageHead = true
is_page_head stage = false

abbrev pub is_objects_head : Stage → Bool
is_objects_head ObjectsHead = true
is_objects_head stage = false

abbrev pub is_page : Stage → Bool
is_page Page = true
is_page stage = false

abbrev pub is_metaclass : Stage → Bool
is_metaclass (Metaclass size) = true
is_metaclass stage = false

abbrev pub is_function_sets : Stage → Bool
is_function_sets FunctionSets = true
is_function_sets stage = false

abbrev pub is_symbols : Stage → Bool
is_symbols Symbols = true
is_symbols stage = false

-- the open block may end here, or none is open: the line that its kind begins with has come
abbrev pub takes_block : Stage → Bool
takes_block Image = false
takes_block EntryHead = false
takes_block PoolHead = false
takes_block PageHead = false
takes_block ObjectsHead = false
takes_block End = false
takes_block stage = true

-- what pages and objects have
abbrev pub takes_content : Stage → Bool
takes_content Page = true
takes_content (Object flags) = true
takes_content stage = false

-- bytes stand in kept blocks too
abbrev pub takes_kept : Stage → Bool
takes_kept Kept = true
takes_kept stage = takes_content stage

abbrev pub takes_object : Stage → Bool
takes_object (Objects flags) = true
takes_object (Object flags) = true
takes_object stage = false

abbrev pub takes_metaclass : Stage → Bool
takes_metaclass Metaclasses = true
takes_metaclass (Metaclass size) = true
takes_metaclass stage = false

-- a line of this keyword may stand here
abbrev pub takes : Stage → Keyword → Bool
takes stage of.Image = is_image stage
takes stage of.ImageHead = is_image stage
takes stage of.Block = takes_block stage
takes stage of.End = takes_block stage
takes stage of.Entry = is_entry_head stage
takes stage of.Pool = is_pool_head stage
takes stage of.Page = is_page_head stage
takes stage of.Objects = is_objects_head stage
takes stage of.Object = takes_object stage
takes stage of.Metaclass = takes_metaclass stage
takes stage of.Prop = is_metaclass stage
takes stage of.PropBytes = is_metaclass stage
takes stage of.FunctionSet = is_function_sets stage
takes stage of.Symbol = is_symbols stage
takes stage of.Bytes = takes_kept stage
takes stage of.U1 = takes_content stage
takes stage of.U2 = takes_content stage
takes stage of.U4 = takes_content stage
takes stage of.Text = takes_content stage
takes stage of.Hold = takes_content stage
takes stage keyword = is_page stage
