-- How many bytes lines put, and sums of sizes as far as they are counted.
use Rattle.std.proofs.Common.{◌≡◌, ℕ, ◌+◌, List, [], ◌∷◌, ◌++◌, length, drop, slice_get, Option, refl, ap, ◌∙◌, arith}
use Rattle.std.proofs.lemmas.List.{length-append}
use Rattle.std.proofs.lemmas.List.Sums.{sum_by-cons}
use Rattle.t3_holder.specs.NumberText.{little_endian}
use Rattle.t3_holder.proofs.Numbers.{length-little_endian}
use Rattle.t3_asm_line.specs.declared.argument.Argument.{Argument}
use Rattle.t3_asm_line.specs.declared.field.Field.{Field}
use Rattle.t3_asm_line.specs.declared.field.Field.TheVariants.{Offset as Place}
use Rattle.t3_asm_line.specs.declared.keyword.Keyword.{Keyword}
use Rattle.t3_asm_line.specs.declared.keyword.Keyword.TheVariants as of
use Rattle.t3_asm_line.specs.Keywords.{fields_of}
use Rattle.t3_asm.specs.declared.item.Item.{Item}
use Rattle.t3_asm.specs.Arguments.{number_at, text_at}
use Rattle.t3_asm.specs.Inner.Measures.{near}
use Rattle.t3_asm.specs.Places.{Labels}
use Rattle.t3_asm.specs.Sizes.{width_of, fields_size, content_size}
use Rattle.t3_asm.specs.Values.{value_in, fields_text, numbers_text, method_text, content_by, content_text, lead_size}

pub near-add : (a b : ℕ) → near (near a + near b) ≡ near (a + b)
near-add a b = omega arith

length-fields_text : (labels : Labels) (method : Option ℕ) (own : ℕ) (fields : List Field) (arguments : List Argument)
    → length (fields_text labels method own fields arguments) ≡ fields_size fields
length-fields_text labels method own [] arguments = refl
length-fields_text labels method own (field ∷ fields) arguments =
    omega (
      arith,
      length-append (little_endian (width_of field) (value_in labels method own field (slice_get arguments 0)))
          (fields_text labels method (own + width_of field) fields (drop 1 arguments)),
      length-little_endian (width_of field) (value_in labels method own field (slice_get arguments 0)),
      length-fields_text labels method (own + width_of field) fields (drop 1 arguments),
      sum_by-cons width_of field fields,
    )

-- the numbers of a line of this keyword
length-numbers : (labels : Labels) (item : Item) (keyword : Keyword)
    → length (fields_text labels item.place.method (item.place.address + lead_size keyword) (fields_of keyword) item.arguments)
    ≡ fields_size (fields_of keyword)
length-numbers labels item keyword =
    length-fields_text labels item.place.method (item.place.address + lead_size keyword) (fields_of keyword) item.arguments

length-method : (labels : Labels) (item : Item) → length (method_text labels item) ≡ 10
length-method labels item =
    let p = number_at item.arguments 0 in
    let o = number_at item.arguments 4 in
    let l = number_at item.arguments 1 in
    let d = number_at item.arguments 2 in
    let x = value_in labels item.place.method 0 Place (slice_get item.arguments 3) in
    omega (
      arith,
      length-append (little_endian 1 p) (little_endian 1 o ++ (little_endian 2 l ++ (little_endian 2 d ++ (little_endian 2 x ++ 0 ∷ 0 ∷ [])))),
      length-append (little_endian 1 o) (little_endian 2 l ++ (little_endian 2 d ++ (little_endian 2 x ++ 0 ∷ 0 ∷ []))),
      length-append (little_endian 2 l) (little_endian 2 d ++ (little_endian 2 x ++ 0 ∷ 0 ∷ [])),
      length-append (little_endian 2 d) (little_endian 2 x ++ 0 ∷ 0 ∷ []),
      length-append (little_endian 2 x) (0 ∷ 0 ∷ []),
      length-little_endian 1 p,
      length-little_endian 1 o,
      length-little_endian 2 l,
      length-little_endian 2 d,
      length-little_endian 2 x,
    )

numbers_size : (labels : Labels) (item : Item) (keyword : Keyword) → item.keyword ≡ keyword
    → length (numbers_text labels item) ≡ fields_size (fields_of keyword)
numbers_size labels item keyword is = length-numbers labels item item.keyword ∙ ap (λ k. fields_size (fields_of k)) is

length-content_by : (labels : Labels) (item : Item) (keyword : Keyword) → item.keyword ≡ keyword
    → length (content_by labels item keyword) ≡ content_size keyword item.arguments
length-content_by labels item of.Bytes is = refl
length-content_by labels item of.Text is =
    let text = text_at item.arguments 0 in
    omega (arith, length-append (little_endian 2 (length text)) text, length-little_endian 2 (length text))
length-content_by labels item of.U1 is = numbers_size labels item of.U1 is
length-content_by labels item of.U2 is = numbers_size labels item of.U2 is
length-content_by labels item of.U4 is = numbers_size labels item of.U4 is
length-content_by labels item of.Hold is = numbers_size labels item of.Hold is
length-content_by labels item of.Method is = length-method labels item
length-content_by labels item of.MethodOptional is = length-method labels item
length-content_by labels item of.Table is = numbers_size labels item of.Table is
length-content_by labels item of.Handler is = numbers_size labels item of.Handler is
length-content_by labels item of.Case is = numbers_size labels item of.Case is
length-content_by labels item of.Default is = numbers_size labels item of.Default is
length-content_by labels item (of.Instruction opcode) is = omega (arith, numbers_size labels item (of.Instruction opcode) is)
length-content_by labels item keyword is = refl

-- the bytes that a line puts are as many as its size says
pub length-content_text : (labels : Labels) (item : Item) → length (content_text labels item) ≡ content_size item.keyword item.arguments
unfolding content_text
length-content_text labels item = length-content_by labels item item.keyword refl
