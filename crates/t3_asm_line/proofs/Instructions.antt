-- What is found of names and opcodes among the instructions.
use Rattle.std.proofs.Common.{◌≡◌, ℕ, zero, suc, arith, Bool, true, false, cond, List, [], ◌∷◌, map, Option, Some, None, refl, ap, sym, subst, ◌∙◌}
use Rattle.std.specs.Prelude.{◌==◌, nat_lt, find, IfSome}
use Rattle.std.specs.List.{list_all}
use Rattle.std.specs.Str.{IsUtf8, IsAscii}
use Rattle.t3_methods.specs.Operands.{Operand, kind_of}
use Rattle.std.specs.Option.{option_map}
use Rattle.std.specs.Str.{bytes_eq}
use Rattle.t3_methods.specs.declared.instr.Instr.{Instr}
use Rattle.t3_methods.specs.declared.kind.Kind.{Kind}
use Rattle.t3_methods.specs.Answers.{HasShape, FindsOpcode, IsOpcode}
use Rattle.std.proofs.lemmas.Bool.{eqb-true, and_parts, ltb-true}
use Rattle.std.proofs.lemmas.Str.{IsUtf8-from_ascii}
use Rattle.std.proofs.lemmas.Slice.Eq.{bytes_eq-Decides}
use Rattle.t3_asm_line.specs.Keywords.{row, row_at}
use Rattle.t3_asm_line.proofs.Forms.{found}
use Rattle.t3_methods.specs.InstructionTable.{row_of as instr_row}
use Rattle.t3_methods.specs.EveryInstruction.{every, makers}
use Rattle.t3_methods.proofs.Table.{by_name, by_opcode}
use Rattle.t3_asm_line.specs.Instructions.{instr_named, instr_at, field_of, opcode_named, operand_fields}

abbrev opcode_of : Instr → ℕ
opcode_of instr = (instr_row instr).opcode

-- the opcodes of what is found by an instruction's name, and by its opcode, are its own
record IsFound (instr : Instr) : Type 0 where
  named : option_map opcode_of (instr_named (instr_row instr).name) ≡ Some (opcode_of instr)
  at : option_map opcode_of (instr_at (opcode_of instr)) ≡ Some (opcode_of instr)

is_found : (instr : Instr) → IsFound instr
unfolding instr_named instr_at
is_found instr = record { named = by_name instr; at = by_opcode instr }

-- ---- what is found passes its test

on_some : {X : Type 0} (o : Option X) (P : X → Type 0) (x : X) → o ≡ Some x → IfSome o P → P x
on_some (Some y) P x is h = let same : y ≡ x = cc in subst P same h
on_some None P x is h = absurd cc

-- an instruction that is found by a name has it
named_so : (word : List ℕ) (instr : Instr) → instr_named word ≡ Some instr → (instr_row instr).name ≡ word
unfolding instr_named
named_so word instr is =
    (bytes_eq-Decides (instr_row instr).name word).0 (on_some (instr_named word) _ instr is (found (λ i. bytes_eq
    (instr_row i).name word) every))

opcode_so : (opcode : ℕ) (instr : Instr) → instr_at opcode ≡ Some instr → opcode_of instr ≡ opcode
unfolding instr_at
opcode_so opcode instr is =
    eqb-true (opcode_of instr) opcode (on_some (instr_at opcode) _ instr is (found (λ i. (instr_row i).opcode == opcode) every))

-- ---- names

no_instr : (o : Option Instr) → ((instr : Instr) → o ≡ Some instr → ⊥) → None ≡ option_map opcode_of o
no_instr None never = refl
no_instr (Some instr) never = absurd (never instr refl)

-- what is answered of a name is the opcode of what is found by it
pub opcode_is : (word : List ℕ) (answer : Option ℕ) → FindsOpcode word answer → answer ≡ opcode_named word
opcode_is word None none = no_instr (instr_named word) (λ instr is. none instr (named_so word instr is))
opcode_is word (Some opcode) known =
    let instr = known.0.0 in
    let name : (instr_row instr).name ≡ word = (known.1 instr).1 known.0.1 in
    sym (rw name at (is_found instr).named ∙ ap Some known.0.1)

-- ---- names are texts

abbrev is_ascii_name : Instr → Bool
is_ascii_name instr = list_all (λ byte. nat_lt byte 128) (instr_row instr).name

first_passes : {X : Type 0} (p q : X → Bool) (x : X) (xs : List X) (b : Bool) → q x ≡ true → IfSome (find p xs) (λ y. q y ≡ true)
    → IfSome (cond b (Some x) (find p xs)) (λ y. q y ≡ true)
first_passes p q x xs true here later = here
first_passes p q x xs false here later = later

all_pass : {X : Type 0} (p q : X → Bool) (xs : List X) → list_all q xs ≡ true → IfSome (find p xs) (λ x. q x ≡ true)
all_pass p q [] h = tt
all_pass p q (x ∷ xs) h =
    let parts = and_parts (q x) (list_all q xs) h in
    first_passes p q x xs (p x) parts.0 (all_pass p q xs parts.1)

ascii_from : (bytes : List ℕ) → list_all (λ byte. nat_lt byte 128) bytes ≡ true → IsAscii bytes
ascii_from [] h i = omega arith
ascii_from (byte ∷ bytes) h zero = ltb-true byte 128 (and_parts (nat_lt byte 128) (list_all (λ b. nat_lt b 128) bytes) h).0
ascii_from (byte ∷ bytes) h (suc i) = ascii_from bytes (and_parts (nat_lt byte 128) (list_all (λ b. nat_lt b 128) bytes) h).1 i

ascii_named : (word : List ℕ) (instr : Instr) → instr_named word ≡ Some instr → is_ascii_name instr ≡ true
unfolding instr_named every makers
ascii_named word instr is = on_some (instr_named word) (λ i. is_ascii_name i ≡ true) instr is (all_pass (λ i. bytes_eq
    (instr_row i).name word) is_ascii_name every refl)

-- a word that is no text is no name
pub no_text : (word : List ℕ) → ¬ IsUtf8 word → None ≡ opcode_named word
no_text word never =
    no_instr (instr_named word) (λ instr is.
    never (subst IsUtf8 (named_so word instr is) (IsUtf8-from_ascii (instr_row instr).name (ascii_from (instr_row instr).name
    (ascii_named word instr is)))))

-- ---- rows

map_map : (operands : List Operand) → map (λ o. field_of (kind_of o)) operands ≡ map field_of (map kind_of operands)
map_map [] = refl
map_map (o ∷ operands) = ap (λ f. field_of (kind_of o) ∷ f) (map_map operands)

row_by : (o : Option Instr) (opcode : ℕ) (name : List ℕ) (kinds : List Kind) → option_map opcode_of o ≡ Some opcode
    → HasShape opcode name kinds
    → row_at o ≡ row name (map field_of kinds)
row_by None opcode name kinds is shape = absurd cc
row_by (Some instr) opcode name kinds is shape =
    let same : opcode_of instr ≡ opcode = cc in
    let each = shape.each instr same in
    let fields : operand_fields instr ≡ map field_of kinds = map_map (instr_row instr).operands ∙ ap (map field_of) each.1 in
    ap (λ n. row n (operand_fields instr)) each.0 ∙ ap (row name) fields

-- the row of an opcode is that of its shape
pub row_found : (opcode : ℕ) (name : List ℕ) (kinds : List Kind) → HasShape opcode name kinds
    → row_at (instr_at opcode) ≡ row name (map field_of kinds)
row_found opcode name kinds shape =
    let instr = shape.known.0 in
    let at : option_map opcode_of (instr_at opcode) ≡ Some opcode = rw shape.known.1 at (is_found instr).at in
    row_by (instr_at opcode) opcode name kinds at shape

row_none : (o : Option Instr) → ((instr : Instr) → o ≡ Some instr → ⊥) → row_at o ≡ row [] []
row_none None never = refl
row_none (Some instr) never = absurd (never instr refl)

pub row_missing : (opcode : ℕ) → ¬ IsOpcode opcode → row_at (instr_at opcode) ≡ row [] []
row_missing opcode none = row_none (instr_at opcode) (λ instr is. none (instr, opcode_so opcode instr is))
