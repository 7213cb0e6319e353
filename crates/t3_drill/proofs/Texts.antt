-- The bytes of the instructions of a drill.
use Rattle.std.proofs.Common.{◌≡◌, ◌≢◌, ℕ, zero, suc, ◌+◌, ◌%◌, ◌<◌, List, [], ◌∷◌, ◌++◌, refl, sym, ap, ◌∙◌, arith}
use Rattle.std.proofs.lemmas.Bool.{ne_eqb}
use Rattle.std.specs.List.{flat_map}
use Rattle.std.proofs.lemmas.List.{append-nil}
use Rattle.std.proofs.lemmas.List.Concat.{flat_map-append}
use Rattle.t3_holder.specs.HolderText.{raw_text}
use Rattle.t3_holder.specs.NumberText.{little_endian}
use Rattle.t3_drill.proofs.Numbers.{append_next}
use Rattle.t3_drill.specs.Drill.{savepoint, undo, set_object, drawn_action, action, next_seed, seeds_after, actions, add_object, objects, ending, instruction_text, instructions_text, code, static_object}
use Rattle.t3_methods.specs.declared.instr.Instr.{Instr}
use Rattle.t3_methods.specs.declared.instr.Instr.TheVariants as of
use Rattle.t3_methods.specs.declared.instr.CallCode.TheVariants as call
use Rattle.t3_methods.specs.declared.instr.MakeCode.TheVariants as make
use Rattle.t3_methods.specs.MethodHeader.{method_header_text}

-- instructions after instructions
pub instructions_text-append : (first then : List Instr)
    → instructions_text (first ++ then) ≡ instructions_text first ++ instructions_text then
unfolding instructions_text
instructions_text-append first then = flat_map-append instruction_text first then

-- no instructions have no bytes
pub no_text : instructions_text [] ≡ []
unfolding instructions_text
no_text = refl

-- ---- actions

savepoint_text : instructions_text (savepoint ∷ []) ≡ 177 ∷ 0 ∷ 13 ∷ []
unfolding instructions_text instruction_text little_endian
savepoint_text = refl

undo_text : instructions_text (undo ∷ []) ≡ 177 ∷ 0 ∷ 14 ∷ []
unfolding instructions_text instruction_text little_endian
undo_text = refl

-- what sets an object
pub set_text : (object number : ℕ) → number < 256
    → instructions_text (set_object object number) ≡ 3 ∷ number ∷ 232 ∷ (little_endian 4 object ++ little_endian 2 1)
unfolding instructions_text instruction_text little_endian
set_text object number fits =
    let low : number % 256 ≡ number = omega arith in
    ap (λ n. 3 ∷ n ∷ 232 ∷ (little_endian 4 object ++ little_endian 2 1)) low

-- the bytes of each action that may be drawn
pub drawn_savepoint : (draw : ℕ) → draw % 16 ≡ 0 → instructions_text (drawn_action draw) ≡ 177 ∷ 0 ∷ 13 ∷ []
drawn_savepoint draw is = rw is savepoint_text

pub drawn_undo : (draw : ℕ) → draw % 16 ≡ 1 → instructions_text (drawn_action draw) ≡ 177 ∷ 0 ∷ 14 ∷ []
drawn_undo draw is = rw is undo_text

pub drawn_set : (draw : ℕ) → draw % 16 ≢ 0 → draw % 16 ≢ 1
    → instructions_text (drawn_action draw) ≡ instructions_text (set_object (1 + draw % 64) (draw % 100))
drawn_set draw not_0 not_1 = rw (ne_eqb (draw % 16) 0 not_0, ne_eqb (draw % 16) 1 not_1) refl

-- the action of the next seed, and those that follow it
pub actions_text-next : (seed count left : ℕ) → count ≡ left + 1
    → instructions_text (flat_map action (seeds_after seed count))
    ≡ instructions_text (action (next_seed seed)) ++ instructions_text (flat_map action (seeds_after (next_seed seed) left))
unfolding seeds_after
actions_text-next seed zero left e = absurd (omega arith)
actions_text-next seed (suc count) left e =
    let same : count ≡ left = omega arith in
    instructions_text-append (action (next_seed seed)) (flat_map action (seeds_after (next_seed seed) count))
    ∙ ap (λ n. instructions_text (action (next_seed seed)) ++ instructions_text (flat_map action (seeds_after (next_seed seed) n))) same

-- an action is appended, and then the others are due
pub actions_step : (was now whole : List ℕ) (seed next count left : ℕ) → next ≡ next_seed seed → count ≡ left + 1
    → now ≡ was ++ instructions_text (action next)
    → was ++ instructions_text (flat_map action (seeds_after seed count)) ≡ whole
    → now ++ instructions_text (flat_map action (seeds_after next left)) ≡ whole
actions_step was now whole seed next count left follows counted is before =
    let rest = λ (s : ℕ). instructions_text (flat_map action (seeds_after s left)) in
    (λ i. is i ++ rest next) ∙ (λ i. (was ++ instructions_text (action (follows i))) ++ rest (follows i))
    ∙ append_next was (instructions_text (action (next_seed seed))) (rest (next_seed seed)) whole
    (ap (λ t. was ++ t) (sym (actions_text-next seed count left counted)) ∙ before)

-- no action is due any more
pub actions_done : (now whole : List ℕ) (seed left : ℕ) → left ≡ 0
    → now ++ instructions_text (flat_map action (seeds_after seed left)) ≡ whole → now ≡ whole
unfolding seeds_after instructions_text
actions_done now whole seed left over before =
    sym (append-nil now) ∙ ap (λ n. now ++ instructions_text (flat_map action (seeds_after seed n))) (sym over) ∙ before

-- ---- the ending

-- what adds an object
pub add_text : (object : ℕ) → instructions_text (add_object object) ≡ (102 ∷ (little_endian 4 object ++ little_endian 2 1)) ++ 139 ∷ 34 ∷ []
unfolding instructions_text instruction_text little_endian
add_text object = refl

-- the bytes of what adds objects
abbrev pub additions_text : List ℕ → List ℕ
additions_text numbers = instructions_text (flat_map add_object numbers)

-- the ending, from its first instruction to its last two
pub ending_text : instructions_text ending ≡ 1 ∷ (instructions_text (flat_map add_object objects) ++ 178 ∷ 1 ∷ 0 ∷ 81 ∷ [])
unfolding ending instructions_text instruction_text little_endian
ending_text =
    ap (λ rest. 1 ∷ rest)
    (flat_map-append instruction_text (flat_map add_object objects) (of.Make (make.Builtinb 1 0) ∷ of.Call call.Retnil ∷ []))

-- ---- the whole

-- the code, from the bytes of its header on
pub code_text : (number : ℕ)
    → code number ≡ (0 ∷ 0 ∷ 0 ∷ 0 ∷ 4 ∷ 0 ∷ 0 ∷ 0 ∷ 0 ∷ 0 ∷ []) ++ instructions_text (actions number) ++ instructions_text ending
unfolding code method_header_text little_endian
code_text number =
    ap (λ rest. 0 ∷ 0 ∷ 0 ∷ 0 ∷ 4 ∷ 0 ∷ 0 ∷ 0 ∷ 0 ∷ 0 ∷ rest) (instructions_text-append (actions number) ending)

-- an object by its bytes
pub object_text : (number : ℕ)
    → static_object number ≡ record { number = number; bytes = 0 ∷ 0 ∷ 1 ∷ 0 ∷ 0 ∷ 0 ∷ 1 ∷ 0 ∷ 7 ∷ 0 ∷ 0 ∷ 0 ∷ 0 ∷ [] }
unfolding little_endian raw_text
object_text number = refl
