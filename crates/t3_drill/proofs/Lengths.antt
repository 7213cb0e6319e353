-- How long the code of a drill is, and how many pages it takes.
use Rattle.std.proofs.Common.{ℕ, zero, suc, ◌+◌, ◌*◌, ◌/◌, ◌%◌, ◌≤◌, Bool, true, false, [], ◌∷◌, length, ap, arith, lit≤}
use Rattle.std.specs.Prelude.{if◌then◌else◌, ◌==◌}
use Rattle.std.specs.List.{flat_map}
use Rattle.std.proofs.lemmas.List.{length-append}
use Rattle.t3_holder.specs.NumberText.{little_endian}
use Rattle.t3_drill.specs.Drill.{savepoint, undo, set_object, action, next_seed, seeds_after, drill_actions, actions, objects, ending, instruction_text, instructions_text, code, page_count}
use Rattle.t3_drill.proofs.Texts.{instructions_text-append, code_text}

short : (b c : Bool) (object number : ℕ)
    → length (instructions_text (if b then savepoint ∷ [] else (if c then undo ∷ [] else set_object object number))) ≤ 9
unfolding instructions_text instruction_text little_endian
short true c object number = lit≤ tt
short false true object number = lit≤ tt
short false false object number = lit≤ tt

-- an action has at most 9 bytes
action_short : (seed : ℕ) → length (instructions_text (action seed)) ≤ 9
action_short seed =
    let draw = seed / 65536 in
    short (draw % 16 == 0) (draw % 16 == 1) (1 + draw % 64) (draw % 100)

actions_short : (seed count : ℕ) → length (instructions_text (flat_map action (seeds_after seed count))) ≤ 9 * count
unfolding seeds_after instructions_text
actions_short seed zero = omega arith
actions_short seed (suc count) =
    let next = next_seed seed in
    let rest = flat_map action (seeds_after next count) in
    omega (
      arith,
      ap length (instructions_text-append (action next) rest),
      length-append (instructions_text (action next)) (instructions_text rest),
      action_short next,
      actions_short next count,
    )

ending_short : length (instructions_text ending) ≤ 1000
unfolding ending objects instructions_text instruction_text little_endian
ending_short = lit≤ tt

-- the code of the longest drill is short
pub code_short : (number : ℕ) → number ≤ 200 → length (code number) ≤ 1802000
unfolding actions
code_short number few =
    omega (
      arith,
      ap length (code_text number),
      length-append (instructions_text (actions number)) (instructions_text ending),
      actions_short number (drill_actions number),
      ending_short,
    )

-- so it has few pages
pub pages_few : (number : ℕ) → number ≤ 200 → page_count (code number) ≤ 450
pages_few number few = omega (arith, code_short number few)
