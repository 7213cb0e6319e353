-- The addresses of a draft's lines are reached by so many lines.
use Rattle.std.proofs.Common.{◌≡◌, ℕ, ◌+◌, Bool, true, false, List, [], ◌∷◌, ◌++◌, Result, Ok, Err, sym, subst, cond, arith}
use Rattle.std.specs.Prelude.{IfOk}
use Rattle.t3_asm.specs.declared.item.Item.{Item}
use Rattle.t3_asm.specs.declared.refusal.AsmWhy.{AsmWhy}
use Rattle.t3_asm.specs.declared.refusal.AsmWhy.TheVariants as whys
use Rattle.t3_asm.specs.Forms.{joined, is_resized, is_twice, is_in_order}
use Rattle.t3_asm.specs.Refusals.{GivesBy}
use Rattle.t3_asm.specs.Inner.Forming.{IsReached, AreReached}
use Rattle.t3_asm.proofs.EachLine.{All-push, All-map}

-- a line that joins others stands behind them
picked : (resized twice good : Bool) (whole : List Item) (items : List Item)
    → cond resized (Err whys.Range) (cond twice (Err whys.LabelTwice) (cond good (Ok whole) (Err whys.Order))) ≡ Ok items
    → items ≡ whole
picked true twice good whole items is = absurd cc
picked false true good whole items is = absurd cc
picked false false true whole items is = cc
picked false false false whole items is = absurd cc

pub joined-Ok : (before : List Item) (item : Item) (items : List Item) → joined before item ≡ Ok items → items ≡ before ++ item ∷ []
unfolding joined
joined-Ok before item items is =
    picked (is_resized item.place.stage item.keyword item.arguments) (is_twice before item) (is_in_order item)
    (before ++ item ∷ []) items is

later : (line : ℕ) (item : Item) → IsReached line item → IsReached (line + 1) item
later line item reached = record { before = omega (arith, reached.before); near = reached.near }

pub joined_reached : (line : ℕ) (before : List Item) (item : Item) (result : Result (List Item) AsmWhy)
    → GivesBy result (joined before item) → AreReached line before → IsReached (line + 1) item
    → IfOk result (AreReached (line + 1))
joined_reached line before item (Ok items) gives reached one =
    subst (AreReached (line + 1)) (sym (joined-Ok before item items gives))
    (All-push (IsReached (line + 1)) before item (All-map (IsReached line) (IsReached (line + 1)) (later line) before reached) one)
joined_reached line before item (Err why) gives reached one = tt
