-- Lines that were read stand in order, one behind the other.
use Rattle.std.proofs.Common.{◌≡◌, ℕ, suc, ◌+◌, ◌-◌, Bool, true, false, cond, List, [], ◌∷◌, ◌++◌, length, slice_get, Option, Some, None, Result, Ok, Err, refl, sym, ap, subst, ◌∙◌, arith}
use Rattle.std.specs.List.{AllByRecursion}
use Rattle.t3_asm_line.specs.declared.argument.Argument.{Argument}
use Rattle.t3_asm_line.specs.declared.keyword.Keyword.{Keyword}
use Rattle.t3_asm_line.specs.declared.keyword.Keyword.TheVariants as of
use Rattle.t3_asm_line.specs.declared.line.ParsedLine.{ParsedLine}
use Rattle.t3_asm_line.specs.declared.refusal.LineRefusal.{LineRefusal}
use Rattle.t3_asm_line.specs.Line.{line_of}
use Rattle.t3_asm_line.specs.Lines.{lines_of}
use Rattle.t3_asm.specs.declared.item.Item.{Item}
use Rattle.t3_asm.specs.declared.place.Place.{Place}
use Rattle.t3_asm.specs.declared.stage.Stage.{Stage}
use Rattle.t3_asm.specs.declared.stage.Stage.TheVariants as stages
use Rattle.t3_asm.specs.declared.refusal.AsmWhy.{AsmWhy}
use Rattle.t3_asm.specs.declared.refusal.AsmWhy.TheVariants as whys
use Rattle.t3_asm.specs.Forms.{is_resized, is_twice, is_in_order, joined, items_with, is_ended, or_refused, formed_from, formed}
use Rattle.t3_asm.specs.Places.{PoolSizes, newest, place_behind, place_of, pool_sizes_of, item_behind}
use Rattle.t3_asm.specs.Refusals.{refusal}
use Rattle.t3_asm.specs.Stages.{stage_behind}
use Rattle.t3_asm.proofs.EachLine.{All-push}
use Rattle.t3_asm.proofs.Fits.{HasNames, line_names}

-- what a line keeps to by itself
pub record IsSound (item : Item) : Type 0 where
  pub names : HasNames item.keyword item.arguments
  pub sized : is_resized item.place.stage item.keyword item.arguments ≡ false
  pub stands : is_in_order item ≡ true

-- each line stands where the one before it leaves off, the first of them here
abbrev pub Follow : Stage → List Item → Type 0
Follow stage [] = Unit {0}
Follow stage (item ∷ items) =
    (item.place.stage ≡ stage) × Follow (stage_behind item.place.stage item.keyword item.arguments) items

-- where a line behind them stands
abbrev pub stage_after : Stage → List Item → Stage
stage_after stage [] = stage
stage_after stage (item ∷ items) = stage_after (stage_behind item.place.stage item.keyword item.arguments) items

Follow-push : (stage : Stage) (before : List Item) (item : Item) → Follow stage before → item.place.stage ≡ stage_after stage before
    → Follow stage (before ++ item ∷ [])
Follow-push stage [] item follow is = (is, tt)
Follow-push stage (first ∷ before) item follow is =
    (follow.0, Follow-push (stage_behind first.place.stage first.keyword first.arguments) before item follow.1 is)

pub newest-cons : (a b : Item) (items : List Item) → newest (a ∷ b ∷ items) ≡ newest (b ∷ items)
newest-cons a b items =
    let last : suc (suc (length items)) - 1 ≡ suc (suc (length items) - 1) = omega arith in
    ap (λ n. slice_get (a ∷ b ∷ items) n) last

stage-newest : (stage : Stage) (item : Item) (items : List Item)
    → (place_behind (newest (item ∷ items))).stage ≡ stage_after stage (item ∷ items)
stage-newest stage item [] = refl
stage-newest stage a (b ∷ items) =
    ap (λ n. (place_behind n).stage) (newest-cons a b items)
    ∙ stage-newest (stage_behind a.place.stage a.keyword a.arguments) b items

-- the place behind lines that begin with the first
pub stage_end : (before : List Item) → (place_behind (newest before)).stage ≡ stage_after stages.Image before
stage_end [] = refl
stage_end (item ∷ items) = stage-newest stages.Image item items

pub stage-place_of : (place : Place) (pools : PoolSizes) (keyword : Keyword) (arguments : List Argument)
    → (place_of place pools keyword arguments).stage ≡ place.stage
stage-place_of place pools of.Page arguments = refl
stage-place_of place pools of.Method arguments = refl
stage-place_of place pools of.MethodOptional arguments = refl
stage-place_of place pools keyword arguments = refl

-- lines that were read
pub record AreRead (items : List Item) : Type 0 where
  pub follow : Follow stages.Image items
  pub sound : AllByRecursion IsSound items

-- what joins lines
record Joins (before : List Item) (item : Item) (items : List Item) : Type 0 where
  items_are : items ≡ before ++ item ∷ []
  sized : is_resized item.place.stage item.keyword item.arguments ≡ false
  stands : is_in_order item ≡ true

picked : (before : List Item) (item : Item) (items : List Item) (resized twice good : Bool)
    → is_resized item.place.stage item.keyword item.arguments ≡ resized → is_in_order item ≡ good
    → cond resized (Err whys.Range) (cond twice (Err whys.LabelTwice) (cond good (Ok (before ++ item ∷ [])) (Err whys.Order))) ≡ Ok items
    → Joins before item items
picked before item items true twice good sized stands is = absurd cc
picked before item items false true good sized stands is = absurd cc
picked before item items false false true sized stands is = record { items_are = cc; sized = sized; stands = stands }
picked before item items false false false sized stands is = absurd cc

joined-Ok : (before : List Item) (item : Item) (items : List Item) → joined before item ≡ Ok items → Joins before item items
unfolding joined
joined-Ok before item items is =
    picked before item items (is_resized item.place.stage item.keyword item.arguments) (is_twice before item)
    (is_in_order item) refl refl is

read_more : (line : ℕ) (before items : List Item) (parsed : ParsedLine) → HasNames parsed.keyword parsed.arguments
    → AreRead before → joined before (item_behind line before parsed) ≡ Ok items → AreRead items
read_more line before items parsed names read is =
    let item = item_behind line before parsed in
    let joins = joined-Ok before item items is in
    let here : item.place.stage ≡ stage_after stages.Image before =
    stage-place_of (place_behind (newest before)) (pool_sizes_of before) parsed.keyword parsed.arguments ∙ stage_end before in
    subst AreRead (sym joins.items_are) (record {
      follow = Follow-push stages.Image before item read.follow here;
      sound = All-push IsSound before item read.sound (record { names = names; sized = joins.sized; stands = joins.stands });
    })

with_line : (line : ℕ) (before : List Item) (said : Result (Option ParsedLine) LineRefusal) (items : List Item)
    → ((parsed : ParsedLine) → said ≡ Ok (Some parsed) → HasNames parsed.keyword parsed.arguments)
    → AreRead before → items_with line before said ≡ Ok items → AreRead items
with_line line before (Ok None) items names read is = let same : before ≡ items = cc in subst AreRead same read
with_line line before (Ok (Some parsed)) items names read is = read_more line before items parsed (names parsed refl) read is
with_line line before (Err refused) items names read is = absurd cc

-- whole lines that were read: the last is the end's
pub record AreWhole (items : List Item) : Type 0 where
  pub read : AreRead items
  pub ended : is_ended (newest items) ≡ true

closed_whole : (line : ℕ) (before items : List Item) (ended : Bool) → is_ended (newest before) ≡ ended → AreRead before
    → cond ended (Ok before) (Err (refusal line whys.Order)) ≡ Ok items → AreWhole items
closed_whole line before items true e read is =
    let same : before ≡ items = cc in subst AreWhole same (record { read = read; ended = e })
closed_whole line before items false e read is = absurd cc

then_whole : (line : ℕ) (lines : List (List ℕ)) (with : Result (List Item) AsmWhy) (items : List Item)
    → ((more : List Item) → with ≡ Ok more → AreRead more)
    → ((more : List Item) → AreRead more → formed_from (line + 1) more lines ≡ Ok items → AreWhole items)
    → or_refused line with (λ more. formed_from (line + 1) more lines) ≡ Ok items → AreWhole items
then_whole line lines (Ok more) items read go is = go more (read more refl) is
then_whole line lines (Err why) items read go is = absurd cc

formed_whole : (line : ℕ) (before : List Item) (lines : List (List ℕ)) (items : List Item) → AreRead before
    → formed_from line before lines ≡ Ok items → AreWhole items
formed_whole line before [] items read is = closed_whole line before items (is_ended (newest before)) refl read is
formed_whole line before (text ∷ lines) items read is =
    then_whole line lines (items_with line before (line_of text)) items
    (λ more with. with_line line before (line_of text) more (line_names text) read with)
    (λ more read'. formed_whole (line + 1) more lines items read') is

-- the lines of a source that breaks no rule of form
pub formed-whole : (text : List ℕ) (items : List Item) → formed text ≡ Ok items → AreWhole items
unfolding formed
formed-whole text items is = formed_whole 1 [] (lines_of text) items (record { follow = tt; sound = tt }) is
