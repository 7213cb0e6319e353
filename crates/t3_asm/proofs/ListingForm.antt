-- A listing's lines break no rule of form: they are read into the items that they say.
use Rattle.std.proofs.Common.{◌≡◌, ℕ, ◌+◌, Bool, true, false, ◌&&◌, ◌||◌, not, cond, List, [], ◌∷◌, ◌++◌, length, map, Some, is_some, Result, Ok, Err, refl, sym, ap, ◌∙◌, subst, arith}
use Rattle.std.specs.List.{list_any}
use Rattle.std.specs.FinMap.{get}
use Rattle.t3_asm_line.specs.declared.line.ParsedLine.{ParsedLine}
use Rattle.t3_asm_line.specs.Line.{line_of}
use Rattle.t3_asm.specs.declared.item.Item.{Item}
use Rattle.t3_asm.specs.declared.refusal.AsmRefusal.{AsmRefusal}
use Rattle.t3_asm.specs.declared.stage.Stage.{Stage}
use Rattle.t3_asm.specs.declared.stage.Stage.TheVariants as stages
use Rattle.t3_asm.specs.declared.refusal.AsmWhy.TheVariants as whys
use Rattle.t3_asm.specs.Arguments.{text_at, is_address, is_offset}
use Rattle.t3_asm.specs.Forms.{is_resized, is_twice, is_label_line, has_page_size, has_method, has_good_name, is_in_order, joined, items_with, closed, or_refused, formed_from}
use Rattle.t3_asm.specs.Places.{labels_of, newest, place_behind, pool_sizes_of, item_behind, items_behind}
use Rattle.t3_asm.specs.Stages.{stage_behind, is_page, takes}
use Rattle.t3_asm.proofs.Chain.{stage_after, stage_end, stage-place_of}

-- what reading parsed lines gives
abbrev pub formed_lines : ℕ → List Item → List ParsedLine → Result (List Item) AsmRefusal
formed_lines number before [] = closed number before
formed_lines number before (line ∷ lines) =
    or_refused number (joined before (item_behind number before line)) (λ items. formed_lines (number + 1) items lines)

-- texts that read back as lines
pub formed_from-read : (number : ℕ) (before : List Item) (texts : List (List ℕ)) (lines : List ParsedLine)
    → map line_of texts ≡ map (λ line. Ok (Some line)) lines
    → formed_from number before texts ≡ formed_lines number before lines
formed_from-read number before [] [] read = refl
formed_from-read number before [] (line ∷ lines) read = absurd cc
formed_from-read number before (text ∷ texts) [] read = absurd cc
formed_from-read number before (text ∷ texts) (line ∷ lines) read =
    let first : line_of text ≡ Ok (Some line) = cc in
    let others : map line_of texts ≡ map (λ l. Ok (Some l)) lines = cc in
    λ i. or_refused number (items_with number before (first i)) (λ items. formed_from-read (number + 1) items texts lines others i)

-- a line that may stand here, and names no label
pub record Stands (stage : Stage) (line : ParsedLine) : Type 0 where
  pub taken : takes stage line.keyword ≡ true
  pub sized : is_resized stage line.keyword line.arguments ≡ false
  pub named : has_good_name line.keyword line.arguments ≡ true
  pub no_label : is_label_line line.keyword ≡ false
  pub no_address : list_any is_address line.arguments ≡ false
  pub no_offset : list_any is_offset line.arguments ≡ false

-- lines that may stand one behind the other, the first of them here
abbrev pub StandFrom : Stage → List ParsedLine → Type 0
StandFrom stage [] = Unit {0}
StandFrom stage (line ∷ lines) = Stands stage line × StandFrom (stage_behind stage line.keyword line.arguments) lines

-- ---- one line

plain_page : (known page : Bool) → (known || not (page && (false || false))) ≡ true
plain_page true page = refl
plain_page false true = refl
plain_page false false = refl

plain_method : (known : Bool) → (known || not false) ≡ true
plain_method true = refl
plain_method false = refl

all_true : (a b c d : Bool) → a ≡ true → b ≡ true → c ≡ true → d ≡ true → (a && (b && (c && d))) ≡ true
all_true a b c d ia ib ic id =
    ap (λ x. x && (b && (c && d))) ia ∙ ap (λ x. x && (c && d)) ib ∙ ap (λ x. x && d) ic ∙ id

stage_here : (number : ℕ) (before : List Item) (line : ParsedLine)
    → (item_behind number before line).place.stage ≡ stage_after stages.Image before
stage_here number before line =
    stage-place_of (place_behind (newest before)) (pool_sizes_of before) line.keyword line.arguments ∙ stage_end before

in_order : (number : ℕ) (before : List Item) (line : ParsedLine) → Stands (stage_after stages.Image before) line
    → is_in_order (item_behind number before line) ≡ true
in_order number before line stands =
    let item = item_behind number before line in
    let size = is_some item.place.size in
    let page = is_page item.place.stage in
    all_true (takes item.place.stage item.keyword) (has_page_size item) (has_method item) (has_good_name item.keyword item.arguments)
    (ap (λ s. takes s line.keyword) (stage_here number before line) ∙ stands.taken)
    (ap (λ b. size || not (page && (b || list_any is_address line.arguments))) stands.no_label
    ∙ ap (λ b. size || not (page && (false || b))) stands.no_address ∙ plain_page size page)
    (ap (λ b. is_some item.place.method || not b) stands.no_offset ∙ plain_method (is_some item.place.method))
    stands.named

-- a line that may stand joins those before it
joins : (number : ℕ) (before : List Item) (line : ParsedLine) → Stands (stage_after stages.Image before) line
    → joined before (item_behind number before line) ≡ Ok (before ++ item_behind number before line ∷ [])
unfolding joined
joins number before line stands =
    let item = item_behind number before line in
    let whole = before ++ item ∷ [] in
    let sized : is_resized item.place.stage item.keyword item.arguments ≡ false =
    ap (λ s. is_resized s line.keyword line.arguments) (stage_here number before line) ∙ stands.sized in
    let once : is_twice before item ≡ false =
    ap (λ b. b && is_some (get (labels_of before) (text_at line.arguments 0))) stands.no_label in
    ap (λ b. cond b (Err whys.Range) (cond (is_twice before item) (Err whys.LabelTwice)
    (cond (is_in_order item) (Ok whole) (Err whys.Order)))) sized
    ∙ ap (λ b. cond b (Err whys.LabelTwice) (cond (is_in_order item) (Ok whole) (Err whys.Order))) once
    ∙ ap (λ b. cond b (Ok whole) (Err whys.Order)) (in_order number before line stands)

stage_after-push : (stage : Stage) (before : List Item) (item : Item)
    → stage_after stage (before ++ item ∷ []) ≡ stage_behind item.place.stage item.keyword item.arguments
stage_after-push stage [] item = refl
stage_after-push stage (first ∷ before) item =
    stage_after-push (stage_behind first.place.stage first.keyword first.arguments) before item

-- lines that may stand are read into their items
pub formed_lines-stand : (number : ℕ) (before : List Item) (lines : List ParsedLine) → StandFrom (stage_after stages.Image before) lines
    → formed_lines number before lines ≡ closed (number + length lines) (items_behind number before lines)
formed_lines-stand number before [] stand = ap (λ n. closed n before) (omega arith)
formed_lines-stand number before (line ∷ lines) stand =
    let item = item_behind number before line in
    let next : stage_behind (stage_after stages.Image before) line.keyword line.arguments ≡ stage_after stages.Image (before ++ item ∷ []) =
    sym (ap (λ s. stage_behind s line.keyword line.arguments) (stage_here number before line))
    ∙ sym (stage_after-push stages.Image before item) in
    ap (λ r. or_refused number r (λ items. formed_lines (number + 1) items lines)) (joins number before line stand.0)
    ∙ formed_lines-stand (number + 1) (before ++ item ∷ []) lines (subst (λ s. StandFrom s lines) next stand.1)
    ∙ ap (λ n. closed n (items_behind (number + 1) (before ++ item ∷ []) lines)) (omega arith)
