-- The items of listed lines, wherever they stand, and what lists of them say up to the lines behind.
use Rattle.std.proofs.Common.{◌≡◌, ℕ, zero, suc, ◌+◌, ◌≤◌, Bool, true, false, cond, List, [], ◌∷◌, ◌++◌, length, map, take, drop, None, refl, sym, ap, ◌∙◌, append_assoc, arith}
use Rattle.std.specs.List.{AllByRecursion, flat_map}
use Rattle.std.proofs.lemmas.List.{append-nil, length-drop, take-append-drop}
use Rattle.t3_asm_line.specs.declared.keyword.Keyword.{Keyword}
use Rattle.t3_asm_line.specs.declared.keyword.Keyword.TheVariants as of
use Rattle.t3_asm_line.specs.declared.line.ParsedLine.{ParsedLine}
use Rattle.t3_asm.specs.declared.item.Item.{Item}
use Rattle.t3_asm.specs.declared.level.Level.{Level}
use Rattle.t3_asm.specs.declared.level.Level.TheVariants.{Image, InBlock, InEntry}
use Rattle.t3_asm.specs.declared.place.Place.{Place}
use Rattle.t3_asm.specs.Blocks.{ends, entries_of, contents_of}
use Rattle.t3_asm.specs.Listing.{piece_size, first_pieces, pieces, bytes_line, bytes_lines}
use Rattle.t3_asm.specs.Places.{Labels, place_behind, item_behind, items_behind}
use Rattle.t3_asm.specs.Values.{content_text}

-- the line number and the place of each item in a row
abbrev pub Positions : Type 0
Positions = ℕ → ℕ × Place

abbrev pub item_at : ℕ × Place → ParsedLine → Item
item_at position line = record { line = position.0; place = position.1; keyword = line.keyword; arguments = line.arguments }

abbrev pub after : Positions → Positions
after positions n = positions (suc n)

abbrev pub items_at : Positions → List ParsedLine → List Item
items_at positions [] = []
items_at positions (line ∷ lines) = item_at (positions zero) line ∷ items_at (after positions) lines

abbrev next_to : ℕ × Place → Positions → Positions
next_to first others zero = first
next_to first others (suc n) = others n

-- items that follow each other have positions
pub positions_behind : (number : ℕ) (before : List Item) (lines : List ParsedLine)
    → (positions : Positions) × (items_behind number before lines ≡ before ++ items_at positions lines)
positions_behind number before [] = (λ n. (0, place_behind None), sym (append-nil before))
positions_behind number before (line ∷ lines) =
    let item = item_behind number before line in
    let others = positions_behind (number + 1) (before ++ item ∷ []) lines in
    (next_to (item.line, item.place) others.0, others.1 ∙ append_assoc before (item ∷ []) (items_at others.0 lines))

-- the lines of each, and others behind them
abbrev pub lines_with : {A : Type 0} → (A → List ParsedLine) → List A → List ParsedLine → List ParsedLine
lines_with lines [] behind = behind
lines_with lines (x ∷ xs) behind = lines x ++ lines_with lines xs behind

pub lines_with-flat : {A : Type 0} (lines : A → List ParsedLine) (xs : List A) (behind : List ParsedLine)
    → flat_map lines xs ++ behind ≡ lines_with lines xs behind
lines_with-flat lines [] behind = refl
lines_with-flat lines (x ∷ xs) behind =
    append_assoc (lines x) (flat_map lines xs) behind ∙ ap (λ l. lines x ++ l) (lines_with-flat lines xs behind)

-- ---- ends

-- no line, or one that ends what goes on
abbrev pub closes : Level → List ParsedLine → Bool
closes level [] = true
closes level (line ∷ lines) = ends level line.keyword

pub contents_none : (level : Level) (labels : Labels) (behind : List ParsedLine) (positions : Positions) → closes level behind ≡ true
    → contents_of level labels (items_at positions behind) ≡ []
contents_none level labels [] positions closed = refl
contents_none level labels (line ∷ lines) positions closed =
    ap (λ b. cond b [] (content_text labels (item_at (positions zero) line) ++ contents_of level labels
    (items_at (after positions) lines))) closed

pub entries_none : {A : Type 0} (level : Level) (begins : Keyword → Bool) (entry : Item → List Item → A) (behind : List ParsedLine)
    (positions : Positions) → closes level behind ≡ true → entries_of level begins entry (items_at positions behind) ≡ []
entries_none level begins entry [] positions closed = refl
entries_none level begins entry (line ∷ lines) positions closed =
    let items = items_at (after positions) lines in
    let others = entries_of level begins entry items in
    ap (λ b. cond b [] (cond (begins line.keyword) (entry (item_at (positions zero) line) items ∷ others) others)) closed

-- ---- bytes

bytes_go_on : (level : Level) → ends level of.Bytes ≡ false
bytes_go_on Image = refl
bytes_go_on InBlock = refl
bytes_go_on InEntry = refl

contents_first : (level : Level) (labels : Labels) (count : ℕ) (bytes : List ℕ) (behind : List ParsedLine) → length bytes ≤ count
    → closes level behind ≡ true → (positions : Positions)
    → contents_of level labels (items_at positions (map bytes_line (first_pieces count bytes) ++ behind)) ≡ bytes
unfolding content_text
contents_first level labels zero [] behind less closed positions = contents_none level labels behind positions closed
contents_first level labels zero (byte ∷ bytes) behind less closed positions = absurd (omega arith)
contents_first level labels (suc count) [] behind less closed positions = contents_none level labels behind positions closed
contents_first level labels (suc count) (byte ∷ bytes) behind less closed positions =
    let piece = take piece_size (byte ∷ bytes) in
    let rest = drop piece_size (byte ∷ bytes) in
    let size = length-drop 32 (byte ∷ bytes) in
    let items = items_at (after positions) (map bytes_line (first_pieces count rest) ++ behind) in
    ap (λ b. cond b [] (piece ++ contents_of level labels items)) (bytes_go_on level)
    ∙ ap (λ l. piece ++ l) (contents_first level labels count rest behind (omega (arith, size)) closed (after positions))
    ∙ take-append-drop 32 (byte ∷ bytes)

-- the contents of lines of bytes are the bytes
pub contents_bytes : (level : Level) (labels : Labels) (bytes : List ℕ) (behind : List ParsedLine) → closes level behind ≡ true
    → (positions : Positions) → contents_of level labels (items_at positions (bytes_lines bytes ++ behind)) ≡ bytes
unfolding bytes_lines pieces
contents_bytes level labels bytes behind closed positions =
    contents_first level labels (length bytes) bytes behind (omega arith) closed positions

-- ---- entries

-- a line that neither ends a list nor begins an entry
abbrev pub Passes : Level → (Keyword → Bool) → ParsedLine → Type 0
Passes level begins line = (ends level line.keyword ≡ false) × (begins line.keyword ≡ false)

pub entries_pass : {A : Type 0} (level : Level) (begins : Keyword → Bool) (entry : Item → List Item → A) (front behind : List ParsedLine)
    (xs : List A) → AllByRecursion (Passes level begins) front
    → ((positions : Positions) → entries_of level begins entry (items_at positions behind) ≡ xs)
    → (positions : Positions) → entries_of level begins entry (items_at positions (front ++ behind)) ≡ xs
entries_pass level begins entry [] behind xs pass others positions = others positions
entries_pass level begins entry (line ∷ front) behind xs pass others positions =
    let items = items_at (after positions) (front ++ behind) in
    let more = entries_of level begins entry items in
    let all = entry (item_at (positions zero) line) items ∷ more in
    ap (λ b. cond b [] (cond (begins line.keyword) all more)) pass.0.0 ∙ ap (λ b. cond b all more) pass.0.1
    ∙ entries_pass level begins entry front behind xs pass.1 others (after positions)

-- how the lines of one entry say it, whatever comes behind that may follow one
abbrev pub SaysOne : {A : Type 0} → (List Item → List A) → (A → List ParsedLine) → (A → Type 0) → (List ParsedLine → Type 0) → Type 0
SaysOne {A = A} said lines P MayFollow =
    (x : A) → P x → (behind : List ParsedLine) → MayFollow behind → (xs : List A)
    → ((positions : Positions) → said (items_at positions behind) ≡ xs)
    → (positions : Positions) → said (items_at positions (lines x ++ behind)) ≡ x ∷ xs

-- the lines of entries say the entries
pub entries_all : {A : Type 0} (said : List Item → List A) (lines : A → List ParsedLine) (P : A → Type 0)
    (MayFollow : List ParsedLine → Type 0)
    → SaysOne said lines P MayFollow → ((x : A) (more : List ParsedLine) → MayFollow (lines x ++ more))
    → (behind : List ParsedLine) → MayFollow behind → ((positions : Positions) → said (items_at positions behind) ≡ [])
    → (xs : List A) → AllByRecursion P xs → (positions : Positions) → said (items_at positions (lines_with lines xs behind)) ≡ xs
entries_all said lines P MayFollow one follows behind may none [] all positions = none positions
entries_all said lines P MayFollow one follows behind may none (x ∷ []) all positions = one x all.0 behind may [] none positions
entries_all said lines P MayFollow one follows behind may none (x ∷ y ∷ xs) all positions =
    one x all.0 (lines_with lines (y ∷ xs) behind) (follows y (lines_with lines xs behind)) (y ∷ xs)
    (entries_all said lines P MayFollow one follows behind may none (y ∷ xs) all.1) positions
