-- A valid image's listing breaks no rule of form.
use Rattle.std.proofs.Common.{◌≡◌, ℕ, ◌+◌, true, cond, List, [], ◌∷◌, ◌++◌, length, map, Some, Ok, Err, refl, ap, ◌∙◌, arith}
use Rattle.std.specs.List.{flat_map}
use Rattle.t3_asm_line.specs.declared.line.ParsedLine.{ParsedLine}
use Rattle.t3_asm_line.specs.Line.{line_of}
use Rattle.t3_asm_line.specs.Lines.{lines_of}
use Rattle.t3_image_read.specs.ImageText.{ImageValue}
use Rattle.t3_image_read.specs.Validity.{IsValid}
use Rattle.t3_asm.specs.declared.item.Item.{Item}
use Rattle.t3_asm.specs.declared.refusal.AsmWhy.TheVariants as whys
use Rattle.t3_asm.specs.Forms.{formed, is_ended}
use Rattle.t3_asm.specs.Listing.{listing, listed_lines, head_line, end_line, block_lines}
use Rattle.t3_asm.specs.Places.{newest, item_behind, items_behind}
use Rattle.t3_asm.specs.Refusals.{refusal}
use Rattle.t3_asm.proofs.Chain.{newest-cons}
use Rattle.t3_asm.proofs.ListingForm.{formed_from-read, formed_lines-stand}
use Rattle.t3_asm.proofs.ListingStands.{listed_stand}

newest-push : (items : List Item) (item : Item) → newest (items ++ item ∷ []) ≡ Some item
newest-push [] item = refl
newest-push (a ∷ []) item = newest-cons a item []
newest-push (a ∷ b ∷ items) item = newest-cons a b (items ++ item ∷ []) ∙ newest-push (b ∷ items) item

items_behind-append : (number : ℕ) (before : List Item) (front back : List ParsedLine)
    → items_behind number before (front ++ back) ≡ items_behind (number + length front) (items_behind number before front) back
items_behind-append number before [] back = ap (λ n. items_behind n before back) (omega arith)
items_behind-append number before (line ∷ front) back =
    items_behind-append (number + 1) (before ++ item_behind number before line ∷ []) front back
    ∙ ap (λ n. items_behind n (items_behind (number + 1) (before ++ item_behind number before line ∷ []) front) back) (omega arith)

-- the last line is the end's
ended : (number : ℕ) (front : List ParsedLine) (flags : ℕ)
    → is_ended (newest (items_behind number [] (front ++ end_line flags ∷ []))) ≡ true
ended number front flags =
    let before = items_behind number [] front in
    ap (λ items. is_ended (newest items)) (items_behind-append number [] front (end_line flags ∷ []))
    ∙ ap is_ended (newest-push before (item_behind (number + length front) before (end_line flags)))

pub listing_formed : (image : ImageValue) → IsValid image
    → map line_of (lines_of (listing image)) ≡ map (λ line. Ok (Some line)) (listed_lines image)
    → formed (listing image) ≡ Ok (items_behind 1 [] (listed_lines image))
unfolding formed listed_lines
listing_formed image valid read =
    let lines = listed_lines image in
    let items = items_behind 1 [] lines in
    formed_from-read 1 [] (lines_of (listing image)) lines read
    ∙ formed_lines-stand 1 [] lines (listed_stand image valid)
    ∙ ap (λ b. cond b (Ok items) (Err (refusal (1 + length lines) whys.Order)))
    (ended 1 (head_line image.head ∷ flat_map block_lines image.blocks) image.eof_flags)
