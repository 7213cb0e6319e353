-- What a source says, by its lines.
use Rattle.std.proofs.Common.{◌≡◌, ℕ, ◌≤◌, ◌^◌, ◌⊎◌, Bool, true, false, cond, List, slice_get, Option, Some, None, Result, Ok, Err, refl, sym, ap, subst, ◌∙◌, inl, inr, arith}
use Rattle.std.specs.Prelude.{IfOk, IfErr}
use Rattle.t3_image_read.specs.declared.image.Head.{Head}
use Rattle.t3_image_read.specs.declared.image.PlacedBlock.{PlacedBlock}
use Rattle.t3_image_read.specs.ImageText.{ImageValue}
use Rattle.t3_image_read.specs.Validity.{IsValid}
use Rattle.t3_asm.specs.declared.item.Item.{Item}
use Rattle.t3_asm.specs.declared.refusal.AsmRefusal.{AsmRefusal}
use Rattle.t3_asm.specs.declared.refusal.AsmWhy.{AsmWhy}
use Rattle.t3_asm.specs.declared.refusal.AsmWhy.TheVariants as whys
use Rattle.t3_asm.specs.Arguments.{short_at}
use Rattle.t3_asm.specs.Blocks.{arguments_in, blocks_of, head_in, image_of}
use Rattle.t3_asm.specs.Forms.{formed, closed, is_ended}
use Rattle.t3_asm.specs.Inner.Forming.{IsReached, AreReached, IsNear, AreNear}
use Rattle.t3_asm.specs.Places.{Labels, labels_of, newest}
use Rattle.t3_asm.specs.Refusals.{Gives, IsAtNone, refusal}
use Rattle.t3_asm.specs.Source.{source, valued, or_image, first_refused, refused_from, head_size, Satisfies, IsBadLine}
use Rattle.t3_asm.proofs.Chain.{formed-whole}
use Rattle.t3_asm.proofs.EachLine.{All-map}
use Rattle.t3_asm.proofs.Valid.{image_valid}

-- ---- addresses

near_all : (line : ℕ) → line ≤ 2 ^ 32 → (item : Item) → IsReached line item → IsNear item
near_all line small item reached = omega (arith, reached.before, reached.near)

closed_by : (line : ℕ) (before : List Item) (ended : Bool) (result : Result (List Item) AsmRefusal)
    → result ≡ cond ended (Ok before) (Err (refusal line whys.Order)) → AreNear before → IfOk result AreNear
closed_by line before true result is near = subst (λ r. IfOk r AreNear) (sym is) near
closed_by line before false result is near = subst (λ r. IfOk r AreNear) (sym is) tt

-- whole lines are near
pub closed_near : (line : ℕ) (before : List Item) (result : Result (List Item) AsmRefusal) → result ≡ closed line before
    → AreReached line before → line ≤ 2 ^ 32 → IfOk result AreNear
closed_near line before result is reached small =
    closed_by line before (is_ended (newest before)) result is (All-map (IsReached line) IsNear (near_all line small) before reached)

-- ---- what the rules say

pub refused_form : (text : List ℕ) (refused : AsmRefusal) → (refused.why ≡ whys.NoMemory) ⊎ (formed text ≡ Err refused)
    → (refused.why ≡ whys.NoMemory) ⊎ (source text ≡ Err refused)
unfolding source
refused_form text refused (inl wanting) = inl wanting
refused_form text refused (inr is) = inr (ap valued is)

pub refused_value : (text : List ℕ) (items : List Item) (refused : AsmRefusal) → formed text ≡ Ok items
    → Some refused ≡ refused_from (labels_of items) head_size 0 items → source text ≡ Err refused
unfolding source
refused_value text items refused is bad = ap valued is ∙ ap (or_image items) (sym bad)

pub says_image : (text : List ℕ) (items : List Item) → formed text ≡ Ok items
    → None ≡ refused_from (labels_of items) head_size 0 items → source text ≡ Ok (image_of (labels_of items) items)
unfolding source
says_image text items is good = ap valued is ∙ ap (or_image items) (sym good)

pub lines_valid : (text : List ℕ) (items : List Item) → formed text ≡ Ok items
    → None ≡ refused_from (labels_of items) head_size 0 items → IsValid (image_of (labels_of items) items)
lines_valid text items is good = image_valid items (formed-whole text items is) (sym good)

-- ---- each image that is said is valid

or_image_valid : (items : List Item) (why : Option AsmRefusal) (image : ImageValue) → why ≡ first_refused items
    → (why ≡ None → IsValid (image_of (labels_of items) items)) → or_image items why ≡ Ok image → IsValid image
or_image_valid items None image is valid says = let same : image_of (labels_of items) items ≡ image = cc in subst IsValid same (valid refl)
or_image_valid items (Some refused) image is valid says = absurd cc

valued_valid : (text : List ℕ) (lines : Result (List Item) AsmRefusal) (image : ImageValue) → formed text ≡ lines → valued lines ≡ Ok image
    → IsValid image
valued_valid text (Ok items) image is says =
    or_image_valid items (first_refused items) image refl (λ good. lines_valid text items is (sym good)) says
valued_valid text (Err refused) image is says = absurd cc

pub said_valid : (text : List ℕ) (image : ImageValue) → Satisfies text image → IsValid image
unfolding source
said_valid text image says = valued_valid text (formed text) image refl says

-- ---- answers

-- want of memory
abbrev pub wanting : AsmRefusal
wanting = refusal 0 whys.NoMemory

at_none : (refused : AsmRefusal) → refused.why ≡ whys.NoMemory → IsAtNone refused → refused ≡ wanting
at_none refused is none = let zero = none is in ap (λ line. refusal line refused.why) zero ∙ ap (refusal 0) is

pub gives_image : (text : List ℕ) (result : Result ImageValue AsmRefusal) → Gives result (source text) → IfOk result (Satisfies text)
gives_image text (Ok image) gives = gives
gives_image text (Err refused) gives = tt

pub gives_line : (text : List ℕ) (result : Result ImageValue AsmRefusal) → Gives result (source text) → IfErr result IsAtNone
    → IfErr result (λ refused. (refused ≡ wanting) ⊎ IsBadLine text refused.line refused.why)
gives_line text (Ok image) gives none = tt
gives_line text (Err refused) (inl is) none = inl (at_none refused is none)
gives_line text (Err refused) (inr is) none = inr is

pub gives_each : (text : List ℕ) (result due : Result ImageValue AsmRefusal) → Gives result (source text) → IfErr result IsAtNone
    → source text ≡ due → (result ≡ due) ⊎ (result ≡ Err wanting)
gives_each text (Ok image) due gives none is = inl (sym gives ∙ is)
gives_each text (Err refused) due (inl wants) none is = inr (ap Err (at_none refused wants none))
gives_each text (Err refused) due (inr gives) none is = inl (sym gives ∙ is)

pub some_answer : (text : List ℕ) (due : Result ImageValue AsmRefusal) → source text ≡ due
    → ((image : ImageValue) × Satisfies text image) ⊎ ((line : ℕ) × (why : AsmWhy) × IsBadLine text line why)
some_answer text (Ok image) is = inl (image, is)
some_answer text (Err refused) is = inr (refused.line, refused.why, is)

refusal_in : Result ImageValue AsmRefusal → AsmRefusal
refusal_in (Ok image) = wanting
refusal_in (Err refused) = refused

pub one_refusal : (text : List ℕ) (m n : ℕ) (v w : AsmWhy) → IsBadLine text m v → IsBadLine text n w → (m ≡ n) × (v ≡ w)
unfolding refusal_in
one_refusal text m n v w first second =
    let same : refusal m v ≡ refusal n w = ap refusal_in (sym first ∙ second) in (ap (λ r. r.line) same, ap (λ r. r.why) same)

-- the parts of an image that lines say
pub image_parts : (labels : Labels) (items : List Item) (head : Head) (blocks : List PlacedBlock) (flags : ℕ)
    → head ≡ head_in (slice_get items 0) → blocks ≡ blocks_of labels items → flags ≡ short_at (arguments_in (newest items)) 0
    → record { head = head; blocks = blocks; eof_flags = flags } ≡ image_of labels items
unfolding image_of
image_parts labels items head blocks flags head_is blocks_are flags_are =
    λ i. record { head = head_is i; blocks = blocks_are i; eof_flags = flags_are i }
