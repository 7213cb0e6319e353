-- The first rule that is broken is one.
use Rattle.std.proofs.Common.{◌≡◌, ◌≢◌, ℕ, ◌<◌, ◌≤◌, List, ◌++◌, length, refl, sym, ap, subst, ◌∙◌, inl, inr, arith}
use Rattle.std.specs.Prelude.{◌==◌, if◌then◌else◌}
use Rattle.std.proofs.lemmas.Bool.{cases_lt}
use Rattle.t3_blocks.specs.Malformed.{IsMalformed}
use Rattle.t3_blocks.proofs.Laws.{one_count}
use Rattle.t3_blocks.proofs.Lists.{split_same}
use Rattle.t3_image_read.specs.declared.header.BlockHeader.{BlockHeader}
use Rattle.t3_image_read.specs.declared.refusal.ReadWhy.{ReadWhy}
use Rattle.t3_image_read.specs.declared.refusal.ReadWhy.TheVariants.{Signature, Version, TooLong, TooMany, UnknownMandatory, Malformed, EofSize, Truncated}
use Rattle.t3_image_read.specs.Refusal.{rank_of, IsFirstBroken, DiffersFromSignature, HasOtherVersion, HeadBreaks, SpellsNothing, BlockBreaks}
use Rattle.t3_image_read.proofs.Headers.{header_same}

-- ---- a rule is told by its rank, and its items

abbrev items_of : ReadWhy → ℕ
items_of (Malformed items) = items
items_of _ = 0

abbrev why_at : ℕ → ℕ → ReadWhy
why_at n items =
    if n == 1 then Signature else
    (if n == 2 then Version else
    (if n == 3 then TooMany else
    (if n == 4 then EofSize else
    (if n == 5 then TooLong else (if n == 6 then UnknownMandatory else (if n == 7 then Malformed items else Truncated))))))

told_by_rank : (why : ReadWhy) → why_at (rank_of why) (items_of why) ≡ why
told_by_rank Signature = refl
told_by_rank Version = refl
told_by_rank TooMany = refl
told_by_rank EofSize = refl
told_by_rank TooLong = refl
told_by_rank UnknownMandatory = refl
told_by_rank (Malformed items) = refl
told_by_rank Truncated = refl

pub first_unique : (Breaks : ReadWhy → Type 0) → ((v w : ReadWhy) → Breaks v → Breaks w → rank_of v ≡ rank_of w → items_of v ≡ items_of w)
    → (v w : ReadWhy) → IsFirstBroken Breaks v → IsFirstBroken Breaks w → v ≡ w
first_unique Breaks items v w first_v first_w =
    elim (cases_lt (rank_of v) (rank_of w)) [
      | inl less ↦ absurd (first_w.first v less first_v.broken)
      | inr not_less ↦ elim (cases_lt (rank_of w) (rank_of v)) [
        | inl more ↦ absurd (first_v.first w more first_w.broken)
        | inr not_more ↦
            let same : rank_of v ≡ rank_of w = omega arith in
            let counts = items v w first_v.broken first_w.broken same in
            sym (told_by_rank v) ∙ (λ i. why_at (same i) (counts i)) ∙ told_by_rank w
      ]
    ]

-- ---- the header

no_items : (stream : List ℕ) (why : ReadWhy) → HeadBreaks stream why → items_of why ≡ 0
no_items stream (Malformed items) broken = absurd broken
no_items stream _ broken = refl

pub head_first_unique : (stream : List ℕ) (v w : ReadWhy) → IsFirstBroken (HeadBreaks stream) v → IsFirstBroken (HeadBreaks stream) w
    → v ≡ w
head_first_unique stream =
    first_unique (HeadBreaks stream) (λ v w broken_v broken_w same. no_items stream v broken_v ∙ sym (no_items stream w broken_w))

head_earlier : (stream : List ℕ) (bound : ℕ) → (1 < bound → ¬ DiffersFromSignature stream) → (2 < bound → ¬ HasOtherVersion stream)
    → bound ≤ 8 → (earlier : ReadWhy) → rank_of earlier < bound → ¬ HeadBreaks stream earlier
head_earlier stream bound signature version few Signature less = signature less
head_earlier stream bound signature version few Version less = version less
head_earlier stream bound signature version few Truncated less = absurd (omega arith)
head_earlier stream bound signature version few _ less = λ broken. broken

pub first_signature : (stream : List ℕ) → DiffersFromSignature stream → IsFirstBroken (HeadBreaks stream) Signature
first_signature stream differs =
    record { broken = differs; first = head_earlier stream 1 (λ less. absurd (omega arith)) (λ less. absurd (omega arith)) (omega arith) }

pub first_version : (stream : List ℕ) → ¬ DiffersFromSignature stream → HasOtherVersion stream → IsFirstBroken (HeadBreaks stream) Version
first_version stream same other =
    record { broken = other; first = head_earlier stream 2 (λ less. same) (λ less. absurd (omega arith)) (omega arith) }

pub first_head_cut : (stream : List ℕ) → ¬ DiffersFromSignature stream → ¬ HasOtherVersion stream → length stream < 69
    → IsFirstBroken (HeadBreaks stream) Truncated
first_head_cut stream same right short =
    record { broken = short; first = head_earlier stream 8 (λ less. same) (λ less. right) (omega arith) }

-- ---- a block

one_nothing : (rest : List ℕ) (m n : ℕ) → SpellsNothing rest m → SpellsNothing rest n → m ≡ n
one_nothing rest m n a b =
    let heads = header_same a.header b.header (a.payload ++ a.trailing)
    (b.payload ++ b.trailing) a.starts.fits b.starts.fits (sym a.starts.is ∙ b.starts.is) in
    let size : a.header.size ≡ b.header.size = ap (λ (h : BlockHeader). h.size) heads.0 in
    let payloads = split_same a.payload b.payload a.trailing b.trailing (a.whole ∙ size ∙ sym b.whole) heads.1 in
    let malformed : IsMalformed a.header.name a.payload n =
    subst (λ (h : BlockHeader). IsMalformed h.name a.payload n) (sym heads.0)
    (subst (λ p. IsMalformed b.header.name p n) (sym payloads.0) b.malformed) in
    one_count a.header.name a.payload m n a.malformed malformed

plain : (why : ReadWhy) → rank_of why ≢ 7 → items_of why ≡ 0
plain (Malformed items) other = absurd (other refl)
plain _ other = refl

block_items : (count place : ℕ) (rest : List ℕ) (v w : ReadWhy) → BlockBreaks count place rest v → BlockBreaks count place rest w
    → rank_of v ≡ rank_of w → items_of v ≡ items_of w
block_items count place rest (Malformed m) (Malformed n) broken_v broken_w same = one_nothing rest m n broken_v broken_w
block_items count place rest (Malformed m) w broken_v broken_w same = absurd (omega (arith, same))
block_items count place rest v w broken_v broken_w same = sym (plain w (λ seven. absurd (omega (arith, same, seven))))

pub block_first_unique : (count place : ℕ) (rest : List ℕ) (v w : ReadWhy) → IsFirstBroken (BlockBreaks count place rest) v
    → IsFirstBroken (BlockBreaks count place rest) w → v ≡ w
block_first_unique count place rest = first_unique (BlockBreaks count place rest) (block_items count place rest)

-- none of the three limits is passed by what stands here
pub record IsWithin (count place : ℕ) (rest : List ℕ) : Type 0 where
  pub many : ¬ BlockBreaks count place rest TooMany
  pub loaded : ¬ BlockBreaks count place rest EofSize
  pub late : ¬ BlockBreaks count place rest TooLong

pub block_earlier : (count place : ℕ) (rest : List ℕ) (bound : ℕ) → (3 < bound → ¬ BlockBreaks count place rest TooMany)
    → (4 < bound → ¬ BlockBreaks count place rest EofSize) → (5 < bound → ¬ BlockBreaks count place rest TooLong)
    → (6 < bound → ¬ BlockBreaks count place rest UnknownMandatory)
    → (7 < bound → (items : ℕ) → ¬ SpellsNothing rest items) → bound ≤ 8 → (earlier : ReadWhy) → rank_of earlier < bound
    → ¬ BlockBreaks count place rest earlier
block_earlier count place rest bound many loaded late unknown spells few TooMany less = many less
block_earlier count place rest bound many loaded late unknown spells few EofSize less = loaded less
block_earlier count place rest bound many loaded late unknown spells few TooLong less = late less
block_earlier count place rest bound many loaded late unknown spells few UnknownMandatory less = unknown less
block_earlier count place rest bound many loaded late unknown spells few (Malformed items) less = spells less items
block_earlier count place rest bound many loaded late unknown spells few Truncated less = absurd (omega arith)
block_earlier count place rest bound many loaded late unknown spells few _ less = λ broken. broken

-- where no limit is passed
pub within_earlier : (count place : ℕ) (rest : List ℕ) (bound : ℕ) → IsWithin count place rest
    → (6 < bound → ¬ BlockBreaks count place rest UnknownMandatory) → (7 < bound → (items : ℕ) → ¬ SpellsNothing rest items) → bound ≤ 8
    → (earlier : ReadWhy) → rank_of earlier < bound → ¬ BlockBreaks count place rest earlier
within_earlier count place rest bound within unknown spells few =
    block_earlier count place rest bound (λ less. within.many) (λ less. within.loaded) (λ less. within.late) unknown spells few
