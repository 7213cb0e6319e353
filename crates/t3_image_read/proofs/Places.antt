-- At a place of a stream stands a rule that is broken first, a good block, or the end.
use Rattle.std.proofs.Common.{◌≡◌, ℕ, ◌+◌, ◌^◌, ◌<◌, ◌≤◌, false, List, ◌++◌, length, take, drop, sym, ap, subst, ◌∙◌, ◌⊎◌, inl, inr, append_assoc, arith}
use Rattle.std.specs.Prelude.{IsTrue}
use Rattle.std.proofs.lemmas.Bool.{cases_lt, cases_Bool}
use Rattle.std.proofs.lemmas.List.{length-append, length-take, take-append-drop}
use Rattle.t3_holder.specs.NumberText.{AreBytes}
use Rattle.t3_blocks.specs.declared.block.Block.{Block}
use Rattle.t3_blocks.specs.BlockName.{end_name, is_unknown_mandatory}
use Rattle.t3_blocks.specs.Spelling.{Spells, image_limit}
use Rattle.t3_blocks.specs.Malformed.{IsMalformed}
use Rattle.t3_blocks.proofs.Decided.{decided}
use Rattle.t3_image_read.specs.declared.header.BlockHeader.{BlockHeader}
use Rattle.t3_image_read.specs.declared.image.PlacedBlock.{PlacedBlock}
use Rattle.t3_image_read.specs.declared.refusal.ReadWhy.{ReadWhy}
use Rattle.t3_image_read.specs.declared.refusal.ReadWhy.TheVariants.{TooLong, TooMany, UnknownMandatory, Malformed, EofSize, Truncated}
use Rattle.t3_image_read.specs.ImageText.{header_text, block_text, end_header}
use Rattle.t3_image_read.specs.Validity.{IsHeader, IsGood, header_limit}
use Rattle.t3_image_read.specs.Refusal.{IsFirstBroken, StartsWith, StartsWithSome, IsOneTooMany, IsLoadedEnd, EndsTooLate, SpellsNothing, BlockBreaks}
use Rattle.t3_image_read.specs.Inner.Faults.{PassesLimit}
use Rattle.t3_blocks.proofs.Lists.{same_or_not, AreBytes-take, AreBytes-after}
use Rattle.t3_image_read.proofs.Headers.{some_header, header_same, length-header_text}
use Rattle.t3_image_read.proofs.Firsts.{IsWithin, block_earlier, within_earlier}

loaded_or_not : (header : BlockHeader) → IsLoadedEnd header ⊎ ¬ IsLoadedEnd header
loaded_or_not header =
    elim (cases_lt 0 header.size) [
      | inr empty ↦ inr (λ loaded. absurd (omega (arith, loaded.1)))
      | inl sized ↦ elim (same_or_not header.name end_name) [
        | inl is_end ↦ inl (is_end, sized)
        | inr other ↦ inr (λ loaded. other loaded.0)
      ]
    ]

-- a rule that speaks of the header that stands here speaks of this one
pub not_by_header : (P : BlockHeader → Type 0) (rest : List ℕ) (header : BlockHeader) (trailing : List ℕ) → StartsWith rest header trailing
    → ¬ P header → ¬ StartsWithSome rest P
not_by_header P rest header trailing here not (other, y, there, holds) =
    not (subst P (sym (header_same header other trailing y here.fits there.fits (sym here.is ∙ there.is)).0) holds)

pub no_header : (P : BlockHeader → Type 0) (rest : List ℕ) → length rest < 10 → ¬ StartsWithSome rest P
no_header P rest short (other, y, there, holds) =
    let long = length-header_text other there.fits in
    absurd (omega (arith, ap length there.is, length-append (header_text other) y))

-- what stands at a place: a rule that is broken first, a good block, or the end
pub record GoodBlock (count place : ℕ) (rest : List ℕ) : Type 0 where
  pub block : PlacedBlock
  pub trailing : List ℕ
  pub good : IsGood block
  pub is : rest ≡ block_text block ++ trailing
  pub few : count < header_limit
  pub near : place + length (block_text block) ≤ image_limit

pub record TheEnd (count place : ℕ) (rest : List ℕ) : Type 0 where
  pub flags : ℕ
  pub trailing : List ℕ
  pub fits : flags < 2 ^ 16
  pub is : rest ≡ header_text (end_header flags) ++ trailing
  pub few : count < header_limit
  pub near : place + 10 ≤ image_limit

-- some rule is broken first
abbrev pub BreaksFirst : ℕ → ℕ → List ℕ → Type 0
BreaksFirst count place rest = (why : ReadWhy) × IsFirstBroken (BlockBreaks count place rest) why

-- a short rest is cut, and breaks no other rule
no_payload : (rest : List ℕ) → length rest < 10 → (items : ℕ) → ¬ SpellsNothing rest items
no_payload rest short items nothing =
    let long = length-header_text nothing.header nothing.starts.fits in
    absurd (omega (arith, ap length nothing.starts.is, length-append (header_text nothing.header) (nothing.payload ++ nothing.trailing)))

pub first_short : (count place : ℕ) (rest : List ℕ) → length rest < 10 → IsFirstBroken (BlockBreaks count place rest) Truncated
first_short count place rest short = record {
  broken = inl short;
  first = within_earlier count place rest 8
      (record {
        many = no_header (λ h. IsOneTooMany count) rest short;
        loaded = no_header (λ h. IsLoadedEnd h) rest short;
        late =
            no_header (λ h. EndsTooLate place h) rest short;
      }) (λ less. no_header (λ h. IsTrue (is_unknown_mandatory h.name h.flags)) rest short)
      (λ less. no_payload rest short) (omega arith);
}

-- after a header that passes no limit
no_limit : (count place : ℕ) (rest : List ℕ) (header : BlockHeader) (trailing : List ℕ) → StartsWith rest header trailing
    → ¬ PassesLimit count place header → IsWithin count place rest
no_limit count place rest header trailing starts within = record {
  many = not_by_header (λ h. IsOneTooMany count) rest header trailing starts (λ many. within (inl many));
  loaded = not_by_header (λ h. IsLoadedEnd h) rest header trailing starts (λ loaded. within (inr (inl loaded)));
  late = not_by_header (λ h. EndsTooLate place h) rest header trailing starts (λ late. within (inr (inr late)));
}

-- so is a payload, after a header that breaks no rule
not_whole : (rest : List ℕ) (header : BlockHeader) (trailing : List ℕ) → StartsWith rest header trailing → length trailing < header.size
    → (items : ℕ) → ¬ SpellsNothing rest items
not_whole rest header trailing starts short items nothing =
    let same = header_same header nothing.header trailing (nothing.payload ++ nothing.trailing) starts.fits nothing.starts.fits
    (sym starts.is ∙ nothing.starts.is) in
    let size : header.size ≡ nothing.header.size = ap (λ (h : BlockHeader). h.size) same.0 in
    absurd (omega (arith, ap length same.1, length-append nothing.payload nothing.trailing, nothing.whole, size))

not_known : (header : BlockHeader) → is_unknown_mandatory header.name header.flags ≡ false
    → ¬ IsTrue (is_unknown_mandatory header.name header.flags)
not_known header known h = absurd cc

pub first_cut : (count place : ℕ) (rest : List ℕ) (header : BlockHeader) (trailing : List ℕ) → StartsWith rest header trailing
    → ¬ PassesLimit count place header → is_unknown_mandatory header.name header.flags ≡ false → length trailing < header.size
    → IsFirstBroken (BlockBreaks count place rest) Truncated
first_cut count place rest header trailing starts within known short = record {
  broken = inr (header, trailing, starts, short);
  first = within_earlier count place rest 8 (no_limit count place rest header trailing starts within)
      (λ less. not_by_header (λ h. IsTrue (is_unknown_mandatory h.name h.flags)) rest header trailing starts (not_known header known))
      (λ less. not_whole rest header trailing starts short) (omega arith);
}

-- a whole payload that spells nothing, after such a header
pub first_malformed : (count place : ℕ) (rest : List ℕ) (header : BlockHeader) (payload trailing : List ℕ) (items : ℕ)
    → StartsWith rest header (payload ++ trailing) → ¬ PassesLimit count place header
    → is_unknown_mandatory header.name header.flags ≡ false → length payload ≡ header.size
    → IsMalformed header.name payload items → IsFirstBroken (BlockBreaks count place rest) (Malformed items)
first_malformed count place rest header payload trailing items starts within known whole malformed = record {
  broken = record { header = header; payload = payload; trailing = trailing; starts = starts; whole = whole; malformed = malformed };
  first = within_earlier count place rest 7 (no_limit count place rest header (payload ++ trailing) starts within)
      (λ less. not_by_header (λ h. IsTrue (is_unknown_mandatory h.name h.flags)) rest header (payload ++ trailing) starts
      (not_known header known)) (λ less. absurd (omega arith)) (omega arith);
}

pub first_unknown : (count place : ℕ) (rest : List ℕ) (header : BlockHeader) (trailing : List ℕ) → StartsWith rest header trailing
    → ¬ PassesLimit count place header → IsTrue (is_unknown_mandatory header.name header.flags)
    → IsFirstBroken (BlockBreaks count place rest) UnknownMandatory
first_unknown count place rest header trailing starts within unknown = record {
  broken = (header, trailing, starts, unknown);
  first = within_earlier count place rest 6 (no_limit count place rest header trailing starts within) (λ less. absurd (omega arith))
      (λ less. absurd (omega arith)) (omega arith);
}

pub first_many : (count place : ℕ) (rest : List ℕ) (header : BlockHeader) (trailing : List ℕ) → StartsWith rest header trailing
    → IsOneTooMany count → IsFirstBroken (BlockBreaks count place rest) TooMany
first_many count place rest header trailing starts many = record {
  broken = (header, trailing, starts, many);
  first = block_earlier count place rest 3 (λ less. absurd (omega arith)) (λ less. absurd (omega arith)) (λ less. absurd (omega arith))
      (λ less. absurd (omega arith)) (λ less. absurd (omega arith)) (omega arith);
}

pub first_loaded : (count place : ℕ) (rest : List ℕ) (header : BlockHeader) (trailing : List ℕ) → StartsWith rest header trailing
    → ¬ IsOneTooMany count → IsLoadedEnd header → IsFirstBroken (BlockBreaks count place rest) EofSize
first_loaded count place rest header trailing starts few loaded = record {
  broken = (header, trailing, starts, loaded);
  first = block_earlier count place rest 4 (λ less. not_by_header (λ h. IsOneTooMany count) rest header trailing starts few)
      (λ less. absurd (omega arith)) (λ less. absurd (omega arith)) (λ less. absurd (omega arith)) (λ less. absurd (omega arith))
      (omega arith);
}

pub first_late : (count place : ℕ) (rest : List ℕ) (header : BlockHeader) (trailing : List ℕ) → StartsWith rest header trailing
    → ¬ IsOneTooMany count → ¬ IsLoadedEnd header → EndsTooLate place header → IsFirstBroken (BlockBreaks count place rest) TooLong
first_late count place rest header trailing starts few empty late = record {
  broken = (header, trailing, starts, late);
  first = block_earlier count place rest 5 (λ less. not_by_header (λ h. IsOneTooMany count) rest header trailing starts few)
      (λ less. not_by_header (λ h. IsLoadedEnd h) rest header trailing starts empty) (λ less. absurd (omega arith))
      (λ less. absurd (omega arith))
      (λ less. absurd (omega arith)) (omega arith);
}

-- a limit is passed, or none
first_limit : (count place : ℕ) (rest : List ℕ) (header : BlockHeader) (trailing : List ℕ) → StartsWith rest header trailing
    → BreaksFirst count place rest ⊎ ¬ PassesLimit count place header
first_limit count place rest header trailing starts =
    elim (cases_lt count header_limit) [
      | inr many ↦ inl (TooMany, first_many count place rest header trailing starts many)
      | inl few ↦ elim (loaded_or_not header) [
        | inl loaded ↦ inl (EofSize, first_loaded count place rest header trailing starts (λ many. absurd (omega arith)) loaded)
        | inr empty ↦ elim (cases_lt image_limit (place + 10 + header.size)) [
          | inl late ↦ inl (TooLong, first_late count place rest header trailing starts (λ many. absurd (omega arith)) empty late)
          | inr near ↦ inr (λ passes.
              elim passes [
                | inl many ↦ absurd
                    (omega arith)
                | inr more ↦ elim more [ inl loaded ↦ empty loaded | inr late ↦ absurd (omega arith) ]
              ])
        ]
      ]
    ]

-- what a header says that passes no limit
pub few_within : (count place : ℕ) (header : BlockHeader) → ¬ PassesLimit count place header → count < header_limit
few_within count place header within = elim (cases_lt count header_limit) [ inl few ↦ few | inr many ↦ absurd (within (inl many)) ]

pub near_within : (count place : ℕ) (header : BlockHeader) → ¬ PassesLimit count place header → place + 10 + header.size ≤ image_limit
near_within count place header within =
    elim (cases_lt image_limit (place + 10 + header.size)) [ inl far ↦ absurd (within (inr (inr far))) | inr near ↦ near ]

pub empty_end : (count place : ℕ) (header : BlockHeader) → ¬ PassesLimit count place header → header.name ≡ end_name → header.size ≡ 0
empty_end count place header within is_end =
    elim (cases_lt 0 header.size) [ inl sized ↦ absurd (within (inr (inl (is_end, sized)))) | inr none ↦ omega arith ]

-- the block that a payload spells after its header
pub spelled_text : (header : BlockHeader) (payload : List ℕ) (block : Block) → Spells block header.name payload
    → length payload ≡ header.size → block_text (record { flags = header.flags; block = block }) ≡ header_text header ++ payload
unfolding block_text
spelled_text header payload block spells long =
    let size = ap length spells.payload_is ∙ long in
    λ i. header_text (record { name = spells.name_is i; size = size i; flags = header.flags }) ++ spells.payload_is i

-- a header whose payload is whole and spells a block, and that breaks no rule, begins a good block
pub record MakesBlock (count place : ℕ) (header : BlockHeader) (payload : List ℕ) (placed : PlacedBlock) : Type 0 where
  pub good : IsGood placed
  pub is : block_text placed ≡ header_text header ++ payload
  pub few : count < header_limit
  pub near : place + length (block_text placed) ≤ image_limit

pub makes_block : (count place : ℕ) (header : BlockHeader) (payload : List ℕ) (block : Block) → IsHeader header
    → ¬ PassesLimit count place header → is_unknown_mandatory header.name header.flags ≡ false → length payload ≡ header.size
    → Spells block header.name payload
    → MakesBlock count place header payload (record { flags = header.flags; block = block })
makes_block count place header payload block fits within known long spells =
    let near = near_within count place header within in
    let is = spelled_text header payload block spells long in
    record {
      good = record {
        spellable = spells.spellable;
        size = omega (arith, ap length spells.payload_is, fits.size);
        flags = fits.flags;
        known = ap (λ name. is_unknown_mandatory name header.flags) spells.name_is ∙ known;
      };
      is = is;
      few = few_within count place header within;
      near = omega (arith, ap length is, length-append (header_text header) payload, length-header_text header fits);
    }

the_end : (count place : ℕ) (rest : List ℕ) (header : BlockHeader) (trailing : List ℕ) → StartsWith rest header trailing
    → ¬ PassesLimit count place header → header.name ≡ end_name → TheEnd count place rest
the_end count place rest header trailing starts within is_end =
    let none = empty_end count place header within is_end in
    let near = near_within count place header within in
    let is : header ≡ end_header header.flags = λ i. record { name = is_end i; size = none i; flags = header.flags } in
    record {
      flags = header.flags;
      trailing = trailing;
      fits = starts.fits.flags;
      is = starts.is
          ∙ ap (λ h. header_text h ++ trailing) is;
      few = few_within count place header within;
      near = omega arith;
    }

good_block : (count place : ℕ) (rest : List ℕ) (header : BlockHeader) (payload trailing : List ℕ) (block : Block)
    → StartsWith rest header (payload ++ trailing) → ¬ PassesLimit count place header
    → is_unknown_mandatory header.name header.flags ≡ false → length payload ≡ header.size
    → Spells block header.name payload → GoodBlock count place rest
good_block count place rest header payload trailing block starts within known long spells =
    let made = makes_block count place header payload block starts.fits within known long spells in
    record {
      block = record { flags = header.flags; block = block };
      trailing = trailing;
      good = made.good;
      is = starts.is ∙ sym (append_assoc (header_text header) payload trailing) ∙ ap (λ t. t ++ trailing) (sym made.is);
      few = made.few;
      near = made.near;
    }

block_or_end : (count place : ℕ) (rest : List ℕ) (header : BlockHeader) (trailing : List ℕ) → AreBytes rest
    → StartsWith rest header trailing → ¬ PassesLimit count place header → is_unknown_mandatory header.name header.flags ≡ false
    → header.size ≤ length trailing
    → BreaksFirst count place rest ⊎ (GoodBlock count place rest ⊎ TheEnd count place rest)
block_or_end count place rest header trailing bytes starts within known whole =
    let payload = take header.size trailing in
    let long : length payload ≡ header.size = omega (arith, length-take header.size trailing) in
    let parts : StartsWith rest header (payload ++ drop header.size trailing) =
    subst (λ b. StartsWith rest header b) (sym (take-append-drop header.size trailing)) starts in
    let are = AreBytes-take header.size trailing (AreBytes-after (header_text header) trailing (subst AreBytes starts.is bytes)) in
    elim (same_or_not header.name end_name) [
      | inl is_end ↦ inr (inr (the_end count place rest header trailing starts within is_end))
      | inr other ↦ elim (decided header.name payload starts.fits.name other are) [
        | inl spelled ↦ inr (inl
            (good_block count place rest header payload (drop header.size trailing) spelled.0 parts within known long spelled.1))
        | inr broken ↦ inl (
          Malformed broken.0,
          first_malformed count place rest header payload
              (drop header.size trailing) broken.0 parts within known long broken.1,
        )
      ]
    ]

-- what stands at a place
pub what_stands : (count place : ℕ) (rest : List ℕ) → AreBytes rest
    → BreaksFirst count place rest ⊎ (GoodBlock count place rest ⊎ TheEnd count place rest)
what_stands count place rest bytes =
    elim (cases_lt (length rest) 10) [
      | inl short ↦ inl (Truncated, first_short count place rest short)
      | inr long ↦
          let found = some_header rest bytes long in
          let header = found.0 in
          let trailing = found.1 in
          elim (first_limit count place rest header trailing found.2) [
            | inl first ↦ inl first
            | inr within ↦ elim (cases_Bool (is_unknown_mandatory header.name header.flags)) [
              | inl unknown ↦ inl (UnknownMandatory, first_unknown count place rest header trailing found.2 within unknown)
              | inr known ↦ elim (cases_lt (length trailing) header.size) [
                | inl short ↦ inl (Truncated, first_cut count place rest header trailing found.2 within known short)
                | inr whole ↦ block_or_end count place rest header trailing bytes found.2 within known whole
              ]
            ]
          ]
    ]
