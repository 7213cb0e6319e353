-- One step of the reader, over plain lists: a part that is whole, refused, or cut.
use Rattle.std.proofs.Common.{◌≡◌, ℕ, ◌+◌, ◌<◌, ◌≤◌, List, [], ◌∷◌, ◌++◌, length, take, Some, Err, refl, sym, ap, subst, ◌∙◌, inl, inr, append_assoc, arith}
use Rattle.std.proofs.lemmas.List.{length-append}
use Rattle.std.specs.Global.{Vec}
use Rattle.t3_blocks.specs.declared.block.Block.{Block}
use Rattle.t3_blocks.specs.declared.kind.BlockKind.{BlockKind}
use Rattle.t3_blocks.specs.declared.refusal.PayloadRefusal.{PayloadRefusal}
use Rattle.t3_blocks.specs.declared.refusal.PayloadRefusal.TheVariants as payloads
use Rattle.t3_blocks.specs.Parsing.{Gives}
use Rattle.t3_blocks.specs.BlockName.{end_name, is_unknown_mandatory}
use Rattle.t3_blocks.specs.Spelling.{Spells}
use Rattle.t3_blocks.specs.Malformed.{IsMalformed}
use Rattle.t3_image_read.specs.declared.header.BlockHeader.{BlockHeader}
use Rattle.t3_image_read.specs.declared.image.Head.{Head}
use Rattle.t3_image_read.specs.declared.image.PlacedBlock.{PlacedBlock}
use Rattle.t3_image_read.specs.declared.refusal.ReadRefusal.{ReadRefusal}
use Rattle.t3_image_read.specs.declared.refusal.ReadRefusal.TheVariants.{At, NoMemory}
use Rattle.t3_image_read.specs.declared.refusal.ReadWhy.{ReadWhy}
use Rattle.t3_image_read.specs.declared.refusal.ReadWhy.TheVariants.{TooLong, TooMany, UnknownMandatory, Malformed, EofSize, Truncated}
use Rattle.t3_image_read.specs.declared.taker.Part.{Part}
use Rattle.t3_image_read.specs.declared.taker.Part.TheVariants.{InHead, InHeader, InPayload}
use Rattle.t3_image_read.specs.declared.taker.Taker.{Taker}
use Rattle.t3_image_read.specs.ImageText.{head_text, header_text, block_text, prefix_text, end_header, text}
use Rattle.t3_image_read.specs.Validity.{IsHead, IsHeader, IsGood, IsGoodPrefix}
use Rattle.t3_image_read.specs.Refusal.{IsFirstBroken, head_place, BlockBreaks, Refused}
use Rattle.t3_image_read.specs.declared.header.HeadFault.{HeadFault}
use Rattle.t3_image_read.specs.declared.header.HeadFault.TheVariants as heads
use Rattle.t3_image_read.specs.declared.header.HeaderFault.{HeaderFault}
use Rattle.t3_image_read.specs.declared.header.HeaderFault.TheVariants as headers
use Rattle.t3_image_read.specs.Inner.Faults.{head_why, header_why, payload_refusal, HasHeadFault, IsAllowed, HasHeaderFault}
use Rattle.t3_image_read.specs.Reader.{RefusesBy}
use Rattle.t3_image_read.specs.Inner.Steps.{size_of, text_before, stream_of, AtBlock, IsOpen, AtPart, HoldsGood, IsSound, Holds, ComesToEnd}
use Rattle.t3_image_read.proofs.Headers.{length-header_text}
use Rattle.t3_image_read.proofs.Heads.{length-head_text}
use Rattle.t3_image_read.proofs.HeadFaults.{differs-append, good-append, other-append}
use Rattle.t3_image_read.proofs.Firsts.{first_signature, first_version, first_head_cut}
use Rattle.t3_image_read.proofs.Existence.{valid_image}
use Rattle.t3_image_read.proofs.Places.{first_short, first_cut, first_malformed, first_unknown, first_many, first_loaded, first_late, spelled_text, few_within, near_within, empty_end}
use Rattle.t3_image_read.proofs.Push.{prefix_text-push, prefix_text-head, IsGoodPrefix-push, IsGoodPrefix-head}

-- ---- what is known of a part by its name

pub at_part : (t : Taker) (part : Part) → t.part ≡ part → AtPart t.part t → AtPart part t
at_part t part is at = subst (λ p. AtPart p t) is at

pub stream_of-at : (t : Taker) (part : Part) → t.part ≡ part → stream_of t ≡ text_before part t ++ t.held.items
stream_of-at t part is = ap (λ p. text_before p t ++ t.held.items) is

pub within_part : (t : Taker) (part : Part) → t.part ≡ part → length t.held.items ≤ size_of t.part → length t.held.items ≤ size_of part
within_part t part is le = subst (λ p. length t.held.items ≤ size_of p) is le

text_before-held : (part : Part) (t : Taker) (held : Vec ℕ) → text_before part (record t { held = held }) ≡ text_before part t
text_before-held InHead t held = refl
text_before-held InHeader t held = refl
text_before-held (InPayload header kind) t held = refl

-- what is held is taken
pub stream_of-held : (old new : Taker) (rest : List ℕ) (count : ℕ) → Holds old new rest count
    → stream_of new ≡ stream_of old ++ take count rest
stream_of-held old new rest count holds =
    let before_is : text_before new.part new ≡ text_before old.part old =
    ap (λ (t : Taker). text_before t.part t) holds.others ∙ text_before-held old.part old new.held in
    (λ i. before_is i ++ holds.held i) ∙ sym (append_assoc (text_before old.part old) old.held.items (take count rest))

-- ---- refusals, whatever comes after

pub RefusesBy-append : (s more : List ℕ) (refusal : ReadRefusal) → RefusesBy s refusal → RefusesBy (s ++ more) refusal
RefusesBy-append s more (At place why) refuses =
    (refuses.0, λ trailing. subst (λ t. Refused t place why) (sym (append_assoc s more trailing)) (refuses.1 (more ++ trailing)))
RefusesBy-append s more NoMemory refuses = tt

pub head_refused : (held : List ℕ) (fault : HeadFault) → HasHeadFault held (Some fault)
    → RefusesBy held (At (head_place (head_why fault)) (head_why fault))
head_refused held heads.Signature fault =
    ((λ e. absurd cc), λ more. inl (record { first = first_signature (held ++ more) (differs-append held more fault); place_is = refl }))
head_refused held heads.Version fault =
    let long = fault.1.0 in (
      (λ e. absurd cc),
      λ more. inl
          (record {
            first = first_version (held ++ more) (good-append held more (omega arith) fault.0) (other-append held more fault.1);
            place_is = refl;
          }),
    )

-- after a good prefix a header that breaks a rule is refused
at_header : (head : Head) (blocks : List PlacedBlock) (place : ℕ) (header : BlockHeader) (held : List ℕ) (why : ReadWhy)
    → IsGoodPrefix head blocks → place ≡ length (prefix_text head blocks) → header_text header ≡ held
    → ((more : List ℕ) → IsFirstBroken (BlockBreaks (length blocks) place (header_text header ++ more)) why) → (more : List ℕ)
    → Refused ((prefix_text head blocks ++ held) ++ more) place why
at_header head blocks place header held why prefix place_is is first more =
    inr (record {
      head = head;
      blocks = blocks;
      rest = header_text header ++ more;
      prefix = prefix;
      stream_is = append_assoc (prefix_text head blocks) held more ∙ ap (λ h. prefix_text head blocks ++ (h ++ more)) (sym is);
      place_is = place_is;
      first = first more;
    })

module _ (head : Head) (blocks : List PlacedBlock) (place : ℕ) (header : BlockHeader) (held : List ℕ) (prefix : IsGoodPrefix head blocks)
    (place_is : place ≡ length (prefix_text head blocks)) (fits : IsHeader header) (is : header_text header ≡ held) where
  pub header_refused : (fault : HeaderFault) → HasHeaderFault (length blocks) place header (Some fault)
      → RefusesBy (prefix_text head blocks ++ held) (At place (header_why fault))
  header_refused headers.TooMany fault = (
    (λ e. absurd cc),
    at_header head blocks place header held TooMany prefix place_is is
        (λ more. first_many _ _ _ header more (record { fits = fits; is = refl }) fault),
  )
  header_refused headers.EofSize fault = (
    (λ e. absurd cc),
    at_header head blocks place header held EofSize prefix place_is is
        (λ more. first_loaded _ _ _ header more (record { fits = fits; is = refl }) fault.0 fault.1),
  )
  header_refused headers.TooLong fault = (
    (λ e. absurd cc),
    at_header head blocks place header held TooLong prefix place_is is
        (λ more. first_late _ _ _ header more (record { fits = fits; is = refl }) fault.0 fault.1 fault.2),
  )
  header_refused headers.UnknownMandatory fault = (
    (λ e. absurd cc),
    at_header head blocks place header held UnknownMandatory prefix place_is is
        (λ more. first_unknown _ _ _ header more (record { fits = fits; is = refl }) fault.0 fault.1),
  )

-- ---- whole parts

-- a header that is whole is a good prefix
pub record HeadAdvances (head : Head) (blocks : List PlacedBlock) (held : List ℕ) : Type 0 where
  pub prefix : IsGoodPrefix head blocks
  pub place : 69 ≡ length (prefix_text head blocks)
  pub is : prefix_text head blocks ≡ held

pub head_advances : (head : Head) (blocks : List PlacedBlock) (held : List ℕ) → IsHead head → head_text head ≡ held → blocks ≡ []
    → HeadAdvances head blocks held
head_advances head blocks held is text none =
    subst (λ bs. HeadAdvances head bs held) (sym none) (record {
      prefix = IsGoodPrefix-head head is;
      place = sym (ap length (prefix_text-head head) ∙ length-head_text head is);
      is = prefix_text-head head ∙ text;
    })

-- the end after a good prefix ends a valid image
pub header_ends : (t : Taker) (header : BlockHeader) (held : List ℕ) → AtBlock t → IsHeader header → header_text header ≡ held
    → IsAllowed (length t.blocks) t.place header → header.name ≡ end_name
    → ComesToEnd t (prefix_text t.head t.blocks ++ held) header.flags
unfolding text
header_ends t header held at fits is allowed is_end =
    let none = empty_end _ _ header allowed.within is_end in
    let near = near_within _ _ header allowed.within in
    let few = few_within _ _ header allowed.within in
    let same : end_header header.flags ≡ header = λ i. record { name = sym is_end i; size = sym none i; flags = header.flags } in
    record {
      valid = valid_image t.head t.blocks header.flags at.prefix fits.flags few (omega (arith, at.place_is));
      is = ap (λ h. prefix_text t.head t.blocks ++ header_text h) same ∙ ap (λ h. prefix_text t.head t.blocks ++ h) is;
      size = omega (
        arith,
        at.place_is,
        length-append (prefix_text t.head t.blocks) held,
        ap length is,
        length-header_text header fits,
      );
    }

-- a payload that is whole makes a good block
pub record PayloadAdvances (head : Head) (blocks : List PlacedBlock) (placed : PlacedBlock) (header : BlockHeader) (place : ℕ)
    (payload : List ℕ) : Type 0 where
  pub good : IsGood placed
  pub prefix : IsGoodPrefix head (blocks ++ placed ∷ [])
  pub place_is : place + (10 + header.size) ≡ length (prefix_text head (blocks ++ placed ∷ []))
  pub is : prefix_text head (blocks ++ placed ∷ []) ≡ (prefix_text head blocks ++ header_text header) ++ payload

-- a payload that spells nothing is refused, whatever comes after
payload_refused : (head : Head) (blocks : List PlacedBlock) (header : BlockHeader) (kind : BlockKind) (place : ℕ) (payload : List ℕ)
    (items : ℕ) → IsGoodPrefix head blocks → place ≡ length (prefix_text head blocks) → IsOpen (length blocks) place header kind
    → length payload ≡ header.size → IsMalformed header.name payload items
    → RefusesBy ((prefix_text head blocks ++ header_text header) ++ payload) (At place (Malformed items))
payload_refused head blocks header kind place payload items prefix place_is open_ long malformed = (
  (λ e. absurd cc),
  λ more. inr (record {
    head = head;
    blocks = blocks;
    rest = header_text header ++ (payload ++ more);
    prefix = prefix;
    stream_is = append_assoc (prefix_text head blocks ++ header_text header) payload more
        ∙ append_assoc (prefix_text head blocks) (header_text header) (payload ++ more);
    place_is = place_is;
    first = first_malformed _ _ _ header payload more items
        (record { fits = open_.fits; is = refl }) open_.allowed.within open_.allowed.known long malformed;
  }),
)

pub payload_refuses : (head : Head) (blocks : List PlacedBlock) (header : BlockHeader) (kind : BlockKind) (place : ℕ) (payload : List ℕ)
    (refusal : PayloadRefusal) → IsGoodPrefix head blocks → place ≡ length (prefix_text head blocks)
    → IsOpen (length blocks) place header kind → length payload ≡ header.size → Gives header.name payload (Err refusal)
    → RefusesBy ((prefix_text head blocks ++ header_text header) ++ payload) (payload_refusal place refusal)
payload_refuses head blocks header kind place payload (payloads.Malformed items) prefix place_is open_ long malformed =
    payload_refused head blocks header kind place payload items prefix place_is open_ long malformed
payload_refuses head blocks header kind place payload payloads.NoMemory prefix place_is open_ long nothing = tt

pub payload_advances : (head : Head) (blocks : List PlacedBlock) (block : Block) (header : BlockHeader) (kind : BlockKind) (place : ℕ)
    (payload : List ℕ) → IsGoodPrefix head blocks → place ≡ length (prefix_text head blocks) → IsOpen (length blocks) place header kind
    → length payload ≡ header.size → Spells block header.name payload
    → PayloadAdvances head blocks (record { flags = header.flags; block = block }) header place payload
payload_advances head blocks block header kind place payload prefix place_is open_ long spells =
    let placed : PlacedBlock = record { flags = header.flags; block = block } in
    let near = near_within _ _ header open_.allowed.within in
    let few = few_within _ _ header open_.allowed.within in
    let is = spelled_text header payload block spells long in
    let size : length (block_text placed) ≡ 10 + header.size =
    ap length is ∙ omega (arith, length-append (header_text header) payload, length-header_text header open_.fits) in
    let good : IsGood placed = record {
      spellable = spells.spellable;
      size = omega (arith, ap length spells.payload_is, open_.fits.size);
      flags = open_.fits.flags;
      known = ap (λ name. is_unknown_mandatory name header.flags) spells.name_is ∙ open_.allowed.known;
    } in
    let pushed = prefix_text-push head blocks placed in
    record {
      good = good;
      prefix = IsGoodPrefix-push head blocks placed prefix good few (omega arith);
      place_is = omega (arith, ap length pushed, length-append (prefix_text head blocks) (block_text placed));
      is = pushed ∙ ap (λ t. prefix_text head blocks ++ t) is ∙ sym (append_assoc (prefix_text head blocks) (header_text header) payload);
    }

-- ---- a stream that ends here

pub cut_there : (part : Part) (t : Taker) → AtPart part t → HoldsGood part t.held.items → length t.held.items < size_of part
    → Refused (text_before part t ++ t.held.items) t.place Truncated
cut_there InHead t at good short =
    inl (record { first = first_head_cut t.held.items good.signature good.version short; place_is = at.1 })
cut_there InHeader t at good short =
    inr (record {
      head = t.head;
      blocks = t.blocks;
      rest = t.held.items;
      prefix = at.prefix;
      stream_is = refl;
      place_is = at.place_is;
      first = first_short _ _ t.held.items short;
    })
cut_there (InPayload header kind) t at good short =
    inr (record {
      head = t.head;
      blocks = t.blocks;
      rest = header_text header ++ t.held.items;
      prefix = at.0.prefix;
      stream_is = append_assoc (prefix_text t.head t.blocks) (header_text header) t.held.items;
      place_is = at.0.place_is;
      first = first_cut _ _ _ header t.held.items (record { fits = at.1.fits; is = refl }) at.1.allowed.within at.1.allowed.known short;
    })

pub is_cut : (t : Taker) → IsSound t → Refused (stream_of t) t.place Truncated
is_cut t sound = cut_there t.part t sound.at sound.good sound.short
