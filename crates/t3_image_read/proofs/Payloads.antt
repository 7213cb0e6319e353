-- A payload that is taken, from what is held or from a piece: its block is added, or it is refused.
use Rattle.std.proofs.Common.{◌≡◌, ℕ, ◌+◌, ◌<◌, List, [], ◌++◌, length, take, drop, Result, Ok, Err, refl, sym, ap, subst, ◌∙◌, append_assoc, arith}
use Rattle.std.proofs.lemmas.List.{append-nil, length-take-le, take-append-drop}
use Rattle.std.specs.Global.{Vec}
use Rattle.t3_blocks.specs.declared.block.Block.{Block}
use Rattle.t3_blocks.specs.declared.kind.BlockKind.{BlockKind}
use Rattle.t3_blocks.specs.declared.refusal.PayloadRefusal.{PayloadRefusal}
use Rattle.t3_blocks.specs.Parsing.{Gives}
use Rattle.t3_blocks.specs.Spelling.{Spells}
use Rattle.t3_image_read.specs.declared.header.BlockHeader.{BlockHeader}
use Rattle.t3_image_read.specs.declared.refusal.ReadRefusal.{ReadRefusal}
use Rattle.t3_image_read.specs.declared.taker.Part.TheVariants.{InHeader, InPayload}
use Rattle.t3_image_read.specs.declared.taker.Taker.{Taker}
use Rattle.t3_image_read.specs.declared.taker.Parsed.TheVariants.{Block as ABlock}
use Rattle.t3_image_read.specs.declared.image.PlacedBlock.{PlacedBlock}
use Rattle.t3_image_read.specs.ImageText.{prefix_text}
use Rattle.t3_image_read.specs.Validity.{IsGoodPrefix}
use Rattle.t3_image_read.specs.Inner.Faults.{payload_refusal}
use Rattle.t3_image_read.specs.Reader.{RefusesBy}
use Rattle.t3_image_read.specs.Inner.Steps.{size_of, text_before, stream_of, AtPart, IsSound, BeginsWhole, HasBlock, CountsBlock, RunsTo, TakesRun}
use Rattle.t3_image_read.proofs.Steps.{at_part, stream_of-at, RefusesBy-append, PayloadAdvances, payload_advances, payload_refuses}

-- the block that a whole payload gave is counted
block_counted : (m new : Taker) (header : BlockHeader) (kind : BlockKind) (block : Block) (placed : PlacedBlock) (payload : List ℕ)
    → AtPart (InPayload header kind) m → m.held.items ≡ [] → length payload ≡ header.size → Spells block header.name payload
    → HasBlock m new header block placed → RunsTo (text_before (InPayload header kind) m ++ payload) new (ABlock placed)
block_counted m new header kind block placed payload at none long spells added =
    let whole = subst (λ p. PayloadAdvances m.head m.blocks p header m.place payload) (sym added.is)
    (payload_advances m.head m.blocks block header kind m.place payload at.0.prefix at.0.place_is at.1 long spells) in
    let stream = text_before (InPayload header kind) m ++ payload in
    let on : Taker = record m { blocks = new.blocks; part = InHeader; place = m.place + (10 + header.size) } in
    let runs : RunsTo stream on (ABlock placed) = (
      record {
        at = record {
          prefix = subst (λ bs. IsGoodPrefix m.head bs) (sym added.blocks) whole.prefix;
          place_is = whole.place_is ∙ ap (λ bs. length (prefix_text m.head bs)) (sym added.blocks);
        };
        good = tt;
        short = omega (arith, ap length none);
      },
      ap (λ h. prefix_text m.head new.blocks ++ h) none ∙ append-nil (prefix_text m.head new.blocks)
          ∙ ap (prefix_text m.head) added.blocks ∙ whole.is,
      whole.good,
    ) in
    subst (λ t. RunsTo stream t (ABlock placed)) (sym added.others) runs

-- what is held says nothing of where a payload stands
AtPart-held : (t : Taker) (header : BlockHeader) (kind : BlockKind) (held : Vec ℕ) → AtPart (InPayload header kind) t
    → AtPart (InPayload header kind) (record t { held = held })
AtPart-held t header kind held at = (record { prefix = at.0.prefix; place_is = at.0.place_is }, at.1)

-- between the first two of these only what is held changes
module _ (t m new : Taker) (header : BlockHeader) (kind : BlockKind) (payload : List ℕ) (at : AtPart (InPayload header kind) t)
    (others : m ≡ record t { held = m.held }) (long : length payload ≡ header.size) where
  given_added : (given : Result Block PayloadRefusal) (placed : PlacedBlock) → m.held.items ≡ [] → Gives header.name payload given
      → CountsBlock m new header given (Ok placed) → RunsTo (text_before (InPayload header kind) t ++ payload) new (ABlock placed)
  given_added (Ok block) placed none spells added =
      let before_is : text_before (InPayload header kind) m ≡ text_before (InPayload header kind) t =
      ap (text_before (InPayload header kind)) others in
      let at_m : AtPart (InPayload header kind) m =
      subst (λ v. AtPart (InPayload header kind) v) (sym others) (AtPart-held t header kind m.held at) in
      subst (λ s. RunsTo (s ++ payload) new (ABlock placed)) before_is
      (block_counted m new header kind block placed payload at_m none long spells added)
  given_added (Err why) placed none gives added = absurd added

  given_refused : (given : Result Block PayloadRefusal) (refusal : ReadRefusal) → Gives header.name payload given
      → CountsBlock m new header given (Err refusal) → RefusesBy (text_before (InPayload header kind) t ++ payload) refusal
  given_refused (Ok block) refusal spells is = absurd is
  given_refused (Err why) refusal gives is =
      let place_is : m.place ≡ t.place = ap (λ (v : Taker). v.place) others in
      subst (λ r. RefusesBy (text_before (InPayload header kind) t ++ payload) r) (sym (is ∙ ap (λ p. payload_refusal p why) place_is))
      (payload_refuses t.head t.blocks header kind t.place payload why at.0.prefix at.0.place_is at.1 long gives)

-- before a payload of which nothing is held
stream_of-begins : (t : Taker) (rest : List ℕ) (header : BlockHeader) (kind : BlockKind) → BeginsWhole t rest (header, kind)
    → stream_of t ≡ text_before (InPayload header kind) t
stream_of-begins t rest header kind begins =
    stream_of-at t (InPayload header kind) begins.part ∙ ap (λ h. text_before (InPayload header kind) t ++ h) begins.none
    ∙ append-nil (text_before (InPayload header kind) t)

-- the payload is what is held
module _ (t m new : Taker) (header : BlockHeader) (kind : BlockKind) (part : t.part ≡ InPayload header kind) (at : AtPart t.part t)
    (others : m ≡ record t { held = m.held }) (long : length t.held.items ≡ header.size) (given : Result Block PayloadRefusal)
    (gives : Gives header.name t.held.items given) where
  pub held_added : (placed : PlacedBlock) → m.held.items ≡ [] → CountsBlock m new header given (Ok placed)
      → RunsTo (stream_of t) new (ABlock placed)
  held_added placed none added =
      subst (λ s. RunsTo s new (ABlock placed)) (sym (stream_of-at t (InPayload header kind) part))
      (given_added t m new header kind t.held.items (at_part t (InPayload header kind) part at) others long given placed none gives added)

  pub held_refused : (refusal : ReadRefusal) → CountsBlock m new header given (Err refusal) → RefusesBy (stream_of t) refusal
  held_refused refusal is =
      subst (λ s. RefusesBy s refusal) (sym (stream_of-at t (InPayload header kind) part))
      (given_refused t m new header kind t.held.items (at_part t (InPayload header kind) part at) others long given refusal gives is)

-- the payload begins a piece
module _ (t new : Taker) (rest : List ℕ) (header : BlockHeader) (kind : BlockKind) (sound : IsSound t)
    (begins : BeginsWhole t rest (header, kind)) (given : Result Block PayloadRefusal)
    (gives : Gives header.name (take header.size rest) given) where
  at : AtPart (InPayload header kind) t
  at = at_part t (InPayload header kind) begins.part sound.at

  long : length (take header.size rest) ≡ header.size
  long = length-take-le header.size rest begins.there

  pub whole_added : (placed : PlacedBlock) → CountsBlock t new header given (Ok placed)
      → TakesRun t new rest (length (take header.size rest), ABlock placed)
  whole_added placed added =
      let short = subst (λ p. length t.held.items < size_of p) begins.part sound.short in
      let same : text_before (InPayload header kind) t ++ take header.size rest
      ≡ stream_of t ++ take (length (take header.size rest)) rest =
      (λ i. sym (stream_of-begins t rest header kind begins) i ++ take (sym long i) rest) in
      record {
        some = omega (arith, long, short);
        there = omega (arith, long, begins.there);
        runs = subst (λ s. RunsTo s new (ABlock placed)) same
            (given_added t t new header kind (take header.size rest) at refl long given placed begins.none gives added);
      }

  pub whole_refused : (refusal : ReadRefusal) → CountsBlock t new header given (Err refusal) → RefusesBy (stream_of t ++ rest) refusal
  whole_refused refusal is =
      let before = text_before (InPayload header kind) t in
      let whole : (before ++ take header.size rest) ++ drop header.size rest ≡ stream_of t ++ rest =
      append_assoc before (take header.size rest) (drop header.size rest)
      ∙ (λ i. sym (stream_of-begins t rest header kind begins) i ++ take-append-drop header.size rest i) in
      subst (λ s. RefusesBy s refusal) whole
      (RefusesBy-append (before ++ take header.size rest) (drop header.size rest) refusal
      (given_refused t t new header kind (take header.size rest) at refl long given refusal gives is))
