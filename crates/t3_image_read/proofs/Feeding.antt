-- What a reader answers, from what its fields took.
use Rattle.std.proofs.Common.{◌≡◌, ◌≢◌, ℕ, ◌+◌, ◌-◌, ◌≤◌, List, [], ◌++◌, length, take, drop, None, Result, Ok, Err, refl, sym, ap, subst, ◌∙◌, ◌⊎◌, inl, inr, append_assoc, arith}
use Rattle.std.proofs.lemmas.List.{append-nil, take-append-drop, length-append, length-take, length-drop, length-take-le, take_rest}
use Rattle.t3_image_read.specs.declared.reader.Fed.{Fed}
use Rattle.t3_image_read.specs.declared.reader.Fed.TheVariants.{More, Done}
use Rattle.t3_image_read.specs.declared.refusal.ReadRefusal.{ReadRefusal}
use Rattle.t3_image_read.specs.declared.refusal.ReadRefusal.TheVariants.{At, NoMemory}
use Rattle.t3_image_read.specs.declared.refusal.ReadWhy.{ReadWhy}
use Rattle.t3_image_read.specs.declared.refusal.ReadWhy.TheVariants.{Truncated}
use Rattle.t3_image_read.specs.declared.taker.Taker.{Taker}
use Rattle.t3_image_read.specs.declared.taker.Parsed.{Parsed}
use Rattle.t3_image_read.specs.ImageText.{ImageValue, text}
use Rattle.t3_image_read.specs.Refusal.{Refused}
use Rattle.t3_image_read.specs.Reader.{Reading, Taking, RefusesBy, EndsIn, TakesPiece, Feeds, EndsTooEarly}
use Rattle.t3_image_read.specs.Inner.Steps.{stream_of, IsSound, RunsTo, TakesRun, TakesAll}
use Rattle.t3_image_read.proofs.Lists.{take_add}
use Rattle.t3_image_read.proofs.Steps.{is_cut}
use Rattle.t3_image_read.proofs.Uniqueness.{one_image, one_refusal, not_both}

-- ---- a piece, run by run

-- the stream after a run, where the prefix of the piece was taken before
trailing : (stream piece : List ℕ) (at : ℕ) → (stream ++ take at piece) ++ drop at piece ≡ stream ++ piece
trailing stream piece at = append_assoc stream (take at piece) (drop at piece) ∙ ap (λ p. stream ++ p) (take-append-drop at piece)

-- the rest of a piece, as a slice gives it
rest_is : (piece : List ℕ) (at : ℕ) → take (length piece - at) (drop at piece) ≡ drop at piece
rest_is piece at = take_rest piece at

pub refused_run : (before now piece : List ℕ) (at : ℕ) (refusal : ReadRefusal) → now ≡ before ++ take at piece
    → RefusesBy (now ++ take (length piece - at) (drop at piece)) refusal → RefusesBy (before ++ piece) refusal
refused_run before now piece at refusal so_far refuses =
    subst (λ s. RefusesBy s refusal) ((λ i. so_far i ++ rest_is piece at i) ∙ trailing before piece at) refuses

next_run : (old now new : Taker) (piece : List ℕ) (at count : ℕ) (parsed : Parsed) → stream_of now ≡ stream_of old ++ take at piece
    → TakesRun now new (take (length piece - at) (drop at piece)) (count, parsed)
    → RunsTo (stream_of old ++ take (at + count) piece) new parsed
next_run old now new piece at count parsed so_far run =
    let same : stream_of now ++ take count (take (length piece - at) (drop at piece)) ≡ stream_of old ++ take (at + count) piece =
    (λ i. so_far i ++ take count (rest_is piece at i)) ∙ append_assoc (stream_of old) (take at piece) (take count (drop at piece))
    ∙ ap (λ p. stream_of old ++ p) (sym (take_add at count piece)) in
    subst (λ s. RunsTo s new parsed) same run.runs

-- after one run more of the piece is taken, of which this came
pub goes_on : (old now new : Taker) (piece : List ℕ) (at count : ℕ) (given parsed : Parsed) → at ≤ length piece
    → stream_of now ≡ stream_of old ++ take at piece
    → TakesRun now new (take (length piece - at) (drop at piece)) (count, given) → given ≡ parsed
    → (at + count ≤ length piece) × RunsTo (stream_of old ++ take (at + count) piece) new parsed
goes_on old now new piece at count given parsed within so_far run is = (
  omega (arith, run.there, length-take (length piece - at) (drop at piece), length-drop at piece),
  subst (RunsTo (stream_of old ++ take (at + count) piece) new) is (next_run old now new piece at count given so_far run),
)

-- ---- what is answered

pub takes_more : (old new : Taker) (piece : List ℕ) → TakesAll old new piece None
    → TakesPiece (stream_of old) piece (Ok More) (Taking (stream_of new))
takes_more old new piece took = (ap Taking took.1, (new.place, subst (λ s. Refused s new.place Truncated) took.1 (is_cut new took.0)))

-- a stream that ends before its image does
pub cut_finishes : {V : Type 0} (t : Taker) (refusal : ReadRefusal) → IsSound t → refusal ≡ At t.place Truncated
    → EndsTooEarly {V = V} (stream_of t) (Err refusal)
cut_finishes t refusal sound is = (t.place, ap Err is, is_cut t sound)

-- ---- the other direction of each answer

whole_stream : (before piece : List ℕ) (used : ℕ) (image : ImageValue) → EndsIn before piece used image
    → text image ++ drop used piece ≡ before ++ piece
whole_stream before piece used image ends = ap (λ t. t ++ drop used piece) ends.is ∙ trailing before piece used

not_refused : (before piece : List ℕ) (used : ℕ) (image : ImageValue) (place : ℕ) (why : ReadWhy) → EndsIn before piece used image
    → Refused (before ++ piece) place why → ⊥
not_refused before piece used image place why ends refused =
    not_both image (drop used piece) place why ends.valid
    (subst (λ s. Refused s place why) (sym (whole_stream before piece used image ends)) refused)

-- a refusal whatever comes after is one where nothing does
pub refused_now : (stream : List ℕ) (place : ℕ) (why : ReadWhy) → RefusesBy stream (At place why) → Refused stream place why
refused_now stream place why refuses = subst (λ s. Refused s place why) (append-nil stream) (refuses.1 [])

same_used : (before piece : List ℕ) (m n : ℕ) (a b : ImageValue) → EndsIn before piece m a → EndsIn before piece n b → m ≡ n
same_used before piece m n a b ends_a ends_b =
    let same =
    one_image a b _ _ ends_a.valid ends_b.valid (whole_stream before piece m a ends_a ∙ sym (whole_stream before piece n b ends_b)) in
    let texts : before ++ take m piece ≡ before ++ take n piece = sym ends_a.is ∙ ap text same.0 ∙ ends_b.is in
    omega (
      arith,
      ap length texts,
      length-append before (take m piece),
      length-append before (take n piece),
      length-take-le m piece ends_a.within,
      length-take-le n piece ends_b.within,
    )

pub is_done : (before piece : List ℕ) (answer : Result Fed ReadRefusal) (after : Reading) → TakesPiece before piece answer after
    → (used : ℕ) (image : ImageValue) → EndsIn before piece used image → (answer ≡ Ok (Done used)) ⊎ (answer ≡ Err NoMemory)
is_done before piece (Ok More) after took used image ends = absurd (not_refused before piece used image took.1.0 Truncated ends took.1.1)
is_done before piece (Ok (Done m)) after took used image ends =
    inl (ap (λ n. Ok (Done n)) (same_used before piece m used took.0 image took.2 ends))
is_done before piece (Err (At place why)) after took used image ends =
    absurd (not_refused before piece used image place why ends (refused_now (before ++ piece) place why took.1))
is_done before piece (Err NoMemory) after took used image ends = inr refl

pub is_refused : (before piece : List ℕ) (answer : Result Fed ReadRefusal) (after : Reading) → TakesPiece before piece answer after
    → (place : ℕ) (why : ReadWhy) → Refused (before ++ piece) place why → why ≢ Truncated
    → (answer ≡ Err (At place why)) ⊎ (answer ≡ Err NoMemory)
is_refused before piece (Ok More) after took place why refused not_cut = absurd (not_cut (one_refusal _ _ _ _ _ refused took.1.1).1)
is_refused before piece (Ok (Done used)) after took place why refused not_cut =
    absurd (not_refused before piece used took.0 place why took.2 refused)
is_refused before piece (Err (At p w)) after took place why refused not_cut =
    let same = one_refusal (before ++ piece) p place w why (refused_now (before ++ piece) p w took.1) refused in
    inl (λ i. Err (At (same.0 i) (same.1 i)))
is_refused before piece (Err NoMemory) after took place why refused not_cut = inr refl

pub is_more : (before piece : List ℕ) (answer : Result Fed ReadRefusal) (after : Reading) → TakesPiece before piece answer after
    → (place : ℕ) → Refused (before ++ piece) place Truncated → (answer ≡ Ok More) ⊎ (answer ≡ Err NoMemory)
is_more before piece (Ok More) after took place refused = inl refl
is_more before piece (Ok (Done used)) after took place refused =
    absurd (not_refused before piece used took.0 place Truncated took.2 refused)
is_more before piece (Err (At p w)) after took place refused =
    absurd (took.1.0 (one_refusal (before ++ piece) p place w Truncated (refused_now (before ++ piece) p w took.1) refused).1)
is_more before piece (Err NoMemory) after took place refused = inr refl

-- the same of any reading that takes a stream
pub as_piece : (reading : Reading) (before piece : List ℕ) (answer : Result Fed ReadRefusal) (after : Reading)
    → Feeds reading piece answer after → reading ≡ Taking before → TakesPiece before piece answer after
as_piece reading before piece answer after feeds is = subst (λ r. Feeds r piece answer after) is feeds
