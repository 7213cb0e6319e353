-- Of the reads of an input the last alone may be made when nothing of it is left.
use Rattle.std.proofs.Common.{◌≡◌, ℕ, ◌-◌, ◌<◌, Bool, true, false, ◌||◌, List, [], ◌∷◌, ◌++◌, length, Some, refl, sym, ap, subst, ◌∙◌, append_assoc, arith}
use Rattle.std.specs.List.{AllByRecursion, concat, list_any}
use Rattle.std.proofs.lemmas.List.{append-nil, length-append}
use Rattle.t3_io.specs.Session.{Session}
use Rattle.t3_lines.specs.Reader.{ReaderValue, Takes, AreWanted, asked_by, is_nothing}
use Rattle.t3_run.specs.Asking.{IsLastAtEnd}

-- a read that was made when some of the input was left
abbrev pub WasMoreLeft : ℕ × ℕ → Type 0
WasMoreLeft read = 0 < read.0

-- what is left after a piece
rest_length : (left piece others : List ℕ) → left ≡ piece ++ others → length left - length piece ≡ length others
rest_length left piece others is = omega (arith, ap length is, length-append piece others)

nothing_of : (piece others left : List ℕ) → length left ≡ 0 → left ≡ piece ++ others → piece ≡ []
nothing_of [] others left none is = refl
nothing_of (byte ∷ piece) others left none is = absurd (omega (arith, none, ap length is, length-append (byte ∷ piece) others))

-- the reads of pieces that were wanted
pub last_of_wanted : (given : ℕ) (taken left rest : List ℕ) (shown : ℕ) (pieces : List (List ℕ)) → left ≡ concat pieces ++ rest
    → AreWanted given taken pieces → IsLastAtEnd (asked_by (length left) shown pieces)
last_of_wanted given taken left rest shown [] parts wanted = tt
last_of_wanted given taken left rest shown (piece ∷ pieces) parts wanted =
    let others = concat pieces ++ rest in
    let here : left ≡ piece ++ others = parts ∙ append_assoc piece (concat pieces) rest in
    let P : ℕ → Type 0 = λ n. IsLastAtEnd (asked_by n shown pieces) in (
      λ none. ap (λ ps. asked_by (length left - length piece) shown ps) (wanted.0.last (nothing_of piece others left none here)),
      subst P (sym (rest_length left piece others here)) (last_of_wanted given (taken ++ piece) others rest shown pieces refl wanted.1),
    )

-- the reads of pieces none of which was nothing
pub more_left : (left rest : List ℕ) (shown : ℕ) (pieces : List (List ℕ)) → left ≡ concat pieces ++ rest
    → list_any is_nothing pieces ≡ false → AllByRecursion WasMoreLeft (asked_by (length left) shown pieces)
more_left left rest shown [] parts some = tt
more_left left rest shown ([] ∷ pieces) parts some = absurd cc
more_left left rest shown ((byte ∷ bytes) ∷ pieces) parts some =
    let piece = byte ∷ bytes in
    let others = concat pieces ++ rest in
    let here : left ≡ piece ++ others = parts ∙ append_assoc piece (concat pieces) rest in
    let P : ℕ → Type 0 = λ n. AllByRecursion WasMoreLeft (asked_by n shown pieces) in (
      omega (arith, ap length here, length-append piece others),
      subst P (sym (rest_length left piece others here)) (more_left others rest shown pieces refl some),
    )

-- behind reads that were made when some was left
last_behind : (first reads : List (ℕ × ℕ)) → AllByRecursion WasMoreLeft first → IsLastAtEnd reads → IsLastAtEnd (first ++ reads)
last_behind [] reads more last = last
last_behind (read ∷ first) reads more last =
    (λ none. absurd (omega (arith, none, more.0)), last_behind first reads more.1 last)

-- a reader that hasn't come to the end has read nothing that was none
pub not_ended : (was is more : Bool) → is ≡ (was || more) → is ≡ false → (was ≡ false) × (more ≡ false)
not_ended true is more ended running = absurd cc
not_ended false is more ended running = (refl, sym ended ∙ running)

-- the reads of one more call, of which there are none once the input has ended
pub last_more : (mid after : Session) (old new : ReaderValue) (ended : Bool) (first : List (ℕ × ℕ)) → old.is_ended ≡ ended → IsLastAtEnd first
    → (old.is_ended ≡ false → AllByRecursion WasMoreLeft first) → (takes : Takes old new (Some mid) (Some after))
    → IsLastAtEnd (first ++ asked_by (length mid.left) (length mid.shown) takes.pieces)
last_more mid after old new true first is last more takes =
    subst (λ (ps : List (List ℕ)). IsLastAtEnd (first ++ asked_by (length mid.left) (length mid.shown) ps)) (sym (takes.once is))
    (subst IsLastAtEnd (sym (append-nil first)) last)
last_more mid after old new false first is last more takes =
    last_behind first (asked_by (length mid.left) (length mid.shown) takes.pieces) (more is)
    (last_of_wanted old.given old.taken mid.left after.left (length mid.shown) takes.pieces takes.told.left takes.wanted)
