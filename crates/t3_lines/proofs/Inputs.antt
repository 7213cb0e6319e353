-- Other crates may use these: the input of which a reader has taken the first bytes, from call to call.
use Rattle.std.proofs.Common.{◌≡◌, ◌-◌, Bool, true, false, ◌||◌, Option, Some, List, ℕ, [], ◌∷◌, ◌++◌, length, refl, sym, ap, ◌∙◌, subst, append_assoc, arith}
use Rattle.std.proofs.lemmas.List.{length-append}
use Rattle.std.specs.List.{list_any, concat, AllByRecursion}
use Rattle.t3_io.specs.Session.{Session}
use Rattle.t3_lines.proofs.Sounding.{is_running}
use Rattle.t3_lines.specs.Reader.{ReaderValue, IsInputOf, IsReading, Takes, AreWanted, IsAskedWith, AsksFor, asked_by, is_nothing}

pub earlier_input : (old new : ReaderValue) (before after : Option Session) (input : List ℕ) → Takes old new before after
    → IsInputOf new input
    → IsInputOf old input
earlier_input old new before after input takes is = record {
  more = concat takes.pieces ++ is.more;
  is = is.is ∙ ap (λ b. b ++ is.more) takes.taken
      ∙ append_assoc old.taken (concat takes.pieces) is.more;
  ended = λ ended. λ i. concat (takes.once ended i) ++ is.ended (is_running old.is_ended new.is_ended _ takes.ended ended) i;
}

nothing_left : (was is : Bool) (pieces : List (List ℕ)) (left rest : List ℕ) → (was ≡ true → left ≡ []) → (was ≡ true → pieces ≡ [])
    → is ≡ (was || list_any is_nothing pieces)
    → left ≡ concat pieces ++ rest → (list_any is_nothing pieces ≡ true → rest ≡ []) → is ≡ true → rest ≡ []
nothing_left true is pieces left rest none once ended taken last now =
    sym (taken ∙ ap (λ ps. concat ps ++ rest) (once refl)) ∙ none refl
nothing_left false is pieces left rest none once ended taken last now = last (sym ended ∙ now)

pub still_reading : (old new : ReaderValue) (before after : Session) (input : List ℕ) → Takes old new (Some before) (Some after)
    → IsReading input old before → IsReading input new after
still_reading old new before after input takes reading = record {
  is = reading.is ∙ ap (λ b. old.taken ++ b) takes.told.left ∙ sym (append_assoc old.taken (concat takes.pieces) after.left)
      ∙ ap (λ b. b ++ after.left) (sym takes.taken);
  ended = nothing_left old.is_ended new.is_ended takes.pieces before.left after.left reading.ended
      takes.once takes.ended takes.told.left takes.told.ended;
}

pub input_read : (reader : ReaderValue) (session : Session) (input : List ℕ) → IsReading input reader session → IsInputOf reader input
input_read reader session input reading = record { more = session.left; is = reading.is; ended = reading.ended }

-- each read of these pieces was asked for
asked_each : (input taken left rest : List ℕ) (given shown : ℕ) (pieces : List (List ℕ)) → input ≡ taken ++ left → left ≡ concat pieces ++ rest
    → AreWanted given taken pieces → AllByRecursion (IsAskedWith input given shown) (asked_by (length left) shown pieces)
asked_each input taken left rest given shown [] is parts wanted = tt
asked_each input taken left rest given shown (piece ∷ pieces) is parts wanted =
    let others = concat pieces ++ rest in
    let here : left ≡ piece ++ others = parts ∙ append_assoc piece (concat pieces) rest in
    let size : length left - length piece ≡ length others = omega (arith, ap length here, length-append piece others) in
    let next : input ≡ (taken ++ piece) ++ others = is ∙ ap (λ b. taken ++ b) here ∙ sym (append_assoc taken piece others) in
    let P : ℕ → Type 0 = λ n. AllByRecursion (IsAskedWith input given shown) (asked_by n shown pieces) in (
      record { taken = taken; left = left; is = is; left_is = refl; shown_is = refl; unended = wanted.0.unended; room = wanted.0.room },
      subst P (sym size) (asked_each input (taken ++ piece) others rest given shown pieces next refl wanted.1),
    )

pub asked_for : (old new : ReaderValue) (before after : Session) (input : List ℕ) → Takes old new (Some before) (Some after)
    → IsReading input old before → AsksFor input old.given before after
asked_for old new before after input takes reading = record {
  added = asked_by (length before.left) (length before.shown) takes.pieces;
  is = takes.told.asked;
  each = asked_each input old.taken before.left after.left old.given (length before.shown) takes.pieces reading.is takes.told.left takes.wanted;
}
