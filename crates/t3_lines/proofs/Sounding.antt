-- A reader's place after more was taken and a line was given, and what it gives.
use Rattle.std.proofs.Common.{◌≡◌, ℕ, ◌+◌, ◌-◌, ◌<◌, ◌≤◌, Bool, true, false, ◌||◌, ◌&&◌, nat_le, if◌then◌else◌, Option, Some, None, Ok, List, [], ◌∷◌, ◌++◌, length, take, drop, refl, sym, ap, ◌∙◌, append_assoc, arith, length-append}
use Rattle.std.specs.Prelude.{slice_get}
use Rattle.std.specs.List.{concat}
use Rattle.std.specs.Option.{option_map}
use Rattle.std.specs.Str.Lines.{lines, strip_carriage_return}
use Rattle.std.proofs.lemmas.List.{append-nil, take-append-le, drop-append-le, take-append-drop, length-drop, drop_all}
use Rattle.std.proofs.lemmas.Bool.Decides.{nat_tests}
use Rattle.std.proofs.lemmas.Option.{slice_get-map, slice_get_past}
use Rattle.std.proofs.Math.Seq.{take-add, drop-drop, take-append_seam}
use Rattle.t3_io.specs.Session.{Session}
use Rattle.t3_lines.specs.declared.line.WantedLine.TheVariants.{Line, EndOfInput, PastLimit}
use Rattle.t3_lines.specs.Lines.{limit, ended_lines, readable, lines_of, is_past_limit, line_or_end, wanted_line}
use Rattle.t3_lines.specs.Reader.{IsInputOf}
use Rattle.t3_lines.specs.Inner.Taking.{TakesWanted, IsEndFrom, IsOpen, FindsEnd}
use Rattle.t3_lines.specs.Inner.Sound.{IsSound}
use Rattle.t3_lines.proofs.Cutting.{ended-append, lines-ended, lines-last, rest_is, ended-through, slice_get-at}

was_running : (was is more : Bool) → is ≡ (was || more) → is ≡ false → was ≡ false
was_running true is more ended running = absurd cc
was_running false is more ended running = refl

pub is_running : (was is more : Bool) → is ≡ (was || more) → was ≡ true → is ≡ true
is_running true is more ended was_ended = ended
is_running false is more ended was_ended = absurd cc

-- more was taken
pub sound_more : (given start wanted : ℕ) (old new : List ℕ) (was is : Bool) (before after : Option Session) → IsSound old start given was
    → TakesWanted wanted old new was is before after → IsSound new start given is
sound_more given start wanted old new was is before after sound takes = record {
  within = omega (arith, sound.within, ap length takes.taken, length-append old (concat takes.pieces));
  limited = takes.limited;
  few = sound.few;
  short = short was refl;
  counted = λ running. sound.counted (was_running was is _ takes.ended running)
      ∙ ap ended_lines (sym (ap (take start) takes.taken ∙ take-append-le start old (concat takes.pieces) sound.within));
  before = sound.before;
  many = sound.many;
  cut = λ more last. cut more last;
}
  where
    nothing : was ≡ true → concat takes.pieces ≡ []
    nothing ended = ap concat (takes.once ended)

    short : (b : Bool) → was ≡ b → is ≡ true → length new < limit
    short true ended now = omega (
      arith,
      sound.short ended,
      ap length takes.taken,
      length-append old (concat takes.pieces),
      ap length
          (nothing ended),
    )
    short false running now = takes.short running now

    last_of : (more : List ℕ) → (is ≡ true → more ≡ []) → was ≡ true → concat takes.pieces ++ more ≡ []
    last_of more last ended = (λ i. nothing ended i ++ last (is_running was is _ takes.ended ended) i)

    cut : (more : List ℕ) → (is ≡ true → more ≡ []) → lines (new ++ more) ≡ sound.before ++ lines (drop start new ++ more)
    cut more last =
        let drops : drop start new ≡ drop start old ++ concat takes.pieces =
        ap (drop start) takes.taken ∙ drop-append-le start old (concat takes.pieces) sound.within in
        ap (λ t. lines (t ++ more)) takes.taken ∙ ap lines (append_assoc old (concat takes.pieces) more)
        ∙ sound.cut (concat takes.pieces ++ more) (last_of more last)
        ∙ ap (λ t. sound.before ++ lines t) (sym (append_assoc (drop start old) (concat takes.pieces) more)
        ∙ ap (λ d. d ++ more) (sym drops))

-- what the line's end makes of the rest
rest_of : (taken more : List ℕ) (start end : ℕ) → IsEndFrom start taken end
    → drop start taken ++ more ≡ take (end - start) (drop start taken) ++ 10 ∷ (drop (end + 1) taken ++ more)
rest_of taken more start end is =
    let rest = drop start taken in
    let line = take (end - start) rest in
    let behind : drop (end - start + 1) rest ≡ drop (end + 1) taken =
    drop-drop (end - start + 1) start taken ∙ ap (λ (n : ℕ). drop n taken) (omega (arith, is.at_least)) in
    ap (λ b. b ++ more) (rest_is rest (end - start) is.there)
    ∙ append_assoc line (10 ∷ drop (end - start + 1) rest) more ∙ ap (λ b. line ++ 10 ∷ (b ++ more)) behind

lines_after : (taken more : List ℕ) (start given end : ℕ) (is_ended : Bool) (sound : IsSound taken start given is_ended)
    → IsEndFrom start taken end
    → (is_ended ≡ true → more ≡ [])
    → lines (taken ++ more) ≡ sound.before ++ strip_carriage_return (take (end - start) (drop start taken)) ∷ lines
    (drop (end + 1) taken ++ more)
lines_after taken more start given end is_ended sound end_is last =
    sound.cut more last
    ∙ ap (λ b. sound.before ++ b) (ap lines (rest_of taken more start end end_is)
    ∙ lines-ended (take (end - start) (drop start taken)) (drop (end + 1) taken ++ more) end_is.there.first)

end_within : (taken : List ℕ) (start end : ℕ) → start ≤ length taken → IsEndFrom start taken end → end + 1 ≤ length taken
end_within taken start end within is = omega (arith, is.at_least, is.there.within, length-drop start taken)

counted_through : (taken : List ℕ) (start end : ℕ) → IsEndFrom start taken end
    → ended_lines (take (end + 1) taken) ≡ ended_lines (take start taken) + 1
counted_through taken start end is =
    let size : end + 1 ≡ start + (end - start + 1) = omega (arith, is.at_least) in
    ap ended_lines (ap (λ (n : ℕ). take n taken) size ∙ take-add start (end - start + 1) taken)
    ∙ ended-append (take start taken) (take (end - start + 1) (drop start taken))
    ∙ ap (λ (n : ℕ). ended_lines (take start taken) + n) (ended-through (drop start taken) (end - start) is.there)

-- a line was given up to its newline
pub sound_next : (taken : List ℕ) (start given end : ℕ) (is_ended : Bool) → IsSound taken start given is_ended → IsEndFrom start taken end
    → IsSound taken (end + 1) (given + 1) is_ended
sound_next taken start given end is_ended sound is = record {
  within = end_within taken start end sound.within is;
  limited = sound.limited;
  few = omega (arith, sound.few, is.at_least);
  short = sound.short;
  counted = λ running. ap (λ (n : ℕ). n + 1) (sound.counted running) ∙ sym (counted_through taken start end is);
  before = sound.before ++ strip_carriage_return (take (end - start) (drop start taken)) ∷ [];
  many = length-append sound.before (strip_carriage_return (take (end - start) (drop start taken)) ∷ []) ∙ ap (λ (n : ℕ). n + 1) sound.many;
  cut = λ more last. lines_after taken more start given end is_ended sound is last
      ∙ sym (append_assoc sound.before (strip_carriage_return (take (end - start) (drop start taken)) ∷ [])
      (lines (drop (end + 1) taken ++ more)));
}

below_limit : (input : List ℕ) (given : ℕ) → length input < limit → is_past_limit input given ≡ false
below_limit input given short =
    let is : nat_le limit (length input) ≡ false = grind (arith, nat_tests) in
    ap (λ b. b && nat_le (ended_lines (take limit input)) given) is

and_above : (b : Bool) (count given : ℕ) → given < count → (b && nat_le count given) ≡ false
and_above true count given less = grind (arith, nat_tests)
and_above false count given less = refl

and_below : (a b c d : ℕ) → a ≤ b → c ≤ d → (nat_le a b && nat_le c d) ≡ true
and_below a b c d first second = grind (arith, nat_tests)

-- a prefix of what was taken has no more newlines than the first bytes of the input up to the limit
counted_prefix : (taken more : List ℕ) (size : ℕ) → length taken ≤ limit → size ≤ length taken
    → ended_lines (take size taken) ≤ ended_lines (take limit (taken ++ more))
counted_prefix taken more size limited within =
    let split : limit ≡ size + (limit - size) = omega (arith, limited, within) in
    let is : ended_lines (take limit (taken ++ more)) ≡ ended_lines (take size taken) + ended_lines
    (take (limit - size) (drop size (taken ++ more))) =
    ap (λ (n : ℕ). ended_lines (take n (taken ++ more))) split
    ∙ ap ended_lines (take-add size (limit - size) (taken ++ more))
    ∙ ended-append (take size (taken ++ more)) (take (limit - size) (drop size (taken ++ more)))
    ∙ ap (λ b. ended_lines b + ended_lines (take (limit - size) (drop size (taken ++ more)))) (take-append-le size taken more within) in
    omega (arith, is)

-- the line at a place of an input that isn't past the limit there
line_there : (input : List ℕ) (given : ℕ) (before : List (List ℕ)) (line : List ℕ) (rest : List (List ℕ)) → length before ≡ given
    → lines input ≡ before ++ line ∷ rest → is_past_limit input given ≡ false → wanted_line input given ≡ Line (readable line)
line_there input given before line rest many is within =
    let found : slice_get (lines_of input) given ≡ Some (readable line) =
    slice_get-map readable (lines input) given
    ∙ ap (option_map readable) ((λ i. slice_get (is i) (sym many i)) ∙ slice_get-at before line rest) in
    ap (λ past. if past then PastLimit else line_or_end (slice_get (lines_of input) given)) within ∙ ap line_or_end found

-- the input isn't past the limit where a newline ends the line within what was taken
within_limit : (taken more : List ℕ) (start given end : ℕ) (is_ended : Bool) → IsSound taken start given is_ended
    → IsEndFrom start taken end
    → (is_ended ≡ true → more ≡ []) → is_past_limit (taken ++ more) given ≡ false
within_limit taken more start given end true sound is last =
    let short : length (taken ++ more) < limit = omega (arith, sound.short refl, length-append taken more, ap length (last refl)) in
    below_limit (taken ++ more) given short
within_limit taken more start given end false sound is last =
    let enough : given < ended_lines (take limit (taken ++ more)) =
    omega (
      arith,
      sound.counted refl,
      counted_through taken start end is,
      counted_prefix taken more (end + 1) sound.limited
          (end_within taken start end sound.within is),
    ) in
    and_above (nat_le limit (length (taken ++ more))) (ended_lines (take limit (taken ++ more))) given enough

-- a line that its newline ends
pub line_given : (taken more : List ℕ) (start given end : ℕ) (is_ended : Bool) → IsSound taken start given is_ended
    → IsEndFrom start taken end
    → (is_ended ≡ true → more ≡ [])
    → wanted_line (taken ++ more) given ≡ Line (readable (strip_carriage_return (take (end - start) (drop start taken))))
line_given taken more start given end is_ended sound is last =
    line_there (taken ++ more) given sound.before (strip_carriage_return (take (end - start) (drop start taken)))
    (lines (drop (end + 1) taken ++ more)) sound.many
    (lines_after taken more start given end is_ended sound is last) (within_limit taken more start given end is_ended sound is last)

lines_last : (taken : List ℕ) (start given : ℕ) (sound : IsSound taken start given true)
    → lines taken ≡ sound.before ++ lines (drop start taken)
lines_last taken start given sound =
    ap lines (sym (append-nil taken)) ∙ sound.cut [] (λ _. refl) ∙ ap (λ b. sound.before ++ lines b) (append-nil (drop start taken))

lines_to_end : (taken : List ℕ) (start given : ℕ) (sound : IsSound taken start given true) → IsOpen start taken true → start < length taken
    → lines taken ≡ sound.before ++ drop start taken ∷ []
lines_to_end taken start given sound is some =
    lines_last taken start given sound
    ∙ ap (λ ls. sound.before ++ ls) (lines-last (drop start taken) is.none (omega (arith, length-drop start taken)))

-- the last line, which none ends
pub last_given : (taken : List ℕ) (start given : ℕ) → IsSound taken start given true → IsOpen start taken true → start < length taken
    → wanted_line taken given ≡ Line (readable (drop start taken))
last_given taken start given sound is some =
    line_there taken given sound.before (drop start taken) [] sound.many (lines_to_end taken start given sound is some)
    (below_limit taken given (sound.short refl))

pub sound_last : (taken : List ℕ) (start given : ℕ) → IsSound taken start given true → IsOpen start taken true → start < length taken
    → IsSound taken (length taken) (given + 1) true
sound_last taken start given sound is some = record {
  within = omega arith;
  limited = sound.limited;
  few = omega (arith, sound.few);
  short = sound.short;
  counted = λ running. absurd cc;
  before = sound.before ++ drop start taken ∷ [];
  many = length-append sound.before (drop start taken ∷ []) ∙ ap (λ (n : ℕ). n + 1) sound.many;
  cut = λ more last. ap (λ b. lines (taken ++ b)) (last refl) ∙ ap lines (append-nil taken) ∙ lines_to_end taken start given sound is some
      ∙ sym (append-nil (sound.before ++ drop start taken ∷ []))
      ∙ ap (λ b. (sound.before ++ drop start taken ∷ []) ++ lines b)
      (sym ((λ i. drop_all (length taken) taken (omega arith) i ++ last refl i)));
}

-- no line is left
pub end_given : (taken : List ℕ) (start given : ℕ) → IsSound taken start given true → start ≡ length taken
    → wanted_line taken given ≡ EndOfInput
end_given taken start given sound at =
    let none : lines taken ≡ sound.before =
    lines_last taken start given sound ∙ ap (λ b. sound.before ++ lines b) (drop_all start taken (omega (arith, at)))
    ∙ append-nil sound.before in
    let past : slice_get (lines_of taken) given ≡ None =
    slice_get-map readable (lines taken) given
    ∙ ap (option_map readable) (slice_get_past (lines taken) given (omega (arith, ap length none, sound.many))) in
    ap (λ b. if b then PastLimit else line_or_end (slice_get (lines_of taken) given)) (below_limit taken given (sound.short refl))
    ∙ ap line_or_end past

-- as much was taken as may be, and no newline ends the line
pub past_given : (taken more : List ℕ) (start given : ℕ) → IsSound taken start given false → IsOpen start taken false
    → wanted_line (taken ++ more) given ≡ PastLimit
past_given taken more start given sound is =
    let full : length taken ≡ limit = omega (arith, sound.limited, is.full refl) in
    let all : take limit (taken ++ more) ≡ taken =
    ap (λ (n : ℕ). take n (taken ++ more)) (sym full) ∙ take-append_seam taken more in
    let same : ended_lines taken ≡ ended_lines (take start taken) + 0 =
    ap ended_lines (sym (take-append-drop start taken)) ∙ ended-append (take start taken) (drop start taken)
    ∙ ap (λ (n : ℕ). ended_lines (take start taken) + n) is.none in
    let few : ended_lines (take limit (taken ++ more)) ≤ given = omega (arith, ap ended_lines all, same, sound.counted refl) in
    let long : limit ≤ length (taken ++ more) = omega (arith, full, length-append taken more) in
    ap (λ b. if b then PastLimit else line_or_end (slice_get (lines_of (taken ++ more)) given))
    (and_below limit (length (taken ++ more)) (ended_lines (take limit (taken ++ more))) given long few)

-- the same, as a call of the reader has them
pub past_line : (taken input : List ℕ) (start given wanted : ℕ) (is_ended : Bool) → IsSound taken start given is_ended
    → FindsEnd start taken is_ended (Ok None)
    → is_ended ≡ false → given ≡ wanted → IsInputOf (record { taken = taken; given = given; is_ended = is_ended }) input
    → PastLimit ≡ wanted_line input wanted
past_line taken input start given wanted true sound found running same is = absurd cc
past_line taken input start given wanted false sound found running same is =
    sym ((λ i. wanted_line (is.is i) (sym same i)) ∙ past_given taken is.more start given sound found)

pub end_line : (taken input : List ℕ) (start given wanted : ℕ) (is_ended : Bool) → IsSound taken start given is_ended
    → is_ended ≡ true → start ≡ length taken → given ≡ wanted
    → IsInputOf (record { taken = taken; given = given; is_ended = is_ended }) input
    → EndOfInput ≡ wanted_line input wanted
end_line taken input start given wanted false sound ended at same is = absurd cc
end_line taken input start given wanted true sound ended at same is =
    let all : input ≡ taken = is.is ∙ ap (λ b. taken ++ b) (is.ended refl) ∙ append-nil taken in
    sym ((λ i. wanted_line (all i) (sym same i)) ∙ end_given taken start given sound at)

pub ended_line : (taken input line : List ℕ) (start given wanted end now : ℕ) (is_ended : Bool) → IsSound taken start given is_ended
    → FindsEnd start taken is_ended (Ok (Some end)) → given ≡ wanted
    → line ≡ readable (strip_carriage_return (take (end - start) (drop start taken)))
    → IsInputOf (record { taken = taken; given = now; is_ended = is_ended }) input → Line line ≡ wanted_line input wanted
ended_line taken input line start given wanted end now is_ended sound found same copy is =
    sym ((λ i. wanted_line (is.is i) (sym same i)) ∙ line_given taken is.more start given end is_ended sound found is.ended
    ∙ ap Line (sym copy))

pub last_line : (taken input line : List ℕ) (start given wanted now : ℕ) (is_ended : Bool) → IsSound taken start given is_ended
    → FindsEnd start taken is_ended (Ok None) → is_ended ≡ true → ¬ (start ≡ length taken) → given ≡ wanted
    → line ≡ readable (drop start taken)
    → IsInputOf (record { taken = taken; given = now; is_ended = is_ended }) input → Line line ≡ wanted_line input wanted
last_line taken input line start given wanted now false sound found ended some same copy is = absurd cc
last_line taken input line start given wanted now true sound found ended some same copy is =
    let all : input ≡ taken = is.is ∙ ap (λ b. taken ++ b) (is.ended refl) ∙ append-nil taken in
    sym ((λ i. wanted_line (all i) (sym same i)) ∙ last_given taken start given sound found (omega (arith, sound.within, some))
    ∙ ap Line (sym copy))

pub sound_end : (taken : List ℕ) (start given : ℕ) (is_ended : Bool) → IsSound taken start given is_ended
    → FindsEnd start taken is_ended (Ok None) → is_ended ≡ true → ¬ (start ≡ length taken)
    → IsSound taken (length taken) (given + 1) is_ended
sound_end taken start given false sound found ended some = absurd cc
sound_end taken start given true sound found ended some = sound_last taken start given sound found (omega (arith, sound.within, some))
