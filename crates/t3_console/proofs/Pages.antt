-- A page by the text that it has taken, and by its bytes.
use Rattle.std.proofs.Common.{◌≡◌, ℕ, Bool, true, false, cond, ◌||◌, Option, None, List, [], ◌∷◌, ◌++◌, sym, refl, ap, ◌∙◌, subst, append_assoc}
use Rattle.std.specs.List.{list_any}
use Rattle.std.proofs.lemmas.List.{append-nil}
use Rattle.t3_console.specs.Rendering.{is_separator, rendering, closed_rendering, part_after, last_line, newline_due}
use Rattle.t3_console.specs.Page.{PageValue, ended_part, open_word, shown, column_of, page_after, HasTaken, Says, Ends}
use Rattle.t3_console.specs.Inner.Stepping.{State, start, put, column_after, line_ending, after_byte, put_text, after_text}
use Rattle.t3_console.specs.Inner.Ending.{EndsLine}
use Rattle.t3_console.proofs.Stepping.{IsWhole, put_text-append, after_text-append, put_text-word, after_text-word, after_byte-separator}
use Rattle.t3_console.proofs.Rendering.{rendering_is}
use Rattle.t3_console.proofs.Lines.{column_put, column_text, newline_is}

-- ---- the ended part and the open word

parts_whole : (text : List ℕ) → ended_part text ++ open_word text ≡ text
unfolding ended_part part_after
parts_whole [] = refl
parts_whole (byte ∷ text) =
    let rest = parts_whole text in
    elim (list_any is_separator (byte ∷ text)) as (λ b. cond b (byte ∷ ended_part text) [] ++ cond b (open_word text)
    (byte ∷ text) ≡ byte ∷ text) [
      | true ↦ ap (λ t. byte ∷ t) rest
      | false ↦ refl
    ]

open_from : (byte : ℕ) (text : List ℕ) (some : Bool) → list_any is_separator (byte ∷ text) ≡ some → IsWhole (open_word text)
    → IsWhole (cond some (open_word text) (byte ∷ text))
open_from byte text true is whole = whole
open_from byte text false is whole = is

open_whole : (text : List ℕ) → IsWhole (open_word text)
unfolding part_after
open_whole [] = refl
open_whole (byte ∷ text) = open_from byte text (list_any is_separator (byte ∷ text)) refl (open_whole text)

ended_none : (text : List ℕ) → IsWhole text → ended_part text ≡ []
unfolding ended_part
ended_none [] whole = refl
ended_none (byte ∷ text) whole = rw whole refl

ended_some : (byte : ℕ) (text : List ℕ) → list_any is_separator (byte ∷ text) ≡ true → ended_part (byte ∷ text) ≡ byte ∷ ended_part text
unfolding ended_part
ended_some byte text some = rw some refl

or_false : (b : Bool) → (b || false) ≡ b
or_false true = refl
or_false false = refl

-- after the ended part there is no open word
closed_from : (width : ℕ) (s : State) (byte : ℕ) (text : List ℕ) (later : Bool) → list_any is_separator text ≡ later
    → (is_separator byte || later) ≡ true
    → (list_any is_separator text ≡ true → (after_text width (after_byte width s byte) (ended_part text)).word ≡ [])
    → (after_text width (after_byte width s byte) (ended_part text)).word ≡ []
closed_from width s byte text true is some rest = rest is
closed_from width s byte text false is some rest =
    let ends : is_separator byte ≡ true = sym (or_false (is_separator byte)) ∙ some in
    ap (λ t. (after_text width (after_byte width s byte) t).word) (ended_none text is)
    ∙ ap (λ t. t.word) (after_byte-separator width s byte ends)

ended_closed : (width : ℕ) (s : State) (text : List ℕ) → list_any is_separator text ≡ true
    → (after_text width s (ended_part text)).word ≡ []
ended_closed width s [] some = absurd cc
ended_closed width s (byte ∷ text) some =
    ap (λ t. (after_text width s t).word) (ended_some byte text some)
    ∙ closed_from width s byte text (list_any is_separator text) refl some (ended_closed width (after_byte width s byte) text)

closed_cases : (width : ℕ) (text : List ℕ) (some : Bool) → list_any is_separator text ≡ some
    → (after_text width start (ended_part text)).word ≡ []
closed_cases width text true is = ended_closed width start text is
closed_cases width text false is = ap (λ t. (after_text width start t).word) (ended_none text is)

start_closed : (width : ℕ) (text : List ℕ) → (after_text width start (ended_part text)).word ≡ []
start_closed width text = closed_cases width text (list_any is_separator text) refl

-- ---- what was put out

pub shown_is : (width : ℕ) (text : List ℕ) → shown width text ≡ put_text width start text
shown_is width text =
    let prefix = ended_part text in
    let after = after_text width start prefix in
    rendering_is width prefix
    ∙ ap (λ w. put_text width start prefix ++ put width after.column w) (start_closed width text)
    ∙ ap (λ rest. put_text width start prefix ++ rest) (sym (put_text-word width after (open_word text) (open_whole text)))
    ∙ sym (put_text-append width start prefix (open_word text))
    ∙ ap (put_text width start) (parts_whole text)

open_is : (width : ℕ) (text : List ℕ) → open_word text ≡ (after_text width start text).word
open_is width text =
    let prefix = ended_part text in
    let after = after_text width start prefix in
    sym (ap (λ t. (after_text width start t).word) (sym (parts_whole text))
    ∙ ap (λ t. t.word) (after_text-append width start prefix (open_word text))
    ∙ ap (λ t. t.word) (after_text-word width after (open_word text) (open_whole text))
    ∙ ap (λ w. w ++ open_word text) (start_closed width text))

column_is : (width : ℕ) (text : List ℕ) → column_of (last_line (shown width text)) ≡ (after_text width start text).column
unfolding part_after
column_is width text = ap (λ o. column_of (last_line o)) (shown_is width text) ∙ column_text width start text [] refl refl

abbrev pub page_at : ℕ → State → PageValue
page_at width s = record { width = width; column = s.column; word = s.word }

pub page_is : (width : ℕ) (text : List ℕ) → page_after width text ≡ page_at width (after_text width start text)
page_is width text =
    ap (λ c. record { width = width; column = c; word = open_word text }) (column_is width text)
    ∙ ap (λ w. record { width = width; column = (after_text width start text).column; word = w }) (open_is width text)

pub new_page : (width : ℕ) → record { width = width; column = None; word = [] } ≡ page_after width []
new_page width = sym (page_is width [])

-- ---- what the calls do

pub says : (page : PageValue) (taken piece out_old out_new : List ℕ) (column : Option ℕ) (word : List ℕ) → HasTaken page taken
    → out_new ≡ out_old ++ put_text page.width (record { column = page.column; word = page.word }) piece
    → record { column = column; word = word } ≡ after_text page.width (record { column = page.column; word = page.word }) piece
    → Says taken piece page (record { width = page.width; column = column; word = word }) out_old out_new
says page taken piece out_old out_new column word has put_is after_is =
    let width = page.width in
    let s = after_text width start taken in
    let stands : page ≡ page_at width s = has ∙ page_is width taken in
    let state : record { column = page.column; word = page.word } ≡ s = ap (λ p. record { column = p.column; word = p.word }) stands in
    record {
      page = ap (page_at width) (after_is ∙ ap (λ t. after_text width t piece) state
          ∙ sym (after_text-append width start taken piece)) ∙ sym (page_is width (taken ++ piece));
      out = record {
        more = put_text width s piece;
        put = put_is ∙ ap (λ t. out_old ++ put_text width t piece) state;
        is = ap (λ o. o ++ put_text width s piece) (shown_is width taken) ∙ sym (put_text-append width start taken piece)
            ∙ sym (shown_is width (taken ++ piece));
      };
    }

pub rendered : (page : PageValue) (taken : List ℕ) → HasTaken page taken → shown page.width taken ++ put page.width page.column page.word
    ≡ rendering page.width taken
rendered page taken has =
    let width = page.width in
    let s = after_text width start taken in
    let stands : page ≡ page_at width s = has ∙ page_is width taken in
    ap (λ o. o ++ put width page.column page.word) (shown_is width taken)
    ∙ ap (λ p. put_text width start taken ++ put width p.column p.word) stands
    ∙ sym (rendering_is width taken)

pub rests : (old new : PageValue) (taken out_old out_new : List ℕ) → HasTaken old taken → EndsLine old new false out_old out_new
    → Ends taken (rendering old.width taken) old new out_old out_new
rests old new taken out_old out_new has ends = record {
  page = ends.page ∙ new_page old.width;
  out = record {
    more = put old.width old.column old.word;
    put = ends.out ∙ ap (λ o. out_old ++ o) (append-nil (put old.width old.column old.word));
    is = rendered old taken has;
  };
}

-- the last line is empty where the column says so
newline_of : (page : PageValue) (taken : List ℕ) → HasTaken page taken
    → newline_due (last_line (rendering page.width taken)) ≡ line_ending (column_after page.width page.column page.word)
newline_of page taken has =
    let width = page.width in
    let s = after_text width start taken in
    let stands : page ≡ page_at width s = has ∙ page_is width taken in
    let at : column_of (last_line (shown width taken)) ≡ page.column = ap (λ p. p.column) (sym has) in
    let whole : IsWhole page.word = subst (λ (w : List ℕ). IsWhole w) (ap (λ p. p.word) (sym has)) (open_whole taken) in
    newline_is (last_line (rendering width taken))
    ∙ ap (λ o. line_ending (column_of (last_line o))) (sym (rendered page taken has))
    ∙ ap line_ending (column_put width page.column (shown width taken) page.word at whole)

pub closes : (old new : PageValue) (taken out_old out_new : List ℕ) → HasTaken old taken → EndsLine old new true out_old out_new
    → Ends taken (closed_rendering old.width taken) old new out_old out_new
closes old new taken out_old out_new has ends =
    let text = put old.width old.column old.word in
    let ending = line_ending (column_after old.width old.column old.word) in
    record {
      page = ends.page ∙ new_page old.width;
      out = record {
        more = text ++ ending;
        put = ends.out;
        is = sym (append_assoc (shown old.width taken) text ending) ∙ ap (λ o. o ++ ending) (rendered old taken has)
            ∙ ap (λ o. rendering old.width taken ++ o) (sym (newline_of old taken has));
      };
    }
