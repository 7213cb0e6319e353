-- For other crates too: what was taken of the input when more was done.
use Rattle.std.proofs.Common.{◌≡◌, ℕ, ◌+◌, ◌≤◌, Bool, true, false, List, [], ◌∷◌, ◌++◌, length, Option, Some, None, refl, sym, ap, subst, ◌∙◌, append_assoc, arith}
use Rattle.std.specs.List.{AllByRecursion, concat}
use Rattle.std.proofs.lemmas.List.{append-nil, append_cancel_left, length-append}
use Rattle.t3_io.specs.Session.{Session}
use Rattle.t3_lines.specs.Lines.{limit, ended_lines}
use Rattle.t3_lines.specs.Reader.{ReaderValue, IsInputOf, IsReading, Takes, IsAskedWith, asked_by}
use Rattle.t3_lines.proofs.Inputs.{still_reading, asked_for, input_read}
use Rattle.t3_run.specs.Act.{Act, Asks, shown_by, shown_before}
use Rattle.t3_run.specs.Showing.{ShowsMore}
use Rattle.t3_run.specs.Asking.{IsInput, IsAskedFor, Moves, AsksBy}
use Rattle.t3_run.specs.Inner.Playing.{asks_in, HasReadOn, IsReadingOf}
use Rattle.t3_run.proofs.Acts.{shown_before-more, shown_before-here}
use Rattle.t3_run.proofs.LastReads.{WasMoreLeft, more_left, not_ended, last_more}

-- ---- lists of reads

each_as : (P Q : ℕ × ℕ → Type 0) (reads : List (ℕ × ℕ)) → ((read : ℕ × ℕ) → P read → Q read) → AllByRecursion P reads → AllByRecursion Q reads
each_as P Q [] all holds = tt
each_as P Q (read ∷ reads) all holds = (all read holds.0, each_as P Q reads all holds.1)

each_both : (P : ℕ × ℕ → Type 0) (a b : List (ℕ × ℕ)) → AllByRecursion P a → AllByRecursion P b → AllByRecursion P (a ++ b)
each_both P [] b first second = second
each_both P (read ∷ a) b first second = (first.0, each_both P a b first.1 second)

none_left : {X : Type 0} (a b : List X) → a ++ b ≡ [] → a ≡ []
none_left [] b none = refl
none_left (x ∷ a) b none = absurd cc

none_right : {X : Type 0} (a b : List X) → a ++ b ≡ [] → b ≡ []
none_right [] b none = none
none_right (x ∷ a) b none = absurd cc

-- ---- more acts, and more that was said

asked_longer : (acts more : List Act) (before : Session) (said text : List ℕ) (read : ℕ × ℕ) → IsAskedFor acts before said read
    → IsAskedFor (acts ++ more) before (said ++ text) read
asked_longer acts more before said text read asked = record {
  taken = asked.taken;
  left = asked.left;
  shown = asked.shown;
  later = asked.later ++ text;
  is = asked.is;
  left_is = asked.left_is;
  wanted = shown_before-more (ended_lines asked.taken) acts more asked.shown asked.wanted;
  said_is = ap (λ s. s ++ text) asked.said_is ∙ append_assoc asked.shown asked.later text;
  shown_is = asked.shown_is;
}

-- a text was shown behind them
pub asks-more : (acts more : List Act) (before mid after : Option Session) (said text : List ℕ) → AsksBy acts before mid said
    → ShowsMore mid after text → AsksBy (acts ++ more) before after (said ++ text)
asks-more acts more None mid after said text asks shows = tt
asks-more acts more (Some before) None after said text asks shows = absurd asks
asks-more acts more (Some before) (Some mid) after said text asks shows =
    subst (λ (s : Option Session). AsksBy (acts ++ more) (Some before) s (said ++ text)) (sym shows) (record {
      moved = record {
        taken = asks.moved.taken;
        left = asks.moved.left;
        few = asks.moved.few;
        shown = ap (λ s. s ++ text) asks.moved.shown ∙ append_assoc before.shown said text;
      };
      added = asks.added;
      asked = asks.asked;
      each = each_as (IsAskedFor acts before said) (IsAskedFor (acts ++ more) before (said ++ text)) asks.added
          (asked_longer acts more before said text) asks.each;
      last = asks.last;
      none = asks.none;
    })

-- and the same where no text was
pub asks-longer : (acts more : List Act) (before after : Option Session) (said : List ℕ) → AsksBy acts before after said
    → AsksBy (acts ++ more) before after said
asks-longer acts more None after said asks = tt
asks-longer acts more (Some before) None said asks = absurd asks
asks-longer acts more (Some before) (Some after) said asks =
    let P : List ℕ → Type 0 = λ s. AsksBy (acts ++ more) (Some before) (Some after) s in
    subst P (append-nil said) (asks-more acts more (Some before) (Some after) (Some after) said [] asks
    (λ i. Some (record after { shown = sym (append-nil after.shown) i })))

-- without any read
pub asks-none : (acts : List Act) (before after : Option Session) (said : List ℕ) → ShowsMore before after said → AsksBy acts before after said
asks-none acts None after said shows = tt
asks-none acts (Some before) after said shows =
    subst (λ (s : Option Session). AsksBy acts (Some before) s said) (sym shows) (record {
      moved = record { taken = []; left = refl; few = omega arith; shown = refl };
      added = [];
      asked = sym (append-nil before.asked);
      each = tt;
      last = tt;
      none = λ _. refl;
    })

-- what was moved is no more than that
pub asks-moves : (acts : List Act) (before after : Option Session) (said : List ℕ) → AsksBy acts before after said → Moves before after said
asks-moves acts None after said asks = tt
asks-moves acts (Some before) None said asks = absurd asks
asks-moves acts (Some before) (Some after) said asks = asks.moved

-- ---- the input

-- an input that the reader's bytes begin: what the console had, where it tells it
pub some_input : (before now : Option Session) (reader : ReaderValue) → IsReadingOf before now reader
    → (input : List ℕ) × IsInput before input × IsInputOf reader input
some_input None now reader reads =
    (reader.taken, tt, record { more = []; is = sym (append-nil reader.taken); ended = λ _. refl })
some_input (Some before) None reader reads = absurd reads
some_input (Some before) (Some now) reader reads = (before.left, refl, input_read reader now before.left reads.0)

-- showing takes nothing of it
pub reading-shown : (before mid after : Option Session) (reader : ReaderValue) (text : List ℕ) → IsReadingOf before mid reader
    → ShowsMore mid after text → IsReadingOf before after reader
reading-shown None mid after reader text reads shows = tt
reading-shown (Some before) None after reader text reads shows = absurd reads
reading-shown (Some before) (Some mid) after reader text reads shows =
    subst (λ (s : Option Session). IsReadingOf (Some before) s reader) (sym shows) (
      record { is = reads.0.is; ended = reads.0.ended },
      λ running. let on = reads.1 running in record { added = on.added; asked = on.asked; each = on.each },
    )

-- a reader takes it
pub reading-taken : (before mid after : Option Session) (old new : ReaderValue) → IsReadingOf before mid old → Takes old new mid after
    → IsReadingOf before after new
reading-taken None mid after old new reads takes = tt
reading-taken (Some before) None after old new reads takes = absurd reads
reading-taken (Some before) (Some mid) None old new reads takes = absurd takes.told
reading-taken (Some before) (Some mid) (Some after) old new reads takes =
    let added = asked_by (length mid.left) (length mid.shown) takes.pieces in (
      still_reading old new mid after before.left takes reads.0,
      λ running.
          let some = not_ended old.is_ended new.is_ended _ takes.ended running in
          let on = reads.1 some.0 in
          record {
            added = on.added ++ added;
            asked = takes.told.asked ∙ ap (λ a. a ++ added) on.asked ∙ append_assoc before.asked on.added added;
            each = each_both WasMoreLeft on.added added on.each
                (more_left mid.left after.left (length mid.shown) takes.pieces takes.told.left some.1);
          },
    )

-- ---- reads while a line is wanted

nothing_taken : (taken left all : List ℕ) → all ≡ [] ++ left → all ≡ taken ++ left → taken ≡ []
nothing_taken [] left all none is = refl
nothing_taken (byte ∷ taken) left all none is =
    absurd (omega (arith, ap length none, ap length is, length-append (byte ∷ taken) left))

-- without a read there are no pieces
no_pieces : (left shown : ℕ) (pieces : List (List ℕ)) → asked_by left shown pieces ≡ [] → concat pieces ≡ []
no_pieces left shown [] none = refl
no_pieces left shown (piece ∷ pieces) none = absurd cc

-- a read that was made while the line behind so many was wanted
asked_here : (acts more : List Act) (before : Session) (said : List ℕ) (given : ℕ) (read : ℕ × ℕ) → asks_in acts ≡ given
    → shown_by acts ≡ said → IsAskedWith before.left given (length before.shown + length said) read
    → IsAskedFor (acts ++ Asks ∷ more) before said read
asked_here acts more before said given read count all asked = record {
  taken = asked.taken;
  left = asked.left;
  shown = said;
  later = [];
  is = asked.is;
  left_is = asked.left_is;
  wanted = ap (λ n. shown_before n (acts ++ Asks ∷ more)) (asked.unended ∙ sym count) ∙ shown_before-here acts more ∙ ap (λ s. Some s) all;
  said_is = sym (append-nil said);
  shown_is = asked.shown_is;
}

-- the reads of one call, of which there are none once the input has ended
each_here : (acts more : List Act) (before mid after : Session) (said : List ℕ) (old new : ReaderValue) (ended : Bool)
    → old.is_ended ≡ ended → (old.is_ended ≡ false → asks_in acts ≡ old.given) → shown_by acts ≡ said
    → mid.shown ≡ before.shown ++ said → IsReading before.left old mid → (takes : Takes old new (Some mid) (Some after))
    → AllByRecursion (IsAskedFor (acts ++ Asks ∷ more) before said) (asked_by (length mid.left) (length mid.shown) takes.pieces)
each_here acts more before mid after said old new true is count all shown reads takes =
    subst (λ (ps : List (List ℕ)). AllByRecursion (IsAskedFor (acts ++ Asks ∷ more) before said) (asked_by (length mid.left) (length mid.shown) ps))
    (sym (takes.once is)) tt
each_here acts more before mid after said old new false is count all shown reads takes =
    let asked = asked_for old new mid after before.left takes reads in
    let these : asked.added ≡ asked_by (length mid.left) (length mid.shown) takes.pieces =
    append_cancel_left mid.asked asked.added (asked_by (length mid.left) (length mid.shown) takes.pieces) (sym asked.is ∙ takes.told.asked) in
    let size : length mid.shown ≡ length before.shown + length said = ap length shown ∙ length-append before.shown said in
    subst (λ (reads : List (ℕ × ℕ)). AllByRecursion (IsAskedFor (acts ++ Asks ∷ more) before said) reads) these
    (each_as (IsAskedWith before.left old.given (length mid.shown)) (IsAskedFor (acts ++ Asks ∷ more) before said) asked.added
    (λ read with. asked_here acts more before said old.given read (count is) all
    (subst (λ n. IsAskedWith before.left old.given n read) size with)) asked.each)

-- all that the acts show was shown, and a line was wanted: the reader took of the input what it wanted
pub asks-line : (acts : List Act) (before mid after : Option Session) (said : List ℕ) (old new : ReaderValue) → shown_by acts ≡ said
    → (old.is_ended ≡ false → asks_in acts ≡ old.given) → IsReadingOf before mid old → Takes old new mid after → length new.taken ≤ limit
    → AsksBy acts before mid said → AsksBy (acts ++ Asks ∷ []) before after said
asks-line acts None mid after said old new all count reads takes few asks = tt
asks-line acts (Some before) None after said old new all count reads takes few asks = absurd asks
asks-line acts (Some before) (Some mid) None said old new all count reads takes few asks = absurd takes.told
asks-line acts (Some before) (Some mid) (Some after) said old new all count reads takes few asks =
    let added = asked_by (length mid.left) (length mid.shown) takes.pieces in
    let now = still_reading old new mid after before.left takes reads.0 in
    let longer : AsksBy (acts ++ Asks ∷ []) (Some before) (Some mid) said = asks-longer acts (Asks ∷ []) (Some before) (Some mid) said asks in
    record {
      moved = record { taken = new.taken; left = now.is; few = few; shown = takes.told.shown ∙ asks.moved.shown };
      added = asks.added ++ added;
      asked = takes.told.asked ∙ ap (λ a. a ++ added) asks.asked ∙ append_assoc before.asked asks.added added;
      each = each_both (IsAskedFor (acts ++ Asks ∷ []) before said) asks.added added
          (each_as (IsAskedFor acts before said) (IsAskedFor (acts ++ Asks ∷ []) before said) asks.added (one_longer) asks.each)
          (each_here acts [] before mid after said old new old.is_ended refl count all asks.moved.shown reads.0 takes);
      last = last_more mid after old new old.is_ended asks.added refl asks.last (λ running. all_more (reads.1 running)) takes;
      none = λ none.
          let first : asks.moved.taken ≡ [] = asks.none (none_left asks.added added none) in
          let old_none : old.taken ≡ [] =
          nothing_taken old.taken mid.left before.left (asks.moved.left ∙ ap (λ t. t ++ mid.left) first) reads.0.is in
          takes.taken ∙ ap (λ t. t ++ concat takes.pieces) old_none
          ∙ no_pieces (length mid.left) (length mid.shown) takes.pieces (none_right asks.added added none);
    }
  where
    all_more : HasReadOn before mid → AllByRecursion WasMoreLeft asks.added
    all_more on =
        subst (λ (reads : List (ℕ × ℕ)). AllByRecursion WasMoreLeft reads)
        (append_cancel_left before.asked on.added asks.added (sym on.asked ∙ asks.asked)) on.each

    one_longer : (read : ℕ × ℕ) → IsAskedFor acts before said read → IsAskedFor (acts ++ Asks ∷ []) before said read
    one_longer read asked =
        subst (λ (s : List ℕ). IsAskedFor (acts ++ Asks ∷ []) before s read) (append-nil said)
        (asked_longer acts (Asks ∷ []) before said [] read asked)
