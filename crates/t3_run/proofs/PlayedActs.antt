-- A play's acts so far, and what more acts, a line that was taken, a file that was put and other counts make of it.
use Rattle.std.proofs.Common.{◌≡◌, ℕ, ◌+◌, ◌≤◌, Bool, true, false, ◌||◌, List, [], ◌∷◌, ◌++◌, length, Option, Some, None, Ok, Err, refl, sym, ap, subst, ◌∙◌, append_assoc, arith}
use Rattle.std.specs.FinMap.{insert}
use Rattle.std.proofs.lemmas.List.{append-nil}
use Rattle.t3_io.specs.Files.{Files}
use Rattle.t3_io.specs.Session.{Session}
use Rattle.t3_io.specs.Putting.{PutsFile}
use Rattle.t3_io.specs.declared.refusal.DeviceRefusal.{DeviceRefusal}
use Rattle.t3_io.specs.declared.refusal.DeviceRefusal.TheVariants.{Fault}
use Rattle.t3_lines.specs.Lines.{limit}
use Rattle.t3_lines.specs.Reader.{ReaderValue, IsInputOf, Takes}
use Rattle.t3_lines.proofs.Inputs.{earlier_input}
use Rattle.t3_run.specs.Act.{Act, Puts, Asks, shown_by, files_by, files_after, LeavesActs, StopsBehind}
use Rattle.t3_run.specs.Asking.{AsksBy}
use Rattle.t3_run.specs.Run.{Terms, Ran, Runs, preceded_by, begun}
use Rattle.t3_run.specs.Running.{Outside, outside, IsRunOf, HasRunInto}
use Rattle.t3_run.specs.Inner.Playing.{Shifts, Play, HasPlayed, Rests, NoPuts, asks_in}
use Rattle.t3_run.proofs.Acts.{shown_by-append, asks_in-append, files_by-append, files_by-unput, files_after-append, files_after-unput, files_after-told, files_after-untold, unput-append}
use Rattle.t3_run.proofs.Asks.{asks-more, asks-longer, asks-line, some_input, reading-shown, reading-taken}
use Rattle.t3_run.proofs.Cutting.{cut_behind, fails_by}
use Rattle.t3_run.proofs.Runs.{preceded_by-preceded_by}

-- what stands in front of a rest, whatever the files are and whatever input the reader's bytes begin
abbrev pub Behind : Play → (acts : List Act) → ReaderValue → Rests → Rests → Type 0
Behind play acts reader Rest Next =
    (files : Option Files) (terms : Terms) → terms.width ≡ play.width → IsInputOf reader terms.input → (rest : Ran)
    → Next (files_after files acts) terms rest → Rest files terms (preceded_by acts rest)

-- ---- the files

-- the depot tells these files, where it told any at first
abbrev pub IsTold : Option Files → Option Files → Type 0
IsTold None now = Unit {0}
IsTold (Some files) now = now ≡ Some files

told_after : (before now : Option Files) (done : List Act) → LeavesActs before now done → IsTold (files_after before done) now
told_after None now done leaves = subst (λ (f : Option Files). IsTold f now) (sym (files_after-untold done)) tt
told_after (Some files) now done leaves = subst (λ (f : Option Files). IsTold f now) (sym (files_after-told files done)) leaves

-- behind acts of which the recent ones put nothing
files_of : (files : Option Files) (acts done recent : List Act) → acts ≡ done ++ recent → NoPuts recent
    → files_after files acts ≡ files_after files done
files_of files acts done recent is unput =
    ap (files_after files) is ∙ files_after-append files done recent ∙ files_after-unput (files_after files done) recent unput

files_left : (files : Files) (acts done recent : List Act) → acts ≡ done ++ recent → NoPuts recent → files_by files acts ≡ files_by files done
files_left files acts done recent is unput =
    ap (files_by files) is ∙ files_by-append files done recent ∙ files_by-unput (files_by files done) recent unput

leaves_all : (before now : Option Files) (acts done recent : List Act) → acts ≡ done ++ recent → NoPuts recent → LeavesActs before now done
    → LeavesActs before now acts
leaves_all None now acts done recent is unput leaves = tt
leaves_all (Some files) now acts done recent is unput leaves = leaves ∙ ap (λ f. Some f) (sym (files_left files acts done recent is unput))

-- ---- more acts, and what they show

-- all that the acts show, and what is pending of it
all_shown : (acts done recent : List Act) (said pending shown : List ℕ) → acts ≡ done ++ recent → shown_by recent ≡ said ++ pending
    → shown ≡ shown_by done ++ said → shown_by acts ≡ shown ++ pending
all_shown acts done recent said pending shown acts_are is shown_is =
    ap shown_by acts_are ∙ shown_by-append done recent ∙ ap (λ t. shown_by done ++ t) is ∙ sym (append_assoc (shown_by done) said pending)
    ∙ ap (λ t. t ++ pending) (sym shown_is)

pub played-shown : (play : Play) (Rest : Rests) (count : ℕ) (pending : List ℕ) (reader : ReaderValue) (now : Outside)
    → (played : HasPlayed play Rest count pending reader now) → shown_by played.acts ≡ played.shown ++ pending
played-shown play Rest count pending reader now played =
    all_shown played.acts played.done played.recent played.said pending played.shown played.acts_are played.is played.shown_is

pub played-more : (play : Play) (Rest Next : Rests) (count : ℕ) (acts : List Act) (old text new : List ℕ) (reader : ReaderValue)
    (files : Option Files) (mid after : Option Session)
    → asks_in acts ≡ 0 → NoPuts acts → shown_by acts ≡ text → Behind play acts reader Rest Next
    → HasPlayed play Rest count old reader (outside files mid) → Shifts mid after old text new → HasPlayed play Next count new reader (outside files after)
played-more play Rest Next count acts old text new reader files mid after none unput shown behind played shifts = record {
  acts = played.acts ++ acts;
  done = played.done;
  recent = played.recent ++ acts;
  acts_are = ap (λ a. a ++ acts) played.acts_are ∙ append_assoc played.done played.recent acts;
  unput = unput-append played.recent acts played.unput unput;
  said = played.said ++ shifts.said;
  is =
      shown_by-append played.recent acts ∙ (λ i. played.is i ++ shown i) ∙ append_assoc played.said old text
      ∙ ap (λ t. played.said ++ t) shifts.is ∙ sym (append_assoc played.said shifts.said new);
  shown = played.shown ++ shifts.said;
  shown_is = ap (λ t. t ++ shifts.said) played.shown_is ∙ append_assoc (shown_by played.done) played.said shifts.said;
  leaves = played.leaves;
  asks = asks-more played.acts acts play.before.session mid after played.shown shifts.said played.asks shifts.shows;
  reads = reading-shown play.before.session mid after reader shifts.said played.reads shifts.shows;
  counted = λ going.
      let sum = asks_in-append played.acts acts in
      let so_far = played.counted going in
      omega (arith, sum, none, so_far);
  onward = λ terms width input rest next.
      let here = files_after play.before.files played.done in
      let on = subst (λ (f : Option Files). Next f terms rest) (sym (files_after-unput here acts unput)) next in
      subst (λ (ran : Ran). Runs terms play.program play.steps (begun play.program play.before.files) ran)
      (preceded_by-preceded_by played.acts acts rest)
      (played.onward terms width input (preceded_by acts rest) (behind here terms width input rest on));
}

-- what was pending is shown
pub played-flushed : (play : Play) (Rest : Rests) (count : ℕ) (old new : List ℕ) (reader : ReaderValue) (files : Option Files)
    (mid after : Option Session) → HasPlayed play Rest count old reader (outside files mid) → Shifts mid after old [] new
    → HasPlayed play Rest count new reader (outside files after)
played-flushed play Rest count old new reader files mid after played shifts =
    played-more play Rest Rest count [] old [] new reader files mid after refl tt refl (λ files terms width input rest next. next) played shifts

-- the rest, told otherwise
pub played-as : (play : Play) (Rest Next : Rests) (count : ℕ) (pending : List ℕ) (reader : ReaderValue) (now : Outside)
    → ((files : Option Files) → IsTold files now.files → (terms : Terms) → terms.width ≡ play.width → IsInputOf reader terms.input → (rest : Ran)
    → Next files terms rest → Rest files terms rest)
    → HasPlayed play Rest count pending reader now → HasPlayed play Next count pending reader now
played-as play Rest Next count pending reader now told played = record {
  acts = played.acts;
  done = played.done;
  recent = played.recent;
  acts_are = played.acts_are;
  unput = played.unput;
  said = played.said;
  is = played.is;
  shown = played.shown;
  shown_is = played.shown_is;
  leaves = played.leaves;
  asks = played.asks;
  reads = played.reads;
  counted = played.counted;
  onward = λ terms width input rest next.
      let here = files_after play.before.files played.done in
      played.onward terms width input rest
      (told here (told_after play.before.files now.files played.done played.leaves) terms width input rest next);
}

still_open : (was is more : Bool) → is ≡ (was || more) → is ≡ false → was ≡ false
still_open false is more both going = refl
still_open true is more both going = absurd (true_false (sym both ∙ going))
  where
    true_false : true ≡ false → ⊥
    true_false same = absurd cc

-- a line was asked for, with nothing pending, and the reader took what it wanted
pub played-line : (play : Play) (Rest Next : Rests) (old new : ReaderValue) (files : Option Files) (mid after : Option Session)
    → Takes old new mid after → length new.taken ≤ limit → Behind play (Asks ∷ []) new Rest Next
    → HasPlayed play Rest old.given [] old (outside files mid) → HasPlayed play Next (old.given + 1) [] new (outside files after)
played-line play Rest Next old new files mid after takes few behind played =
    let all : shown_by played.acts ≡ played.shown =
    played-shown play Rest old.given [] old (outside files mid) played ∙ append-nil played.shown in
    record {
      acts = played.acts ++ Asks ∷ [];
      done = played.done;
      recent = played.recent ++ Asks ∷ [];
      acts_are = ap (λ a. a ++ Asks ∷ []) played.acts_are ∙ append_assoc played.done played.recent (Asks ∷ []);
      unput = unput-append played.recent (Asks ∷ []) played.unput tt;
      said = played.said;
      is = shown_by-append played.recent (Asks ∷ []) ∙ append-nil (shown_by played.recent) ∙ played.is;
      shown = played.shown;
      shown_is = played.shown_is;
      leaves = played.leaves;
      asks = asks-line played.acts play.before.session mid after played.shown old new all played.counted played.reads takes few played.asks;
      reads = reading-taken play.before.session mid after old new played.reads takes;
      counted = λ going.
          let so_far = played.counted (still_open old.is_ended new.is_ended _ takes.ended going) in
          asks_in-append played.acts (Asks ∷ []) ∙ ap (λ n. n + 1) so_far;
      onward = λ terms width input rest next.
          let here = files_after play.before.files played.done in
          subst (λ (ran : Ran). Runs terms play.program play.steps (begun play.program play.before.files) ran)
          (preceded_by-preceded_by played.acts (Asks ∷ []) rest)
          (played.onward terms width (earlier_input old new mid after terms.input takes input) (preceded_by (Asks ∷ []) rest)
          (behind here terms width input rest next));
    }

-- another count, once the input has ended or it is the same
pub played-counted : (play : Play) (Rest : Rests) (count other : ℕ) (pending : List ℕ) (reader : ReaderValue) (now : Outside)
    → (reader.is_ended ≡ false → count ≡ other) → HasPlayed play Rest count pending reader now → HasPlayed play Rest other pending reader now
played-counted play Rest count other pending reader now same played =
    record {
      acts = played.acts;
      done = played.done;
      recent = played.recent;
      acts_are = played.acts_are;
      unput = played.unput;
      said = played.said;
      is = played.is;
      shown = played.shown;
      shown_is = played.shown_is;
      leaves = played.leaves;
      asks = played.asks;
      reads = played.reads;
      counted = λ going. played.counted going ∙ same going;
      onward = played.onward;
    }

-- ---- a file is put

put_left : (before mid after : Option Files) (acts done recent : List Act) (name bytes : List ℕ) → acts ≡ done ++ recent → NoPuts recent
    → LeavesActs before mid done → PutsFile mid after name bytes (Ok tt) → LeavesActs before after (acts ++ Puts name bytes ∷ [])
put_left None mid after acts done recent name bytes is unput leaves puts = tt
put_left (Some files) mid after acts done recent name bytes is unput leaves puts =
    let told : after ≡ Some (insert (files_by files done) name bytes) =
    subst (λ (m : Option Files). PutsFile m after name bytes (Ok tt)) leaves puts in
    told ∙ ap (λ f. Some (insert f name bytes)) (sym (files_left files acts done recent is unput))
    ∙ ap (λ f. Some f) (sym (files_by-append files acts (Puts name bytes ∷ [])))

-- with nothing pending
pub played-put : (play : Play) (Rest Next : Rests) (count : ℕ) (name bytes : List ℕ) (reader : ReaderValue) (mid after : Option Files)
    (session : Option Session) → PutsFile mid after name bytes (Ok tt) → Behind play (Puts name bytes ∷ []) reader Rest Next
    → HasPlayed play Rest count [] reader (outside mid session) → HasPlayed play Next count [] reader (outside after session)
played-put play Rest Next count name bytes reader mid after session puts behind played =
    let put : List Act = Puts name bytes ∷ [] in
    let all : shown_by played.acts ≡ played.shown =
    played-shown play Rest count [] reader (outside mid session) played ∙ append-nil played.shown in
    let silent : shown_by (played.acts ++ put) ≡ shown_by played.acts = shown_by-append played.acts put ∙ append-nil (shown_by played.acts) in
    record {
      acts = played.acts ++ put;
      done = played.acts ++ put;
      recent = [];
      acts_are = sym (append-nil (played.acts ++ put));
      unput = tt;
      said = [];
      is = refl;
      shown = played.shown;
      shown_is = sym all ∙ sym silent ∙ sym (append-nil (shown_by (played.acts ++ put)));
      leaves = put_left play.before.files mid after played.acts played.done played.recent name bytes played.acts_are played.unput played.leaves puts;
      asks = asks-longer played.acts put play.before.session session played.shown played.asks;
      reads = played.reads;
      counted = λ going.
          let sum = asks_in-append played.acts put in
          let so_far = played.counted going in
          omega (arith, sum, so_far);
      onward = λ terms width input rest next.
          let here = files_after play.before.files played.done in
          let there : files_after play.before.files (played.acts ++ put) ≡ files_after here put =
          files_after-append play.before.files played.acts put
          ∙ ap (λ f. files_after f put) (files_of play.before.files played.acts played.done played.recent played.acts_are played.unput) in
          subst (λ (ran : Ran). Runs terms play.program play.steps (begun play.program play.before.files) ran)
          (preceded_by-preceded_by played.acts put rest)
          (played.onward terms width input (preceded_by put rest)
          (behind here terms width input rest (subst (λ (f : Option Files). Next f terms rest) there next)));
    }

-- ---- the end of what is done

-- with any rest
played-run : (play : Play) (Rest : Rests) (count : ℕ) (pending : List ℕ) (reader : ReaderValue) (now : Outside)
    → (played : HasPlayed play Rest count pending reader now) (input : List ℕ) → IsInputOf reader input → (rest : Ran)
    → Rest (files_after play.before.files played.done) (record { width = play.width; input = input }) rest
    → Runs (record { width = play.width; input = input }) play.program play.steps (begun play.program play.before.files) (preceded_by played.acts rest)
played-run play Rest count pending reader now played input is rest on =
    played.onward (record { width = play.width; input = input }) refl is rest on

-- cut short
pub played-into : {F : Type 0} (play : Play) (Rest : Rests) (count : ℕ) (pending : List ℕ) (reader : ReaderValue) (now : Outside)
    → ((files : Option Files) (terms : Terms) → (rest : Ran) × Rest files terms rest) → HasPlayed play Rest count pending reader now
    → HasRunInto F play.program play.steps play.width play.before now
played-into {F} play Rest count pending reader now some played =
    let input = some_input play.before.session now.session reader played.reads in
    let rest = some (files_after play.before.files played.done) (record { width = play.width; input = input.0 }) in
    let cut = cut_behind F play.before.files now.files played.done played.recent rest.0.acts played.said pending played.unput played.leaves played.is in
    record {
      ran = preceded_by played.acts rest.0;
      run = record {
        input = input.0;
        is_input = input.1;
        runs = played-run play Rest count pending reader now played input.0 input.2 rest.0 rest.1;
      };
      done = cut.done;
      rest = cut.rest;
      acts_are = ap (λ a. a ++ rest.0.acts) played.acts_are ∙ cut.is;
      said = played.shown;
      stops = subst (λ (s : List ℕ). StopsBehind F play.before.files cut.done cut.rest now.files s) (sym played.shown_is) cut.stops;
      asks = asks-longer played.acts rest.0.acts play.before.session now.session played.shown played.asks;
    }

-- cut short while a text was put out
pub shifted-into : {F : Type 0} (play : Play) (Rest Next : Rests) (count : ℕ) (acts : List Act) (old text left : List ℕ) (reader : ReaderValue)
    (files : Option Files) (mid after : Option Session)
    → asks_in acts ≡ 0 → NoPuts acts → shown_by acts ≡ text → Behind play acts reader Rest Next
    → ((files : Option Files) (terms : Terms) → (rest : Ran) × Next files terms rest)
    → HasPlayed play Rest count old reader (outside files mid) → Shifts mid after old text left
    → HasRunInto F play.program play.steps play.width play.before (outside files after)
shifted-into play Rest Next count acts old text left reader files mid after none unput shown behind some played shifts =
    played-into play Next count left reader (outside files after) some
    (played-more play Rest Next count acts old text left reader files mid after none unput shown behind played shifts)

-- cut short in a put
put_stops : {F : Type 0} (before mid after : Option Files) (acts done recent rest : List Act) (name bytes shown : List ℕ) (e : DeviceRefusal) → (e ≡ Fault → F)
    → acts ≡ done ++ recent → NoPuts recent → LeavesActs before mid done → PutsFile mid after name bytes (Err e) → shown ≡ shown_by acts
    → StopsBehind F before acts (Puts name bytes ∷ rest) after shown
put_stops None mid after acts done recent rest name bytes shown e faulted is unput leaves puts all = tt
put_stops (Some files) mid after acts done recent rest name bytes shown e faulted is unput leaves puts all =
    let there : mid ≡ Some (files_by files acts) = leaves ∙ ap (λ f. Some f) (sym (files_left files acts done recent is unput)) in
    (fails_by (files_by files acts) after name bytes e faulted (subst (λ (m : Option Files). PutsFile m after name bytes (Err e)) there puts), all)

pub put-into : {F : Type 0} (play : Play) (Rest Next : Rests) (count : ℕ) (name bytes : List ℕ) (reader : ReaderValue) (mid after : Option Files)
    (session : Option Session) (e : DeviceRefusal) → (e ≡ Fault → F) → PutsFile mid after name bytes (Err e) → Behind play (Puts name bytes ∷ []) reader Rest Next
    → ((files : Option Files) (terms : Terms) → (rest : Ran) × Next files terms rest)
    → HasPlayed play Rest count [] reader (outside mid session) → HasRunInto F play.program play.steps play.width play.before (outside after session)
put-into play Rest Next count name bytes reader mid after session e faulted puts behind some played =
    let put : List Act = Puts name bytes ∷ [] in
    let here = files_after play.before.files played.done in
    let input = some_input play.before.session session reader played.reads in
    let terms : Terms = record { width = play.width; input = input.0 } in
    let rest = some (files_after here put) terms in
    let all : shown_by played.acts ≡ played.shown =
    played-shown play Rest count [] reader (outside mid session) played ∙ append-nil played.shown in
    record {
      ran = preceded_by played.acts (preceded_by put rest.0);
      run = record {
        input = input.0;
        is_input = input.1;
        runs =
            played-run play Rest count [] reader (outside mid session) played input.0 input.2 (preceded_by put rest.0)
            (behind here terms refl input.2 rest.0 rest.1);
      };
      done = played.acts;
      rest = Puts name bytes ∷ rest.0.acts;
      acts_are = refl;
      said = played.shown;
      stops =
          put_stops play.before.files mid after played.acts played.done played.recent rest.0.acts name bytes played.shown e faulted played.acts_are
          played.unput played.leaves puts (sym all);
      asks = asks-longer played.acts (Puts name bytes ∷ rest.0.acts) play.before.session session played.shown played.asks;
    }

-- all of it was done, and this is the run
pub played-all : (play : Play) (Rest : Rests) (count : ℕ) (reader : ReaderValue) (now : Outside) (last : Ran) → last.acts ≡ []
    → ((files : Option Files) (terms : Terms) → Rest files terms last) → HasPlayed play Rest count [] reader now
    → (ran : Ran) × (ran ≡ record last { acts = ran.acts }) × IsRunOf play.program play.steps play.width play.before ran
    × LeavesActs play.before.files now.files ran.acts × AsksBy ran.acts play.before.session now.session (shown_by ran.acts)
played-all play Rest count reader now last none is played =
    let input = some_input play.before.session now.session reader played.reads in
    let all : shown_by played.acts ≡ played.shown = played-shown play Rest count [] reader now played ∙ append-nil played.shown in
    let same : played.acts ++ last.acts ≡ played.acts = ap (λ a. played.acts ++ a) none ∙ append-nil played.acts in
    let here = files_after play.before.files played.done in
    let terms : Terms = record { width = play.width; input = input.0 } in
    let runs = played-run play Rest count [] reader now played input.0 input.2 last (is here terms) in
    let left = leaves_all play.before.files now.files played.acts played.done played.recent played.acts_are played.unput played.leaves in (
      preceded_by played.acts last,
      refl,
      record { input = input.0; is_input = input.1; runs = runs },
      subst (λ (a : List Act). LeavesActs play.before.files now.files a) (sym same) left,
      subst (λ (a : List Act). AsksBy a play.before.session now.session (shown_by a)) (sym same)
          (subst (λ (s : List ℕ). AsksBy played.acts play.before.session now.session s) (sym all) played.asks),
    )
