-- For other crates too: where acts are cut short, by what was shown of them and the files that they left.
use Rattle.std.proofs.Common.{◌≡◌, ℕ, List, [], ◌∷◌, ◌++◌, ◌⊎◌, inl, inr, Option, Some, None, Err, refl, sym, ap, subst, ◌∙◌, append_assoc}
use Rattle.std.proofs.lemmas.List.{append-nil}
use Rattle.t3_io.specs.declared.refusal.DeviceRefusal.{DeviceRefusal}
use Rattle.t3_io.specs.declared.refusal.DeviceRefusal.TheVariants.{Fault, NoMemory}
use Rattle.t3_io.specs.Putting.{PutsFile}
use Rattle.t3_run.specs.Inner.Playing.{NoPuts}
use Rattle.t3_run.proofs.Acts.{shown_by-append, files_by-append}
use Rattle.t3_io.specs.Files.{Files}
use Rattle.t3_run.specs.Act.{Act, Shows, Puts, Asks, shown_by, files_by, FailsToPut, StopsIn, LeavesActs, StopsBehind}

-- of two texts that begin one text, one begins the other
split : (text a said b : List ℕ) → text ++ a ≡ said ++ b
    → ((more : List ℕ) × (said ≡ text ++ more) × (a ≡ more ++ b)) ⊎ ((more : List ℕ) × (text ≡ said ++ more))
split [] a said b same = inl (said, refl, same)
split (x ∷ text) a [] b same = inr (x ∷ text, refl)
split (x ∷ text) a (y ∷ said) b same =
    let rest : text ++ a ≡ said ++ b = cc in
    let first : x ≡ y = cc in
    elim (split text a said b rest) [
      | inl (more, is, behind) ↦ inl (more, (λ i. sym first i ∷ is i), behind)
      | inr (more, is) ↦ inr (more, λ i. first i ∷ is i)
    ]

-- so many of the acts were done, and the next was cut short
pub record IsCutAt (F : Type 0) (files : Files) (acts : List Act) (said : List ℕ) : Type 0 where
  pub done : List Act
  pub rest : List Act
  pub is : acts ≡ done ++ rest
  pub stops : StopsIn F (files_by files done) (shown_by done) rest (Some files) said

behind_text : (F : Type 0) (files : Files) (text shown said : List ℕ) (rest : List Act) (left : Option Files) → StopsIn F files shown rest left said
    → StopsIn F files (text ++ shown) rest left (text ++ said)
behind_text F files text shown said [] left stops = (stops.0, ap (λ t. text ++ t) stops.1)
behind_text F files text shown said (Shows next ∷ rest) left (same, prefix) = (
  same,
  record {
    part = prefix.part;
    rest = prefix.rest;
    is = prefix.is;
    said_is = ap (λ t. text ++ t) prefix.said_is ∙ sym (append_assoc text shown prefix.part);
  },
)
behind_text F files text shown said (Puts name bytes ∷ rest) left (fails, is) = (fails, ap (λ t. text ++ t) is)
behind_text F files text shown said (Asks ∷ rest) left stops = (stops.0, ap (λ t. text ++ t) stops.1)

pub cut_at : (F : Type 0) (files : Files) (acts : List Act) (said unsaid : List ℕ) → NoPuts acts → shown_by acts ≡ said ++ unsaid
    → IsCutAt F files acts said
cut_at F files [] said unsaid none is = record { done = []; rest = []; is = refl; stops = (refl, nothing said is) }
  where
    nothing : (said : List ℕ) → [] ≡ said ++ unsaid → said ≡ []
    nothing [] same = refl
    nothing (x ∷ said) same = absurd cc
cut_at F files (Shows text ∷ acts) said unsaid none is =
    elim (split text (shown_by acts) said unsaid is) [
      | inl (more, said_is, behind) ↦
          let later = cut_at F files acts more unsaid none behind in
          record {
            done = Shows text ∷ later.done;
            rest = later.rest;
            is = ap (λ a. Shows text ∷ a) later.is;
            stops =
                subst (λ (s : List ℕ). StopsIn F (files_by files later.done) (text ++ shown_by later.done) later.rest (Some files) s)
                (sym said_is)
                (behind_text F (files_by files later.done) text (shown_by later.done) more later.rest (Some files) later.stops);
          }
      | inr (more, text_is) ↦
          record {
            done = [];
            rest = Shows text ∷ acts;
            is = refl;
            stops = (refl, record { part = said; rest = more; is = text_is; said_is = refl });
          }
    ]
cut_at F files (Puts name bytes ∷ acts) said unsaid none is = absurd none
cut_at F files (Asks ∷ acts) said unsaid none is =
    let later = cut_at F files acts said unsaid none is in
    record { done = Asks ∷ later.done; rest = later.rest; is = ap (λ a. Asks ∷ a) later.is; stops = later.stops }

-- ---- acts behind

-- before an act whatever it is
pub stops_before : (F : Type 0) (files : Files) (shown : List ℕ) (acts : List Act) → StopsIn F files shown acts (Some files) shown
stops_before F files shown [] = (refl, refl)
stops_before F files shown (Shows text ∷ acts) =
    (refl, record { part = []; rest = text; is = refl; said_is = sym (append-nil shown) })
stops_before F files shown (Puts name bytes ∷ acts) = (inl refl, refl)
stops_before F files shown (Asks ∷ acts) = (refl, refl)

pub stops_more : (F : Type 0) (files : Files) (shown : List ℕ) (rest more : List Act) (left : Option Files) (said : List ℕ)
    → StopsIn F files shown rest left said → StopsIn F files shown (rest ++ more) left said
stops_more F files shown [] more left said (left_is, said_is) =
    subst (λ (l : Option Files). StopsIn F files shown more l said) (sym left_is)
    (subst (λ (s : List ℕ). StopsIn F files shown more (Some files) s) (sym said_is) (stops_before F files shown more))
stops_more F files shown (Shows text ∷ rest) more left said stops = stops
stops_more F files shown (Puts name bytes ∷ rest) more left said stops = stops
stops_more F files shown (Asks ∷ rest) more left said stops = stops

-- a put that failed
pub fails_by : {F : Type 0} (files : Files) (after : Option Files) (name bytes : List ℕ) (e : DeviceRefusal) → (e ≡ Fault → F)
    → PutsFile (Some files) after name bytes (Err e) → FailsToPut F files name bytes after
fails_by files after name bytes Fault faulted puts = inr (faulted refl, puts)
fails_by files after name bytes NoMemory faulted puts = inl puts

-- the depot has faulted by what else is told
pub stops_as : {F G : Type 0} → (F → G) → (files : Files) (shown : List ℕ) (acts : List Act) (left : Option Files) (said : List ℕ)
    → StopsIn F files shown acts left said → StopsIn G files shown acts left said
stops_as told files shown [] left said stops = stops
stops_as told files shown (Shows text ∷ acts) left said stops = stops
stops_as told files shown (Puts name bytes ∷ acts) left said (inl same, is) = (inl same, is)
stops_as told files shown (Puts name bytes ∷ acts) left said (inr (faulted, spoils), is) = (inr (told faulted, spoils), is)
stops_as told files shown (Asks ∷ acts) left said stops = stops

pub behind_as : {F G : Type 0} → (F → G) → (before : Option Files) (done rest : List Act) (left : Option Files) (said : List ℕ)
    → StopsBehind F before done rest left said → StopsBehind G before done rest left said
behind_as told None done rest left said stops = tt
behind_as told (Some files) done rest left said stops = stops_as told (files_by files done) (shown_by done) rest left said stops

-- acts were cut short behind some of them
pub record IsCutBehind (F : Type 0) (before : Option Files) (acts : List Act) (left : Option Files) (said : List ℕ) : Type 0 where
  pub done : List Act
  pub rest : List Act
  pub is : acts ≡ done ++ rest
  pub stops : StopsBehind F before done rest left said

-- these were done, and of some that put no file so much was shown
pub cut_behind : (F : Type 0) (before left : Option Files) (done recent more : List Act) (said pending : List ℕ) → NoPuts recent → LeavesActs before left done
    → shown_by recent ≡ said ++ pending → IsCutBehind F before ((done ++ recent) ++ more) left (shown_by done ++ said)
cut_behind F None left done recent more said pending unput leaves is =
    record { done = []; rest = (done ++ recent) ++ more; is = refl; stops = tt }
cut_behind F (Some files) left done recent more said pending unput leaves is =
    let cut = cut_at F (files_by files done) recent said pending unput is in
    let stops =
    behind_text F (files_by (files_by files done) cut.done) (shown_by done) (shown_by cut.done) said (cut.rest ++ more) (Some (files_by files done))
    (stops_more F (files_by (files_by files done) cut.done) (shown_by cut.done) cut.rest more (Some (files_by files done)) said cut.stops) in
    record {
      done = done ++ cut.done;
      rest = cut.rest ++ more;
      is =
          ap (λ a. (done ++ a) ++ more) cut.is ∙ ap (λ a. a ++ more) (sym (append_assoc done cut.done cut.rest))
          ∙ append_assoc (done ++ cut.done) cut.rest more;
      stops =
          subst (λ (l : Option Files). StopsIn F (files_by files (done ++ cut.done)) (shown_by (done ++ cut.done)) (cut.rest ++ more) l (shown_by done ++ said))
          (sym leaves)
          (subst (λ (f : Files). StopsIn F f (shown_by (done ++ cut.done)) (cut.rest ++ more) (Some (files_by files done)) (shown_by done ++ said))
          (sym (files_by-append files done cut.done))
          (subst (λ (t : List ℕ). StopsIn F (files_by (files_by files done) cut.done) t (cut.rest ++ more) (Some (files_by files done)) (shown_by done ++ said))
          (sym (shown_by-append done cut.done)) stops));
    }
