-- An object that is purged has few places, and each cell with a record keeps its own.
use Rattle.std.proofs.Common.{◌≡◌, ◌≢◌, ◌∙◌, ap, sym, subst, refl, ℕ, ◌+◌, ◌<◌, ◌≤◌, ◌⊎◌, inl, inr, Bool, true, false, ◌||◌, List, [], ◌∷◌, Option, None, Some, IsSome, is_some, true≢false, arith}
use Rattle.std.specs.Ordering.{nat_cmp}
use Rattle.std.specs.FinMap.{FinMap, get}
use Rattle.t3_undo.specs.Content.{Parts, Places}
use Rattle.t3_undo.specs.Present.{Present}
use Rattle.t3_undo.specs.Objects.{OldPart, Segment, is_of, is_noted}
use Rattle.t3_undo.specs.Journal.{total}
use Rattle.t3_undo.specs.Stamps.{AreStamped, HaveSerialsBelow, IsStamp, HasRecord}
use Rattle.t3_undo.specs.Purging.{IsOldest, IsNeeded, Stays}
use Rattle.t3_undo.specs.declared.cell.Cell.{Cell}
use Rattle.t3_undo.specs.declared.cell.Cell.TheVariants as cells
use Rattle.t3_undo.proofs.AllStamps.{stamped-fewer}
use Rattle.t3_undo.proofs.PuttingBack.{is_of-itself}
use Rattle.t3_undo.proofs.Purging.{few-places, from-oldest, noted-from, record-here, record-there}
use Rattle.t3_store.specs.Inner.Shapes.{Stored, has_place, has_place_in, stamp_in, stamp_at}
use Rattle.t3_store.specs.Inner.Bounded.{parts_under, IsBounded, AreBounded, AreOthersBounded, IsTidied, IsTidiedAt, IsWithoutGaps}
use Rattle.t3_store.specs.Inner.Store.{CanAllBePut, CanEachBePut, IsSound, IsPurged}
use Rattle.t3_store.proofs.Rows.{same, same-is, same-itself}

-- ---- one object

-- a place that is there has a stamp
pub there-stamped : (own : Places) (c : Cell) → IsSome (get own c) → (t : ℕ) × (get own c ≡ Some t)
there-stamped own c some = by (get own c) refl some
  where
    by : (o : Option ℕ) → get own c ≡ o → IsSome o → (t : ℕ) × (get own c ≡ Some t)
    by None e some = absurd (true≢false (sym some))
    by (Some t) e some = (t, e)

-- the stamps of an object's places tell which cells have records
abbrev pub AreOwnStamps : ℕ → ℕ → Places → List Segment → Type 0
AreOwnStamps made n own ss = (c : Cell) (t : ℕ) → get own c ≡ Some t → IsStamp (made + 1) n c t ss

-- where a place stays its cell is present or has a record
stays-needed : (made oldest n : ℕ) (parts : Parts) (own : Places) (ss : List Segment) (c : Cell) → IsOldest made oldest ss
    → HaveSerialsBelow (made + 1) ss → AreOwnStamps made n own ss → IsWithoutGaps n parts ss → Stays parts own oldest c
    → IsSome (get parts c) ⊎ HasRecord n c ss
stays-needed made oldest n parts own ss c is serials stamps gaps stays = by stays
  where
    needed : (d : Cell) → IsNeeded parts own oldest d → IsSome (get parts d) ⊎ HasRecord n d ss
    needed d (inl present) = inl present
    needed d (inr from) = inr (noted-from ss made oldest n d from.0 is serials (stamps d from.0 from.1) from.2)

    below : (lower higher : ℕ) → 0 < lower → lower < higher → IsSome (get parts (cells.Elem higher)) ⊎ HasRecord n (cells.Elem higher) ss
        → (o : Option Present) → get parts (cells.Elem lower) ≡ o → IsSome (get parts (cells.Elem lower)) ⊎ HasRecord n (cells.Elem lower) ss
    below lower higher above less needs None e = inr (gaps lower higher above less e needs)
    below lower higher above less needs (Some present) e = inl (ap is_some e)

    by : Stays parts own oldest c → IsSome (get parts c) ⊎ HasRecord n c ss
    by (inl need) = needed c need
    by (inr lower) =
        subst (λ d. IsSome (get parts d) ⊎ HasRecord n d ss) (sym lower.2)
        (below lower.0 lower.1 lower.3 lower.4 (needed (cells.Elem lower.1) lower.5) (get parts (cells.Elem lower.0)) refl)

pub tidied-few : (records made oldest n : ℕ) (parts : Parts) (was now : Places) (ss : List Segment) → IsOldest made oldest ss
    → HaveSerialsBelow (made + 1) ss → AreOwnStamps made n was ss → IsWithoutGaps n parts ss → total ss ≤ records
    → IsTidied records oldest parts was now → IsBounded records parts now
tidied-few records made oldest n parts was now ss is serials stamps gaps few tidied = by tidied.few
  where
    by : IsBounded records parts now ⊎ ((c : Cell) → IsSome (get now c) → Stays parts was oldest c) → IsBounded records parts now
    by (inl bounded) = bounded
    by (inr stays) =
        let count = few-places now parts n ss
        (λ c there. stays-needed made oldest n parts was ss c is serials stamps gaps (stays c there)) in
        omega (arith, count, few)

-- a cell with a record keeps its place and its stamp
tidied-keeps : (records made oldest n : ℕ) (parts : Parts) (was now : Places) (ss : List Segment) (c : Cell) (t : ℕ) → IsOldest made oldest ss
    → HaveSerialsBelow (made + 1) ss → AreOwnStamps made n was ss → IsTidied records oldest parts was now → HasRecord n c ss
    → get was c ≡ Some t → get now c ≡ Some t
tidied-keeps records made oldest n parts was now ss c t is serials stamps tidied has there =
    tidied.kept c t there (inl (inr (t, there, from-oldest ss made oldest n c t is serials (stamps c t there) has)))

-- ---- among all

pub own-stamps : (made n : ℕ) (places : FinMap nat_cmp Places) (own : Places) (ss : List Segment) → AreStamped made (stamp_at places) ss
    → get places n ≡ Some own → AreOwnStamps made n own ss
own-stamps made n places own ss stamped there c t e = stamped.each n c t (ap (λ o. stamp_in o c) there ∙ e)

pub purged : (records made oldest n : ℕ) (old new : Stored) (ss : List Segment) → IsOldest made oldest ss
    → AreStamped made (stamp_at old.places) ss → IsTidiedAt records oldest n old new → IsPurged old new ss
purged records made oldest n old new ss is stamped tidied = record {
  objects = tidied.objects;
  ticks = tidied.ticks;
  fewer = λ q c t there. fewer q c t (same q n) refl there;
  kept = λ q c has there. kept q c has (same q n) refl there;
}
  where
    apart : (q : ℕ) → same q n ≡ false → q ≢ n
    apart q e is = true≢false (sym (ap (λ k. same k n) is ∙ same-itself n) ∙ e)

    own-fewer : (c : Cell) (t : ℕ) → stamp_at new.places n c ≡ Some t → stamp_at old.places n c ≡ Some t
    own-fewer c t there = by (get old.places n) refl
      where
        by : (o : Option Places) → get old.places n ≡ o → stamp_in o c ≡ Some t
        by None e = let gone = sym there ∙ ap (λ o. stamp_in o c) (tidied.none e) in cc
        by (Some was) e = let own = tidied.own was e in own.2.fewer c t (sym (ap (λ o. stamp_in o c) own.1) ∙ there)

    fewer : (q : ℕ) (c : Cell) (t : ℕ) (b : Bool) → same q n ≡ b → stamp_at new.places q c ≡ Some t → stamp_at old.places q c ≡ Some t
    fewer q c t true e there =
        let at = same-is q n e in
        ap (λ k. stamp_at old.places k c) at ∙ own-fewer c t (ap (λ k. stamp_at new.places k c) (sym at) ∙ there)
    fewer q c t false e there = sym (ap (λ o. stamp_in o c) (tidied.others q (apart q e))) ∙ there

    own-kept : (c : Cell) → HasRecord n c ss → has_place old.places n c ≡ true → has_place new.places n c ≡ true
    own-kept c has there = by (get old.places n) refl there
      where
        by : (o : Option Places) → get old.places n ≡ o → has_place_in o c ≡ true → has_place new.places n c ≡ true
        by None e there = absurd (true≢false (sym there))
        by (Some was) e there = found (get was c) refl there
          where
            found : (o : Option ℕ) → get was c ≡ o → is_some o ≡ true → has_place new.places n c ≡ true
            found None f some = absurd (true≢false (sym some))
            found (Some t) f some =
                let own = tidied.own was e in
                ap (λ o. has_place_in o c) own.1
                ∙ ap is_some (tidied-keeps records made oldest n (parts_under old.objects n) was own.0 ss c t is stamped.serials
                (own-stamps made n old.places was ss stamped e) own.2 has f)

    kept : (q : ℕ) (c : Cell) → HasRecord q c ss → (b : Bool) → same q n ≡ b → has_place old.places q c ≡ true → has_place new.places q c ≡ true
    kept q c has true e there =
        let at = same-is q n e in
        ap (λ k. has_place new.places k c) at
        ∙ own-kept c (subst (λ k. HasRecord k c ss) at has) (ap (λ k. has_place old.places k c) (sym at) ∙ there)
    kept q c has false e there = ap (λ o. has_place_in o c) (tidied.others q (apart q e)) ∙ there

pub purged-few : (records made oldest n : ℕ) (old new : Stored) (ss : List Segment) → IsOldest made oldest ss
    → AreStamped made (stamp_at old.places) ss → IsWithoutGaps n (parts_under old.objects n) ss → total ss ≤ records
    → IsTidiedAt records oldest n old new → AreOthersBounded records n old → AreBounded records new
purged-few records made oldest n old new ss is stamped gaps few tidied others q own there =
    subst (λ (p : Parts). IsBounded records p own) (ap (λ m. parts_under m q) (sym tidied.objects)) (by (same q n) refl)
  where
    by-own : get new.places n ≡ Some own → (o : Option Places) → get old.places n ≡ o → IsBounded records (parts_under old.objects n) own
    by-own there None e = let gone = sym there ∙ tidied.none e in cc
    by-own there (Some was) e =
        let now = tidied.own was e in
        let is_own : now.0 ≡ own = cc in
        subst (IsBounded records (parts_under old.objects n)) is_own
        (tidied-few records made oldest n (parts_under old.objects n) was now.0 ss is stamped.serials
        (own-stamps made n old.places was ss stamped e) gaps few now.2)

    by : (b : Bool) → same q n ≡ b → IsBounded records (parts_under old.objects q) own
    by true e =
        let at = same-is q n e in
        subst (λ k. IsBounded records (parts_under old.objects k) own) (sym at)
        (by-own (ap (get new.places) (sym at) ∙ there) (get old.places n) refl)
    by false e =
        let apart : q ≢ n = λ at. true≢false (sym (ap (λ k. same k n) at ∙ same-itself n) ∙ e) in
        others q own apart (sym (tidied.others q apart) ∙ there)

-- ---- what can be put back

-- each record's cell has one
part-recorded : (n : ℕ) (c : Cell) (rs : List OldPart) (s : Segment) (ss : List Segment) → s.records ≡ rs → is_noted n c rs ≡ true
    → HasRecord n c (s ∷ ss)
part-recorded n c rs s ss is noted = record-here n c s ss (ap (is_noted n c) is ∙ noted)

all-put : (old new : Stored) (whole : List Segment) (rs : List OldPart) → IsPurged old new whole
    → ((n : ℕ) (c : Cell) → is_noted n c rs ≡ true → HasRecord n c whole) → CanAllBePut old.places rs → CanAllBePut new.places rs
all-put old new whole [] purged has can = tt
all-put old new whole (r ∷ rs) purged has can = (
  record {
    placed = purged.kept r.number r.cell (has r.number r.cell (ap (λ b. b || is_noted r.number r.cell rs) (is_of-itself r))) can.0.placed;
    formed = can.0.formed;
  },
  all-put old new whole rs purged (λ n c noted. has n c (later n c (is_of n c r) noted)) can.1,
)
  where
    later : (n : ℕ) (c : Cell) (b : Bool) → is_noted n c rs ≡ true → (b || is_noted n c rs) ≡ true
    later n c true noted = refl
    later n c false noted = noted

each-put : (old new : Stored) (whole ss : List Segment) → IsPurged old new whole
    → ((n : ℕ) (c : Cell) → HasRecord n c ss → HasRecord n c whole) → CanEachBePut old.places ss → CanEachBePut new.places ss
each-put old new whole [] purged has can = tt
each-put old new whole (s ∷ ss) purged has can = (
  all-put old new whole s.records purged (λ n c noted. has n c (record-here n c s ss noted)) can.0,
  each-put old new whole ss purged (λ n c there. has n c (record-there n c s ss there)) can.1,
)

pub purged-put : (old new : Stored) (ss : List Segment) → IsPurged old new ss → CanEachBePut old.places ss → CanEachBePut new.places ss
purged-put old new ss purged can = each-put old new ss ss purged (λ n c has. has) can

pub can-each : (places : FinMap nat_cmp Places) (top : ℕ) (ss : List Segment) → IsSound places top ss → CanEachBePut places ss
can-each places top [] sound = tt
can-each places top (s ∷ ss) sound = (sound.2, can-each places s.next ss sound.3)

pub sound-put : (old new : FinMap nat_cmp Places) (top : ℕ) (ss : List Segment) → IsSound old top ss → CanEachBePut new ss → IsSound new top ss
sound-put old new top [] sound can = tt
sound-put old new top (s ∷ ss) sound can = (sound.0, sound.1, can.0, sound-put old new s.next ss sound.3 can.1)

pub sound-purged : (old new : Stored) (top : ℕ) (ss : List Segment) → IsPurged old new ss → IsSound old.places top ss → IsSound new.places top ss
sound-purged old new top ss purged sound =
    sound-put old.places new.places top ss sound (purged-put old new ss purged (can-each old.places top ss sound))

pub stamped-purged : (made : ℕ) (old new : Stored) (ss : List Segment) → IsPurged old new ss → AreStamped made (stamp_at old.places) ss
    → AreStamped made (stamp_at new.places) ss
stamped-purged made old new ss purged is = stamped-fewer made (stamp_at old.places) (stamp_at new.places) ss purged.fewer is
