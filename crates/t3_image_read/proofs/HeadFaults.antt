-- The tests of a header say what the rules do.
use Rattle.std.proofs.Common.{◌≡◌, ℕ, ◌^◌, ◌<◌, ◌≤◌, min, Bool, not, eqb, List, ◌++◌, length, take, drop, get_or, sym, ap, ◌∙◌, inl, inr, arith}
use Rattle.std.specs.Prelude.{IsTrue}
use Rattle.std.specs.Str.{bytes_eq}
use Rattle.std.proofs.lemmas.Bool.{cases_Bool, cases_eq, eq-eqb, eqb-true}
use Rattle.std.proofs.lemmas.Slice.Eq.{bytes_eq-Decides}
use Rattle.std.proofs.lemmas.List.{append-nil, drop_all, length-append, length-take, length-drop, get_or-take, get_or_append_left, take-append-le, drop-append-le, ext_get_or}
use Rattle.t3_holder.specs.NumberText.{little_endian}
use Rattle.t3_holder.proofs.Numbers.{same_number}
use Rattle.t3_image_read.specs.ImageText.{signature, version, head_text}
use Rattle.t3_image_read.specs.Validity.{IsHead}
use Rattle.t3_image_read.specs.Refusal.{DiffersFromSignature, HasOtherVersion}
use Rattle.t3_image_read.specs.Inner.Faults.{IsGoodSoFar}
use Rattle.t3_blocks.proofs.Lists.{same_or_not}
use Rattle.t3_image_read.proofs.Heads.{length-signature}
use Rattle.t3_image_read.proofs.Existence.{first_difference, some_head, head_made, is_signature}

-- what the test of the first bytes says
pub signature_test : (s : List ℕ) (n : ℕ) (r : Bool) → n ≡ min (length s) 11 → r ≡ not (bytes_eq (take n s) (take n signature))
    → (IsTrue r → DiffersFromSignature s) × (DiffersFromSignature s → IsTrue r)
signature_test s n r shown is =
    let test = bytes_eq (take n s) (take n signature) in
    elim (cases_Bool test) [
      | inl same ↦
          let equal = (bytes_eq-Decides (take n s) (take n signature)).0 same in (
            (λ h. absurd cc),
            λ (i, near, there, differs).
                let lt : i < n = omega arith in
                absurd (differs (sym (get_or-take n s i 0 lt) ∙ ap (λ t. get_or t i 0) equal ∙ get_or-take n signature i 0 lt)),
          )
      | inr other ↦ (
        (λ h. elim (first_difference n s signature) [
          | inl (i, lt, differs) ↦ (i, omega arith, omega arith, differs)
          | inr same ↦
              let equal : take n s ≡ take n signature =
              ext_get_or 0 (take n s) (take n signature) (omega (arith, length-take n s, length-take n signature, length-signature))
              (λ i near.
              let lt : i < n = omega (arith, length-take n s) in
              get_or-take n s i 0 lt ∙ same i lt ∙ sym (get_or-take n signature i 0 lt)) in
              let again = (bytes_eq-Decides (take n s) (take n signature)).1 equal in
              absurd cc
        ]),
        λ h. cc,
      )
    ]

-- what the test of the version says
pub version_test : (s : List ℕ) (v : ℕ) (r : Bool) → v < 2 ^ 16 → 13 ≤ length s → take 2 (drop 11 s) ≡ little_endian 2 v
    → r ≡ not (eqb v version) → (IsTrue r → HasOtherVersion s) × (HasOtherVersion s → IsTrue r)
version_test s v r fits there says is =
    elim (cases_eq v version) [
      | inl same ↦ let test = eq-eqb v version same in ((λ h. absurd cc), λ other. absurd (other.1 (says ∙ ap (little_endian 2) same)))
      | inr differs ↦
          elim (cases_Bool (eqb v version)) [
            | inl equal ↦ absurd (differs (eqb-true v version equal))
            | inr unequal ↦ ((λ h. (there, λ e. differs (same_number 2 v version fits (omega arith) (sym says ∙ e)))), λ h. cc)
          ]
    ]

-- a fault in the bytes that are there stays, whatever comes after
pub differs-append : (s more : List ℕ) → DiffersFromSignature s → DiffersFromSignature (s ++ more)
differs-append s more (i, near, there, differs) =
    (i, near, omega (arith, length-append s more), λ e. differs (sym (get_or_append_left s more 0 i there) ∙ e))

-- as does the rest of them being good
pub good-append : (s more : List ℕ) → 11 ≤ length s → ¬ DiffersFromSignature s → ¬ DiffersFromSignature (s ++ more)
good-append s more long good (i, near, there, differs) =
    let here : i < length s = omega arith in
    good (i, near, here, λ e. differs (get_or_append_left s more 0 i here ∙ e))

pub other-append : (s more : List ℕ) → HasOtherVersion s → HasOtherVersion (s ++ more)
other-append s more (there, other) =
    let short : 11 ≤ length s = omega arith in (
      omega (arith, length-append s more),
      λ e. other
          (sym (ap (take 2) (drop-append-le 11 s more short) ∙ take-append-le 2 (drop 11 s) more (omega (arith, length-drop 11 s))) ∙ e),
    )

-- a whole good header is a head
pub head_text-made : (s : List ℕ) → length s ≡ 69 → IsGoodSoFar s → IsHead (head_made s) × (head_text (head_made s) ≡ s)
head_text-made s long good =
    let is_version : take 2 (drop 11 s) ≡ little_endian 2 version =
    elim (same_or_not (take 2 (drop 11 s)) (little_endian 2 version)) [
      | inl e ↦ e
      | inr other ↦ absurd
          (good.version (omega arith, other))
    ] in
    let found = some_head s (is_signature s (omega arith) good.signature) is_version (omega arith) in
    (found.0, sym (append-nil _) ∙ ap (λ r. head_text (head_made s) ++ r) (sym (drop_all 69 s (omega arith))) ∙ sym found.1)
