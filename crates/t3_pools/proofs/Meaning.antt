-- What a type and bits mean, as a function: it is the holder that a raw holder of them means. Other crates may use what stands here.
use Rattle.std.proofs.Common.{◌≡◌, ℕ, ◌%◌, ◌^◌, ◌<◌, Bool, true, false, cond, nat_lt, ◌&&◌, List, [], ◌∷◌, Option, Some, None, refl, sym, ap, subst, ◌∙◌, arith}
use Rattle.std.specs.Prelude.{◌==◌}
use Rattle.std.specs.Int.{w32, cast_signed}
use Rattle.std.specs.List.{find, AllByRecursion}
use Rattle.std.proofs.lemmas.Int.{to_z-of_z, of_z-to_z}
use Rattle.std.proofs.Math.Facts.{sfits_to_z}
use Rattle.std.proofs.lemmas.Bool.{ltb-true, eqb-true}
use Rattle.std.proofs.lemmas.Option.{same_Some}
use Rattle.t3_holder.specs.HolderText.{tag_of, bits_of, used_bits, IsHolder, IsGood, Means, IsNoHolder}
use Rattle.t3_holder.specs.declared.holder.Raw.{Raw}
use Rattle.t3_holder.specs.declared.holder.Holder.{Holder}
use Rattle.t3_holder.specs.declared.holder.Holder.TheVariants as holders
use Rattle.t3_holder.proofs.Holders.{none_meant}
use Rattle.t3_pools.specs.Constants.{holders_by, is_good, meaning_of}

at_tag : (raw : Raw) (holder : Holder) (tag : ℕ) → raw.tag ≡ tag → meaning_of tag raw.bits ≡ Some holder
    → meaning_of raw.tag raw.bits ≡ Some holder
at_tag raw holder tag is e = ap (λ t. meaning_of t raw.bits) is ∙ e

positive : (n : ℕ) → 0 < n → nat_lt 0 n ≡ true
positive n h = grind arith

numbered_object : (bits number : ℕ) → bits ≡ number → 0 < number → meaning_of 5 bits ≡ Some (holders.Obj number)
numbered_object bits number is some = ap (λ b. meaning_of 5 b) is
    ∙ ap (λ t. cond t (Some (holders.Obj number)) None) (positive number some)

numbered_property : (bits number : ℕ) → bits % 2 ^ 16 ≡ number → 0 < number → meaning_of 6 bits ≡ Some (holders.Prop number)
numbered_property bits number is some =
    ap (λ n. cond (nat_lt 0 n) (Some (holders.Prop n)) None) is
    ∙ ap (λ t. cond t (Some (holders.Prop number)) None) (positive number some)

-- a holder that is meant is the meaning
pub meaning-meant : (raw : Raw) (holder : Holder) → Means raw holder → meaning_of raw.tag raw.bits ≡ Some holder
meaning-meant raw holders.Nil means = at_tag raw holders.Nil 1 means.tag refl
meaning-meant raw holders.True means = at_tag raw holders.True 2 means.tag refl
meaning-meant raw (holders.Obj number) means =
    at_tag raw (holders.Obj number) 5 means.tag (numbered_object raw.bits number means.bits means.good)
meaning-meant raw (holders.Prop number) means =
    at_tag raw (holders.Prop number) 6 means.tag (numbered_property raw.bits number means.bits means.good)
meaning-meant raw (holders.Int number) means = at_tag raw (holders.Int number) 7 means.tag
    (ap (λ z. Some (holders.Int z)) (ap (cast_signed w32) means.bits ∙ to_z-of_z w32 number means.fits))
meaning-meant raw (holders.Text address) means =
    at_tag raw (holders.Text address) 8 means.tag (ap (λ a. Some (holders.Text a)) means.bits)
meaning-meant raw (holders.Shown address) means =
    at_tag raw (holders.Shown address) 9 means.tag (ap (λ a. Some (holders.Shown a)) means.bits)
meaning-meant raw (holders.List address) means =
    at_tag raw (holders.List address) 10 means.tag (ap (λ a. Some (holders.List a)) means.bits)
meaning-meant raw (holders.Code address) means =
    at_tag raw (holders.Code address) 11 means.tag (ap (λ a. Some (holders.Code a)) means.bits)
meaning-meant raw (holders.Func address) means =
    at_tag raw (holders.Func address) 12 means.tag (ap (λ a. Some (holders.Func a)) means.bits)
meaning-meant raw (holders.Enum number) means =
    at_tag raw (holders.Enum number) 15 means.tag (ap (λ a. Some (holders.Enum a)) means.bits)

-- ---- the meaning is meant

-- the holder fits, and these are its bits
record IsOfBits (bits : ℕ) (holder : Holder) : Type 0 where
  fits : IsHolder holder
  used : used_bits holder bits ≡ bits_of holder

each_of : (bits : ℕ) → bits < 2 ^ 32 → AllByRecursion (λ holder. IsOfBits bits holder) (holders_by bits)
each_of bits fits = (
  record { fits = tt; used = refl },
  (
    record { fits = tt; used = refl },
    (
      record { fits = fits; used = refl },
      (
        record { fits = omega arith; used = refl },
        (
          record { fits = sfits_to_z {w = w32} {n = bits} (record { fits = fits }); used = sym (of_z-to_z w32 bits fits) },
          (
            record { fits = fits; used = refl },
            (
              record { fits = fits; used = refl },
              (
                record { fits = fits; used = refl },
                (
                  record { fits = fits; used = refl },
                  (
                    record { fits = fits; used = refl },
                    (
                      record { fits = fits; used = refl },
                      tt,
                    ),
                  ),
                ),
              ),
            ),
          ),
        ),
      ),
    ),
  ),
)

found_of : (test : Holder → Bool) (P : Holder → Type 0) (all : List Holder) (holder : Holder) → AllByRecursion P all
    → find test all ≡ Some holder → P holder × (test holder ≡ true)
found_of test P [] holder each is = absurd cc
found_of test P (first ∷ all) holder each is =
    let step : (b : Bool) → test first ≡ b → cond b (Some first) (find test all) ≡ Some holder → P holder × (test holder ≡ true)
    = λ b. elim b as (λ (b : Bool). test first ≡ b → cond b (Some first) (find test all) ≡ Some holder
    → P holder × (test holder ≡ true)) [
      | true ↦ λ passes e. subst (λ (h : Holder). P h × (test h ≡ true)) (same_Some first holder e) (each.0, passes)
      | false ↦ λ fails e. found_of test P all holder each.1 e
    ]
    in step (test first) refl is

good_holder : (holder : Holder) → is_good holder ≡ true → IsGood holder
good_holder (holders.Obj number) good = ltb-true 0 number good
good_holder (holders.Prop number) good = ltb-true 0 number good
good_holder holders.Nil good = tt
good_holder holders.True good = tt
good_holder (holders.Int number) good = tt
good_holder (holders.Text address) good = tt
good_holder (holders.Shown address) good = tt
good_holder (holders.List address) good = tt
good_holder (holders.Code address) good = tt
good_holder (holders.Func address) good = tt
good_holder (holders.Enum number) good = tt

and_both : (x y : Bool) → (x && y) ≡ true → (x ≡ true) × (y ≡ true)
and_both true y h = (refl, h)
and_both false y h = absurd cc

pub meant-meaning : (raw : Raw) (holder : Holder) → raw.bits < 2 ^ 32 → meaning_of raw.tag raw.bits ≡ Some holder → Means raw holder
meant-meaning raw holder fits is =
    let found = found_of (λ holder. tag_of holder == raw.tag && is_good holder) (λ holder. IsOfBits raw.bits holder)
    (holders_by raw.bits) holder (each_of raw.bits fits) is in
    let both = and_both (tag_of holder == raw.tag) (is_good holder) found.1 in
    record {
      fits = found.0.fits;
      good = good_holder holder both.1;
      tag = sym (eqb-true (tag_of holder) raw.tag both.0);
      bits = found.0.used;
    }

pub meaning-none : (raw : Raw) → raw.bits < 2 ^ 32 → IsNoHolder raw → meaning_of raw.tag raw.bits ≡ None
meaning-none raw fits none =
    let step : (o : Option Holder) → meaning_of raw.tag raw.bits ≡ o → o ≡ None
    = λ o. elim o as (λ (o : Option Holder). meaning_of raw.tag raw.bits ≡ o → o ≡ None) [
      | None ↦ λ is. refl
      | Some holder ↦ λ is. absurd (none_meant raw holder none (meant-meaning raw holder fits is))
    ]
    in step (meaning_of raw.tag raw.bits) refl
