-- Numbers, bytes and holders: what is read is spelled so, and what is spelled so is read.
use Rattle.std.proofs.Common.{◌≡◌, ◌≢◌, ℕ, zero, suc, ◌^◌, ◌<◌, ◌≤◌, Bool, true, false, cond, ltb, List, [], ◌∷◌, ◌++◌, length, get_or, take, drop, Option, Some, None, refl, sym, ap, subst, ◌∙◌, arith, ◌&&◌}
use Rattle.std.specs.Prelude.{◌==◌, nat_lt, FitsSigned, ℤ, pos, negsuc}
use Rattle.std.specs.Int.{w32, cast_signed, cast_unsigned}
use Rattle.std.proofs.Math.Facts.{sfits_to_z, Fits-of_lt, Fits-of_z, Fits-lt-pow}
use Rattle.std.proofs.lemmas.Bool.{ltb-true, ltb-false, le-ltb, lt-ltb, eqb-true}
use Rattle.std.proofs.lemmas.Int.{to_z-of_z, of_z-to_z}
use Rattle.std.proofs.lemmas.List.{take_at, drop_at, take-append-drop, length-append, length-take}
use Rattle.t3_holder.specs.NumberText.{little_endian, value_of, AreBytes, twos_complement}
use Rattle.t3_holder.specs.HolderText.{tag_of, bits_of, IsHolder, IsGood, Means, used_bits}
use Rattle.t3_holder.specs.declared.holder.Raw.{Raw}
use Rattle.t3_holder.specs.declared.holder.Holder.{Holder}
use Rattle.t3_holder.specs.declared.holder.Holder.TheVariants as holders
use Rattle.t3_holder.proofs.Holders.{is_meant, one_holder}
use Rattle.t3_holder.proofs.Numbers.{length-little_endian, value_of-little_endian, little_endian-value_of, value_fits}
use Rattle.t3_snapshot.specs.Inner.Reading.{◌>>=◌, number_at, where_none, where_numbered, holder_from}

-- ---- tests

-- a choice body_in nothing and something, of which something came
pub guard_some : {A : Type 0} (b : Bool) (x y : A) → cond b None (Some x) ≡ Some y → (b ≡ false) × (x ≡ y)
guard_some true x y e = absurd cc
guard_some false x y e = (refl, cc)

pub bind_some : {A B : Type 0} (r : Option A) (f : A → Option B) (y : B) → (r >>= f) ≡ Some y → (x : A) × (r ≡ Some x) × (f x ≡ Some y)
bind_some None f y e = absurd cc
bind_some (Some x) f y e = (x, refl, e)

pub some_is : {A : Type 0} (x y : A) → Some x ≡ Some y → x ≡ y
some_is x y e = cc

-- ---- bytes

pub AreBytes-drop : (n : ℕ) (bytes : List ℕ) → AreBytes bytes → AreBytes (drop n bytes)
AreBytes-drop zero bytes h = h
AreBytes-drop (suc n) [] h = h
AreBytes-drop (suc n) (b ∷ bytes) h = AreBytes-drop n bytes h.1

pub AreBytes-take : (n : ℕ) (bytes : List ℕ) → AreBytes bytes → AreBytes (take n bytes)
AreBytes-take zero bytes h = tt
AreBytes-take (suc n) [] h = tt
AreBytes-take (suc n) (b ∷ bytes) h = (h.0, AreBytes-take n bytes h.1)

-- ---- numbers

pub number_takes : (width : ℕ) (bytes : List ℕ) (n : ℕ) (rest : List ℕ) → AreBytes bytes → number_at width bytes ≡ Some (n, rest)
    → (bytes ≡ little_endian width n ++ rest) × (n < 256 ^ width) × AreBytes rest
number_takes width bytes n rest are e =
    let g = guard_some (ltb (length bytes) width) (value_of (take width bytes), drop width bytes) (n, rest) e in
    let long : width ≤ length bytes = ltb-false _ _ g.0 in
    let n-is : value_of (take width bytes) ≡ n = ap (λ (p : ℕ × List ℕ). p.0) g.1 in
    let rest-is : drop width bytes ≡ rest = ap (λ (p : ℕ × List ℕ). p.1) g.1 in
    let wide : length (take width bytes) ≡ width = omega (arith, length-take width bytes) in
    let front : little_endian width n ≡ take width bytes =
    ap (little_endian width) (sym n-is) ∙ ap (λ w. little_endian w (value_of (take width bytes))) (sym wide)
    ∙ little_endian-value_of (take width bytes) (AreBytes-take width bytes are) in (
      rw (front, ← rest-is) (sym (take-append-drop width bytes)),
      subst (λ k. k < 256 ^ width) n-is (value_fits width (take width bytes) (AreBytes-take width bytes are) wide),
      subst AreBytes rest-is (AreBytes-drop width bytes are),
    )

pub number_again : (width n : ℕ) (rest : List ℕ) → n < 256 ^ width → number_at width (little_endian width n ++ rest) ≡ Some (n, rest)
number_again width n rest lt =
    let len = length-little_endian width n in
    let long : ltb (length (little_endian width n ++ rest)) width ≡ false =
    le-ltb _ _ (omega (arith, length-append (little_endian width n) rest)) in
    rw (
      long,
      take_at (little_endian width n) rest width len,
      drop_at (little_endian width n) rest width len,
      value_of-little_endian width n lt,
    ) refl

-- a number that the code read
pub number_read : (width n : ℕ) (bytes rest : List ℕ) → n < 256 ^ width → width ≤ length bytes → take width bytes ≡ little_endian width n
    → drop width bytes ≡ rest → number_at width bytes ≡ Some (n, rest)
number_read width n bytes rest lt long front behind =
    let whole : bytes ≡ little_endian width n ++ rest =
    sym (take-append-drop width bytes) ∙ ap (λ x. x ++ drop width bytes) front ∙ ap (λ x. little_endian width n ++ x) behind in
    ap (number_at width) whole ∙ number_again width n rest lt

-- where there are enough bytes, a number stands there
pub number_there : (width : ℕ) (bytes : List ℕ) → AreBytes bytes → width ≤ length bytes
    → (n : ℕ) × (bytes ≡ little_endian width n ++ drop width bytes) × (n < 256 ^ width) × AreBytes (drop width bytes)
number_there width bytes are long =
    let t = number_takes width bytes (value_of (take width bytes)) (drop width bytes) are (rw (le-ltb (length bytes) width long) refl) in
    (value_of (take width bytes), t.0, t.1, t.2)

-- ---- holders

numbered_again : (bound bits : ℕ) (holder : Holder) → 0 < bits → bits < bound → where_numbered bound bits holder ≡ Some holder
numbered_again bound bits holder low high = rw (lt-ltb 0 bits low, lt-ltb bits bound high) refl

pub from_again : (holder : Holder) → IsHolder holder → IsGood holder → holder_from (tag_of holder) (bits_of holder) ≡ Some holder
unfolding holder_from
from_again holders.Nil fits good = refl
from_again holders.True fits good = refl
from_again (holders.Obj n) fits good = numbered_again (2 ^ 32) n (holders.Obj n) good fits
from_again (holders.Prop n) fits good = numbered_again (2 ^ 16) n (holders.Prop n) good fits
from_again (holders.Int z) fits good = ap (λ y. Some (holders.Int y)) (to_z-of_z w32 z fits)
from_again (holders.Text n) fits good = refl
from_again (holders.Shown n) fits good = refl
from_again (holders.List n) fits good = refl
from_again (holders.Code n) fits good = refl
from_again (holders.Func n) fits good = refl
from_again (holders.Enum n) fits good = refl

-- what a type and a value say of the holder that they are
pub record IsOf (tag bits : ℕ) (holder : Holder) : Type 0 where
  pub tag_is : tag ≡ tag_of holder
  pub bits_are : bits ≡ bits_of holder
  pub fits : IsHolder holder
  pub good : IsGood holder

chosen : (b : Bool) (x y : Option Holder) (holder : Holder) (P : Type 0) → cond b x y ≡ Some holder → (b ≡ true → x ≡ Some holder → P)
    → (y ≡ Some holder → P) → P
chosen true x y holder P e is_so is_not = is_so refl e
chosen false x y holder P e is_so is_not = is_not e

none_takes : (tag bits : ℕ) (made holder : Holder) → where_none bits made ≡ Some holder → (bits ≡ 0) × (made ≡ holder)
none_takes tag bits made holder e = chosen (bits == 0) (Some made) None holder _ e (λ is same. (eqb-true bits 0 is, cc)) (λ no. absurd cc)

pub both_true : (a b : Bool) → (a && b) ≡ true → (a ≡ true) × (b ≡ true)
both_true true b e = (refl, e)
both_true false b e = absurd cc

numbered_takes : (bound bits : ℕ) (made holder : Holder) → where_numbered bound bits made ≡ Some holder
    → (0 < bits) × (bits < bound) × (made ≡ holder)
numbered_takes bound bits made holder e =
    chosen (nat_lt 0 bits && nat_lt bits bound) (Some made) None holder _ e
    (λ is same. let parts = both_true (nat_lt 0 bits) (nat_lt bits bound) is in (ltb-true 0 bits parts.0, ltb-true bits bound parts.1, cc))
    (λ no. absurd cc)

made : (tag bits : ℕ) (x holder : Holder) → x ≡ holder → IsOf tag bits x → IsOf tag bits holder
made tag bits x holder e is = subst (IsOf tag bits) e is

signed_fits : (bits : ℕ) → bits < 2 ^ 32 → FitsSigned w32 (cast_signed w32 bits)
signed_fits bits lt = sfits_to_z {w = w32} {n = bits} (Fits-of_lt {w = w32} {n = bits} lt)

unsigned_is : (z : ℤ) → cast_unsigned w32 z ≡ twos_complement 4 z
unsigned_is (pos n) = refl
unsigned_is (negsuc n) = refl

pub signed_few : (z : ℤ) → FitsSigned w32 z → twos_complement 4 z < 2 ^ 32
signed_few z fits =
    subst (λ n. n < 2 ^ 32) (unsigned_is z) (Fits-lt-pow {w = w32} {n = cast_unsigned w32 z} (Fits-of_z {w = w32} {z = z} fits))

signed_back : (bits : ℕ) → bits < 2 ^ 32 → bits ≡ twos_complement 4 (cast_signed w32 bits)
signed_back bits lt = sym (of_z-to_z w32 bits lt) ∙ unsigned_is (cast_signed w32 bits)

pub from_takes : (tag bits : ℕ) (holder : Holder) → bits < 2 ^ 32 → holder_from tag bits ≡ Some holder → IsOf tag bits holder
unfolding holder_from
from_takes tag bits holder lt e =
    chosen _ _ _ holder _ e (λ is x. let p = none_takes tag bits holders.Nil holder x in
    made tag bits holders.Nil holder p.1 (record { tag_is = eqb-true tag 1 is; bits_are = p.0; fits = tt; good = tt })) (λ e.
    chosen _ _ _ holder _ e (λ is x. let p = none_takes tag bits holders.True holder x in
    made tag bits holders.True holder p.1 (record { tag_is = eqb-true tag 2 is; bits_are = p.0; fits = tt; good = tt })) (λ e.
    chosen _ _ _ holder _ e (λ is x. let p = numbered_takes (2 ^ 32) bits (holders.Obj bits) holder x in
    made tag bits (holders.Obj bits) holder p.2 (record { tag_is = eqb-true tag 5 is; bits_are = refl; fits = p.1; good = p.0 })) (λ e.
    chosen _ _ _ holder _ e (λ is x. let p = numbered_takes (2 ^ 16) bits (holders.Prop bits) holder x in
    made tag bits (holders.Prop bits) holder p.2 (record { tag_is = eqb-true tag 6 is; bits_are = refl; fits = p.1; good = p.0 })) (λ e.
    chosen _ _ _ holder _ e (λ is x.
    made tag bits (holders.Int (cast_signed w32 bits)) holder (some_is _ _ x)
    (record { tag_is = eqb-true tag 7 is; bits_are = signed_back bits lt; fits = signed_fits bits lt; good = tt })) (λ e.
    chosen _ _ _ holder _ e (λ is x.
    made tag bits (holders.Text bits) holder (some_is _ _ x) (record { tag_is = eqb-true tag 8 is; bits_are = refl; fits = lt; good = tt }))
    (λ e.
    chosen _ _ _ holder _ e (λ is x.
    made tag bits (holders.Shown bits) holder (some_is _ _ x)
    (record { tag_is = eqb-true tag 9 is; bits_are = refl; fits = lt; good = tt })) (λ e.
    chosen _ _ _ holder _ e (λ is x.
    made tag bits (holders.List bits) holder (some_is _ _ x)
    (record { tag_is = eqb-true tag 10 is; bits_are = refl; fits = lt; good = tt })) (λ e.
    chosen _ _ _ holder _ e (λ is x.
    made tag bits (holders.Code bits) holder (some_is _ _ x)
    (record { tag_is = eqb-true tag 11 is; bits_are = refl; fits = lt; good = tt })) (λ e.
    chosen _ _ _ holder _ e (λ is x.
    made tag bits (holders.Func bits) holder (some_is _ _ x)
    (record { tag_is = eqb-true tag 12 is; bits_are = refl; fits = lt; good = tt })) (λ e.
    chosen _ _ _ holder _ e (λ is x.
    made tag bits (holders.Enum bits) holder (some_is _ _ x)
    (record { tag_is = eqb-true tag 15 is; bits_are = refl; fits = lt; good = tt })) (λ e.
    absurd cc)))))))))))

-- the same from a raw holder that means it, and has its bits
pub from_means : (raw : Raw) (holder : Holder) → Means raw holder → raw.bits ≡ bits_of holder → holder_from raw.tag raw.bits ≡ Some holder
from_means raw holder means bits =
    ap (λ t. holder_from t raw.bits) means.tag ∙ ap (holder_from (tag_of holder)) bits ∙ from_again holder means.fits means.good

from_none : (tag bits : ℕ) (found : Option Holder) → holder_from tag bits ≡ found → ((holder : Holder) → found ≡ Some holder → ⊥)
    → holder_from tag bits ≡ None
from_none tag bits None e never = e
from_none tag bits (Some holder) e never = absurd (never holder refl)

of_raw : (raw : Raw) (holder : Holder) → IsOf raw.tag raw.bits holder → Means raw holder
of_raw raw holder is = mean raw holder is (is_meant holder is.fits is.good)
  where
    mean : (raw : Raw) (holder : Holder) → IsOf raw.tag raw.bits holder
        → Means (record { tag = tag_of holder; bits = bits_of holder }) holder → Means raw holder
    mean raw holder is means =
        record { fits = means.fits; good = means.good; tag = is.tag_is; bits = ap (used_bits holder) is.bits_are ∙ means.bits }

-- a raw holder that means nothing
pub from_meant_none : (raw : Raw) → raw.bits < 2 ^ 32 → ((holder : Holder) → Means raw holder → ⊥) → holder_from raw.tag raw.bits ≡ None
from_meant_none raw lt never =
    from_none raw.tag raw.bits _ refl (λ holder e. never holder (of_raw raw holder (from_takes raw.tag raw.bits holder lt e)))

-- a raw holder with bits that its type doesn't use
pub from_other_none : (raw : Raw) (holder : Holder) → raw.bits < 2 ^ 32 → Means raw holder → raw.bits ≢ bits_of holder
    → holder_from raw.tag raw.bits ≡ None
from_other_none raw holder lt means other = from_none raw.tag raw.bits _ refl (λ found e.
    let is = from_takes raw.tag raw.bits found lt e in
    let same = one_holder raw found holder (of_raw raw found is) means in
    other (is.bits_are ∙ ap bits_of same))

pub not_true : (b : Bool) → (b ≡ true → ⊥) → b ≡ false
not_true true never = absurd (never refl)
not_true false never = refl

pub bytes_are : (bytes : List ℕ) → ((i : ℕ) → get_or bytes i 0 < 256) → AreBytes bytes
bytes_are [] each = tt
bytes_are (b ∷ bytes) each = (each 0, bytes_are bytes (λ i. each (suc i)))
