-- What the kind of a name says of it. Other crates may use what stands here.
use Rattle.std.proofs.Common.{◌≡◌, ◌≢◌, ℕ, Bool, true, false, List, [], ◌∷◌, ◌++◌, refl, sym, ap, ◌∙◌, ◌⊎◌, inl, inr}
use Rattle.std.specs.Prelude.{◌||◌, ◌&&◌, not}
use Rattle.std.specs.Str.{bytes_eq}
use Rattle.std.proofs.lemmas.Bool.{cases_Bool}
use Rattle.std.proofs.lemmas.Slice.Eq.{bytes_eq-Decides}
use Rattle.t3_blocks.specs.BlockName.{end_name, layout_names, kept_names, is_among, is_known, is_mandatory, is_unknown_mandatory, IsPlain, HasKind}
use Rattle.t3_blocks.specs.declared.kind.BlockKind.{BlockKind}
use Rattle.t3_blocks.specs.declared.kind.BlockKind.TheVariants as kinds
use Rattle.t3_blocks.proofs.Inversion.{kind_of, or_false}

false_or : (a b : Bool) → a ≡ false → b ≡ false → (a || b) ≡ false
false_or a b no_a no_b = λ i. no_a i || no_b i

any_append : (name : List ℕ) (xs ys : List (List ℕ)) → is_among name xs ≡ false → is_among name ys ≡ false
    → is_among name (xs ++ ys) ≡ false
any_append name [] ys no_x no_y = no_y
any_append name (x ∷ xs) ys no_x no_y =
    let parts = or_false (bytes_eq x name) (is_among name xs) no_x in
    false_or (bytes_eq x name) (is_among name (xs ++ ys)) parts.0 (any_append name xs ys parts.1 no_y)

pub differs : (known name : List ℕ) → name ≢ known → bytes_eq known name ≡ false
differs known name other =
    elim (cases_Bool (bytes_eq known name)) [ inl same ↦ absurd (other (sym ((bytes_eq-Decides known name).0 same))) | inr e ↦ e ]

or_true : (a b : Bool) → b ≡ true → (a || b) ≡ true
or_true true b there = refl
or_true false b there = there

any_right : (name : List ℕ) (xs ys : List (List ℕ)) → is_among name ys ≡ true → is_among name (xs ++ ys) ≡ true
any_right name [] ys there = there
any_right name (x ∷ xs) ys there = or_true (bytes_eq x name) (is_among name (xs ++ ys)) (any_right name xs ys there)

-- a name that is kept on purpose means something
pub kept_name : (name : List ℕ) → is_among name kept_names ≡ true → is_known name ≡ true
kept_name name kept = any_right name (end_name ∷ layout_names) kept_names kept

-- a plain name that isn't kept on purpose means nothing
pub unknown_name : (name : List ℕ) → IsPlain name → is_among name kept_names ≡ false → is_known name ≡ false
unknown_name name plain none =
    false_or (bytes_eq end_name name) (is_among name (layout_names ++ kept_names)) (differs end_name name plain.not_end)
    (any_append name layout_names kept_names plain.no_layout none)

-- a name of any other kind than Unknown means something
pub known_name : (name : List ℕ) (kind : BlockKind) → HasKind name kind → kind ≢ kinds.Unknown → is_known name ≡ true
known_name name kinds.Entry is other = ap is_known is
known_name name kinds.Objects is other = ap is_known is
known_name name kinds.PoolDef is other = ap is_known is
known_name name kinds.Page is other = ap is_known is
known_name name kinds.Metas is other = ap is_known is
known_name name kinds.Functions is other = ap is_known is
known_name name kinds.Symbols is other = ap is_known is
known_name name kinds.Kept is other = is.1
known_name name kinds.End is other = ap is_known is
known_name name kinds.Unknown is other = absurd (other refl)

-- and then no reader refuses it by its flags
and_false : (b : Bool) → (b && false) ≡ false
and_false true = refl
and_false false = refl

pub known_not_refused : (name : List ℕ) (flags : ℕ) → is_known name ≡ true → is_unknown_mandatory name flags ≡ false
known_not_refused name flags known = ap (λ b. is_mandatory flags && not b) known ∙ and_false (is_mandatory flags)

-- under a name without a layout here, but the end's, any bytes stand
pub plain_name : (name : List ℕ) (kind : BlockKind) → HasKind name kind → name ≢ end_name
    → (kind ≡ kinds.Kept) ⊎ ((kind ≡ kinds.End) ⊎ (kind ≡ kinds.Unknown)) → IsPlain name
plain_name name kinds.Kept has other is = has.0
plain_name name kinds.End has other is = absurd (other has)
plain_name name kinds.Unknown has other is = has.0
plain_name name _ has other is = elim is [ inl e ↦ absurd cc | inr more ↦ elim more [ inl e ↦ absurd cc | inr e ↦ absurd cc ] ]

-- a name of any other kind than End isn't the end's
pub not_end_name : (name : List ℕ) (kind : BlockKind) → HasKind name kind → kind ≢ kinds.End → name ≢ end_name
not_end_name name kinds.Entry has other = λ is. let e : kinds.Entry ≡ kinds.Unknown = ap kind_of (sym has ∙ is) in absurd cc
not_end_name name kinds.Objects has other = λ is. let e : kinds.Objects ≡ kinds.Unknown = ap kind_of (sym has ∙ is) in absurd cc
not_end_name name kinds.PoolDef has other = λ is. let e : kinds.PoolDef ≡ kinds.Unknown = ap kind_of (sym has ∙ is) in absurd cc
not_end_name name kinds.Page has other = λ is. let e : kinds.Page ≡ kinds.Unknown = ap kind_of (sym has ∙ is) in absurd cc
not_end_name name kinds.Metas has other = λ is. let e : kinds.Metas ≡ kinds.Unknown = ap kind_of (sym has ∙ is) in absurd cc
not_end_name name kinds.Functions has other = λ is. let e : kinds.Functions ≡ kinds.Unknown = ap kind_of (sym has ∙ is) in absurd cc
not_end_name name kinds.Symbols has other = λ is. let e : kinds.Symbols ≡ kinds.Unknown = ap kind_of (sym has ∙ is) in absurd cc
not_end_name name kinds.Kept has other = has.0.not_end
not_end_name name kinds.Unknown has other = has.0.not_end
not_end_name name kinds.End has other = absurd (other refl)
