-- Facts that hold of each line.
use Rattle.std.proofs.Common.{◌≡◌, ℕ, zero, suc, ◌-◌, Bool, cond, eqb, min, List, [], ◌∷◌, ◌++◌, length, map, take, drop, replicate, slice_get, Some, sym, ap, ◌∙◌, subst, inl, inr, arith}
use Rattle.std.proofs.lemmas.Bool.{cases_lt}
use Rattle.std.proofs.lemmas.List.{append-nil, take_all, drop_all, drop-replicate, length-append, length-take, length-replicate}
use Rattle.std.specs.List.{AllByRecursion, flat_map}
use Rattle.t3_blocks.specs.declared.items.PropEntry.{PropEntry}
use Rattle.t3_asm_line.specs.declared.argument.Argument.TheVariants.{Number, Text}
use Rattle.t3_asm_line.specs.declared.keyword.Keyword.TheVariants as of
use Rattle.t3_asm_line.specs.declared.line.ParsedLine.{ParsedLine}
use Rattle.t3_asm_line.specs.Line.{parsed_line}
use Rattle.t3_asm.specs.Arguments.{resized}
use Rattle.t3_asm.specs.Listing.{bytes_line, bytes_lines, pieces, prop_lines}

pub All-push : {X : Type 0} (P : X → Type 0) (xs : List X) (x : X) → AllByRecursion P xs → P x → AllByRecursion P (xs ++ x ∷ [])
All-push P [] x all one = (one, tt)
All-push P (y ∷ xs) x all one = (all.0, All-push P xs x all.1 one)

pub All-map : {X : Type 0} (P Q : X → Type 0) → ((x : X) → P x → Q x) → (xs : List X) → AllByRecursion P xs → AllByRecursion Q xs
All-map P Q along [] all = tt
All-map P Q along (x ∷ xs) all = (along x all.0, All-map P Q along xs all.1)

pub All-append : {X : Type 0} (P : X → Type 0) (xs ys : List X) → AllByRecursion P xs → AllByRecursion P ys → AllByRecursion P (xs ++ ys)
All-append P [] ys front back = back
All-append P (x ∷ xs) ys front back = (front.0, All-append P xs ys front.1 back)

-- what holds of the lines of each
pub All-flat_map : {A X : Type 0} (P : X → Type 0) (lines : A → List X) → ((x : A) → AllByRecursion P (lines x)) → (xs : List A)
    → AllByRecursion P (flat_map lines xs)
All-flat_map P lines each [] = tt
All-flat_map P lines each (x ∷ xs) =
    All-append P (lines x) (flat_map lines xs) (each x) (All-flat_map P lines each xs)

All-pieces : (P : ParsedLine → Type 0) → ((piece : List ℕ) → P (bytes_line piece)) → (ps : List (List ℕ))
    → AllByRecursion P (map bytes_line ps)
All-pieces P each [] = tt
All-pieces P each (piece ∷ ps) = (each piece, All-pieces P each ps)

-- what holds of each line of bytes
pub All-bytes_lines : (P : ParsedLine → Type 0) → ((piece : List ℕ) → P (bytes_line piece)) → (bytes : List ℕ)
    → AllByRecursion P (bytes_lines bytes)
unfolding bytes_lines
All-bytes_lines P each bytes = All-pieces P each (pieces bytes)

-- the line of a property, alone where it has no more than its number
abbrev pub prop_line : Bool → PropEntry → ParsedLine
prop_line alone entry =
    cond alone (parsed_line of.Prop (Number entry.number ∷ [])) (parsed_line of.PropBytes (Number entry.number ∷ Text entry.extra ∷ []))

-- what holds of each line of properties
pub All-prop_lines : (P : ParsedLine → Type 0) → ((alone : Bool) (entry : PropEntry) → P (prop_line alone entry)) → (size : ℕ)
    (props : List PropEntry) → AllByRecursion P (flat_map (prop_lines size) props)
All-prop_lines P each size = All-flat_map P (prop_lines size) (λ entry. (each (eqb size 2) entry, tt))

pub All-at : {X : Type 0} (P : X → Type 0) (xs : List X) (i : ℕ) (x : X) → AllByRecursion P xs → slice_get xs i ≡ Some x → P x
All-at P [] i x all is = absurd cc
All-at P (y ∷ xs) zero x all is = let same : y ≡ x = cc in subst P same all.0
All-at P (y ∷ xs) (suc i) x all is = All-at P xs i x all.1 is

pub All-drop : {X : Type 0} (P : X → Type 0) (n : ℕ) (xs : List X) → AllByRecursion P xs → AllByRecursion P (drop n xs)
All-drop P zero xs all = all
All-drop P (suc n) [] all = tt
All-drop P (suc n) (x ∷ xs) all = All-drop P n xs all.1

pub take-min : (bytes : List ℕ) (size : ℕ) → take (min (length bytes) size) bytes ≡ take size bytes
take-min bytes size =
    elim (cases_lt (length bytes) size) [
      | inl less ↦
          let whole : take (min (length bytes) size) bytes ≡ bytes = take_all (min (length bytes) size) bytes (omega arith) in
          whole ∙ sym (take_all size bytes (omega arith))
      | inr more ↦ ap (λ n. take n bytes) (omega arith)
    ]

-- a list cut or filled, from its front and what is left of the filling
pub resized_is : (size fill : ℕ) (bytes : List ℕ) (count : ℕ) → count ≡ min (length bytes) size
    → take count bytes ++ drop count (replicate size fill) ≡ resized size fill bytes
unfolding resized
resized_is size fill bytes count is =
    let rest : drop count (replicate size fill) ≡ replicate (size - length bytes) fill =
    drop-replicate count size fill ∙ ap (λ n. replicate n fill) (omega (arith, is)) in
    ap (λ l. l ++ drop count (replicate size fill)) (ap (λ n. take n bytes) is ∙ take-min bytes size)
    ∙ ap (λ l. take size bytes ++ l) rest

-- bytes of just this size
pub resized-same : (size fill : ℕ) (bytes : List ℕ) → length bytes ≡ size → resized size fill bytes ≡ bytes
unfolding resized
resized-same size fill bytes long =
    let none : size - length bytes ≡ 0 = omega (arith, long) in
    ap (λ l. l ++ replicate (size - length bytes) fill) (take_all size bytes (omega (arith, long)))
    ∙ ap (λ n. bytes ++ replicate n fill) none ∙ append-nil bytes

pub length-resized : (size fill : ℕ) (bytes : List ℕ) → length (resized size fill bytes) ≡ size
unfolding resized
length-resized size fill bytes =
    omega (
      arith,
      length-append (take size bytes) (replicate (size - length bytes) fill),
      length-take size bytes,
      length-replicate (size - length bytes) fill,
    )

pub drop-min : (bytes : List ℕ) (size : ℕ) → drop (min (length bytes) size) bytes ≡ drop size bytes
drop-min bytes size =
    elim (cases_lt (length bytes) size) [
      | inl less ↦
          let none : drop (min (length bytes) size) bytes ≡ [] = drop_all (min (length bytes) size) bytes (omega arith) in
          none ∙ sym (drop_all size bytes (omega arith))
      | inr more ↦ ap (λ n. drop n bytes) (omega arith)
    ]
