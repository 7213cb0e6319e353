-- For other crates too: what holds of each item of lists holds of each item of what is made of them.
use Rattle.std.proofs.Common.{ℕ, zero, suc, List, [], ◌∷◌, ◌++◌, take, drop, set, map, replicate, Option, Some, None}
use Rattle.std.specs.List.{AllByRecursion, slice_get}

-- it holds of what is there
abbrev pub IfThere : {A : Type 0} → (A → Type 0) → Option A → Type 0
IfThere P None = Unit {0}
IfThere P (Some value) = P value

pub all-weaker : {A : Type 0} (P Q : A → Type 0) (xs : List A) → ((x : A) → P x → Q x) → AllByRecursion P xs → AllByRecursion Q xs
all-weaker P Q [] gives all = tt
all-weaker P Q (x ∷ xs) gives all = (gives x all.0, all-weaker P Q xs gives all.1)

pub all-append : {A : Type 0} (P : A → Type 0) (xs ys : List A) → AllByRecursion P xs → AllByRecursion P ys → AllByRecursion P (xs ++ ys)
all-append P [] ys left right = right
all-append P (x ∷ xs) ys left right = (left.0, all-append P xs ys left.1 right)

pub all-take : {A : Type 0} (P : A → Type 0) (count : ℕ) (xs : List A) → AllByRecursion P xs → AllByRecursion P (take count xs)
all-take P zero xs all = tt
all-take P (suc count) [] all = tt
all-take P (suc count) (x ∷ xs) all = (all.0, all-take P count xs all.1)

pub all-drop : {A : Type 0} (P : A → Type 0) (count : ℕ) (xs : List A) → AllByRecursion P xs → AllByRecursion P (drop count xs)
all-drop P zero xs all = all
all-drop P (suc count) [] all = tt
all-drop P (suc count) (x ∷ xs) all = all-drop P count xs all.1

pub all-set : {A : Type 0} (P : A → Type 0) (xs : List A) (index : ℕ) (x : A) → P x → AllByRecursion P xs
    → AllByRecursion P (set xs index x)
all-set P [] index x has all = tt
all-set P (y ∷ ys) zero x has all = (has, all.1)
all-set P (y ∷ ys) (suc index) x has all = (all.0, all-set P ys index x has all.1)

pub all-get : {A : Type 0} (P : A → Type 0) (xs : List A) (index : ℕ) → AllByRecursion P xs → IfThere P (slice_get xs index)
all-get P [] index all = tt
all-get P (x ∷ xs) zero all = all.0
all-get P (x ∷ xs) (suc index) all = all-get P xs index all.1

pub all-replicate : {A : Type 0} (P : A → Type 0) (count : ℕ) (x : A) → P x → AllByRecursion P (replicate count x)
all-replicate P zero x has = tt
all-replicate P (suc count) x has = (has, all-replicate P count x has)

pub all-map : {A B : Type 0} (P : A → Type 0) (Q : B → Type 0) (f : A → B) → ((x : A) → P x → Q (f x)) → (xs : List A)
    → AllByRecursion P xs → AllByRecursion Q (map f xs)
all-map P Q f gives [] all = tt
all-map P Q f gives (x ∷ xs) all = (gives x all.0, all-map P Q f gives xs all.1)
