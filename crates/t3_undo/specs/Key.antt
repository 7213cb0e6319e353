-- The keys of a table's entries: their order, and what is fed to a hasher.
use Rattle.std.specs.Prelude.{◌≡◌, ℕ, zero, suc, ℤ, pos, negsuc, List, [], ◌∷◌, ◌++◌, IsTrue, slice_index, refl}
use Rattle.std.proofs.Common.{sym, ap, ◌∙◌}
use Rattle.std.specs.declared.cmp.Ordering.{Ordering}
use Rattle.std.specs.Ordering.{nat_cmp, on, eq_by_cmp}
use Rattle.std.specs.Cmp.{IsTotalOrder, Equal-is}
use Rattle.std.specs.Cmp.Lexicographic.{slice_cmp, on_texts}
use Rattle.std.specs.FinMap.{IsAntisymmetric, nat_cmp-IsAntisymmetric, slice_cmp-IsAntisymmetric}
use Rattle.std.specs.Coded.{Coded, code_by, coded_ℕ, coded_list}
use Rattle.std.specs.Hash as fed
use Rattle.t3_undo.specs.declared.key.Key.{Key}
use Rattle.t3_undo.specs.declared.key.Key.TheVariants as keys

-- a key as a list of numbers, by which keys are ordered: its kind, and its value
abbrev pub key_code : Key → List ℕ
key_code keys.Nil = 0 ∷ []
key_code keys.True = 1 ∷ []
key_code (keys.Int (pos n)) = 2 ∷ 0 ∷ n ∷ []
key_code (keys.Int (negsuc n)) = 2 ∷ 1 ∷ n ∷ []
key_code (keys.Enum n) = 3 ∷ n ∷ []
key_code (keys.Prop n) = 4 ∷ n ∷ []
key_code (keys.Func n) = 5 ∷ n ∷ []
key_code (keys.Obj n) = 6 ∷ n ∷ []
key_code (keys.Text bytes) = 7 ∷ bytes

-- the number whose sign and size these are
abbrev pub signed : ℕ → ℕ → ℤ
signed zero n = pos n
signed (suc _) n = negsuc n

-- the key of a kind with this value
abbrev pub key_by : ℕ → List ℕ → Key
key_by zero rest = keys.Nil
key_by (suc zero) rest = keys.True
key_by (suc (suc zero)) rest = keys.Int (signed (slice_index rest 0) (slice_index rest 1))
key_by (suc (suc (suc zero))) rest = keys.Enum (slice_index rest 0)
key_by (suc (suc (suc (suc zero)))) rest = keys.Prop (slice_index rest 0)
key_by (suc (suc (suc (suc (suc zero))))) rest = keys.Func (slice_index rest 0)
key_by (suc (suc (suc (suc (suc (suc zero)))))) rest = keys.Obj (slice_index rest 0)
key_by (suc (suc (suc (suc (suc (suc (suc _))))))) rest = keys.Text rest

-- the key that has this code
abbrev pub key_from : List ℕ → Key
key_from [] = keys.Nil
key_from (kind ∷ rest) = key_by kind rest

pub key_from-key_code : (k : Key) → key_from (key_code k) ≡ k
key_from-key_code keys.Nil = refl
key_from-key_code keys.True = refl
key_from-key_code (keys.Int (pos n)) = refl
key_from-key_code (keys.Int (negsuc n)) = refl
key_from-key_code (keys.Enum n) = refl
key_from-key_code (keys.Prop n) = refl
key_from-key_code (keys.Func n) = refl
key_from-key_code (keys.Obj n) = refl
key_from-key_code (keys.Text bytes) = refl

abbrev pub coded_key : Coded Key
coded_key = code_by (List ℕ) (coded_list coded_ℕ) key_code key_from key_from-key_code

-- the order of keys
abbrev pub key_cmp : Key → Key → Ordering
key_cmp = on key_code (slice_cmp nat_cmp)

pub key_cmp_total : IsTotalOrder key_cmp
key_cmp_total = on_texts key_code

-- only a key itself is equal to it
pub key_cmp-IsAntisymmetric : IsAntisymmetric key_cmp
key_cmp-IsAntisymmetric x y e =
    sym (key_from-key_code x) ∙ ap key_from (slice_cmp-IsAntisymmetric nat_cmp-IsAntisymmetric (key_code x) (key_code y) e)
    ∙ key_from-key_code y

-- what is fed to a hasher: the kind, and the value
abbrev pub key_input : Key → fed.HashWrites
key_input keys.Nil = fed.u8 0
key_input keys.True = fed.u8 1
key_input (keys.Int number) = fed.u8 2 ++ fed.i32 number
key_input (keys.Enum number) = fed.u8 3 ++ fed.u32 number
key_input (keys.Prop number) = fed.u8 4 ++ fed.u16 number
key_input (keys.Func address) = fed.u8 5 ++ fed.u32 address
key_input (keys.Obj number) = fed.u8 6 ++ fed.u32 number
key_input (keys.Text bytes) = fed.u8 7 ++ bytes ∷ []

pub key_input-respects : (x y : Key) → IsTrue (eq_by_cmp key_cmp x y) → key_input x ≡ key_input y
key_input-respects x y e = ap key_input (key_cmp-IsAntisymmetric x y ((Equal-is (key_cmp x y)).0 e))
