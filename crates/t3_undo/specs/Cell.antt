-- Cells, what can be set of an object: their order, and what is fed to a hasher.
use Rattle.std.specs.Prelude.{◌≡◌, ℕ, zero, suc, List, [], ◌∷◌, ◌++◌, IsTrue, slice_index, refl}
use Rattle.std.proofs.Common.{sym, ap, ◌∙◌}
use Rattle.std.specs.declared.cmp.Ordering.{Ordering}
use Rattle.std.specs.Ordering.{nat_cmp, on, eq_by_cmp}
use Rattle.std.specs.Cmp.{IsTotalOrder, Equal-is}
use Rattle.std.specs.Cmp.Lexicographic.{slice_cmp, on_texts}
use Rattle.std.specs.FinMap.{IsAntisymmetric, nat_cmp-IsAntisymmetric, slice_cmp-IsAntisymmetric}
use Rattle.std.specs.Coded.{Coded, code_by, coded_ℕ, coded_list}
use Rattle.std.specs.Hash as fed
use Rattle.t3_undo.specs.Key.{key_code, key_from, key_from-key_code, key_input}
use Rattle.t3_undo.specs.declared.cell.Cell.{Cell}
use Rattle.t3_undo.specs.declared.cell.Cell.TheVariants as cells

-- a cell as a list of numbers, by which cells are ordered: its kind, and its number or key
abbrev pub cell_code : Cell → List ℕ
cell_code (cells.Prop n) = 0 ∷ n ∷ []
cell_code (cells.Elem n) = 1 ∷ n ∷ []
cell_code (cells.Key key) = 2 ∷ key_code key
cell_code cells.Default = 3 ∷ []

-- the cell of a kind with this number or key
abbrev pub cell_by : ℕ → List ℕ → Cell
cell_by zero rest = cells.Prop (slice_index rest 0)
cell_by (suc zero) rest = cells.Elem (slice_index rest 0)
cell_by (suc (suc zero)) rest = cells.Key (key_from rest)
cell_by (suc (suc (suc _))) rest = cells.Default

-- the cell that has this code
abbrev pub cell_from : List ℕ → Cell
cell_from [] = cells.Default
cell_from (kind ∷ rest) = cell_by kind rest

pub cell_from-cell_code : (c : Cell) → cell_from (cell_code c) ≡ c
cell_from-cell_code (cells.Prop n) = refl
cell_from-cell_code (cells.Elem n) = refl
cell_from-cell_code (cells.Key key) = ap (λ k. cells.Key k) (key_from-key_code key)
cell_from-cell_code cells.Default = refl

abbrev pub coded_cell : Coded Cell
coded_cell = code_by (List ℕ) (coded_list coded_ℕ) cell_code cell_from cell_from-cell_code

-- the order of cells: properties, elements and entries each by their numbers or keys
abbrev pub cell_cmp : Cell → Cell → Ordering
cell_cmp = on cell_code (slice_cmp nat_cmp)

pub cell_cmp_total : IsTotalOrder cell_cmp
cell_cmp_total = on_texts cell_code

-- only a cell itself is equal to it
pub cell_cmp-IsAntisymmetric : IsAntisymmetric cell_cmp
cell_cmp-IsAntisymmetric x y e =
    sym (cell_from-cell_code x) ∙ ap cell_from (slice_cmp-IsAntisymmetric nat_cmp-IsAntisymmetric (cell_code x) (cell_code y) e)
    ∙ cell_from-cell_code y

-- what is fed to a hasher: the kind, and the number or key
abbrev pub cell_input : Cell → fed.HashWrites
cell_input (cells.Prop number) = fed.u8 0 ++ fed.u16 number
cell_input (cells.Elem number) = fed.u8 1 ++ fed.u32 number
cell_input (cells.Key key) = fed.u8 2 ++ key_input key
cell_input cells.Default = fed.u8 3

pub cell_input-respects : (x y : Cell) → IsTrue (eq_by_cmp cell_cmp x y) → cell_input x ≡ cell_input y
cell_input-respects x y e = ap cell_input (cell_cmp-IsAntisymmetric x y ((Equal-is (cell_cmp x y)).0 e))
