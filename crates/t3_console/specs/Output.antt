-- What a page puts out of a text that is said in pieces.
use Rattle.std.specs.Prelude.{ℕ, List, [], ◌∷◌, ◌++◌, length, drop}
use Rattle.t3_console.specs.Rendering.{rendering, closed_rendering}
use Rattle.t3_console.specs.Page.{shown}

-- what takes a text that was put out to a longer one
abbrev pub put_out : List ℕ → List ℕ → List ℕ
put_out before whole = drop (length before) whole

-- where a piece is said after a text
abbrev pub said_out : ℕ → List ℕ → List ℕ → List ℕ
said_out width taken piece = put_out (shown width taken) (shown width (taken ++ piece))

-- where a text is put out to its end
abbrev pub rest_out : ℕ → List ℕ → List ℕ
rest_out width taken = put_out (shown width taken) (rendering width taken)

-- where its last line is ended too
abbrev pub close_out : ℕ → List ℕ → List ℕ
close_out width taken = put_out (shown width taken) (closed_rendering width taken)

-- where pieces are said one after the other, after a text
abbrev pub pieces_out : ℕ → List ℕ → List (List ℕ) → List ℕ
pieces_out width taken [] = []
pieces_out width taken (piece ∷ pieces) = said_out width taken piece ++ pieces_out width (taken ++ piece) pieces
