-- The words of a line of assembler source: spaces part them, quotes keep them whole, and a comment ends the line.
use Rattle.std.specs.Prelude.{ℕ, Bool, true, false, ◌&&◌, ◌==◌, if◌then◌else◌, List, [], ◌∷◌, ◌++◌}
use Rattle.t3_asm_line.specs.declared.words.Mode.{Mode}
use Rattle.t3_asm_line.specs.declared.words.Mode.TheVariants.{Plain, Quoted, Escaped}

-- how a byte is read behind another that was read so: `"` opens and closes quotes, and inside them `\` takes the byte behind it
abbrev pub mode_behind : Mode → ℕ → Mode
mode_behind Plain byte = if byte == 34 then Quoted else Plain
mode_behind Quoted byte = if byte == 34 then Plain else (if byte == 92 then Escaped else Quoted)
mode_behind Escaped byte = Quoted

-- outside quotes
abbrev pub is_plain : Mode → Bool
is_plain Plain = true
is_plain Quoted = false
is_plain Escaped = false

-- what a word of these bytes adds to the words: nothing where there is no byte
abbrev pub closed : List ℕ → List (List ℕ)
closed [] = []
closed (byte ∷ bytes) = (byte ∷ bytes) ∷ []

-- the words of what follows, where the first of them has begun with these bytes: outside quotes a space ends a word, and `;` the line
abbrev pub words_from : Mode → List ℕ → List ℕ → List (List ℕ)
words_from mode word [] = closed word
words_from mode word (byte ∷ bytes) =
    if is_plain mode && byte == 59 then closed word
    else (if is_plain mode && byte == 32 then closed word ++ words_from Plain [] bytes
    else words_from (mode_behind mode byte) (word ++ byte ∷ []) bytes)

abbrev pub words_of : List ℕ → List (List ℕ)
words_of line = words_from Plain [] line
