use Rattle.std.proofs.Common.{ℕ, ◌+◌, List, ◌++◌, ◌∙◌, ap, subst}
use Rattle.std.specs.Prelude.{slice_index}
use Rattle.t3_console.specs.Inner.Stepping.{put, column_after, separator_text, column_after_separator, IsNextWord}
use Rattle.t3_console.proofs.Stepping.{putting_more, tail_is, part_is}
use Rattle.t3_console.proofs.words.put_words.Goals as goal

pub loop-word-preserved : goal.loop-word-preserved
loop-word-preserved c =
    let text = c.args.text.now in
    let at = c.loop-word.at in
    let long = c.in-Some.word.length in
    let byte = slice_index text (at + long) in
    let width = c.args.line.width in
    let column = c.loop-word.column in
    let begun = c.loop-word.begun.now in
    putting_more width (record { column = c.args.line.column; word = c.args.begun.now }) text c.args.out.now.items
    c.loop-word.out.items _ column _ begun at long c.in-Some.word.size
    c.loop-word.invariant
    (subst (λ (t : List ℕ). IsNextWord t long c.in-Some.word.size) (tail_is at text) c.in-Some.ensures)
    (c.in_ok-column.ensures.put ∙ ap (λ (w : List ℕ). c.loop-word.out.items ++ (put width column (begun ++ w) ++ separator_text byte))
    (part_is at long text))
    (c.in_ok-column.ensures.column ∙ ap (λ (w : List ℕ). column_after_separator byte (column_after width column (begun ++ w)))
    (part_is at long text))
