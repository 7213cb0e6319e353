use Rattle.std.proofs.Common.{◌≡◌, ℕ, List, ◌++◌, ◌∙◌, ap, sym, subst, take, drop}
use Rattle.std.proofs.lemmas.List.{length-drop}
use Rattle.t3_console.specs.Inner.Stepping.{PutsWords}
use Rattle.t3_console.proofs.Stepping.{put_all, tail_is, turned, said_some, said_none}
use Rattle.t3_console.proofs.words.say_words.Goals as goal

pub returns-then-at-gt0-clause-put : goal.returns-then-at-gt0-clause-put
returns-then-at-gt0-clause-put c =
    put_all c.args.line.width (record { column = c.args.line.column; word = c.args.word.now.items }) c.args.text.now
    c.args.out.now.items _ c.in_ok-column.column c.in_ok-column.at
    (subst (λ (w : List ℕ). PutsWords c.args.line.width (record { column = c.args.line.column; word = w }) c.args.text.now
    c.args.out.now.items c.put_words.new.out.items c.in_ok-column.column c.in_ok-column.at) c.deref.ensures.value
    c.in_ok-column.ensures.put)

pub returns-then-at-gt0-clause-after : goal.returns-then-at-gt0-clause-after
returns-then-at-gt0-clause-after c =
    let done = subst (λ (w : List ℕ). PutsWords c.args.line.width (record { column = c.args.line.column; word = w }) c.args.text.now
    c.args.out.now.items c.put_words.new.out.items c.in_ok-column.column c.in_ok-column.at) c.deref.ensures.value
    c.in_ok-column.ensures.put in
    said_some c.args.line.width c.args.line.column c.in_ok-column.column c.args.word.now.items c.args.text.now c.args.out.now.items
    c.put_words.new.out.items _ c.in_ok-column.at
    done c.if-at-gt0.true
    (turned c.args.word.now.items _ c.extend_from_slice.new.self.items c.rotate_left.new.self.items _ _
    (c.in_ok-extend_from_slice.ensures.items ∙ ap (λ (t : List ℕ). c.args.word.now.items ++ t) (tail_is c.in_ok-column.at c.args.text.now))
    (subst (λ (n : ℕ). c.rotate_left.new.self.items ≡ drop n c.extend_from_slice.new.self.items ++ take n
    c.extend_from_slice.new.self.items) (c.len-taken.ensures ∙ c.args.word.now.ok.0) c.rotate_left.ensures.items)
    (sym (length-drop c.in_ok-column.at c.args.text.now))
    c.truncate.ensures.items)

pub returns-else-at-gt0-clause-put : goal.returns-else-at-gt0-clause-put
returns-else-at-gt0-clause-put c =
    put_all c.args.line.width (record { column = c.args.line.column; word = c.args.word.now.items }) c.args.text.now
    c.args.out.now.items _ c.in_ok-column.column c.in_ok-column.at
    (subst (λ (w : List ℕ). PutsWords c.args.line.width (record { column = c.args.line.column; word = w }) c.args.text.now
    c.args.out.now.items c.put_words.new.out.items c.in_ok-column.column c.in_ok-column.at) c.deref.ensures.value
    c.in_ok-column.ensures.put)

pub returns-else-at-gt0-clause-after : goal.returns-else-at-gt0-clause-after
returns-else-at-gt0-clause-after c =
    let done = subst (λ (w : List ℕ). PutsWords c.args.line.width (record { column = c.args.line.column; word = w }) c.args.text.now
    c.args.out.now.items c.put_words.new.out.items c.in_ok-column.column c.in_ok-column.at) c.deref.ensures.value
    c.in_ok-column.ensures.put in
    said_none c.args.line.width c.args.line.column c.in_ok-column.column c.args.word.now.items c.args.text.now c.args.out.now.items
    c.put_words.new.out.items _ c.in_ok-column.at
    done c.if-at-gt0.false
    (c.in_ok-extend_from_slice.ensures.items ∙ ap (λ (t : List ℕ). c.args.word.now.items ++ t) (tail_is c.in_ok-column.at c.args.text.now))
