use Rattle.std.proofs.Common.{◌≡◌, ◌-◌, ℕ, List, length, take, drop, subst, sym, ◌∙◌, ap}
use Rattle.std.proofs.lemmas.List.{take_rest}
use Rattle.t3_lines.specs.Lines.{ended_lines}
use Rattle.t3_lines.proofs.TakenPieces.{wanted_from, found_from}
use Rattle.t3_lines.proofs.taking.take_line_end.Goals as goal

pub returns-in-None-clause-takes : goal.returns-in-None-clause-takes
returns-in-None-clause-takes g c =
    let old = c.args.taken.now.items in
    let P : List ℕ → Type 0 = λ bytes. ended_lines (take (length bytes - c.args.start) (drop c.args.start bytes)) ≡ 0 in
    let none = ap ended_lines (sym (take_rest old c.args.start)) ∙ subst P c.deref.ensures.value c.in-None.ensures in
    wanted_from c.args.start old c.take_to_newline.new.taken.items c.args.is_ended.now c.take_to_newline.new.is_ended
    (g.C.Console.session c.args.console.now) (g.C.Console.session c.take_to_newline.new.console) none c.take_to_newline.ensures.takes

pub returns-in-None-clause-found : goal.returns-in-None-clause-found
returns-in-None-clause-found g c =
    let old = c.args.taken.now.items in
    let P : List ℕ → Type 0 = λ bytes. ended_lines (take (length bytes - c.args.start) (drop c.args.start bytes)) ≡ 0 in
    let none = ap ended_lines (sym (take_rest old c.args.start)) ∙ subst P c.deref.ensures.value c.in-None.ensures in
    found_from c.args.start old c.take_to_newline.new.taken.items c.args.is_ended.now c.take_to_newline.new.is_ended
    (g.C.Console.session c.args.console.now) (g.C.Console.session c.take_to_newline.new.console) c.take_to_newline.result
    c.requires.start none
    c.take_to_newline.ensures.takes c.take_to_newline.ensures.found
