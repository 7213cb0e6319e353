use Rattle.std.proofs.Common.{◌≡◌, ◌-◌, ℕ, Bool, true, false, List, length, take, drop, subst, sym, ◌∙◌, ap, arith}
use Rattle.std.proofs.lemmas.List.{take_rest}
use Rattle.t3_lines.specs.Lines.{ended_lines}
use Rattle.t3_lines.specs.Inner.Taking.{TakesWanted, IsLineEnd}
use Rattle.t3_lines.proofs.TakenPieces.{taken_to_end, taken_with, taking_more, end_found}
use Rattle.t3_lines.proofs.taking.take_to_newline.Goals as goal

pub returns-then-branch-eq0-clause-takes : goal.returns-then-branch-eq0-clause-takes
returns-then-branch-eq0-clause-takes g c =
    let old = c.args.taken.now.items in
    let new = c.take_piece.new.taken.items in
    let session = g.C.Console.session in
    let taken =
    taken_to_end old c.loop-taken.taken.items new (session c.args.console.now) (session c.loop-taken.console)
    (session c.take_piece.new.console)
    c.in_ok-take_piece.field-0 c.loop-taken.invariant.taking (omega arith) c.in_ok-take_piece.ensures.piece (omega arith) in
    let P : Bool → Type 0 = λ was. TakesWanted (ended_lines old) old new was true (session c.args.console.now)
    (session c.take_piece.new.console) in
    subst P (sym c.if-is_ended.false) taken

pub returns-in-Some-clause-takes : goal.returns-in-Some-clause-takes
returns-in-Some-clause-takes g c =
    let old = c.args.taken.now.items in
    let new = c.take_piece.new.taken.items in
    let session = g.C.Console.session in
    let taken =
    taken_with old c.loop-taken.taken.items new (session c.args.console.now) (session c.loop-taken.console)
    (session c.take_piece.new.console)
    c.in_ok-take_piece.field-0 c.loop-taken.invariant.taking (omega arith) c.in_ok-take_piece.ensures.piece (omega arith) in
    let P : Bool → Type 0 = λ was. TakesWanted (ended_lines old) old new was false (session c.args.console.now)
    (session c.take_piece.new.console) in
    let Q : Bool → Type 0 =
    λ is. TakesWanted (ended_lines old) old new c.args.is_ended.now is (session c.args.console.now) (session c.take_piece.new.console) in
    subst Q (sym c.loop-taken.invariant.running) (subst P (sym c.if-is_ended.false) taken)

pub returns-in-Some-clause-found : goal.returns-in-Some-clause-found
returns-in-Some-clause-found g c =
    let session = g.C.Console.session in
    end_found c.args.taken.now.items c.loop-taken.taken.items c.take_piece.new.taken.items (session c.args.console.now)
    (session c.loop-taken.console) (session c.take_piece.new.console)
    c.in_ok-take_piece.field-0 c.len-start.result c.in-Some.place c.loop-taken.invariant.taking c.in_ok-take_piece.ensures.piece
    (omega arith)
    (subst (λ (bytes : List ℕ). IsLineEnd (take (length bytes - c.len-start.result)
    (drop c.len-start.result bytes)) c.in-Some.place) c.deref.ensures.value c.in-Some.ensures)

pub loop-taken-preserved : goal.loop-taken-preserved
loop-taken-preserved g c =
    let session = g.C.Console.session in
    let new = c.take_piece.new.taken.items in
    record {
      taking =
          taking_more c.args.taken.now.items c.loop-taken.taken.items new (session c.args.console.now) (session c.loop-taken.console)
          (session c.take_piece.new.console)
          c.in_ok-take_piece.field-0 c.len-start.result c.loop-taken.invariant.taking (omega arith) c.in_ok-take_piece.ensures.piece
          (omega arith) (omega arith)
          (ap ended_lines (sym (take_rest new c.len-start.result))
          ∙ subst (λ (bytes : List ℕ). ended_lines (take (length bytes - c.len-start.result)
          (drop c.len-start.result bytes)) ≡ 0) c.deref.ensures.value c.in_default.ensures);
      faults = c.in_ok-take_piece.ensures.cause ∙ c.loop-taken.invariant.faults;
      running = c.loop-taken.invariant.running;
    }
