use Rattle.std.proofs.Common.{◌≡◌, ℕ, ◌+◌, ◌-◌, Option, Ok, List, length, take, drop, ap, ◌∙◌, subst, arith}
use Rattle.std.specs.Str.Lines.{strip_carriage_return}
use Rattle.std.proofs.lemmas.List.{take_rest}
use Rattle.t3_lines.specs.Lines.{readable}
use Rattle.t3_lines.specs.Inner.Taking.{FindsEnd}
use Rattle.t3_lines.specs.Inner.Sound.{IsSound}
use Rattle.t3_lines.proofs.Sounding.{sound_more, sound_next, sound_end, past_line, end_line, ended_line, last_line}
use Rattle.t3_lines.proofs.reader.LineReader.next_line.Goals.{in-Some, in-None-3}
use Rattle.t3_lines.proofs.reader.LineReader.next_line.Goals as goal

pub returns-in-None-clause-line : goal.returns-in-None-clause-line
returns-in-None-clause-line g c =
    let inside = c.self.inside in
    let taken = c.take_line_end.new.taken.items in
    let is_ended = c.take_line_end.new.is_ended in
    let sound : IsSound taken inside.start inside.given is_ended =
    sound_more inside.given inside.start _ inside.taken.items taken inside.is_ended is_ended _ _ c.self.invariant c.in_ok-end.ensures.takes in
    let found = subst (λ (end : Option ℕ). FindsEnd inside.start taken is_ended (Ok end)) c.in-None.is c.in_ok-end.ensures.found in
    λ input is. past_line taken input inside.start inside.given c.args.self.now.given is_ended sound found c.if-not-self.true
    (ap (λ r. r.given) c.self.view_is) is

pub returns-in-None-2-clause-line : goal.returns-in-None-2-clause-line
returns-in-None-2-clause-line g c =
    let inside = c.self.inside in
    let taken = c.take_line_end.new.taken.items in
    let is_ended = c.take_line_end.new.is_ended in
    let sound : IsSound taken inside.start inside.given is_ended =
    sound_more inside.given inside.start _ inside.taken.items taken inside.is_ended is_ended _ _ c.self.invariant c.in_ok-end.ensures.takes in
    λ input is. end_line taken input inside.start inside.given c.args.self.now.given is_ended sound c.if-not-self.false (omega arith)
    (ap (λ r. r.given) c.self.view_is) is

pub invariant_of-self-in_err-line : goal.invariant_of-self-in_err-line
invariant_of-self-in_err-line g c =
    let inside = c.self.inside in
    let taken = c.take_line_end.new.taken.items in
    let is_ended = c.take_line_end.new.is_ended in
    let sound : IsSound taken inside.start inside.given is_ended =
    sound_more inside.given inside.start _ inside.taken.items taken inside.is_ended is_ended _ _ c.self.invariant c.in_ok-end.ensures.takes in
    elim c.match-end.branch [
      | in-Some w ↦ rw w.self-inside-is sound
      | in-None-3 w ↦ rw w.self-inside-is sound
    ]

pub invariant_of-self-2 : goal.invariant_of-self-2
invariant_of-self-2 g c =
    let inside = c.self.inside in
    let taken = c.take_line_end.new.taken.items in
    let is_ended = c.take_line_end.new.is_ended in
    let sound : IsSound taken inside.start inside.given is_ended =
    sound_more inside.given inside.start _ inside.taken.items taken inside.is_ended is_ended _ _ c.self.invariant c.in_ok-end.ensures.takes in
    elim c.match-end.branch [
      | in-Some w ↦
          let found = subst (λ (end : Option ℕ). FindsEnd inside.start taken is_ended (Ok end)) w.in-Some.is c.in_ok-end.ensures.found in
          rw (w.self-inside-is, w.next-is) (sound_next taken inside.start inside.given w.in-Some.end is_ended sound found)
      | in-None-3 w ↦
          let found = subst (λ (end : Option ℕ). FindsEnd inside.start taken is_ended (Ok end)) w.in-None.is c.in_ok-end.ensures.found in
          let size : w.len-in-None-3.result ≡ length taken = omega arith in
          rw (w.self-inside-is, w.next-is, size) (sound_end taken inside.start inside.given is_ended sound found w.if-not-self.false
          (λ at. w.if-self-len.false (omega arith)))
    ]

pub returns-clause-line : goal.returns-clause-line
returns-clause-line g c =
    let inside = c.self.inside in
    let taken = c.take_line_end.new.taken.items in
    let is_ended = c.take_line_end.new.is_ended in
    let sound : IsSound taken inside.start inside.given is_ended =
    sound_more inside.given inside.start _ inside.taken.items taken inside.is_ended is_ended _ _ c.self.invariant c.in_ok-end.ensures.takes in
    elim c.match-end.branch [
      | in-Some w ↦
          let found = subst (λ (end : Option ℕ). FindsEnd inside.start taken is_ended (Ok end)) w.in-Some.is c.in_ok-end.ensures.found in
          let line = ap (λ n. n.0.now) w.next-is ∙ w.without_return.ensures
          ∙ ap (λ (b : List ℕ). strip_carriage_return (take (w.in-Some.end - inside.start) (drop inside.start b))) w.deref.ensures.value in
          λ input is. ended_line taken input c.in_ok-line.line inside.start inside.given c.args.self.now.given w.in-Some.end
          (inside.given + 1) is_ended sound
          found (ap (λ r. r.given) c.self.view_is) (c.in_ok-line.ensures.copy ∙ ap readable line) (rw w.self-inside-is at is)
      | in-None-3 w ↦
          let found = subst (λ (end : Option ℕ). FindsEnd inside.start taken is_ended (Ok end)) w.in-None.is c.in_ok-end.ensures.found in
          let line = ap (λ n. n.0.now) w.next-is
          ∙ ap (λ (b : List ℕ). take (length b - inside.start) (drop inside.start b)) w.deref-in-None-3.ensures.value
          ∙ take_rest taken inside.start in
          λ input is. last_line taken input c.in_ok-line.line inside.start inside.given c.args.self.now.given
          (inside.given + 1) is_ended sound found
          w.if-not-self.false (λ at. w.if-self-len.false (omega arith)) (ap (λ r. r.given) c.self.view_is)
          (c.in_ok-line.ensures.copy ∙ ap readable line) (rw w.self-inside-is at is)
    ]
