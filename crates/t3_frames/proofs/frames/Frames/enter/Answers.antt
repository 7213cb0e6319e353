use Rattle.std.proofs.Common.{◌≡◌, ◌+◌, ◌-◌, min, List, ◌∷◌, [], length, sym, ap, subst, ◌∙◌, reverse, vec_len, arith}
use Rattle.std.proofs.lemmas.List.{length-reverse, reverse-append}
use Rattle.std.specs.Option.{option_to_list}
use Rattle.t3_frames.specs.declared.mark.FrameMark.{FrameMark}
use Rattle.t3_frames.specs.declared.mark.OlderMark.{OlderMark}
use Rattle.t3_frames.specs.Frame.{FramesValue, enters}
use Rattle.t3_frames.specs.Inner.Marks.{frames_of, count_of, counts, AreMarks}
use Rattle.t3_frames.proofs.Tops.{counted_view}
use Rattle.t3_frames.proofs.Calls.{calls}
use Rattle.t3_frames.proofs.frames.Frames.enter.Goals as goal

pub push_nils_below-requires-clause-room : goal.push_nils_below-requires-clause-room
push_nils_below-requires-clause-room c =
    let base = c.self.inside.base in
    let held = c.self.inside.values.ok.0 in
    let seen = counted_view c.self.inside.values.items (vec_len c.self.inside.values - base) base c.self.inside.newest
    c.self.inside.older.items c.args.self.now c.self.invariant.counted
    (omega (arith, held, length-reverse c.self.inside.values.items, c.self.invariant.holds)) c.self.view_is in
    omega (arith, seen.1, held, c.requires.room, c.self.invariant.room_is)

pub push_some-requires : goal.push_some-requires
push_some-requires c =
    let base = c.self.inside.base in
    let held = c.self.inside.values.ok.0 in
    let seen = counted_view c.self.inside.values.items (vec_len c.self.inside.values - base) base c.self.inside.newest
    c.self.inside.older.items c.args.self.now c.self.invariant.counted
    (omega (arith, held, length-reverse c.self.inside.values.items, c.self.invariant.holds)) c.self.view_is in
    let below = c.push_nils_below.ensures in
    omega (arith, seen.1, held, c.requires.room, c.self.invariant.room_is, below.len, below.room)

pub push_nils-requires : goal.push_nils-requires
push_nils-requires c =
    let base = c.self.inside.base in
    let held = c.self.inside.values.ok.0 in
    let seen = counted_view c.self.inside.values.items (vec_len c.self.inside.values - base) base c.self.inside.newest
    c.self.inside.older.items c.args.self.now c.self.invariant.counted
    (omega (arith, held, length-reverse c.self.inside.values.items, c.self.invariant.holds)) c.self.view_is in
    let below = c.push_nils_below.ensures in
    let lays = c.push_some.ensures in
    omega (arith, seen.1, held, c.requires.room, c.self.invariant.room_is, below.len, below.room, lays.len, lays.room)

pub invariant_of-self : goal.invariant_of-self
invariant_of-self c =
    let base = c.self.inside.base in
    let held = c.self.inside.values.ok.0 in
    let seen = counted_view c.self.inside.values.items (vec_len c.self.inside.values - base) base c.self.inside.newest
    c.self.inside.older.items c.args.self.now c.self.invariant.counted
    (omega (arith, held, length-reverse c.self.inside.values.items, c.self.invariant.holds)) c.self.view_is in
    let o = vec_len c.self.inside.values - base in
    let above = c.min-arguments.result in
    let older = c.self.inside.older.items in
    let caller : OlderMark = record { mark = c.self.inside.newest; operands = c.len.result - base - above } in
    let least : above ≡ min c.args.call.count o = search arith in
    let marks : reverse c.push_reserved.new.self.items ≡ caller ∷ reverse older =
    ap reverse c.push_reserved.ensures.items ∙ reverse-append older (caller ∷ []) in
    let total : counts (reverse c.push_reserved.new.self.items) ≡ count_of caller.operands c.self.inside.newest + counts (reverse older) =
    ap counts marks in
    let newest = c.called-self-inside.ensures in
    let arguments = ap (λ (m : FrameMark). m.arguments) newest in
    let grown : vec_len c.push_nils.new.values
    ≡ vec_len c.self.inside.values + c.args.missing + length (option_to_list c.args.call.laid) + c.args.locals =
    omega (arith, c.push_nils_below.ensures.len, c.push_some.ensures.len, c.push_nils.ensures.len) in
    let long : length (reverse c.push_nils.new.values.items) ≡ vec_len c.push_nils.new.values =
    omega (arith, length-reverse c.push_nils.new.values.items, c.push_nils.new.values.ok.0) in
    record {
      counted = omega (
        arith,
        c.len-self-inside.ensures,
        grown,
        total,
        ap (λ (m : FrameMark). m.locals) newest,
        arguments,
        c.self.invariant.counted,
        least,
        held,
        length-reverse c.self.inside.values.items,
        c.len.ensures,
        c.count_of.ensures,
      );
      holds = omega (arith, c.len-self-inside.ensures, long);
      based = omega (arith, c.len-self-inside.ensures, grown, seen.1, held, c.requires.room);
      few = omega (arith, long, grown, seen.1, held, c.requires.room);
      room_is = c.push_nils.ensures.room ∙ c.push_some.ensures.room ∙ c.push_nils_below.ensures.room ∙ c.self.invariant.room_is;
      frames = omega (arith, ap (λ (m : List OlderMark). length m) marks, length-reverse older, seen.0, c.requires.frames);
      frames_room = omega (arith, c.push_reserved.ensures.capacity, c.self.invariant.frames_room);
      within = omega (arith, ap (λ (m : FrameMark). m.method) newest, c.requires.method);
      given = omega (arith, ap (λ (m : FrameMark). m.given) newest, arguments);
      older_marks = subst AreMarks (sym marks) (c.self.invariant.within, c.self.invariant.given, c.self.invariant.older_marks);
    }

pub returns : goal.returns
returns c =
    let base = c.self.inside.base in
    let items = c.self.inside.values.items in
    let held = c.self.inside.values.ok.0 in
    let o = vec_len c.self.inside.values - base in
    let above = c.min-arguments.result in
    let older = c.self.inside.older.items in
    let left = c.len.result - base - above in
    let caller : OlderMark = record { mark = c.self.inside.newest; operands = left } in
    let least : above ≡ min c.args.call.count o = search arith in
    let none = vec_len c.push_nils.new.values - c.len-self-inside.result in
    let newest = c.called-self-inside.result in
    let marks : reverse c.push_reserved.new.self.items ≡ caller ∷ reverse older =
    ap reverse c.push_reserved.ensures.items ∙ reverse-append older (caller ∷ []) in
    (λ i. frames_of (reverse c.push_nils.new.values.items) none newest (marks i))
    ∙ calls items c.push_nils_below.new.values.items c.push_some.new.values.items c.push_nils.new.values.items o
    (vec_len c.self.inside.values - above) above (c.count_of.result + above) left none c.self.inside.newest newest c.args.call
    c.args.locals c.args.missing (reverse older) (omega (arith, held, least)) least (ap (λ n. n + above) c.count_of.ensures)
    (omega (arith, c.len.ensures)) (omega (arith, c.len-self-inside.ensures)) c.push_nils_below.ensures.items c.push_some.ensures.items
    c.push_nils.ensures.items c.called-self-inside.ensures
    ∙ ap (λ (f : FramesValue). enters c.args.call c.args.locals c.args.missing f) c.self.view_is
