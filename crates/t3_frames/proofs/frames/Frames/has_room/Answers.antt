use Rattle.std.proofs.Common.{◌≡◌, ℕ, ◌+◌, ◌-◌, ◌<◌, false, ◌&&◌, length, sym, ap, ◌∙◌, vec_len, arith}
use Rattle.std.specs.Prelude.{nat_lt, nat_le}
use Rattle.std.proofs.lemmas.List.{length-reverse}
use Rattle.std.proofs.lemmas.Bool.{lt-ltb, le-ltb}
use Rattle.t3_frames.specs.Frame.{values}
use Rattle.t3_frames.proofs.Tops.{counted_view}
use Rattle.t3_frames.proofs.frames.Frames.has_room.Goals as goal

lt-le_one : (n m : ℕ) → nat_lt n m ≡ nat_le (n + 1) m
lt-le_one n m = search arith

pub returns-then-len-lt-FRAME_LIMIT : goal.returns-then-len-lt-FRAME_LIMIT
returns-then-len-lt-FRAME_LIMIT c =
    let base = c.self.inside.base in
    let held = c.self.inside.values.ok.0 in
    let seen = counted_view c.self.inside.values.items (vec_len c.self.inside.values - base) base c.self.inside.newest
    c.self.inside.older.items c.args.self.now c.self.invariant.counted
    (omega (arith, held, length-reverse c.self.inside.values.items, c.self.invariant.holds)) c.self.view_is in
    let few : length c.args.self.now.older + 1 < 4096 =
    omega (arith, seen.0, c.self.inside.older.ok.0, c.len.ensures, c.if-len-lt-FRAME_LIMIT.true) in
    let all = values c.args.self.now + c.args.more + c.args.locals in
    let sum : c.len-then-len-lt-FRAME_LIMIT.result + c.from.result + c.from-then-len-lt-FRAME_LIMIT.result ≡ all =
    omega (arith, seen.1, held, c.len-then-len-lt-FRAME_LIMIT.ensures, c.from.ensures, c.from-then-len-lt-FRAME_LIMIT.ensures) in
    ap (λ n. nat_lt n 65536) sum ∙ lt-le_one all 65536
    ∙ ap (λ b. b && nat_le (all + 1) 65536) (sym (lt-ltb (length c.args.self.now.older + 1) 4096 few))

pub returns-else-len-lt-FRAME_LIMIT : goal.returns-else-len-lt-FRAME_LIMIT
returns-else-len-lt-FRAME_LIMIT c =
    let base = c.self.inside.base in
    let frames = length c.args.self.now.older + 1 in
    let seen = counted_view c.self.inside.values.items (vec_len c.self.inside.values - base) base c.self.inside.newest
    c.self.inside.older.items c.args.self.now c.self.invariant.counted
    (omega (arith, c.self.inside.values.ok.0, length-reverse c.self.inside.values.items, c.self.invariant.holds)) c.self.view_is in
    let same : c.len.result + 1 ≡ frames = omega (arith, seen.0, c.self.inside.older.ok.0, c.len.ensures) in
    let no : nat_lt frames 4096 ≡ false = le-ltb frames 4096 (omega (arith, same, c.if-len-lt-FRAME_LIMIT.false)) in
    ap (λ n. nat_lt n 4096) same ∙ no
    ∙ ap (λ b. b && nat_le (values c.args.self.now + c.args.more + c.args.locals + 1) 65536) (sym no)
