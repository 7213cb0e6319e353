-- How values on one stack, from the topmost on, and what is kept besides stand for frames.
use Rattle.std.specs.Prelude.{◌≡◌, ℕ, ◌+◌, ◌≤◌, ◌<◌, ◌^◌, List, [], ◌∷◌, length, take, drop}
use Rattle.t3_holder.specs.declared.holder.Holder.{Holder}
use Rattle.t3_frames.specs.declared.call.Call.{Call}
use Rattle.t3_frames.specs.declared.mark.FrameMark.{FrameMark}
use Rattle.t3_frames.specs.declared.mark.OlderMark.{OlderMark}
use Rattle.t3_frames.specs.Frame.{FrameValue, FramesValue, room, frame_limit}

-- the mark of a method that is called, where so many arguments are given and so many are missing
abbrev pub called_mark : Call → (given missing locals : ℕ) → FrameMark
called_mark call given missing locals =
    record {
      method = call.method;
      place = call.method + 10;
      next = call.method + 10;
      arguments = given + missing;
      given = given;
      locals = locals;
      this = call.this;
      defining = call.defining;
      gives = call.gives;
    }

-- how many values a frame with so many operands has
abbrev pub count_of : ℕ → FrameMark → ℕ
count_of operands mark = operands + (mark.locals + mark.arguments)

abbrev pub counts : List OlderMark → ℕ
counts [] = 0
counts (older ∷ others) = count_of older.operands older.mark + counts others

-- its operands are the topmost, then come its locals and then its arguments, the first ones first
abbrev pub frame_of : List Holder → ℕ → FrameMark → FrameValue
frame_of tops operands mark =
    record {
      method = mark.method;
      place = mark.place;
      next = mark.next;
      arguments = take mark.arguments (drop mark.locals (drop operands tops));
      given = mark.given;
      locals = take mark.locals (drop operands tops);
      operands = take operands tops;
      this = mark.this;
      defining = mark.defining;
      gives = mark.gives;
    }

-- the values of the frames below it
abbrev pub below : List Holder → ℕ → FrameMark → List Holder
below tops operands mark = drop mark.arguments (drop mark.locals (drop operands tops))

-- older frames, of which the newest is marked last
abbrev pub older_of : List Holder → List OlderMark → List FrameValue
older_of tops [] = []
older_of tops (older ∷ others) = frame_of tops older.operands older.mark ∷ older_of (below tops older.operands older.mark) others

-- frames, the newest of which has so many operands
abbrev pub frames_of : List Holder → ℕ → FrameMark → List OlderMark → FramesValue
frames_of tops operands newest older =
    record {
      newest = frame_of tops operands newest;
      older = older_of (below tops operands newest) older;
    }

-- of each older frame, the method stands where code can, and no more arguments were given than it has
abbrev pub AreMarks : List OlderMark → Type 0
AreMarks [] = Unit {0}
AreMarks (older ∷ others) = (older.mark.method < 2 ^ 31) × (older.mark.given ≤ older.mark.arguments) × AreMarks others

-- each value below the operands of the newest is a frame's, and room is left for one more than these; there is no more room for values
-- than is wanted, and as much for frames; the method stands where code can, and no more arguments were given than it has
pub record IsStack (tops : List Holder) (base : ℕ) (newest : FrameMark) (older : List OlderMark) (capacity older_room : ℕ) : Type 0 where
  pub counted : base ≡ newest.locals + newest.arguments + counts older
  pub holds : base ≤ length tops
  pub based : base < room
  pub few : length tops ≤ room
  pub room_is : capacity ≡ room
  pub frames : length older < frame_limit
  pub frames_room : frame_limit ≤ older_room
  pub within : newest.method < 2 ^ 31
  pub given : newest.given ≤ newest.arguments
  pub older_marks : AreMarks older
