use Rattle.std.proofs.Common.{◌≡◌, ℕ, suc, ◌+◌, List, [], ◌∷◌, length, Option, Some, None, Result, Ok, Err, refl, sym, ap}
use Rattle.std.specs.Prelude.{map}
use Rattle.t3_pools.specs.Pool.{Pool}
use Rattle.t3_methods.specs.declared.refusal.CodeRefusal.{CodeRefusal}
use Rattle.t3_methods.specs.ExceptionTable.{handler_of}
use Rattle.t3_frames.specs.Frame.{FrameValue}
use Rattle.t3_except.specs.Covering.{Covered, covered, covered_by}
use Rattle.t3_interp.specs.Step.{Catcher, catcher_by, catcher_in}
use Rattle.t3_interp.specs.Catching.{spot_of, covered_from}
use Rattle.t3_interp.proofs.laws.one_cover.Goals as goal

as_many : (frames : List FrameValue) → length (map spot_of frames) ≡ length frames
as_many [] = refl
as_many (frame ∷ older) = ap suc (as_many older)

by : (r : Result (Option ℕ) CodeRefusal) (frame : FrameValue) (older : List FrameValue) (rest : Catcher) (told : Covered)
    → covered_from rest ≡ told
    → covered_from (catcher_by r frame older rest) ≡ covered_by r frame.method (length (map spot_of older)) told
by (Err refusal) frame older rest told same = refl
by (Ok (Some handler)) frame older rest told same = ap (λ n. Ok (Some (n, frame.method + handler))) (sym (as_many older))
by (Ok None) frame older rest told same = same

one : (code : Pool) (classes : List ℕ) (frames : List FrameValue)
    → covered_from (catcher_in code classes frames) ≡ covered code classes (map spot_of frames)
one code classes [] = refl
one code classes (frame ∷ older) =
    by (handler_of code frame.method frame.place classes) frame older (catcher_in code classes older)
    (covered code classes (map spot_of older)) (one code classes older)

pub returns : goal.returns
returns c = one
