-- What instructions that make, throw or say ask for.
use Rattle.t3_holder.specs.FileName.{IsFileName}
use Rattle.t3_frames.specs.declared.call.Call.{Call}
use Rattle.t3_frame_instructions.specs.Effect.{Effect, Say, Save, Restore, Restart}
use Rattle.t3_frame_instructions.specs.Acting.{quiet_of}
use Rattle.t3_object_instructions.specs.declared.effect.MakeEffect.{MakeEffect}
use Rattle.t3_object_instructions.specs.declared.effect.MakeEffect.TheVariants as made

-- and by which call, where it asks for one
abbrev pub effect_of : MakeEffect → Call → Effect
effect_of (made.Quiet effect) call = quiet_of effect call
effect_of (made.Say text) call = Say text
effect_of (made.Save name) call = Save name
effect_of (made.Restore name) call = Restore name
effect_of made.Restart call = Restart

-- a file that is asked for has a name that files may have
abbrev pub HasFileName : MakeEffect → Type 0
HasFileName (made.Save name) = IsFileName name
HasFileName (made.Restore name) = IsFileName name
HasFileName _ = Unit {0}
