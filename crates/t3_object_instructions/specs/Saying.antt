-- The function by which values are said (the chapter on the machine, in this project's profile).
use Rattle.std.specs.Prelude.{ℕ, Option, Some, None}
use Rattle.t3_holder.specs.declared.holder.Holder.{Holder}
use Rattle.t3_holder.specs.declared.holder.Holder.TheVariants.{Nil, Func}
use Rattle.t3_ops.specs.declared.fault.Fault.TheVariants.{Kind, NoSay}
use Rattle.t3_frames.specs.Frame.{function_on}
use Rattle.t3_frame_instructions.specs.Context.{Context, Action, faults, answers, calls}

-- a value is said by calling that function with it, if there is one
abbrev pub says_by : Option ℕ → Holder → Context → Action
says_by None value context = faults NoSay context
says_by (Some method) value context = calls (function_on method value) context

abbrev pub saying : Holder → Context → Action
saying value context = says_by context.say value context

-- the function as a value, or nil
abbrev pub say_value : Option ℕ → Holder
say_value None = Nil
say_value (Some method) = Func method

-- another function is it from now on, or none, and the former one is answered
abbrev pub changes_say : Option ℕ → Context → Action
changes_say say context = answers (say_value context.say) 0 (record context { say = say })

abbrev pub sets_say : Holder → Context → Action
sets_say (Func method) context = changes_say (Some method) context
sets_say Nil context = changes_say None context
sets_say _ context = faults Kind context
