-- Savepoints, and undoing to them (the chapter on function sets, in this project's profile).
use Rattle.std.specs.Prelude.{ℕ}
use Rattle.t3_holder.specs.declared.holder.Holder.TheVariants.{Nil}
use Rattle.t3_store.specs.Store.{saved, undone, is_held}
use Rattle.t3_frame_instructions.specs.Context.{Context, Action, with_store, answers}
use Rattle.t3_frame_instructions.specs.Relations.{truth_value_of}

-- the indices of savepoint() and undo() in the general set
abbrev pub savepoint_function : ℕ
savepoint_function = 13

abbrev pub undo_function : ℕ
undo_function = 14

-- a savepoint is made: a whole copy of the persistent objects; the answer is nil
abbrev pub saves : Context → Action
saves context = answers Nil 0 (with_store (saved context.store) context)

-- the newest savepoint's copy takes the place of the persistent objects, and the answer is true; or none is held, nothing changes, and
-- it is nil
abbrev pub undoes : Context → Action
undoes context = answers (truth_value_of (is_held context.store.marks)) 0 (with_store (undone context.store) context)
