mod MethodTables
mod Evaluating
mod Turning
mod Arguments
mod Present
mod CarriedOut
