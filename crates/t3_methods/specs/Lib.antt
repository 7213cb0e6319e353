pub mod Operands
pub mod InstructionTable
pub mod EveryInstruction
pub mod Answers
pub mod MethodHeader
pub mod ExceptionTable
pub mod Inner
