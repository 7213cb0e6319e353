-- What only the code inside cites: the faults of headers, and how the fields of a reader stand for its stream.
pub mod Faults
pub mod History
pub mod Reading
pub mod Steps
