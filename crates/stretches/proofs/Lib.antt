pub mod Answers
pub mod Ended
pub mod Growing
pub mod OfKind
pub mod Room
pub mod SameKind
pub mod WholeList
pub mod Fixed
