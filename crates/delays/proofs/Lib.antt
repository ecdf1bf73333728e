pub mod Late
pub mod Fixed
