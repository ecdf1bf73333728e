pub mod Quarters
pub mod MarchYears
pub mod JulianSteps
pub mod GregorianSteps
pub mod Answers
