pub mod ByName
pub mod Calling
pub mod Distinct
pub mod Held
pub mod HeldMore
pub mod LawTerms
pub mod Told
