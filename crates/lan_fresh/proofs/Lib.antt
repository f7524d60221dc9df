pub mod Files
pub mod Greatest
pub mod LawTerms
pub mod PathRules
pub mod Paths
