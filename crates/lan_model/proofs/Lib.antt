pub mod BlankFits
pub mod Decimals
pub mod FewLeaves
pub mod PlainLemmas
pub mod Unnumbered
