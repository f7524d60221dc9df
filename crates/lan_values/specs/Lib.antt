pub mod Refusals
pub mod Cut
pub mod Inverse
