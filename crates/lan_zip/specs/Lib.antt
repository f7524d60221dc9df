pub mod Form
pub mod Walk
pub mod Refusals
pub mod Building
pub mod Inverse
pub mod Standing
