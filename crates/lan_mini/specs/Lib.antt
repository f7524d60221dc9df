pub mod Form
pub mod Cutting
pub mod Placing
pub mod Refusals
pub mod Walk
pub mod Building
pub mod Pages
pub mod Inverse
