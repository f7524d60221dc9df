pub mod Blocks
pub mod Kept
pub mod OneList
pub mod ReadBack
pub mod Rows
pub mod Spread
pub mod WrittenFooter
pub mod WrittenMessage
