pub mod Each
pub mod Offsets
pub mod Cuts
pub mod BoolBytes
pub mod Ends
pub mod BuiltRead
pub mod FlatRead
pub mod BoolsRead
