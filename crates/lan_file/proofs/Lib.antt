pub mod Entries
pub mod FileBack
pub mod FileLaid
pub mod FilePut
pub mod FileStands
pub mod HeadHeld
pub mod HeadLaws
pub mod Held
pub mod LawTerms
pub mod Opened
pub mod PartLemmas
mod KeptPicks
pub mod Picked
pub mod TablesRead
pub mod WrittenColumn
pub mod WrittenFile
pub mod WrittenPage
pub mod WrittenRows
