pub mod OwnSteps
pub mod Stays
pub mod Coming
pub mod Following
pub mod Starting
pub mod KeptKinds
pub mod Told
pub mod Selected
mod StoreRules
mod StoreLemmas
mod FieldLemmas
pub mod RemoteLemmas
mod ReferenceLemmas
pub mod ReplyLemmas
pub mod SetLemmas
pub mod CrossingLemmas
mod NamedLemmas
pub mod TakenLemmas
pub mod StartLemmas
pub mod AskedLemmas
