pub mod HeldLemmas
pub mod HoldingLemmas
pub mod LentLemmas
pub mod OrderLemmas
pub mod RowLemmas
pub mod SameLemmas
pub mod TableLemmas
