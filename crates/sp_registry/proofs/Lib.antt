pub mod BindingsLemmas
pub mod CountsLemmas
pub mod TableLemmas
