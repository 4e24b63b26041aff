pub mod AllClientsLemmas
pub mod OneClientLemmas
pub mod PassingLemmas
