pub mod OrderLemmas
pub mod RankLemmas
pub mod RoomLemmas
pub mod SlotLemmas
pub mod TurnLemmas
