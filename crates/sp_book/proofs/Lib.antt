pub mod HandLemmas
pub mod SeatLemmas
pub mod StandLemmas
