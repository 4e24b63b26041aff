pub mod ConnectionLemmas
pub mod ParkingLemmas
pub mod TicketLemmas
