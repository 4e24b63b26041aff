pub mod WalkRules
pub mod NoteLemmas
pub mod RisingMoves
mod GroupOrder
mod RisingRules
pub mod RisingHistories
pub mod RisingLaws
pub mod WorldFacts
pub mod RisingWorlds
pub mod AnsweringMoves
pub mod AnsweringLaws
pub mod PlaceWorlds
pub mod LastMoves
pub mod LastWorlds
pub mod ListLemmas
mod QueueLemmas
pub mod DeliveryLemmas
mod CameLemmas
pub mod EndLemmas
pub mod TurnLemmas
pub mod RowLemmas
pub mod FirstLemmas
pub mod HelloLemmas
pub mod TableLemmas
pub mod HandShakeLemmas
pub mod StayMoves
pub mod StayRules
pub mod StayFrames
pub mod StayLaws
pub mod ResultStays
pub mod RowStays
pub mod VersionLemmas
pub mod WelcomeLemmas
pub mod AnswerFinds
pub mod WelcomeFrames
pub mod WorldStays
pub mod UnbrokenLaws
pub mod SenderLemmas
pub mod SenderWorlds
pub mod OrderRules
pub mod OrderLaws
pub mod HeardLemmas
pub mod TimeLemmas
mod KindLemmas
mod RefusedLemmas
mod CallAnswerLemmas
