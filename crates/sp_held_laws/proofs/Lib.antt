mod BetweenLemmas
mod RequestLemmas
mod HolderLemmas
mod GivenLaws
mod StandLaws
mod NamedLaws
mod ClientSteps
mod OwnerSteps
mod HeldLaws
mod PassesPlays
mod GuardLemmas
mod ResultLemmas
mod GoingLemmas
mod NoneLemmas
mod WholeLemmas
pub mod GrownRules
pub mod GrantLemmas
pub mod GrownFrames
pub mod ParkedLemmas
pub mod FreeLemmas
pub mod GrantRules
pub mod SettleLemmas
pub mod DueLemmas
pub mod GrantLaws
pub mod RequestRules
pub mod NewGrants
pub mod CleanLaws
pub mod StepLaws
pub mod EntryLaws
pub mod ReachLaws
pub mod AskedLemmas
pub mod SecureLaws
mod RunPlays
mod QuietPlays
pub mod StandingLaws
