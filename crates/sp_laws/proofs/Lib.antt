pub mod MadeLemmas
mod CountLemmas
mod CountSteps
mod CountRules
pub mod FlowRules
pub mod WaitLemmas
pub mod WaitHistories
pub mod InboundLemmas
pub mod HeldCalls
mod OwingLemmas
mod PlaceLemmas
mod PlaceRules
pub mod PlaceEvents
mod AwayRules
pub mod OnceRules
pub mod SpaceLemmas
mod EndedLemmas
pub mod PastLemmas
mod IdleLemmas
mod AwaitedLemmas
pub mod AskingLemmas
pub mod GivenRules
mod PointerLemmas
mod NamingLemmas
mod WayLemmas
mod GroupMoves
mod OnTheWayRules
mod OnTheWayEvents
mod MomentLemmas
pub mod ApartLemmas
pub mod WaitRules
pub mod ParkedWaitLemmas
mod RowLemmas
mod TreeOfTasks
mod TreeOfFrames
mod TreeOfSpaces
mod CallNumbers
mod GrownTrees
mod RootTrees
mod TreeOfWorlds
pub mod ShutLemmas
pub mod FrameFlows
pub mod FrameSteps
pub mod FrameEvents
pub mod OpenLemmas
pub mod SilentLemmas
pub mod EventRules
pub mod StartedLemmas
pub mod DirectionLemmas
pub mod CallEndLemmas
pub mod AnswerLemmas
mod LookupLemmas
pub mod RecordRowLemmas
pub mod CallEvents
pub mod SpaceEvents
pub mod LentEvents
pub mod ObjectLemmas
pub mod FittedLemmas
mod IdLemmas
mod EndNotes
mod EndLemmas
mod BookRowLemmas
