pub mod AnswerPlays
pub mod BadLinesPlays
pub mod FailuresPlays
pub mod FuelPlays
pub mod LeasesPlays
pub mod ThirdSpacesPlays
pub mod ValuesPlays
pub mod VersionsPlays
