pub mod Access
pub mod Checks
pub mod Entries
pub mod LinkRules
pub mod Meanings
pub mod References
pub mod RuleNames
