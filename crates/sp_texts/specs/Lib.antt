pub mod Statuses
pub mod Reports
pub mod Texts
pub mod RefusalTexts
