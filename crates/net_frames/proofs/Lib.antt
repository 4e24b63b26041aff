pub mod Loop
pub mod Ints
pub mod FieldLaws
pub mod ValueLaws
pub mod MessageLaws
pub mod BodyLaws
pub mod FrontLaws
pub mod StreamLaws
