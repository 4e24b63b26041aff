pub mod Chosen
pub mod ClassTrees
pub mod FieldRows
pub mod Grown
pub mod KindRows
pub mod Numbered
pub mod RowReads
pub mod Told
