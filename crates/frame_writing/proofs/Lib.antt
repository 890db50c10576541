pub mod KnownLaws
pub mod ListedLaws
