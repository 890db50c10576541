pub mod ExampleLaws
pub mod LineLaws
pub mod TextLaws
pub mod ViewLaws
