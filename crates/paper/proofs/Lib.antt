pub mod ExampleLaws
pub mod SingleLaws
pub mod StoryGrantLaws
pub mod StoryLaws
pub mod WitnessLaws
