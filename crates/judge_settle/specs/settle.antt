pub mod Joined
pub mod Trees
pub mod Leaves
pub mod Sides
pub mod Scenes
pub mod Answers
pub mod Words
