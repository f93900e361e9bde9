pub mod Course
pub mod Grammar
pub mod Language
pub mod Measure
pub mod Sight
pub mod Steps
