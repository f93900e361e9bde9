-- What the program answers: by its words, and by what the bytes read say.
pub mod Outcomes
pub mod Faults
pub mod Reports
pub mod Work
pub mod Derived
pub mod Verified
pub mod Answers
pub mod Complete
pub mod Texts
