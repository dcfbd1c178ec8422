-- Each form is lawful.
pub mod WordLaws
