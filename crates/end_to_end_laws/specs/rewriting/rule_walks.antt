-- What each rule keeps.
pub mod Laws
