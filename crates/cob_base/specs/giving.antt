-- what a sink gains
pub mod Giving
