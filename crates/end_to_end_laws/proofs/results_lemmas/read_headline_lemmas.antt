-- what is read is as splitting asks
pub mod WellMade
