-- How what went wrong in a reading is reported.
pub mod Fault
