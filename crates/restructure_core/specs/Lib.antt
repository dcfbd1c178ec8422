-- In reading order.
-- what control comes to, whatever the data
pub mod Flow
-- the structured program that a program is restructured to
pub mod Made
-- the limits of the result
pub mod Limit
-- what each answer says of the bytes
pub mod Fault
pub mod Pipeline
-- what is printed of results
pub mod Results
-- A source to what comes of its run.
pub mod run
