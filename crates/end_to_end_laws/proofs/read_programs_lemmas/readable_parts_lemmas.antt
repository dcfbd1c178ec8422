-- Files and records by their names.
pub mod Names
-- Status items.
pub mod Status
-- SELECTs with their status items.
pub mod Selects
-- What the divisions of a program that is read declare.
pub mod Declared
-- Names and values of a program that is read.
pub mod Titled
-- The divisions of a program that is read.
pub mod Read
