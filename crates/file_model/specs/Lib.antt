-- how a file stands, and the statuses that follow from it alone
pub mod Status
-- devices with their files, and what is seen from outside
pub mod World
-- what each operation on a file does
pub mod Attempts
-- what a call of a device makes of the files that it tells
pub mod Told
-- the first file of a name, as the code finds it
pub mod First
-- Operations on the files of a program, over the devices of a bench (ISO 1989:1985, Sequential
-- I-O).
pub mod operations
