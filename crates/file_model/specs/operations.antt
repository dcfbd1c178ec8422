-- what contracts see of the devices of a bench
pub mod Seen
-- how the files of a program stand over the devices on a bench, in a world
pub mod Standing
-- what a call makes of the devices of a bench, and what an operation comes to in a world
pub mod Calls
-- what becomes of a world where the files that are open are closed
pub mod Shutting
-- what the devices of a bench come to, whatever files they tell
pub mod Falling
