-- what a program is split into behaves as it did
pub mod Alike
