pub mod Growth
pub mod Units
pub mod Tying
pub mod Running
pub mod Stepping
