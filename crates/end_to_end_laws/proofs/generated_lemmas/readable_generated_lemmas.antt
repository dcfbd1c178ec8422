-- Generated programs are readable.
pub mod Joint
