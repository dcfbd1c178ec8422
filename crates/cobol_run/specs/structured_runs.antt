-- What runs of structured programs show.
pub mod Shown
