-- The two meanings of a structured program.
pub mod Agreement
-- Runs of structured programs.
pub mod Runs
