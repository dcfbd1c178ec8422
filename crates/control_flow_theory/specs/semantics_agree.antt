-- Two meanings are the same behaviour.
pub mod Same
-- Laws of structured programs.
pub mod Laws
