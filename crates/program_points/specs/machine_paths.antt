-- points whose counted loops have forgotten their turns
pub mod Uncounted
-- flow paths here and in the theory of control are the same
pub mod Laws
