-- Join keeps what a walk does, step by step, and its units within a factor.
pub mod Join
-- Inline keeps what a walk does, and its units within a factor.
pub mod Inline
-- A loop that is tested before or after keeps what a walk does, and its units within a factor.
pub mod Tested
-- Memories that agree but for a loop's flag.
pub mod FlagCells
-- A loop with a flag, or with a cell that is never 1, keeps what a walk does, and its units within a factor.
pub mod Looped
-- A family that matches a sound one is sound, and the laws of the rules.
pub mod Sounds
