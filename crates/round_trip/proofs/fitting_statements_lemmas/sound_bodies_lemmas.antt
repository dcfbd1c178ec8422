-- All rules on graphs keep them sound.
pub mod Rules
-- The procedures.
pub mod Procedures
