-- All rules keep arms.
pub mod Rules
-- And programs that are split nest within the limit.
pub mod Split
