-- the lines that tell a trail
pub mod Trail
