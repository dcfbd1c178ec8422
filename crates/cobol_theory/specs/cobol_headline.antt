-- the headline for COBOL programs
pub mod Alike
