-- the headline over control, with COBOL's parts and items
pub mod Joined
