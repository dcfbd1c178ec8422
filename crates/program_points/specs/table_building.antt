-- what is known of a program's places while they are numbered
pub mod Numbering
