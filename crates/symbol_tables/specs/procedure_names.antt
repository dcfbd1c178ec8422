-- Paragraphs and sections by name, as headers tell them.
pub mod Procedures
