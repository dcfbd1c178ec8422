-- What a form that was read was read of.
pub mod Taken
-- A token that begins a statement is no header.
pub mod Verbs
-- How the scan of headers goes over tokens.
pub mod Goes
-- Over sentences.
pub mod Sentences
-- Over headers, and the whole division.
pub mod Division
