-- What forms give where the next token is known.
pub mod From
-- Lists whose items have what is asked of them, and what is made of such parts.
pub mod Lists
pub mod Made
-- Statements that hold no others, what stands before what others hold, and those.
pub mod Simple
pub mod Heads
pub mod Holding
-- Sentences, paragraphs, and paragraphs with their headers.
pub mod Sentences
pub mod Paragraphs
pub mod Headed
