-- What is named names paragraphs of its own.
pub mod OwnParagraphs
