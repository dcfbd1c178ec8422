-- paragraphs that statements name
pub mod Named
-- what is stated of programs and their parts
pub mod Laws
