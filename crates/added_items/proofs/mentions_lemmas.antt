-- where statements name cells, row by row
pub mod MentionRows
