-- numbers one after the other
pub mod NumberRows
-- words on cells, row by row
pub mod WordRows
-- choices over lists, row by row
pub mod ListRows
-- choices of a tree, row by row
pub mod ChoiceRows
