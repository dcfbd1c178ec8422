-- how large what stands in trees is, row by row
pub mod SizeRows
