-- ranges that go on alike
pub mod Alike
-- what is counted of a tree
pub mod PartRows
-- the parts that are kept
pub mod KeptRows
-- the parts of trees that run on as others
pub mod StretchRows
-- the count as the size of a graph
pub mod GraphSums
