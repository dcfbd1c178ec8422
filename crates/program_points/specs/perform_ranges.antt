-- the ranges that statements name
pub mod Named
