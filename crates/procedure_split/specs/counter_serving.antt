-- What is stated of the counters of graphs.
pub mod Laws
