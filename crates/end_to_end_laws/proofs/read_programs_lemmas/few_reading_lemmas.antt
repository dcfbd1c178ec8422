-- A whole program, of no more tokens than their limit.
pub mod Few
