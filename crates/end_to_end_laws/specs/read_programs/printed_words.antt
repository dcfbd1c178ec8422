-- What holds of the words that programs are printed with.
pub mod Laws
