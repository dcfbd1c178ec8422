-- what is stated of the bytes of number items
pub mod Laws
