-- an added item, and the number that it holds
pub mod Cell
-- what is stated of it
pub mod Laws
