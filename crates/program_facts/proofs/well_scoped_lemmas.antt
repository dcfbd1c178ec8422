-- What is made of named parts is named.
pub mod Made
-- What is named names items of its own.
pub mod OwnItems
