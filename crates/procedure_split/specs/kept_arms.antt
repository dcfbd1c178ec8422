-- trees whose choices have arms
pub mod Trees
-- what holds of them
pub mod Laws
