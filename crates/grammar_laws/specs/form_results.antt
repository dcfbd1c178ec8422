-- What a form gives where no name fault is noted.
pub mod Giving
-- Tokens whose numbers are numbers.
pub mod Numbered
-- What literals give.
pub mod Laws
