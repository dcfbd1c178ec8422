-- words on cells
pub mod Words
-- choices over the lists of their arms
pub mod Lists
