-- Names that fit entries.
pub mod Fitting
-- What holds of them.
pub mod Laws
