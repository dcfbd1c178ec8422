-- What terms that were counted before change.
pub mod Count
