-- The makers of forms.
pub mod Makers
-- References and expressions.
pub mod References
