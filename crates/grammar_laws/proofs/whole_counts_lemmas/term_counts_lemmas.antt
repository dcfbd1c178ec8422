-- What terms that were counted before change, by the makers of forms.
pub mod Fewer
-- References, operands and expressions.
pub mod TermLaws
