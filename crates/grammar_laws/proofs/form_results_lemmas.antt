-- What the makers of forms give, each law written as the form is.
pub mod Giving
-- Numbers and literals.
pub mod Literals
