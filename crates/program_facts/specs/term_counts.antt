-- terms of expressions, and of windows outside of expressions
pub mod Expression
-- terms of conditions
pub mod Condition
-- the largest in what statements are made of
pub mod Part
-- the largest in a statement
pub mod Statement
-- the largest in a program, and the limit on it
pub mod Program
