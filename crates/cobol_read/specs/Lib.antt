-- The limits over the whole source.
pub mod Limit
-- Words that are left out.
pub mod LeftOut
-- The item of a FILE STATUS clause.
pub mod Status
-- That form is lawful.
pub mod StatusLaws
-- The whole program, over the names that it declares.
pub mod Program
-- What a source is read to, step by step.
pub mod Answer
-- Which bytes are which program, and the cause of each refusal.
pub mod Reading
-- What holds of it.
pub mod Laws
