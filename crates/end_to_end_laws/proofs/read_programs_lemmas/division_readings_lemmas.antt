-- The divisions, form by form.
pub mod Divisions
-- Where paragraphs begin.
pub mod Begin
