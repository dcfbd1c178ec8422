-- Each form is lawful, a file for each file of forms.
pub mod SimpleLaws
pub mod HoldingLaws
pub mod ParagraphLaws
