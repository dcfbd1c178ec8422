-- What is left of VARYING after its first parts; the other definitions are the forms of
-- `stmt_forms`.
pub mod Step
