-- The form of a name in front of what may be subscripts.
pub mod NameFront
