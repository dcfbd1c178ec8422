-- Parts of the form of what may be subscripts.
pub mod Front
pub mod End
