-- IF and EVALUATE of the program's own
pub mod OwnRows
