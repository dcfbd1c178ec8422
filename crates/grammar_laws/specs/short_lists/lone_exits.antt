-- sentences of EXIT alone
pub mod Alone
