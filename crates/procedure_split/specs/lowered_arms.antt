-- how deep what a program is split into nests
pub mod Laws
