-- what a program is split into is structured
pub mod Laws
