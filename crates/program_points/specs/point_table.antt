-- tables of places, and what a level comes to among them
pub mod Table
