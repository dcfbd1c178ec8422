-- digits, and the signs beside and within them
pub mod ReadBack
