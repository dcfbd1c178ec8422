-- What words come to, over what was made of them.
pub mod AnsweredLemmas
