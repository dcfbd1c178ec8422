-- Kinds of bytes.
pub mod Byte
pub mod Lanes
-- Words, numbers, literals and pictures, and where a picture comes.
pub mod Word
pub mod Number
pub mod Literal
pub mod Awaits
pub mod Picture
-- The token that begins a text, and all of its tokens: `tokens_of`.
pub mod Lexeme
pub mod Token
-- How tokens are written, and texts that hold them.
pub mod Written
pub mod Laid
-- What holds of the tokens of every text.
pub mod Laws
