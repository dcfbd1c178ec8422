-- The tokens of a text.
use Rattle.std.specs.Prelude.{ℕ, ◌-◌, zero, suc, List, [], ◌∷◌, Result, Ok, Err, if◌then◌else◌}
use Rattle.ref_format.specs.declared.placed.Placed.{Placed}
use Rattle.ref_format.specs.Placed.{bytes_of}
use Rattle.cobol_lex.specs.Byte.{is_separator}
use Rattle.cobol_lex.specs.Awaits.{awaits_behind}
use Rattle.cobol_lex.specs.Lexeme.{next_lexeme}
use Rattle.cobol_lex.specs.declared.token.Token.{Token}
use Rattle.cobol_lex.specs.declared.awaits.Awaits.{Awaits}
use Rattle.cobol_lex.specs.declared.awaits.Awaits.TheVariants as awaits
use Rattle.cobol_lex.specs.declared.lexeme.Lexeme.{Lexeme}
use Rattle.cobol_lex.specs.declared.fault.LexError.{LexError}

-- a token in front
abbrev pub with_token : Token → Result (List Token) LexError → Result (List Token) LexError
with_token token (Ok tokens) = Ok (token ∷ tokens)
with_token token (Err fault) = Err fault

-- what follows a lexeme, or the fault that there is in place of one
abbrev pub after_lexeme : Result Lexeme LexError → (Lexeme → Result (List Token) LexError) →
    Result (List Token) LexError
after_lexeme (Ok lexeme) follows = follows lexeme
after_lexeme (Err fault) follows = Err fault

-- The tokens of what is left of a text, of which the first bytes belong to the token before.
-- `before` is the byte that comes before what is left.
abbrev pub tokens_from : (taken : ℕ) → Awaits → (before : ℕ) → List Placed →
    Result (List Token) LexError
tokens_from taken awaits before [] = Ok []
tokens_from (suc taken) awaits before (p ∷ rest) = tokens_from taken awaits p.byte rest
tokens_from zero awaits before (p ∷ rest) =
    if is_separator p.byte then tokens_from 0 awaits p.byte rest
    else after_lexeme (next_lexeme awaits before p.line (bytes_of (p ∷ rest))) (λ lexeme.
    with_token (record { kind = lexeme.kind; line = p.line })
    (tokens_from (lexeme.length - 1) (awaits_behind awaits lexeme.kind) p.byte rest))

-- the tokens of a text, or its first fault; before the text there is no byte that lets a sign count
abbrev pub tokens_of : List Placed → Result (List Token) LexError
tokens_of text = tokens_from 0 awaits.Any 0 text
