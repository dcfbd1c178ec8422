-- The lines of the tokens rise.
use Rattle.std.proofs.Common.{ℕ, ◌≤◌, ◌-◌, zero, suc, Bool, true, false, List, [], ◌∷◌, arith, subst}
use Rattle.std.specs.Prelude.{Result, Ok, Err, if◌then◌else◌}
use Rattle.cob_base.proofs.RisingLemmas.{RisesFrom, rises_from, rises_lower, rising-from_rises}
use Rattle.ref_format.specs.declared.placed.Placed.{Placed}
use Rattle.ref_format.specs.Placed.{bytes_of}
use Rattle.cobol_lex.specs.Byte.{is_separator}
use Rattle.cobol_lex.specs.Awaits.{awaits_behind}
use Rattle.cobol_lex.specs.Lexeme.{next_lexeme}
use Rattle.cobol_lex.specs.Token.{with_token, after_lexeme, tokens_from}
use Rattle.cobol_lex.specs.Laws.{TokenLinesRise}
use Rattle.cobol_lex.specs.declared.token.Token.{Token}
use Rattle.cobol_lex.specs.declared.awaits.Awaits.{Awaits}
use Rattle.cobol_lex.specs.declared.awaits.Awaits.TheVariants as awaits
use Rattle.cobol_lex.specs.declared.lexeme.Lexeme.{Lexeme}
use Rattle.cobol_lex.specs.declared.fault.LexError.{LexError}

abbrev line_of : Token → ℕ
line_of token = token.line

abbrev placed_line : Placed → ℕ
placed_line p = p.line

-- the lines of the tokens, where there are tokens, rise from here
abbrev Rise : ℕ → Result (List Token) LexError → Type 0
Rise least (Ok tokens) = RisesFrom line_of least tokens
Rise least (Err fault) = Unit {0}

rise_lower : (least line : ℕ) (tokens : Result (List Token) LexError) → least ≤ line → Rise line tokens → Rise least tokens
rise_lower least line (Ok tokens) le h = rises_lower line_of least line tokens le h
rise_lower least line (Err fault) le h = tt

rise_token : (least : ℕ) (token : Token) (tokens : Result (List Token) LexError) → least ≤ token.line → Rise token.line tokens → Rise least (with_token token tokens)
rise_token least token (Ok tokens) le h = (le, h)
rise_token least token (Err fault) le h = tt

rise_lexeme : (least : ℕ) (lexeme : Result Lexeme LexError) (follows : Lexeme → Result (List Token) LexError) → ((c : Lexeme) → Rise least (follows c)) → Rise least (after_lexeme lexeme follows)
rise_lexeme least (Ok lexeme) follows h = h lexeme
rise_lexeme least (Err fault) follows h = tt

rise_choice : (least : ℕ) (v : Bool) (x y : Result (List Token) LexError) → Rise least x → Rise least y → Rise least (if v then x else y)
rise_choice least true x y in_x in_y = in_x
rise_choice least false x y in_x in_y = in_y

rise : (taken : ℕ) (awaits : Awaits) (before least : ℕ) (text : List Placed) → RisesFrom placed_line least text → Rise least (tokens_from taken awaits before text)
rise taken awaits before least [] h = tt
rise (suc taken) awaits before least (p ∷ rest) h =
    rise_lower least p.line _ h.0 (rise taken awaits p.byte p.line rest h.1)
rise zero awaits before least (p ∷ rest) h =
    rise_choice least (is_separator p.byte) _ _
    (rise_lower least p.line _ h.0 (rise 0 awaits p.byte p.line rest h.1))
    (rise_lexeme least (next_lexeme awaits before p.line (bytes_of (p ∷ rest))) _ (λ lexeme.
    rise_token least (record { kind = lexeme.kind; line = p.line }) _ h.0
    (rise (lexeme.length - 1) (awaits_behind awaits lexeme.kind) p.byte p.line rest h.1)))

pub token_lines_rise : TokenLinesRise
token_lines_rise text tokens is h =
    let from : RisesFrom placed_line 0 text = rises_from placed_line 0 text (λ i d within. omega arith) h in
    rising-from_rises line_of 0 tokens (subst (Rise 0) is (rise 0 awaits.Any 0 0 text from))
