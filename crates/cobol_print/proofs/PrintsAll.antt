-- The tokens that are printed are the units' own.
use Rattle.std.proofs.Common.{◌≡◌, ℕ, ◌+◌, Bool, false, List, [], ◌∷◌, ◌++◌, length, map, ap, refl, ◌∙◌}
use Rattle.cobol_lex.specs.Written.{written}
use Rattle.cobol_print.specs.Spacing.{no_space_behind, start_of}
use Rattle.cobol_print.specs.Line.{column_behind}
use Rattle.cobol_print.specs.Printed.{line_behind, start_line, rest_tokens, unit_tokens, unit_line, printed_tokens}
use Rattle.cobol_print.specs.Laws.{PrintsAll}
use Rattle.cobol_lex.specs.declared.token.Token.{Token}
use Rattle.cobol_lex.specs.declared.token.TokenKind.{TokenKind}
use Rattle.cobol_print.specs.declared.spacing.TokenStart.{TokenStart}

abbrev kinds : List Token → List TokenKind
kinds tokens = map (λ (token : Token). token.kind) tokens

kinds-append : (front rest : List Token) → kinds (front ++ rest) ≡ kinds front ++ kinds rest
kinds-append [] rest = refl
kinds-append (token ∷ front) rest = ap (λ t. token.kind ∷ t) (kinds-append front rest)

rest_kinds : (tokens : List TokenKind) (line margin column : ℕ) (clinging : Bool) → kinds (rest_tokens line margin column clinging tokens) ≡ tokens
rest_kinds [] line margin column clinging = refl
rest_kinds (token ∷ tokens) line margin column clinging =
    let start : TokenStart = start_of margin column clinging token (length (written token)) in
    ap (λ t. token ∷ t) (rest_kinds tokens (line_behind (start_line line start) start.column false (written token)) margin
    (column_behind start.column false (written token)) (no_space_behind token))

unit_kinds : (tokens : List TokenKind) (line column : ℕ) → kinds (unit_tokens line column tokens) ≡ tokens
unit_kinds [] line column = refl
unit_kinds (token ∷ tokens) line column =
    ap (λ t. token ∷ t) (rest_kinds tokens (line_behind line column false (written token)) column (column_behind column false (written token)) (no_space_behind token))

pub prints_all : PrintsAll
prints_all line [] = refl
prints_all line (unit ∷ units) =
    let below : ℕ = unit_line (line + 1) unit.column unit.tokens in
    kinds-append (unit_tokens (line + 1) unit.column unit.tokens) (printed_tokens below units)
    ∙ ap (λ t. t ++ kinds (printed_tokens below units)) (unit_kinds unit.tokens (line + 1) unit.column)
    ∙ ap (λ t. unit.tokens ++ t) (prints_all below units)
