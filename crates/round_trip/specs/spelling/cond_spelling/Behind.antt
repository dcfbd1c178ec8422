-- What may not follow a condition: what could go on with it, and a NOT that may.
use Rattle.std.specs.Prelude.{◌≡◌, Bool, false, ◌||◌, ◌⊎◌, Option, Some, codes}
use Rattle.cobol_lex.specs.declared.token.TokenKind.{TokenKind}
use Rattle.cobol_lex.specs.declared.token.TokenKind.TheVariants as kinds
use Rattle.parser_combinators.specs.Part.{is_key}
use Rattle.cobol_grammar.specs.cond_forms.Token.{begins_rel_behind, begins_sign, begins_class, joins}
use Rattle.round_trip.specs.spelling.expr_spelling.Spelled.{continues_expr}

-- a token with which a test begins
abbrev pub begins_test : TokenKind → Bool
begins_test kind =
    begins_rel_behind false kind || (begins_sign kind || begins_class kind)

-- a test of an expression, or what continues the expression
unfoldable pub continues_part : TokenKind → Bool
continues_part kind =
    continues_expr kind
    || (is_key (codes "IS") kind || (is_key (codes "NOT") kind || begins_test kind))

-- AND and OR too
unfoldable pub continues_cond : TokenKind → Bool
continues_cond kind = continues_part kind || joins kind

-- the next token is a NOT
abbrev pub IsNot : Option TokenKind → Type 0
IsNot behind = behind ≡ Some (kinds.Word (codes "NOT"))

-- ON or AT, with which the phrase of an arm begins
abbrev pub BeginsPhrase : Option TokenKind → Type 0
BeginsPhrase behind =
    (behind ≡ Some (kinds.Word (codes "ON"))) ⊎ (behind ≡ Some (kinds.Word (codes "AT")))
