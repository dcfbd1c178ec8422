-- operand = ref | lit
use Rattle.std.specs.Prelude.{ℕ}
use Rattle.cobol_grammar.specs.declared.expr_forms.side.Side.{Side}
use Rattle.cobol_grammar.specs.expr_forms.Side.{literal_kind, literal_side}
use Rattle.cobol_grammar.specs.expr_forms.Token.{begins_operand}
use Rattle.cobol_grammar.specs.expr_forms.Limit.{Inner, count_terms}
use Rattle.cobol_grammar.specs.expr_forms.Reference.{reference}
use Rattle.symbol_tables.specs.data_names.Names.{Names}
use Rattle.parser_combinators.specs.words.Word.{is_name}
use Rattle.parser_combinators.specs.words.Constant.{literal}
use Rattle.parser_combinators.specs.declared.why.Why.TheVariants.{Syntax}
use Rattle.parser_combinators.specs.Form.{Form, pure, refuse, ◌>>=◌, where_next}

-- a literal as an operand
unfoldable pub literal_operand : ℕ → Form (Side × ℕ)
literal_operand count =
    literal >>= (λ found. pure (literal_side found.0 (literal_kind found.0) found.1, count))

-- an operand: ref | lit
unfoldable pub operand : Names → Inner → ℕ → Form (Side × ℕ)
operand names inner count = where_next begins_operand
    (count_terms count 1
    >>= (λ more. where_next is_name (reference names inner more) (literal_operand more)))
    (refuse Syntax)
