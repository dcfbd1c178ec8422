-- Which tokens begin operands and operators.
use Rattle.std.specs.Prelude.{ℕ, Bool, ◌||◌, ◌==◌, codes, Option, Some, None, if◌then◌else◌}
use Rattle.std.specs.Option.{is_some}
use Rattle.cob_base.specs.Bytes.{asterisk, hyphen, plus_sign, slash}
use Rattle.cob_tree.specs.declared.place.Op.{Op}
use Rattle.cob_tree.specs.declared.place.Op.TheVariants as ops
use Rattle.cobol_lex.specs.declared.token.TokenKind.{TokenKind}
use Rattle.cobol_lex.specs.declared.token.TokenKind.TheVariants as kinds
use Rattle.parser_combinators.specs.Part.{is_key}
use Rattle.parser_combinators.specs.words.Word.{is_name}
use Rattle.parser_combinators.specs.words.Constant.{begins_literal}

-- OF or IN
unfoldable pub is_of : TokenKind → Bool
is_of kind = is_key (codes "OF") kind || is_key (codes "IN") kind

-- a token with which an operand begins
unfoldable pub begins_operand : TokenKind → Bool
begins_operand kind = begins_literal kind || is_name kind

-- ---- operators

-- the operator of a mark
abbrev pub op_of_byte : ℕ → Option Op
op_of_byte byte =
    if byte == plus_sign then Some ops.Add
    else if byte == hyphen then Some ops.Sub
    else if byte == asterisk then Some ops.Mul
    else if byte == slash then Some ops.Div
    else None

-- the operator of a token
abbrev pub op_of : TokenKind → Option Op
op_of (kinds.Mark b) = op_of_byte b
op_of _ = None

-- one of the signs + - * and /
unfoldable pub begins_turn : TokenKind → Bool
begins_turn kind = is_some (op_of kind)
