-- expr = term {(+ | -) term}      term = unary {(* | /) unary}
-- unary = [+ | -] (operand | "(" expr ")")
use Rattle.std.specs.Prelude.{ℕ}
use Rattle.cob_tree.specs.declared.place.Op.{Op}
use Rattle.cobol_grammar.specs.declared.expr_forms.side.Side.{Side}
use Rattle.cobol_grammar.specs.declared.expr_forms.chain.Chain.{Chain}
use Rattle.cobol_grammar.specs.expr_forms.Fault.{number_fault}
use Rattle.cobol_grammar.specs.expr_forms.Side.{sum_side, negated}
use Rattle.cobol_grammar.specs.expr_forms.Chain.{chain_of, finish, joined}
use Rattle.cobol_grammar.specs.expr_forms.Token.{op_of, begins_turn}
use Rattle.cob_base.specs.Bytes.{left_parenthesis, right_parenthesis, plus_sign, hyphen}
use Rattle.parser_combinators.specs.Form.{Form, pure, note, one, ◌>>=◌, ◌>>◌, loop, where_next}
use Rattle.parser_combinators.specs.Part.{mark, is_mark}
use Rattle.symbol_tables.specs.data_names.Names.{Names}
use Rattle.cobol_grammar.specs.expr_forms.Limit.{Inner, count_terms}
use Rattle.cobol_grammar.specs.expr_forms.Operand.{operand}

-- an operand, or an expression in parentheses
unfoldable pub unsigned : Names → Inner → ℕ → Form (Side × ℕ)
unsigned names inner count =
    where_next (is_mark left_parenthesis) (inner.nested count) (operand names inner count)

-- an operand after a plus sign
unfoldable pub plussed : Names → Inner → ℕ → Form (Side × ℕ)
plussed names inner count = do
  position ← mark plus_sign
  side ← unsigned names inner count
  pure (sum_side position side.0, side.1)

-- an operand after a minus sign
unfoldable pub minussed : Names → Inner → ℕ → Form (Side × ℕ)
minussed names inner count = do
  more ← count_terms count 1
  position ← mark hyphen
  side ← unsigned names inner more
  note (number_fault side.0)
  pure (negated position side.0, side.1)

-- an operand with its sign: [+ | -] (operand | "(" expr ")")
unfoldable pub unary : Names → Inner → ℕ → Form (Side × ℕ)
unary names inner count =
    where_next (is_mark hyphen) (minussed names inner count) (where_next (is_mark plus_sign)
    (plussed names inner count) (unsigned names inner count))

-- the operand after an operator, joined to those before
unfoldable pub operated : Names → Inner → Op → Chain → ℕ → Form (Chain × ℕ)
operated names inner op chain count = do
  right ← unary names inner count
  note (number_fault chain.last)
  note (number_fault right.0)
  pure (joined op chain right.0, right.1)

-- one of the signs + - * and /
abbrev pub operator : Form Op
operator = one (λ position kind. op_of kind)

-- an operator and its operand
unfoldable pub turn : Names → Inner → Chain × ℕ → Form (Chain × ℕ)
turn names inner state = do
  op ← operator
  operated names inner op state.0 state.1

-- any number of operators, each with its operand: {operator unary}
abbrev pub turns : Names → Inner → Chain × ℕ → Form (Chain × ℕ)
turns names inner first = loop begins_turn (turn names inner) first

-- a sum, from its first operand on
unfoldable pub sum : Names → Inner → Side → ℕ → Form (Side × ℕ)
sum names inner side count = do
  state ← turns names inner (chain_of side, count)
  pure (finish state.0, state.1)

-- an expression
unfoldable pub expr : Names → Inner → ℕ → Form (Side × ℕ)
expr names inner count = do
  first ← unary names inner count
  sum names inner first.0 first.1

-- an expression in parentheses: "(" expr ")"
unfoldable pub in_nested : Names → Inner → ℕ → Form (Side × ℕ)
in_nested names inner count = do
  position ← mark left_parenthesis
  side ← expr names inner count
  mark right_parenthesis
  pure (sum_side position side.0, side.1)
