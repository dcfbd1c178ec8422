-- Subscripts or a window after a reference. Both readings are kept up to the token at which one of
-- them can't go on; a colon makes it a window.
use Rattle.std.specs.Prelude.{ℕ, Bool, true, false}
use Rattle.std.specs.Option.{is_some}
use Rattle.cob_tree.specs.declared.place.Op.{Op}
use Rattle.cob_tree.specs.declared.place.Op.TheVariants as ops
use Rattle.cobol_grammar.specs.declared.expr_forms.side.Side.{Side}
use Rattle.cobol_grammar.specs.declared.expr_forms.either.MaybeSubscripts.{MaybeSubscripts}
use Rattle.cobol_grammar.specs.declared.expr_forms.front.FirstInParens.{FirstInParens}
use Rattle.cobol_grammar.specs.declared.expr_forms.front.FirstInParens.TheVariants as fronts
use Rattle.cobol_grammar.specs.declared.expr_forms.reference.Suffix.{Suffix}
use Rattle.cobol_grammar.specs.declared.expr_forms.reference.Suffix.TheVariants as suffixes
use Rattle.cobol_grammar.specs.expr_forms.Fault.{number_fault, found_fault}
use Rattle.cobol_grammar.specs.expr_forms.Side.{sum_side}
use Rattle.cobol_grammar.specs.expr_forms.Chain.{chain_of, finish}
use Rattle.cobol_grammar.specs.expr_forms.Either.{number_either, ref_either, with_number, subs_of}
use Rattle.cobol_grammar.specs.expr_forms.Token.{begins_turn}
use Rattle.parser_combinators.specs.words.Word.{is_name, name}
use Rattle.parser_combinators.specs.words.Constant.{is_digits}
use Rattle.cob_base.specs.Bytes.{left_parenthesis, right_parenthesis, plus_sign, hyphen, colon}
use Rattle.parser_combinators.specs.Form.{Form, pure, note, ◌>>=◌, ◌>>◌, loop, chosen, where_next}
use Rattle.parser_combinators.specs.Part.{mark, digits, is_mark}
use Rattle.symbol_tables.specs.data_names.Names.{Names}
use Rattle.symbol_tables.specs.data_names.Look.{look}
use Rattle.cobol_grammar.specs.expr_forms.Limit.{Inner, count_terms}
use Rattle.cobol_grammar.specs.expr_forms.Reference.{qualifiers, ref_behind}
use Rattle.cobol_grammar.specs.expr_forms.Expression.{unsigned, unary, operated, operator, turn}
use Rattle.cobol_grammar.specs.expr_forms.Window.{window_behind}
use Rattle.cobol_grammar.specs.expr_forms.Subscript.{more_subs}

-- a number first
unfoldable pub digits_front : Form FirstInParens
digits_front = digits >>= (λ found. pure (fronts.Either (number_either found.0 found.1)))

-- an expression first, so that it is a window
abbrev pub sum_front : Side × ℕ → Form FirstInParens
sum_front side = pure (fronts.Sum (chain_of side.0) side.1)

-- a plus sign first: a subscript, or an operand with its sign
unfoldable pub plus_front : Names → Inner → ℕ → Form FirstInParens
plus_front names inner count = do
  position ← mark plus_sign
  where_next is_digits digits_front
      (unsigned names inner count >>= (λ side. sum_front (sum_side position side.0, side.1)))

-- a name first, which may be a subscript
unfoldable pub name_front : Names → Inner → ℕ → Form FirstInParens
name_front names inner count = do
  first ← name
  of ← qualifiers
  where_next (is_mark left_parenthesis)
      (count_terms count 1
      >>= (λ more. ref_behind inner (look names first.0 of) of first.1 more >>= sum_front))
      (note (found_fault (look names first.0 of) 0 false first.1)
      >> pure (fronts.Either (ref_either (look names first.0 of) of first.1)))

-- an operand first that can be no subscript
unfoldable pub unary_front : Names → Inner → ℕ → Form FirstInParens
unary_front names inner count = unary names inner count >>= sum_front

-- a name first, or an operand that can be no subscript
unfoldable pub other_front : Names → Inner → ℕ → Form FirstInParens
other_front names inner count =
    where_next is_name (name_front names inner count) (unary_front names inner count)

-- the first operand in the parentheses
unfoldable pub first_front : Names → Inner → ℕ → Form FirstInParens
first_front names inner count =
    where_next (is_mark plus_sign) (plus_front names inner count)
    (where_next is_digits digits_front (other_front names inner count))

-- ---- after an operator

-- the rest of a sum after an operator that no subscripts have; its terms are counted now
unfoldable pub decided : Names → Inner → ℕ → MaybeSubscripts → Op → Form FirstInParens
decided names inner count e op = do
  more ← count_terms count e.leaves
  state ← operated names inner op e.chain more
  pure (fronts.Sum state.0 state.1)

-- an operator and a number, as a subscript and as an operand
unfoldable pub number_turn : Op → Bool → MaybeSubscripts → Form FirstInParens
number_turn op negative e =
    digits
    >>= (λ found. note (number_fault e.chain.last)
    >> pure (fronts.Either (with_number op negative found.0 found.1 e)))

-- what follows `+`, or `-` where the last subscript takes one: a number, or else the rest of a sum
unfoldable pub number_or_decided : Names → Inner → ℕ → MaybeSubscripts → Op → Bool →
    Form FirstInParens
number_or_decided names inner count e op negative =
    where_next is_digits (number_turn op negative e) (decided names inner count e op)

-- a plus sign and what follows it
unfoldable pub plus_turn : Names → Inner → ℕ → MaybeSubscripts → Form FirstInParens
plus_turn names inner count e =
    mark plus_sign >> number_or_decided names inner count e ops.Add false

-- the last subscript is an item alone
abbrev pub takes_minus : MaybeSubscripts → Bool
takes_minus e = is_some e.base

-- what follows a minus sign
unfoldable pub minus_behind : Names → Inner → ℕ → MaybeSubscripts → Form FirstInParens
minus_behind names inner count e =
    chosen (takes_minus e) (number_or_decided names inner count e ops.Sub true)
    (decided names inner count e ops.Sub)

-- a minus sign and what follows it
unfoldable pub minus_turn : Names → Inner → ℕ → MaybeSubscripts → Form FirstInParens
minus_turn names inner count e = mark hyphen >> minus_behind names inner count e

-- a times sign or a slash and what follows it
unfoldable pub factor_turn : Names → Inner → ℕ → MaybeSubscripts → Form FirstInParens
factor_turn names inner count e = do
  op ← operator
  decided names inner count e op

-- an operator and what follows it
unfoldable pub front_turn : Names → Inner → ℕ → FirstInParens → Form FirstInParens
front_turn names inner count (fronts.Sum chain more) =
    turn names inner (chain, more) >>= (λ state. pure (fronts.Sum state.0 state.1))
front_turn names inner count (fronts.Either e) =
    where_next (is_mark plus_sign) (plus_turn names inner count e)
    (where_next (is_mark hyphen) (minus_turn names inner count e)
    (factor_turn names inner count e))

-- any number of operators, each with its operand: {operator unary}
abbrev pub front_turns : Names → Inner → ℕ → FirstInParens → Form FirstInParens
front_turns names inner count first = loop begins_turn (front_turn names inner count) first

-- ---- decided

-- a window, from its colon on
abbrev pub window_suffix : Names → Inner → (alone : Bool) → Side → ℕ → Form (Suffix × ℕ)
window_suffix names inner alone first count =
    window_behind names inner alone first count >>=
    (λ window. pure (suffixes.Window window.0, window.1))

-- the other subscripts, and the parenthesis that ends them
unfoldable pub subs_suffix : Names → ℕ → MaybeSubscripts → Form (Suffix × ℕ)
subs_suffix names count e = do
  note e.fault
  subs ← more_subs names (subs_of e)
  mark right_parenthesis
  pure (suffixes.Subs subs, count)

-- what follows the first part: a colon makes it a window
unfoldable pub front_end : Names → Inner → (alone : Bool) → ℕ → FirstInParens → Form (Suffix × ℕ)
front_end names inner alone count (fronts.Sum chain more) =
    window_suffix names inner alone (finish chain) more
front_end names inner alone count (fronts.Either e) = where_next (is_mark colon)
    (count_terms count e.leaves >>= (λ more. window_suffix names inner alone (finish e.chain) more))
    (subs_suffix names count e)

-- subscripts or a window in parentheses
unfoldable pub in_suffix : Names → Inner → (alone : Bool) → ℕ → Form (Suffix × ℕ)
in_suffix names inner alone count = do
  mark left_parenthesis
  first ← first_front names inner count
  front ← front_turns names inner count first
  front_end names inner alone count front
