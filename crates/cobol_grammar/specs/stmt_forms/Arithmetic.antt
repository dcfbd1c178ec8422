-- Arithmetic up to its arms (ISO 1989:1985, the ADD, SUBTRACT, MULTIPLY, DIVIDE and COMPUTE
-- statements).
use Rattle.std.specs.Prelude.{Bool, true, false, codes, List, [], ◌∷◌, ◌++◌, Option, Some, None}
use Rattle.cob_base.specs.Bytes.{equal_sign}
use Rattle.cob_tree.specs.declared.calc.Calc.{Calc}
use Rattle.cob_tree.specs.declared.calc.Calc.TheVariants as calcs
use Rattle.cob_tree.specs.declared.calc.Target.{Target}
use Rattle.cob_tree.specs.declared.place.Operand.{Operand}
use Rattle.cob_tree.specs.declared.place.Place.{Place}
use Rattle.parser_combinators.specs.Form.{Form, pure, note, ◌>>=◌, ◌>>◌, loop, where_next, some, added}
use Rattle.parser_combinators.specs.Part.{key, mark, is_key, is_mark}
use Rattle.cobol_grammar.specs.stmt_forms.Part.{Parts}

-- an operand that is a number
unfoldable pub number_operand : {Side Known : Type 0} → Parts Side Known → Form Operand
number_operand parts = do
  side ← parts.operand
  note (parts.number_fault side)
  pure (parts.operand_of side)

-- operand+
abbrev pub number_operands : {Side Known : Type 0} → Parts Side Known → Form (List Operand)
number_operands parts = some parts.begins_operand (number_operand parts)

-- ---- tgt = ref [ROUNDED]

-- whether a target is rounded: [ROUNDED]
unfoldable pub rounded : Form Bool
rounded = where_next (is_key (codes "ROUNDED")) (key (codes "ROUNDED") >> pure true) (pure false)

-- a target, rounded or not
abbrev pub target_of : Place → Bool → Target
target_of place rounded = record { place = place; rounded = rounded }

-- an item that is an operand of the statement too
unfoldable pub target : {Side Known : Type 0} → Parts Side Known → Form Target
target parts = do
  side ← parts.reference
  note (parts.number_fault side)
  round ← rounded
  pure (target_of (parts.place_of side) round)

-- an item after GIVING, or of COMPUTE
unfoldable pub result : {Side Known : Type 0} → Parts Side Known → Form Target
result parts = do
  side ← parts.reference
  note (parts.result_fault side)
  round ← rounded
  pure (target_of (parts.place_of side) round)

-- the targets after GIVING, or of COMPUTE, one at least
abbrev pub results : {Side Known : Type 0} → Parts Side Known → Form (List Target)
results parts = some parts.is_name (result parts)

-- GIVING tgt+
unfoldable pub giving : {Side Known : Type 0} → Parts Side Known → Form (List Target)
giving parts = key (codes "GIVING") >> results parts

-- ---- tgt+ | operand GIVING tgt+

-- the operand before GIVING, if there is one, and where the results go
abbrev pub Goal : Type 0
Goal = Option Operand × List Target

-- GIVING and its targets, after an operand
unfoldable pub giving_goal : {Side Known : Type 0} → Parts Side Known → Operand → Form Goal
giving_goal parts operand = giving parts >>= (λ into. pure (Some operand, into))

-- a literal, and GIVING with its targets
unfoldable pub literal_goal : {Side Known : Type 0} → Parts Side Known → Form Goal
literal_goal parts = number_operand parts >>= giving_goal parts

-- any number of targets, after the first
abbrev pub more_targets : {Side Known : Type 0} → Parts Side Known → Target → Form (List Target)
more_targets parts first = loop parts.is_name (added (target parts)) (first ∷ [])

-- what follows the first target: [ROUNDED] {tgt}
unfoldable pub targets_goal : {Side Known : Type 0} → (parts : Parts Side Known) → Side → Form Goal
targets_goal parts side = do
  round ← rounded
  into ← more_targets parts (target_of (parts.place_of side) round)
  pure (None, into)

-- what follows an item: GIVING with its targets, or more targets
unfoldable pub item_goal_behind : {Side Known : Type 0} → (parts : Parts Side Known) →
    Side → Form Goal
item_goal_behind parts side =
    where_next (is_key (codes "GIVING")) (giving_goal parts (parts.operand_of side))
    (targets_goal parts side)

-- an item, and what follows it
unfoldable pub item_goal : {Side Known : Type 0} → Parts Side Known → Form Goal
item_goal parts = do
  side ← parts.reference
  note (parts.number_fault side)
  item_goal_behind parts side

-- targets, or an operand and the targets that it gives: tgt {tgt} | operand GIVING tgt {tgt}
unfoldable pub goal : {Side Known : Type 0} → Parts Side Known → Form Goal
goal parts = where_next parts.is_name (item_goal parts) (literal_goal parts)

-- ---- the statements

-- what is worked out, and where it goes
abbrev pub Work : Type 0
Work = Calc × List Target

-- ADD of these operands, to or giving these targets
abbrev pub added_to : List Operand → Goal → Work
added_to parts (None, into) = (calcs.Add parts, into)
added_to parts (Some to, into) = (calcs.AddGiving (parts ++ to ∷ []), into)

-- SUBTRACT of these operands, from or giving these targets
abbrev pub subtracted_from : List Operand → Goal → Work
subtracted_from parts (None, into) = (calcs.Subtract parts, into)
subtracted_from parts (Some from, into) = (calcs.SubtractGiving parts from, into)

-- MULTIPLY of this operand, by or giving these targets
abbrev pub multiplied_by : Operand → Goal → Work
multiplied_by one (None, into) = (calcs.Multiply one, into)
multiplied_by one (Some by, into) = (calcs.MultiplyGiving one by, into)

-- DIVIDE of this operand, into or giving these targets
abbrev pub divided_into : Operand → Goal → Work
divided_into by (None, into) = (calcs.Divide by, into)
divided_into by (Some into, results) = (calcs.DivideGiving by into, results)

-- what follows ADD and its operands: TO tgt {tgt} | TO operand GIVING tgt {tgt}
unfoldable pub add_to : {Side Known : Type 0} → Parts Side Known → List Operand → Form Work
add_to parts operands = do
  key (codes "TO")
  found ← goal parts
  pure (added_to operands found)

-- what follows ADD and its operands without TO: GIVING tgt {tgt}
unfoldable pub add_giving : {Side Known : Type 0} → Parts Side Known → List Operand → Form Work
add_giving parts operands = giving parts >>= (λ into. pure (calcs.AddGiving operands, into))

-- ADD operand+ TO tgt+ | ADD operand+ [TO operand] GIVING tgt+
unfoldable pub add : {Side Known : Type 0} → Parts Side Known → Form Work
add parts = do
  key (codes "ADD")
  operands ← number_operands parts
  where_next (is_key (codes "GIVING")) (add_giving parts operands) (add_to parts operands)

-- SUBTRACT operand+ FROM tgt+ | SUBTRACT operand+ FROM operand GIVING tgt+
unfoldable pub subtract : {Side Known : Type 0} → Parts Side Known → Form Work
subtract parts = do
  key (codes "SUBTRACT")
  operands ← number_operands parts
  key (codes "FROM")
  found ← goal parts
  pure (subtracted_from operands found)

-- MULTIPLY operand BY tgt+ | MULTIPLY operand BY operand GIVING tgt+
unfoldable pub multiply : {Side Known : Type 0} → Parts Side Known → Form Work
multiply parts = do
  key (codes "MULTIPLY")
  one ← number_operand parts
  key (codes "BY")
  found ← goal parts
  pure (multiplied_by one found)

-- what follows DIVIDE and its operand: INTO tgt {tgt} | INTO operand GIVING tgt {tgt}
unfoldable pub divide_into : {Side Known : Type 0} → Parts Side Known → Operand → Form Work
divide_into parts by = do
  key (codes "INTO")
  found ← goal parts
  pure (divided_into by found)

-- DIVIDE a BY b is DIVIDE b INTO a
unfoldable pub divide_by : {Side Known : Type 0} → Parts Side Known → Operand → Form Work
divide_by parts dividend = do
  key (codes "BY")
  by ← number_operand parts
  into ← giving parts
  pure (calcs.DivideGiving by dividend, into)

-- DIVIDE operand INTO tgt+ | DIVIDE operand (INTO | BY) operand GIVING tgt+
unfoldable pub divide : {Side Known : Type 0} → Parts Side Known → Form Work
divide parts = do
  key (codes "DIVIDE")
  one ← number_operand parts
  where_next (is_key (codes "BY")) (divide_by parts one) (divide_into parts one)

-- the sign of COMPUTE: = | EQUAL
unfoldable pub equals : Form (Unit {0})
equals =
    where_next (is_mark equal_sign) (mark equal_sign >> pure tt) (key (codes "EQUAL") >> pure tt)

-- COMPUTE tgt+ (= | EQUAL) expr
unfoldable pub compute : {Side Known : Type 0} → Parts Side Known → Form Work
compute parts = do
  key (codes "COMPUTE")
  into ← results parts
  equals
  side ← parts.expr
  note (parts.number_fault side)
  pure (calcs.Compute (parts.expr_of side), into)
