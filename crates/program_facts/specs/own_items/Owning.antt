-- Parts without a word on an added item.
use Rattle.std.specs.Prelude.{List, Option, Some, None}
use Rattle.cob_tree.specs.declared.calc.Calc.{Calc}
use Rattle.cob_tree.specs.declared.calc.Target.{Target}
use Rattle.cob_tree.specs.declared.place.Operand.{Operand}
use Rattle.cob_tree.specs.declared.place.Place.{Place}
use Rattle.control_flow_theory.specs.language.Control.{move_of, arith_of}
use Rattle.control_flow_theory.specs.language.Language.{Control}
use Rattle.control_flow_theory.specs.language.Own.{OwnAct, OwnControl}

-- the control of a loop, if there is one
abbrev pub OwnTurns : Option Control → Type 0
OwnTurns None = Unit {0}
OwnTurns (Some control) = OwnControl control

-- a MOVE to these places is the program's own, whatever is moved
abbrev pub IsOwnMove : List Place → Type 0
IsOwnMove to = (from : Operand) → OwnAct (move_of from to)

-- arithmetic into these targets, whatever it works out
abbrev pub IsOwnArith : List Target → Type 0
IsOwnArith into = (calc : Calc) → OwnAct (arith_of calc into)
