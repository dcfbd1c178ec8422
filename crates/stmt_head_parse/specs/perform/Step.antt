-- What is left of VARYING after what was read of it: a step of the code each.
use Rattle.std.specs.Prelude.{Bool, codes}
use Rattle.cob_tree.specs.declared.control.Control.TheVariants as controls
use Rattle.cob_tree.specs.declared.place.Operand.{Operand}
use Rattle.cob_tree.specs.declared.place.Place.{Place}
use Rattle.parser_combinators.specs.Form.{Form, pure, ◌>>=◌, ◌>>◌}
use Rattle.parser_combinators.specs.Part.{key}
use Rattle.cobol_grammar.specs.stmt_forms.Arithmetic.{number_operand}
use Rattle.cobol_grammar.specs.stmt_forms.Loop.{Controlled}
use Rattle.cobol_grammar.specs.stmt_forms.Part.{Parts}

-- the condition after UNTIL
abbrev pub varying_all : {Side Known : Type 0} → Parts Side Known → (after : Bool) →
    (item : Place) → (from by : Operand) → Form Controlled
varying_all parts after item from by =
    parts.cond >>= (λ cond. pure (controls.Varying after item from by cond.0, cond.1))

-- UNTIL and the condition
abbrev pub varying_until : {Side Known : Type 0} → Parts Side Known → (after : Bool) →
    (item : Place) → (from by : Operand) → Form Controlled
varying_until parts after item from by =
    key (codes "UNTIL") >> varying_all parts after item from by

-- all from BY on
abbrev pub varying_by : {Side Known : Type 0} → Parts Side Known → (after : Bool) →
    (item : Place) → (from : Operand) → Form Controlled
varying_by parts after item from =
    key (codes "BY") >> (number_operand parts >>= varying_until parts after item from)

-- all from FROM on
abbrev pub varying_from : {Side Known : Type 0} → Parts Side Known → (after : Bool) →
    (item : Place) → Form Controlled
varying_from parts after item =
    key (codes "FROM") >> (number_operand parts >>= varying_by parts after item)
