-- How often a PERFORM does what it holds or names, as tokens.
use Rattle.std.specs.Prelude.{Bool, false, [], ◌∷◌, ◌++◌, codes, if◌then◌else◌}
use Rattle.cob_tree.specs.declared.cond.Cond.{Cond}
use Rattle.cob_tree.specs.declared.control.Control.{Control}
use Rattle.cob_tree.specs.declared.control.Control.TheVariants as control
use Rattle.cob_tree.specs.declared.program.Program.{Program}
use Rattle.cobol_lex.specs.declared.token.TokenKind.TheVariants as kind
use Rattle.unparser.specs.Token.{Tokens}
use Rattle.unparser.specs.Place.{place_tokens, operand_tokens}
use Rattle.unparser.specs.Condition.{cond_tokens}

-- WITH TEST AFTER, where the test comes after; TEST BEFORE isn't printed
abbrev pub after_tokens : (after : Bool) → Tokens
after_tokens after =
    if after then kind.Word (codes "WITH") ∷ kind.Word (codes "TEST") ∷ kind.Word (codes "AFTER") ∷ []
    else []

-- UNTIL and its condition
abbrev pub until_tokens : Program → Cond → Tokens
until_tokens program cond = kind.Word (codes "UNTIL") ∷ cond_tokens program cond false

-- the control of a loop; a PERFORM once has none
abbrev pub control_tokens : Program → Control → Tokens
control_tokens program control.Once = []
control_tokens program (control.Times count) =
    operand_tokens program count ++ kind.Word (codes "TIMES") ∷ []
control_tokens program (control.Until after cond) = after_tokens after ++ until_tokens program cond
control_tokens program (control.Varying after item from by cond) =
    after_tokens after ++ kind.Word (codes "VARYING") ∷ place_tokens program item
    ++ kind.Word (codes "FROM") ∷ operand_tokens program from
    ++ kind.Word (codes "BY") ∷ operand_tokens program by ++ until_tokens program cond
