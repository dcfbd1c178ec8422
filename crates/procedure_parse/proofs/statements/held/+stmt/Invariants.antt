use Rattle.std.proofs.Common.{◌≡◌, ◌+◌, ◌*◌, length}
use Rattle.std.specs.Prelude.{codes}
use Rattle.parser_combinators.specs.Form.{loop}
use Rattle.parser_combinators.specs.Part.{is_key}
use Rattle.cobol_grammar.specs.stmt_forms.Choice as choice
use Rattle.cobol_grammar.specs.stmt_forms.Stmt as all
use Rattle.cobol_grammar.specs.stmt_forms.Verb.{begins_stmt}
use Rattle.procedure_parse.proofs.statements.held.+stmt.Given as goal

abbrev pub decreases-held : goal.decreases-held
decreases-held g l = 15 * l.context.levels

abbrev pub decreases-held_arm : goal.decreases-held_arm
decreases-held_arm g l = 15 * l.context.levels + 1

abbrev pub decreases-first_arm : goal.decreases-first_arm
decreases-first_arm g l = 15 * l.context.levels + 2

abbrev pub decreases-second_arm : goal.decreases-second_arm
decreases-second_arm g l = 15 * l.context.levels + 2

abbrev pub decreases-second_behind : goal.decreases-second_behind
decreases-second_behind g l = 15 * l.context.levels + 3

abbrev pub decreases-arms : goal.decreases-arms
decreases-arms g l = 15 * l.context.levels + 4

abbrev pub decreases-read_arms : goal.decreases-read_arms
decreases-read_arms g l = 15 * l.context.levels + 5

abbrev pub decreases-read_by : goal.decreases-read_by
decreases-read_by g l = 15 * l.context.levels + 6

abbrev pub decreases-read_stmt : goal.decreases-read_stmt
decreases-read_stmt g l = 15 * l.context.levels + 7

abbrev pub decreases-arithmetic_stmt : goal.decreases-arithmetic_stmt
decreases-arithmetic_stmt g l = 15 * l.context.levels + 5

abbrev pub decreases-else_part : goal.decreases-else_part
decreases-else_part g l = 15 * l.context.levels + 1

abbrev pub decreases-if_ended : goal.decreases-if_ended
decreases-if_ended g l = 15 * l.context.levels + 2

abbrev pub decreases-if_behind : goal.decreases-if_behind
decreases-if_behind g l = 15 * l.context.levels + 3

abbrev pub decreases-if_stmt : goal.decreases-if_stmt
decreases-if_stmt g l = 15 * l.context.levels + 4

abbrev pub decreases-when_held : goal.decreases-when_held
decreases-when_held g l = 15 * l.context.levels + 1

abbrev pub decreases-whens_by : goal.decreases-whens_by
decreases-whens_by g l = 15 * l.context.levels + 2

abbrev pub decreases-when_next : goal.decreases-when_next
decreases-when_next g l = 15 * l.context.levels + 3

abbrev pub decreases-whens_turn : goal.decreases-whens_turn
decreases-whens_turn g l = 15 * l.context.levels + 4

abbrev pub decreases-whens_from : goal.decreases-whens_from
decreases-whens_from g l = 15 * l.context.levels + 5

abbrev pub decreases-whens : goal.decreases-whens
decreases-whens g l = 15 * l.context.levels + 6

abbrev pub decreases-other_part : goal.decreases-other_part
decreases-other_part g l = 15 * l.context.levels + 2

abbrev pub decreases-evaluated : goal.decreases-evaluated
decreases-evaluated g l = 15 * l.context.levels + 3

abbrev pub decreases-evaluate_stmt : goal.decreases-evaluate_stmt
decreases-evaluate_stmt g l = 15 * l.context.levels + 7

abbrev pub decreases-choice_stmt : goal.decreases-choice_stmt
decreases-choice_stmt g l = 15 * l.context.levels + 8

abbrev pub decreases-loop_body : goal.decreases-loop_body
decreases-loop_body g l = 15 * l.context.levels + 1

abbrev pub decreases-perform_from : goal.decreases-perform_from
decreases-perform_from g l = 15 * l.context.levels + 2

abbrev pub decreases-holding_stmt : goal.decreases-holding_stmt
decreases-holding_stmt g l = 15 * l.context.levels + 9

abbrev pub decreases-held_stmts : goal.decreases-held_stmts
decreases-held_stmts g l = 15 * l.context.levels + 10

abbrev pub decreases-stmts_turn : goal.decreases-stmts_turn
decreases-stmts_turn g l = 15 * l.context.levels + 12

abbrev pub decreases-stmts_from : goal.decreases-stmts_from
decreases-stmts_from g l = 15 * l.context.levels + 13

abbrev pub decreases-stmts_with : goal.decreases-stmts_with
decreases-stmts_with g l = 15 * l.context.levels + 14

abbrev pub invariant-whens_from-whens : goal.invariant-whens_from-whens
invariant-whens_from-whens g l =
    (choice.whens_from (g.P.Parts.parts l.parts) (all.level (g.P.Parts.parts l.parts) l.context.levels) l.context.scope l.known l.fn.state).reads l.fn.cursor
    ≡ (loop (is_key (codes "WHEN")) (choice.whens_turn (g.P.Parts.parts l.parts) (all.level (g.P.Parts.parts l.parts) l.context.levels) l.context.scope l.known) l.state).reads l.cursor

abbrev pub decreases-whens_from-whens : goal.decreases-whens_from-whens
decreases-whens_from-whens g l = length l.cursor.rest

abbrev pub invariant-stmts_from-stmts : goal.invariant-stmts_from-stmts
invariant-stmts_from-stmts g l =
    (all.stmts_from (g.P.Parts.parts l.parts) (all.level (g.P.Parts.parts l.parts) l.context.levels) l.context.scope l.fn.found).reads l.fn.cursor
    ≡ (loop begins_stmt (all.stmts_turn (g.P.Parts.parts l.parts) (all.level (g.P.Parts.parts l.parts) l.context.levels) l.context.scope) l.found).reads l.cursor

abbrev pub decreases-stmts_from-stmts : goal.decreases-stmts_from-stmts
decreases-stmts_from-stmts g l = length l.cursor.rest
