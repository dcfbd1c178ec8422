use Rattle.std.proofs.Common.{◌≡◌, ◌+◌, ◌*◌, length}
use Rattle.cobol_grammar.specs.expr_forms.Expression as expressions
use Rattle.cobol_grammar.specs.expr_forms.Front as fronts
use Rattle.cobol_grammar.specs.expr_forms.Levels.{inner}
use Rattle.expr_parse.proofs.+exprs.Given as goal

abbrev pub decreases-levels::nested : goal.decreases-levels::nested
decreases-levels::nested l = 32 * l.context.levels + 0

abbrev pub decreases-levels::suffix : goal.decreases-levels::suffix
decreases-levels::suffix l = 32 * l.context.levels + 0

abbrev pub decreases-levels::window : goal.decreases-levels::window
decreases-levels::window l = 32 * l.context.levels + 0

abbrev pub decreases-reference::behind : goal.decreases-reference::behind
decreases-reference::behind l = 32 * l.context.levels + 1

abbrev pub decreases-reference::ref_behind : goal.decreases-reference::ref_behind
decreases-reference::ref_behind l = 32 * l.context.levels + 2

abbrev pub decreases-reference::reference_behind : goal.decreases-reference::reference_behind
decreases-reference::reference_behind l = 32 * l.context.levels + 3

abbrev pub decreases-front::enclosing_front : goal.decreases-front::enclosing_front
decreases-front::enclosing_front l = 32 * l.context.levels + 3

abbrev pub decreases-front::name_behind : goal.decreases-front::name_behind
decreases-front::name_behind l = 32 * l.context.levels + 4

abbrev pub decreases-front::named_front : goal.decreases-front::named_front
decreases-front::named_front l = 32 * l.context.levels + 5

abbrev pub decreases-front::name_front : goal.decreases-front::name_front
decreases-front::name_front l = 32 * l.context.levels + 6

abbrev pub decreases-reference::reference : goal.decreases-reference::reference
decreases-reference::reference l = 32 * l.context.levels + 4

abbrev pub decreases-expression::operand : goal.decreases-expression::operand
decreases-expression::operand l = 32 * l.context.levels + 5

abbrev pub decreases-expression::unsigned : goal.decreases-expression::unsigned
decreases-expression::unsigned l = 32 * l.context.levels + 6

abbrev pub decreases-expression::minussed : goal.decreases-expression::minussed
decreases-expression::minussed l = 32 * l.context.levels + 7

abbrev pub decreases-front::plus_front : goal.decreases-front::plus_front
decreases-front::plus_front l = 32 * l.context.levels + 7

abbrev pub decreases-expression::plussed : goal.decreases-expression::plussed
decreases-expression::plussed l = 32 * l.context.levels + 7

abbrev pub decreases-expression::unary : goal.decreases-expression::unary
decreases-expression::unary l = 32 * l.context.levels + 8

abbrev pub decreases-expression::operated : goal.decreases-expression::operated
decreases-expression::operated l = 32 * l.context.levels + 9

abbrev pub decreases-front::unary_front : goal.decreases-front::unary_front
decreases-front::unary_front l = 32 * l.context.levels + 9

abbrev pub decreases-front::decided : goal.decreases-front::decided
decreases-front::decided l = 32 * l.context.levels + 10

abbrev pub decreases-front::other_front : goal.decreases-front::other_front
decreases-front::other_front l = 32 * l.context.levels + 10

abbrev pub decreases-expression::turn : goal.decreases-expression::turn
decreases-expression::turn l = 32 * l.context.levels + 10

abbrev pub decreases-front::factor_turn : goal.decreases-front::factor_turn
decreases-front::factor_turn l = 32 * l.context.levels + 11

abbrev pub decreases-front::first_front : goal.decreases-front::first_front
decreases-front::first_front l = 32 * l.context.levels + 11

abbrev pub decreases-front::number_or_decided : goal.decreases-front::number_or_decided
decreases-front::number_or_decided l = 32 * l.context.levels + 11

abbrev pub decreases-expression::turns : goal.decreases-expression::turns
decreases-expression::turns l = 32 * l.context.levels + 11

abbrev pub decreases-front::minus_behind : goal.decreases-front::minus_behind
decreases-front::minus_behind l = 32 * l.context.levels + 12

abbrev pub decreases-front::plus_turn : goal.decreases-front::plus_turn
decreases-front::plus_turn l = 32 * l.context.levels + 12

abbrev pub decreases-expression::sum : goal.decreases-expression::sum
decreases-expression::sum l = 32 * l.context.levels + 12

abbrev pub decreases-expression::expr : goal.decreases-expression::expr
decreases-expression::expr l = 32 * l.context.levels + 13

abbrev pub decreases-front::minus_turn : goal.decreases-front::minus_turn
decreases-front::minus_turn l = 32 * l.context.levels + 13

abbrev pub decreases-front::front_turn : goal.decreases-front::front_turn
decreases-front::front_turn l = 32 * l.context.levels + 14

abbrev pub decreases-expression::in_nested : goal.decreases-expression::in_nested
decreases-expression::in_nested l = 32 * l.context.levels + 14

abbrev pub decreases-window::length_part : goal.decreases-window::length_part
decreases-window::length_part l = 32 * l.context.levels + 14

abbrev pub decreases-front::front_turns : goal.decreases-front::front_turns
decreases-front::front_turns l = 32 * l.context.levels + 15

abbrev pub decreases-window::window_behind : goal.decreases-window::window_behind
decreases-window::window_behind l = 32 * l.context.levels + 15

abbrev pub decreases-front::window_end : goal.decreases-front::window_end
decreases-front::window_end l = 32 * l.context.levels + 16

abbrev pub decreases-front::colon_end : goal.decreases-front::colon_end
decreases-front::colon_end l = 32 * l.context.levels + 17

abbrev pub decreases-front::front_end : goal.decreases-front::front_end
decreases-front::front_end l = 32 * l.context.levels + 18

abbrev pub decreases-window::in_window : goal.decreases-window::in_window
decreases-window::in_window l = 32 * l.context.levels + 16

abbrev pub decreases-front::in_suffix : goal.decreases-front::in_suffix
decreases-front::in_suffix l = 32 * l.context.levels + 19

abbrev pub invariant-expression::turns-terms : goal.invariant-expression::turns-terms
invariant-expression::turns-terms l =
    (expressions.turns l.fn.context.names.now (inner l.fn.context.names.now l.fn.context.levels) l.fn.first).reads l.fn.cursor
    ≡ (expressions.turns l.fn.context.names.now (inner l.fn.context.names.now l.fn.context.levels) l.state).reads l.cursor

abbrev pub decreases-expression::turns-terms : goal.decreases-expression::turns-terms
decreases-expression::turns-terms l = length l.cursor.rest

abbrev pub invariant-front::front_turns-fronts : goal.invariant-front::front_turns-fronts
invariant-front::front_turns-fronts l =
    (fronts.front_turns l.fn.context.names.now (inner l.fn.context.names.now l.fn.context.levels) l.fn.count l.fn.first).reads l.fn.cursor
    ≡ (fronts.front_turns l.fn.context.names.now (inner l.fn.context.names.now l.fn.context.levels) l.fn.count l.front).reads l.cursor

abbrev pub decreases-front::front_turns-fronts : goal.decreases-front::front_turns-fronts
decreases-front::front_turns-fronts l = length l.cursor.rest
