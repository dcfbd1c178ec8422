use Rattle.std.proofs.Common.{◌≡◌, ◌+◌, ◌*◌, length}
use Rattle.cobol_grammar.specs.expr_forms.Levels.{inner}
use Rattle.cobol_grammar.specs.cond_forms.Condition as conditions
use Rattle.cobol_grammar.specs.cond_forms.Condition.{content}
use Rattle.cond_parse.proofs.+conds.Given as goal

abbrev pub decreases-condition::content : goal.decreases-condition::content
decreases-condition::content l = 16 * l.context.levels + 0

abbrev pub decreases-neg::parens_prim : goal.decreases-neg::parens_prim
decreases-neg::parens_prim l = 16 * l.context.levels + 1

abbrev pub decreases-neg::prim : goal.decreases-neg::prim
decreases-neg::prim l = 16 * l.context.levels + 2

abbrev pub decreases-neg::prim_part : goal.decreases-neg::prim_part
decreases-neg::prim_part l = 16 * l.context.levels + 3

abbrev pub decreases-neg::behind_not : goal.decreases-neg::behind_not
decreases-neg::behind_not l = 16 * l.context.levels + 4

abbrev pub decreases-neg::not_neg : goal.decreases-neg::not_neg
decreases-neg::not_neg l = 16 * l.context.levels + 5

abbrev pub decreases-neg::neg : goal.decreases-neg::neg
decreases-neg::neg l = 16 * l.context.levels + 6

abbrev pub decreases-condition::and_part : goal.decreases-condition::and_part
decreases-condition::and_part l = 16 * l.context.levels + 7

abbrev pub decreases-condition::or_part : goal.decreases-condition::or_part
decreases-condition::or_part l = 16 * l.context.levels + 7

abbrev pub decreases-condition::join : goal.decreases-condition::join
decreases-condition::join l = 16 * l.context.levels + 8

abbrev pub decreases-condition::joins_from : goal.decreases-condition::joins_from
decreases-condition::joins_from l = 16 * l.context.levels + 9

abbrev pub decreases-condition::conds_from : goal.decreases-condition::conds_from
decreases-condition::conds_from l = 16 * l.context.levels + 10

abbrev pub decreases-condition::content_from : goal.decreases-condition::content_from
decreases-condition::content_from l = 16 * l.context.levels + 11

abbrev pub decreases-condition::alone_content : goal.decreases-condition::alone_content
decreases-condition::alone_content l = 16 * l.context.levels + 12

abbrev pub decreases-condition::neg_content : goal.decreases-condition::neg_content
decreases-condition::neg_content l = 16 * l.context.levels + 12

abbrev pub decreases-condition::content_by : goal.decreases-condition::content_by
decreases-condition::content_by l = 16 * l.context.levels + 13

abbrev pub decreases-condition::prim_content : goal.decreases-condition::prim_content
decreases-condition::prim_content l = 16 * l.context.levels + 14

abbrev pub decreases-condition::in_content : goal.decreases-condition::in_content
decreases-condition::in_content l = 16 * l.context.levels + 15

abbrev pub invariant-condition::joins_from-parts : goal.invariant-condition::joins_from-parts
invariant-condition::joins_from-parts l =
    (conditions.joins_from l.fn.context.names.now (inner l.fn.context.names.now l.fn.context.levels) (content l.fn.context.names.now l.fn.context.levels)
    l.fn.first).reads l.fn.cursor
    ≡ (conditions.joins_from l.fn.context.names.now (inner l.fn.context.names.now l.fn.context.levels)
    (content l.fn.context.names.now l.fn.context.levels) l.state).reads l.cursor

abbrev pub decreases-condition::joins_from-parts : goal.decreases-condition::joins_from-parts
decreases-condition::joins_from-parts l = length l.cursor.rest
