use Rattle.std.proofs.Common.{◌≡◌, ◌+◌, ◌*◌, length}
use Rattle.parser_combinators.specs.Form.{loop}
use Rattle.parser_combinators.specs.Part.{is_mark}
use Rattle.parser_combinators.specs.Example as example
use Rattle.parser_combinators.proofs.example.+sum.Given as goal

abbrev pub decreases-inner : goal.decreases-inner
decreases-inner l = 5 * l.levels

abbrev pub decreases-term : goal.decreases-term
decreases-term l = 5 * l.levels + 1

abbrev pub decreases-less : goal.decreases-less
decreases-less l = 5 * l.levels + 2

abbrev pub decreases-sum : goal.decreases-sum
decreases-sum l = 5 * l.levels + 3

abbrev pub decreases-in_parens : goal.decreases-in_parens
decreases-in_parens l = 5 * l.levels + 4

abbrev pub invariant-sum-terms : goal.invariant-sum-terms
invariant-sum-terms l = (example.sum l.levels).reads l.fn.cursor ≡ (loop (is_mark example.minus) (example.less (example.term l.levels)) l.value).reads l.cursor

abbrev pub decreases-sum-terms : goal.decreases-sum-terms
decreases-sum-terms l = length l.cursor.rest
