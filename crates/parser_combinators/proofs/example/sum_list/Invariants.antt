use Rattle.std.proofs.Common.{◌≡◌, length}
use Rattle.parser_combinators.specs.Form.{loop, added}
use Rattle.parser_combinators.specs.Example as example
use Rattle.parser_combinators.proofs.example.sum_list.Given as goal

abbrev pub invariant-sums : goal.invariant-sums
invariant-sums l = example.sum_list.reads l.fn.cursor ≡ (loop example.begins_sum (added (example.sum example.max_parens)) l.found).reads l.cursor

abbrev pub decreases-sums : goal.decreases-sums
decreases-sums l = length l.cursor.rest
