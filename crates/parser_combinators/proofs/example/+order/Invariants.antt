use Rattle.std.proofs.Common.{◌≡◌, ◌+◌, ◌*◌, length}
use Rattle.parser_combinators.specs.Form.{loop}
use Rattle.parser_combinators.specs.Example as example
use Rattle.parser_combinators.proofs.example.+order.Given as goal

abbrev pub decreases-repeat : goal.decreases-repeat
decreases-repeat l = 4 * l.levels

abbrev pub decreases-order : goal.decreases-order
decreases-order l = 4 * l.levels + 1

abbrev pub decreases-orders : goal.decreases-orders
decreases-orders l = 4 * l.levels + 2

abbrev pub decreases-repeated : goal.decreases-repeated
decreases-repeated l = 4 * l.levels + 3

abbrev pub invariant-orders-orders : goal.invariant-orders-orders
invariant-orders-orders l =
    (example.orders l.fn.known l.levels l.fn.found).reads l.fn.cursor ≡ (loop example.begins_order (example.order l.fn.known l.levels) l.found).reads l.cursor

abbrev pub decreases-orders-orders : goal.decreases-orders-orders
decreases-orders-orders l = length l.cursor.rest
