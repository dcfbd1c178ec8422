use Rattle.std.proofs.Common.{◌≡◌, suc, ◌-◌, Err, sym, subst, arith}
use Rattle.std.specs.Prelude.{codes}
use Rattle.std.proofs.lemmas.Result.{err_from_is_err_and}
use Rattle.parser_combinators.specs.declared.why.Why.TheVariants.{Nesting}
use Rattle.parser_combinators.specs.Part.{is_key}
use Rattle.parser_combinators.specs.Reading.{Reads}
use Rattle.parser_combinators.specs.Example as example
use Rattle.parser_combinators.proofs.Loops.{goes_on, ends_err, is_done, shrinks, too_deep_err}
use Rattle.parser_combinators.proofs.ExampleLaws as laws
use Rattle.parser_combinators.proofs.example.+order.Goals as goal

pub orders-returns-in_err-found-2 : goal.orders-returns-in_err-found-2
orders-returns-in_err-found-2 t c =
    let p = err_from_is_err_and c.from_residual-in_err-found-2.result c.from_residual-in_err-found-2.ensures.1 in
    rw (p.1, p.2) (ends_err example.begins_order (laws.order c.args.known.now c.args.levels) c.orders.found c.in_err-found-2.field-0.0 c.orders.cursor c.order-in-orders.new.cursor _ c.orders-test.ensures c.in_err-found-2.ensures c.orders.invariant)

pub orders-orders-smaller : goal.orders-orders-smaller
orders-orders-smaller t c = shrinks (laws.order c.args.known.now c.args.levels c.orders.found) _ _ _ c.in_ok-found-2.ensures

pub orders-orders-preserved : goal.orders-orders-preserved
orders-orders-preserved t c = goes_on example.begins_order (laws.order c.args.known.now c.args.levels) c.orders.found _ c.orders.cursor _ _ c.orders-test.ensures c.in_ok-found-2.ensures c.orders.invariant

pub orders-returns : goal.orders-returns
orders-returns t c = is_done example.begins_order (laws.order c.args.known.now c.args.levels) c.orders.found c.orders.cursor _ c.orders-test.ensures c.orders.invariant

pub repeat-returns-then-levels-eq0 : goal.repeat-returns-then-levels-eq0
unfolding example.repeat
repeat-returns-then-levels-eq0 t c =
    subst (λ n. Reads ((example.repeat c.args.known.now n c.args.found).reads c.args.cursor.now) (Err c.too_deep.result) c.args.cursor.now) (sym c.if-levels-eq0.true)
    (too_deep_err _ Nesting (is_key (codes "REPEAT")) c.args.cursor.now c.sees-begins.result c.too_deep.result c.sees-begins.ensures c.too_deep.ensures)

pub repeat-returns : goal.repeat-returns
unfolding example.repeat
repeat-returns t c =
    let e : suc (c.args.levels - 1) ≡ c.args.levels = omega arith in
    subst (λ n. Reads ((example.repeat c.args.known.now n c.args.found).reads c.args.cursor.now) c.repeated.result c.repeated.new.cursor) e c.repeated.ensures
