use Rattle.std.proofs.lemmas.Result.{err_from_is_err_and}
use Rattle.parser_combinators.specs.Example as example
use Rattle.parser_combinators.proofs.Loops.{item_goes_on, item_ends_err, item_is_done, shrinks}
use Rattle.parser_combinators.proofs.ExampleLaws as laws
use Rattle.parser_combinators.proofs.example.sum_list.Goals as goal

pub returns-in_err-sum-2 : goal.returns-in_err-sum-2
returns-in_err-sum-2 c =
    let p = err_from_is_err_and c.from_residual-in_err-sum-2.result c.from_residual-in_err-sum-2.ensures.1 in
    rw (p.1, p.2) (item_ends_err example.begins_sum (laws.sum example.max_parens) c.sums.found c.in_err-sum-2.field-0.0 c.sums.cursor c.sum-in-sums.new.cursor _ c.sums-test.ensures c.in_err-sum-2.ensures c.sums.invariant)

pub sums-smaller : goal.sums-smaller
sums-smaller c = shrinks (laws.sum example.max_parens) _ _ _ c.in_ok-sum-2.ensures

pub sums-preserved : goal.sums-preserved
sums-preserved c =
    rw c.in_ok-push-2.ensures.ok (item_goes_on example.begins_sum (laws.sum example.max_parens) c.sums.found _ c.sums.cursor _ _ c.sums-test.ensures c.in_ok-sum-2.ensures c.sums.invariant)

pub returns : goal.returns
returns c = item_is_done example.begins_sum (laws.sum example.max_parens) c.sums.found c.sums.cursor _ c.sums-test.ensures c.sums.invariant
