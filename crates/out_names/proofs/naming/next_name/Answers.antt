use Rattle.std.proofs.Common.{ap, arith}
use Rattle.out_names.specs.Naming.{procedure_stem}
use Rattle.out_names.proofs.FreshLemmas.{fresh_is_near}
use Rattle.out_names.proofs.naming.next_name.Goals as goal

pub overflow_add-result : goal.overflow_add-result
overflow_add-result c =
    let near = fresh_is_near c.args.words.now procedure_stem c.args.from in
    omega (arith, near, ap (λ made. made.number) c.in_ok-made-in-None.ensures.value)
