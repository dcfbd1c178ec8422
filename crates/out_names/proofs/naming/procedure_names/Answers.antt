use Rattle.std.proofs.Common.{◌+◌, sym, subst, arith}
use Rattle.out_names.specs.declared.naming.Named.{Named}
use Rattle.out_names.proofs.FreshLemmas.{IsBehind, named_is_behind}
use Rattle.out_names.proofs.NameLemmas.{name_given}
use Rattle.out_names.proofs.naming.procedure_names.Goals as goal

pub next_name-requires : goal.next_name-requires
next_name-requires c = omega (arith, c.loop-at.invariant.1.small)

pub loop-at-preserved : goal.loop-at-preserved
loop-at-preserved c =
    let label = c.own_label-label.result in (
      name_given c.args.words.now c.args.paragraphs.now c.loop-at.from c.loop-at.at c.args.ranges.now _ label c.in_ok-named.named
          c.loop-at.names c.push.new.self _ c.loop-at-test.true c.own_label-label.ensures c.in_ok-named.ensures c.in_ok-push.ensures.ok c.loop-at.invariant.0,
      subst (λ (n : Named). IsBehind c.args.words.now (c.loop-at.at + 1) n.next) (sym c.in_ok-named.ensures)
          (named_is_behind c.args.words.now label c.loop-at.at c.loop-at.from (omega arith) c.loop-at.invariant.1),
    )
