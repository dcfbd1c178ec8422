use Rattle.std.proofs.Common.{[], ◌∷◌, length, ap, ◌∙◌, arith}
use Rattle.std.proofs.lemmas.List.{length-append}
use Rattle.symbol_tables.proofs.data_names_lemmas.NestingLemmas.{table_step, table_whole}
use Rattle.symbol_tables.proofs.data_names.nesting.nestings_of.Goals as goal

pub loop-entry-preserved : goal.loop-entry-preserved
loop-entry-preserved c =
    let n = c.next_nesting.result in
    let t = table_step c.args.entries.now c.loop-entry.nestings c.loop-entry.entry-index c.entry-item.result n c.loop-entry.invariant.count c.loop-entry.invariant.table c.loop-entry-test.true c.entry-item.is (rw c.as_slice.ensures at c.next_nesting.ensures) in
    let l = ap length c.in_ok-push.ensures.ok ∙ length-append c.loop-entry.nestings (n ∷ []) in
    record {
      count = omega (arith, l, c.loop-entry.invariant.count);
      table = c.in_ok-push.ensures.ok ∙ t;
    }

pub returns : goal.returns
returns c = c.loop-entry.invariant.table ∙ table_whole c.args.entries.now c.loop-entry.entry-index (omega arith)
