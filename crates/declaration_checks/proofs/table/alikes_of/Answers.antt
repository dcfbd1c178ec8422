use Rattle.std.proofs.Common.{[], ◌∷◌, length, ap, ◌∙◌, arith}
use Rattle.std.proofs.lemmas.List.{length-append}
use Rattle.declaration_checks.proofs.TableLemmas.{alikes_step, alikes_whole}
use Rattle.declaration_checks.proofs.table.alikes_of.Goals as goal

pub loop-entry-preserved : goal.loop-entry-preserved
loop-entry-preserved c =
    let n = c.last_alike.result in
    let t = alikes_step c.args.entries.now c.loop-entry.alikes c.loop-entry.entry-index c.entry-item.result n c.loop-entry.invariant.count c.loop-entry.invariant.table c.loop-entry-test.true c.entry-item.is (rw c.as_slice.ensures at c.last_alike.ensures) in
    let l = ap length c.in_ok-push.ensures.ok ∙ length-append c.loop-entry.alikes (n ∷ []) in
    record {
      count = omega (arith, l, c.loop-entry.invariant.count);
      table = c.in_ok-push.ensures.ok ∙ t;
    }

pub returns : goal.returns
returns c = c.loop-entry.invariant.table ∙ alikes_whole c.args.entries.now c.loop-entry.entry-index (omega arith)
