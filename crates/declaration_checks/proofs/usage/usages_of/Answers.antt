use Rattle.std.proofs.Common.{[]}
use Rattle.declaration_checks.specs.Usage.{handed}
use Rattle.declaration_checks.proofs.UsageLemmas.{fold_read}
use Rattle.declaration_checks.proofs.usage.usages_of.Goals as goal

pub loop-own-preserved : goal.loop-own-preserved
loop-own-preserved c = fold_read (handed c.args.bases.now) [] c.args.owns.now c.loop-own.own-index _ c.loop-own.usages c.hand.new.usages c.loop-own-test.true c.loop-own.invariant c.in_ok-hand.ensures
