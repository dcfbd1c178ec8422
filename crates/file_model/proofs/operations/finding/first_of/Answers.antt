use Rattle.std.proofs.Common.{arith}
use Rattle.std.proofs.lemmas.List.{length-map}
use Rattle.file_model.proofs.operations_lemmas.CallLemmas.{first_at, nowhere, others_more}
use Rattle.file_model.proofs.operations.finding.first_of.Goals as goal

pub returns-then-is_named : goal.returns-then-is_named
returns-then-is_named g c =
    let fits = c.args.bench.now.within in
    let many = c.args.bench.now.devices.ok.0 in
    first_at c.args.name.now _ c.args.bench.now.left c.loop-at.at c.is_named.result c.loop-at-test.true (simp length-map (omega arith)) c.is_named.ensures c.if-is_named.true c.loop-at.invariant

pub loop-at-preserved : goal.loop-at-preserved
loop-at-preserved g c = others_more c.args.name.now _ c.loop-at.at c.is_named.result c.is_named.ensures c.if-is_named.false c.loop-at.invariant

pub returns : goal.returns
returns g c = nowhere c.args.name.now _ c.args.bench.now.left c.loop-at.at c.loop-at-test.false c.loop-at.invariant
