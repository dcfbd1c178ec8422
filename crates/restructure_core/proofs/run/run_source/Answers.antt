use Rattle.std.proofs.Common.{ap, map}
use Rattle.file_model.specs.contracts.operations.watched.BoxDynDeviceWatched.TheImpl.{seen-value}
use Rattle.cobol_run.proofs.PlainLemmas.{passes_plain}
use Rattle.restructure_core.proofs.run_lemmas.AnswerLemmas.{comes_nested, read_own}
use Rattle.restructure_core.proofs.run.run_source.Goals as goal

pub returns-clause-came : goal.returns-clause-came
returns-clause-came g c = (
  c.in_ok-program.ensures.found,
  λ plain files. c.run-ran.ensures.run files (passes_plain c.in_ok-program.program plain),
)

pub returns-clause-over : goal.returns-clause-over
returns-clause-over g c = (
  c.in_ok-program.ensures.found,
  read_own c.args.bytes.now c.in_ok-program.program c.in_ok-program.ensures.found,
  (
    c.run-ran.ensures.ends,
    λ plain.
        let kept = c.run-ran.ensures.kept (passes_plain c.in_ok-program.program plain) in
        (ap (λ bench. bench.left) kept, ap (λ bench. map (seen-value g.dyn-1).it bench.devices.items) kept),
  ),
)

pub returns-clause-nested : goal.returns-clause-nested
returns-clause-nested g c =
    comes_nested c.args.bytes.now c.in_ok-program.program c.args.steps _ _ c.run-ran.result c.in_ok-program.ensures.found (returns-clause-over g c).2
