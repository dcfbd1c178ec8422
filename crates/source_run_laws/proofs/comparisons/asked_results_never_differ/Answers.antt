use Rattle.source_run_laws.proofs.ComparisonLemmas.{asked-never}
use Rattle.source_run_laws.proofs.comparisons.asked_results_never_differ.Goals as goal

pub returns : goal.returns
returns c = asked-never c.faultless_programs_meet_no_fault.ensures c.results_never_differ.ensures.compared
