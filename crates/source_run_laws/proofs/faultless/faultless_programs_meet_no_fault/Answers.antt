use Rattle.source_run_laws.proofs.FaultlessLemmas.{faultless-fair}
use Rattle.source_run_laws.proofs.faultless.faultless_programs_meet_no_fault.Goals as goal

pub returns : goal.returns
returns c = faultless-fair
