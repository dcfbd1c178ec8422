use Rattle.control_flow_theory.proofs.semantics_lemmas.Examples.{sources_run, nested_run, both_run, families_walk, jumps_run}
use Rattle.control_flow_theory.proofs.semantics.small_programs_run_as_said.Goals as goal

pub returns-clause-sources : goal.returns-clause-sources
returns-clause-sources c = sources_run

pub returns-clause-nested : goal.returns-clause-nested
returns-clause-nested c = nested_run

pub returns-clause-both : goal.returns-clause-both
returns-clause-both c = both_run

pub returns-clause-walks : goal.returns-clause-walks
returns-clause-walks c = families_walk

pub returns-clause-jumps : goal.returns-clause-jumps
returns-clause-jumps c = jumps_run
