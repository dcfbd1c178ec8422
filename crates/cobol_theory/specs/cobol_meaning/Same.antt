-- Two programs behave the same.
use Rattle.cob_tree.specs.declared.program.Program.{Program}
use Rattle.control_flow_theory.specs.semantics_agree.Same as meanings
use Rattle.cobol_theory.specs.cobol_meaning.Runs.{source_run, structural_run}

-- the two programs behave alike: over all files each run of the source is matched by one of the
-- result's nested statements, and the other way round, each within a number of times as long that
-- is chosen beforehand
abbrev pub SameBehaviour : Program → Program → Type 0
SameBehaviour source result = meanings.SameBehaviour (source_run source) (structural_run result)
