-- What restructuring asks of a program's flow.
use Rattle.cob_tree.specs.declared.program.Program.{Program}
use Rattle.control_flow_theory.specs.language.Control.{control_of}
use Rattle.program_points.specs.paths.Flow.{IsFaulty}
use Rattle.program_points.specs.numbering.Kind.{never_first_of}
use Rattle.pending_returns.specs.declared.facts.Summary.{Summary}
use Rattle.pending_returns.specs.Summary.{IsSummary}

-- no flow path comes to a fault, and this is the summary of the ranges that they perform
pub record IsFaultFree (program : Program) (summary : Summary) : Type 0 where
  -- no flow path comes to a fault
  pub never : IsFaulty (never_first_of program.files) (control_of program) → ⊥
  pub is : IsSummary (never_first_of program.files) (control_of program) summary
