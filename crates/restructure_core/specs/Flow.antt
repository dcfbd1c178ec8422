-- What control of a program comes to, whatever the data.
use Rattle.cob_base.specs.declared.limit.Limit.{Limit}
use Rattle.cob_tree.specs.declared.fault.SplitFault.TheVariants as split
use Rattle.cob_tree.specs.declared.program.Program.{Program}
use Rattle.control_flow_theory.specs.language.Control.{control_of}
use Rattle.program_points.specs.paths.Flow.{IsFaulty}
use Rattle.program_points.specs.declared.paths.trail.Trail.{Trail}
use Rattle.program_points.specs.numbering.Kind.{never_first_of}
use Rattle.pending_returns.specs.Summary.{IsWithin, IsRangeLimitOrNoMemory}
use Rattle.overlap_trail.specs.finding.Finding.{IsFound}
use Rattle.restructure_core.specs.declared.fault.Refused.{Refused}
use Rattle.restructure_core.specs.declared.fault.Refused.TheVariants as refused

-- the PERFORM statements of the program name more distinct ranges than there may be
abbrev pub PassesRanges : Program → Limit → Type 0
PassesRanges program limit = IsRangeLimitOrNoMemory program (split.Limit limit)

-- some flow path comes to a fault
abbrev pub HasFlowFault : Program → Type 0
HasFlowFault program = IsFaulty (never_first_of program.files) (control_of program)

-- the trail is accepted, with no range twice among its lemmas or among its hops
abbrev pub IsTrailOf : Program → Trail → Type 0
IsTrailOf program trail = IsFound (never_first_of program.files) (control_of program) trail

-- no flow path comes to a fault
pub record IsFaultless (program : Program) : Type 0 where
  -- its text names no more ranges than their limit
  pub within : IsWithin program
  -- no flow path comes to a fault
  pub never : HasFlowFault program → ⊥

-- one does, and this trail shows it
pub record IsFaultyBy (program : Program) (trail : Trail) : Type 0 where
  -- its text names no more ranges than their limit
  pub within : IsWithin program
  -- a flow path comes to a fault
  pub faulty : HasFlowFault program
  -- the trail shows a fault of the program
  pub shown : IsTrailOf program trail

-- why neither is given: too many ranges, or out of memory
abbrev pub IsFlowRefusal : Program → Refused → Type 0
IsFlowRefusal program (refused.Limit limit) = PassesRanges program limit
IsFlowRefusal program refused.NoMemory = Unit {0}
IsFlowRefusal program _ = ⊥
