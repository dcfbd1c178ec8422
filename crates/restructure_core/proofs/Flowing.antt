-- What is found of a program's flow.
use Rattle.std.proofs.Common.{◌≡◌, ◌≤◌, length, sym, subst}
use Rattle.cob_base.specs.Limit.{max_ranges}
use Rattle.cob_tree.specs.declared.fault.SplitFault.{SplitFault}
use Rattle.cob_tree.specs.declared.fault.SplitFault.TheVariants as split
use Rattle.cob_tree.specs.declared.program.Program.{Program}
use Rattle.control_flow_theory.specs.language.Control.{control_of}
use Rattle.program_points.specs.declared.paths.trail.Trail.{Trail}
use Rattle.program_points.proofs.paths_lemmas.Showing.{accepted-faulty}
use Rattle.program_points.specs.numbering.Kind.{never_first_of}
use Rattle.pending_returns.specs.declared.facts.Summary.{Summary}
use Rattle.pending_returns.specs.Summary.{IsSummary, IsWithin, IsRangeLimitOrNoMemory}
use Rattle.restructure_core.specs.declared.fault.Refused.{Refused}
use Rattle.restructure_core.specs.Flow.{HasFlowFault, IsTrailOf, IsFaultyBy, IsFlowRefusal}
use Rattle.restructure_core.specs.Made.{IsClear}
use Rattle.restructure_core.specs.Fault.{of_split_fault}

pub clear_flow : (program : Program) (summary : Summary) → IsWithin program →
    IsSummary (never_first_of program.files) (control_of program) summary →
    length summary.ranges ≤ max_ranges → (HasFlowFault program → ⊥) → IsClear program summary
clear_flow program summary within is few never =
    record { within = within; flow = record { never = never; is = is }; few = few }

pub faulty_flow : (program : Program) (trail : Trail) → IsWithin program →
    IsTrailOf program trail → IsFaultyBy program trail
faulty_flow program trail within h = record {
  within = within;
  faulty = accepted-faulty (never_first_of program.files) (control_of program) trail h.accepted;
  shown = h;
}

past : (program : Program) (fault : SplitFault) → IsRangeLimitOrNoMemory program fault →
    IsFlowRefusal program (of_split_fault fault)
past program (split.Limit limit) h = h
past program split.NoMemory h = tt

pub flow_past : (program : Program) (fault : SplitFault) (why : Refused) →
    why ≡ of_split_fault fault → IsRangeLimitOrNoMemory program fault → IsFlowRefusal program why
flow_past program fault why is h = subst (IsFlowRefusal program) (sym is) (past program fault h)
