-- The graphs that a program's ranges are lowered to are a sound family.
use Rattle.std.specs.Prelude.{ℕ, List, map}
use Rattle.cob_tree.specs.declared.program.Program.{Program}
use Rattle.control_flow_theory.specs.language.Control.{control_of}
use Rattle.control_flow_theory.specs.graph_rules.Reduced.{Graph}
use Rattle.meanings.specs.statements.Does.{declared_in}
use Rattle.cobol_theory.specs.cobol_meaning.Acting.{Memory, acting}
use Rattle.program_facts.specs.completion.FlowFacts.{flow_facts_of}
use Rattle.pending_returns.specs.FaultFree.{IsFaultFree}
use Rattle.pending_returns.specs.declared.facts.Summary.{Summary}
use Rattle.branch_tree.specs.Graph.{seen_graph}
use Rattle.procedure_split.specs.shaped_ranges.Graphs.{HaveGraphs}
use Rattle.procedure_split.specs.Splitting.{IsSplit, Planned}
use Rattle.cobol_read.specs.Reading.{Reads}
use Rattle.end_to_end_laws.specs.rewriting.Families.{IsSoundFamily}
use Rattle.end_to_end_laws.specs.rewriting.lowered_families.Lowered.{graphs_in, in_order}

-- the graphs of a program that is read and has no fault of flow, whatever their size: with what
-- COBOL's parts do, they are a sound family in the order of the program's plan
abbrev pub LoweredGraphsAreSound : Type 0 → Type 0
LoweredGraphsAreSound Left =
    (bytes : List ℕ) (program : Program) (summary : Summary) → Reads bytes program →
    IsFaultFree program summary → (plan : Planned program summary) (graphs : List Graph) →
    HaveGraphs (flow_facts_of program.files plan.returning) (control_of program) plan.order
    graphs →
    (left : Memory → Left) →
    IsSoundFamily (acting (declared_in program)) left (graphs_in plan.order graphs)
    (in_order plan.order)

-- so are the graphs from which a program is split
abbrev pub SplitGraphsAreSound : Type 0 → Type 0
SplitGraphsAreSound Left =
    (bytes : List ℕ) (program made : Program) (summary : Summary) → Reads bytes program →
    IsFaultFree program summary → (split : IsSplit program summary made) →
    (left : Memory → Left) →
    IsSoundFamily (acting (declared_in program)) left
    (graphs_in split.plan.order (map seen_graph split.graphs)) (in_order split.plan.order)
