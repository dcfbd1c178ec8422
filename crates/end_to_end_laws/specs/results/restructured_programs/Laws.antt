-- What holds of what a program is restructured to.
use Rattle.std.specs.Prelude.{ℕ, ◌≡◌, ◌<◌, List, Result, MatchResult}
use Rattle.cob_base.specs.Limit.{max_nodes}
use Rattle.cob_base.specs.declared.limit.Limit.{Limit}
use Rattle.cob_tree.specs.declared.fault.SplitFault.{SplitFault}
use Rattle.cob_tree.specs.declared.fault.SplitFault.TheVariants as fault
use Rattle.cob_tree.specs.declared.program.Program.{Program}
use Rattle.control_flow_theory.specs.language.Control.{control_of}
use Rattle.control_flow_theory.specs.language.Language.{Range}
use Rattle.control_flow_theory.specs.language.Structured.{IsStructuredControl}
use Rattle.struct_form.specs.Structured as tree
use Rattle.control_flow_theory.specs.graph_rules.Reduced.{Graph, size}
use Rattle.cobol_theory.specs.cobol_meaning.Same.{SameBehaviour}
use Rattle.program_facts.specs.completion.FlowFacts.{flow_facts_of}
use Rattle.pending_returns.specs.FaultFree.{IsFaultFree}
use Rattle.pending_returns.specs.declared.facts.Summary.{Summary}
use Rattle.added_items.specs.item_table.Tables.{most_arms}
use Rattle.procedure_split.specs.shaped_ranges.Graphs.{HaveGraphs, IsGraphOf, total_size}
use Rattle.procedure_split.specs.Splitting.{IsSplit, IsSplitFault, IsSplitWith, IsTooLarge, Planned}
use Rattle.procedure_split.specs.declared.writing.Split.{Split}
use Rattle.cobol_read.specs.Reading.{Reads}
use Rattle.end_to_end_laws.specs.results.restructured_programs.Result.{IsRestructuredTo, IsWithinSplitting}

-- what a program that is read is split into is what it is restructured to, within the limits of
-- splitting
abbrev pub SplitsAreRestructured : Type 0
SplitsAreRestructured =
    (bytes : List ℕ) (program made : Program) (summary : Summary) → Reads bytes program →
    IsFaultFree program summary → IsSplit program summary made →
    (result : IsRestructuredTo program summary made) × IsWithinSplitting result

-- by any two summaries of its flow, a program is restructured to one program
abbrev pub ResultsAreOne : Type 0
ResultsAreOne =
    (bytes : List ℕ) (program made other : Program) (summary again : Summary) →
    Reads bytes program → IsFaultFree program summary → IsFaultFree program again →
    IsRestructuredTo program summary made → IsRestructuredTo program again other → made ≡ other

-- where the graphs of a program are past their limit, they are so in whatever it is restructured to
abbrev pub LimitsTellOfResults : Type 0
LimitsTellOfResults =
    (bytes : List ℕ) (program made : Program) (summary : Summary) (limit : Limit) →
    Reads bytes program → IsFaultFree program summary → IsTooLarge program summary limit →
    (result : IsRestructuredTo program summary made) → max_nodes < total_size result.graphs

-- what splitting answers of a program whose result is within the limits of splitting is this result,
-- unless memory runs out: the limits are of the answer alone
abbrev pub ResultsAreAnswered : Type 0
ResultsAreAnswered =
    (bytes : List ℕ) (program made : Program) (summary : Summary)
    (answer : Result Split SplitFault) → Reads bytes program → IsFaultFree program summary →
    (result : IsRestructuredTo program summary made) → IsWithinSplitting result →
    MatchResult answer (IsSplitWith program summary) (IsSplitFault program summary) →
    MatchResult answer (λ split. split.program ≡ made) (λ why. why ≡ fault.NoMemory)

-- what a program that is read is restructured to, whatever the size of its graphs and however deep
-- it nests, is structured and behaves as the program over all files
abbrev pub ResultsBehaveAlike : Type 0
ResultsBehaveAlike =
    (bytes : List ℕ) (program made : Program) (summary : Summary) → Reads bytes program →
    IsFaultFree program summary → IsRestructuredTo program summary made →
    IsStructuredControl (control_of made) × SameBehaviour program made

-- and it is structured as the tests of the tree tell it, without EXIT
abbrev pub ResultsAreStructured : Type 0
ResultsAreStructured =
    (bytes : List ℕ) (program made : Program) (summary : Summary) → Reads bytes program →
    IsFaultFree program summary → IsRestructuredTo program summary made → tree.IsStructured made

-- the limit on tokens keeps each graph of a program that is read below the numbers of a state item
abbrev pub GraphsAreNumbered : Type 0
GraphsAreNumbered =
    (bytes : List ℕ) (program : Program) (returning : List (List ℕ)) (range : Range)
    (graph : Graph) → Reads bytes program →
    IsGraphOf (flow_facts_of program.files returning) (control_of program) range graph →
    size graph.nodes < most_arms

-- each program whose flow has a summary has a plan, and its ranges have their graphs, whatever their
-- size
abbrev pub GraphsAreThere : Type 0
GraphsAreThere =
    (program : Program) (summary : Summary) →
    (plan : Planned program summary) × ((graphs : List Graph)
    × HaveGraphs (flow_facts_of program.files plan.returning) (control_of program) plan.order
    graphs)
