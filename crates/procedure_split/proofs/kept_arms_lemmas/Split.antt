-- What a program is split into nests within the limit, where the choices of its graphs have arms.
use Rattle.std.proofs.Common.{◌≤◌, List, [], ◌∷◌, subst}
use Rattle.cob_tree.specs.Depth.{program_depth}
use Rattle.cob_tree.specs.declared.program.Program.{Program}
use Rattle.control_flow_theory.specs.graph_rules.Reduced.{Node}
use Rattle.control_flow_theory.specs.structuring.Closes.{closed_graph}
use Rattle.pending_returns.specs.declared.facts.Summary.{Summary}
use Rattle.branch_tree.specs.Graph.{seen_graph}
use Rattle.branch_tree.specs.Tree.{seen_tree}
use Rattle.cob_base.specs.Limit.{max_nesting}
use Rattle.region_rewrite.specs.Shaping.{first_tree}
use Rattle.procedure_split.specs.shaped_ranges.Laws.{HasFlow}
use Rattle.procedure_split.proofs.made_procedures_lemmas.Rows.{shaped-at}
use Rattle.procedure_split.specs.Splitting.{IsSplit}
use Rattle.procedure_split.proofs.split_depth_lemmas.Split.{split-within}
use Rattle.procedure_split.specs.kept_arms.Trees.{TreeHasArms, NodesHaveArms, GraphsHaveArms, PickHasArms}
use Rattle.control_flow_theory.proofs.structuring_lemmas.closing.EachKept.{body-each}
use Rattle.procedure_split.specs.split_depth.Arms.{ChoiceHasArms}
use Rattle.procedure_split.proofs.kept_arms_lemmas.Rules.{bears-rules, closed-has}

first-has : (nodes : List Node) → NodesHaveArms nodes → TreeHasArms (first_tree nodes)
first-has [] h = (tt, tt)
first-has (node ∷ nodes) h = h.0

pub graphs-within : (program made : Program) (summary : Summary) → HasFlow program summary →
    (split : IsSplit program summary made) → GraphsHaveArms split.graphs →
    program_depth made ≤ max_nesting
graphs-within program made summary flow split have =
    split-within program made summary flow split (λ at one is.
    let shaped = shaped-at split.graphs split.closed split.shaped at one is in
    let closed = closed_graph (seen_graph shaped.0) in
    let first = first-has closed.nodes
    (closed-has (seen_graph shaped.0) (have at shaped.0 shaped.1)) in
    body-each ChoiceHasArms PickHasArms bears-rules (seen_tree one.tree) (subst TreeHasArms shaped.2.tree first))
