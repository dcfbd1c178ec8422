-- The graphs of ranges are one list, as they are seen, and so is what they are shaped to.
use Rattle.std.proofs.Common.{◌≡◌, ◌≤◌, ◌<◌, ℕ, zero, suc, List, [], ◌∷◌, map, Some, slice_get, refl, ap, ap₂, sym, subst, ◌∙◌, arith}
use Rattle.cob_tree.specs.declared.program.Range as code
use Rattle.control_flow_theory.specs.language.Language.{Program}
use Rattle.control_flow_theory.specs.semantics.Graph.{Tree, body_of}
use Rattle.control_flow_theory.specs.lowering.FlowFacts.{FlowFacts}
use Rattle.control_flow_theory.specs.graph_rules.Families.{Added}
use Rattle.control_flow_theory.specs.graph_rules.Reduced as reduced
use Rattle.control_flow_theory.specs.structuring.Closes.{closed_graph}
use Rattle.branch_tree.specs.Graph.{seen_graph}
use Rattle.branch_tree.specs.declared.graph.Graph.{Graph}
use Rattle.lowering_labels.specs.points.FallThrough.{seen_range}
use Rattle.cob_base.specs.Limit.{max_nesting}
use Rattle.region_rewrite.specs.Shaping.{first_tree, result_nesting}
use Rattle.added_items.specs.item_table.Row.{CellRange}
use Rattle.procedure_split.specs.shaped_ranges.Graphs.{HaveGraphs}
use Rattle.procedure_split.specs.shaped_ranges.Shaping.{AllShaped, IsOneTooDeep, IsShapedTo}
use Rattle.procedure_split.specs.declared.shaped_ranges.shaping.Closed.{Closed}
use Rattle.procedure_split.specs.Rows.{row_of, rows_of}
use Rattle.procedure_split.proofs.one_split_lemmas.Kept.{one-graph}

abbrev pub all_seen : List Graph → List reduced.Graph
all_seen = map seen_graph

-- ranges have one list of graphs
pub one-list : (told : FlowFacts) (program : Program) (order : List code.Range)
    (graphs others : List reduced.Graph) → HaveGraphs told program order graphs →
    HaveGraphs told program order others → graphs ≡ others
one-list told program [] [] [] have also_have = refl
one-list told program [] [] (other ∷ others) have also_have = absurd also_have
one-list told program [] (graph ∷ graphs) others have also_have = absurd have
one-list told program (range ∷ order) [] others have also_have = absurd have
one-list told program (range ∷ order) (graph ∷ graphs) [] have also_have = absurd also_have
one-list told program (range ∷ order) (graph ∷ graphs) (other ∷ others) have also_have =
    ap₂ (λ (first : reduced.Graph) (rest : List reduced.Graph). first ∷ rest)
    (one-graph told program (seen_range range) graph other have.0 also_have.0)
    (one-list told program order graphs others have.1 also_have.1)

-- What they are shaped to.

first-same : (a b : reduced.Graph) (rest others : List reduced.Graph) → a ∷ rest ≡ b ∷ others → a ≡ b
first-same a b rest others e = cc

rest-same : (a b : reduced.Graph) (rest others : List reduced.Graph) → a ∷ rest ≡ b ∷ others → rest ≡ others
rest-same a b rest others e = cc

row-same : (range : code.Range) (graph other : reduced.Graph) (one also_one : Closed) →
    graph ≡ other → IsShapedTo graph one → IsShapedTo other also_one →
    row_of range one ≡ row_of range also_one
row-same range graph other one also_one same shaped also_shaped =
    ap₂ (λ (added : List Added) (whole : Tree). (
    let row : CellRange =
    record { range = seen_range range; added = added; body = body_of whole } in row
    ))
    (sym shaped.added ∙ ap (λ (g : reduced.Graph). (closed_graph g).added) same
    ∙ also_shaped.added)
    (sym shaped.tree ∙ ap (λ (g : reduced.Graph). first_tree (closed_graph g).nodes) same
    ∙ also_shaped.tree)

pub rows-same : (order : List code.Range) (graphs others : List Graph)
    (closed also_closed : List Closed) → all_seen graphs ≡ all_seen others →
    AllShaped graphs closed → AllShaped others also_closed →
    rows_of order closed ≡ rows_of order also_closed
rows-same [] graphs others closed also_closed same shaped also_shaped = refl
rows-same (range ∷ order) [] [] [] [] same shaped also_shaped = refl
rows-same (range ∷ order) [] [] [] (also_one ∷ also_closed) same shaped also_shaped =
    absurd also_shaped
rows-same (range ∷ order) [] [] (one ∷ closed) also_closed same shaped also_shaped =
    absurd shaped
rows-same (range ∷ order) [] (other ∷ others) closed also_closed same shaped also_shaped =
    absurd (let k : ⊥ = cc in k)
rows-same (range ∷ order) (graph ∷ graphs) [] closed also_closed same shaped also_shaped =
    absurd (let k : ⊥ = cc in k)
rows-same (range ∷ order) (graph ∷ graphs) (other ∷ others) [] also_closed same shaped
    also_shaped =
    absurd shaped
rows-same (range ∷ order) (graph ∷ graphs) (other ∷ others) (one ∷ closed) [] same shaped
    also_shaped =
    absurd also_shaped
rows-same (range ∷ order) (graph ∷ graphs) (other ∷ others) (one ∷ closed)
    (also_one ∷ also_closed) same shaped also_shaped =
    ap₂ (λ (first : CellRange) (rest : List CellRange). first ∷ rest)
    (row-same range (seen_graph graph) (seen_graph other) one also_one
    (first-same (seen_graph graph) (seen_graph other) (all_seen graphs) (all_seen others) same)
    shaped.0 also_shaped.0)
    (rows-same order graphs others closed also_closed
    (rest-same (seen_graph graph) (seen_graph other) (all_seen graphs) (all_seen others) same)
    shaped.1 also_shaped.1)

-- none of them is shaped to a body that nests too deep
pub none-deep : (graphs others : List Graph) (closed : List Closed) →
    all_seen graphs ≡ all_seen others → AllShaped graphs closed → IsOneTooDeep others → ⊥
none-deep graphs others closed same shaped deep =
    at graphs others closed same shaped deep.at deep.graph deep.there deep.deep where
      at : (graphs others : List Graph) (closed : List Closed) → all_seen graphs ≡ all_seen others →
          AllShaped graphs closed → (at : ℕ) (graph : Graph) → slice_get others at ≡ Some graph →
          max_nesting < result_nesting (closed_graph (seen_graph graph)) → ⊥
      at graphs [] closed same shaped number graph there deep = (let k : ⊥ = cc in k)
      at [] (other ∷ others) closed same shaped number graph there deep = (let k : ⊥ = cc in k)
      at (first ∷ graphs) (other ∷ others) [] same shaped number graph there deep = shaped
      at (first ∷ graphs) (other ∷ others) (one ∷ closed) same shaped zero graph there deep =
          let is : other ≡ graph = cc in
          let seen : seen_graph first ≡ seen_graph graph =
          first-same (seen_graph first) (seen_graph other) (all_seen graphs) (all_seen others) same
          ∙ ap seen_graph is in
          let within : result_nesting (closed_graph (seen_graph graph)) ≤ max_nesting =
          subst (λ (g : reduced.Graph). result_nesting (closed_graph g) ≤ max_nesting) seen
          shaped.0.within in
          omega (arith, within, deep)
      at (first ∷ graphs) (other ∷ others) (one ∷ closed) same shaped (suc number) graph there deep =
          at graphs others closed
          (rest-same (seen_graph first) (seen_graph other) (all_seen graphs) (all_seen others) same)
          shaped.1 number graph there deep
