-- Numbering its counters leaves a graph as large as it is.
use Rattle.std.proofs.Common.{◌≡◌, ◌+◌, ℕ, Bool, List, [], ◌∷◌, map, sum_by, refl, ap, ap₂, sym, ◌∙◌}
use Rattle.std.proofs.lemmas.List.Sums.{sum_by-cons}
use Rattle.control_flow_theory.specs.language.Language as language
use Rattle.control_flow_theory.specs.semantics.Graph as graph
use Rattle.control_flow_theory.specs.graph_rules.Reduced as reduced
use Rattle.control_flow_theory.specs.main_theorem.Chain.{graph_nodes}
use Rattle.control_flow_theory.specs.main_theorem.Numbering.{numbers_by}
use Rattle.control_flow_theory.specs.lowering.Completes.{size, size_arms, size_body, sizes}
use Rattle.control_flow_theory.specs.lowering.Lower as lower
use Rattle.control_flow_theory.specs.lowering.Lowered.{nodes_of}
use Rattle.control_flow_theory.specs.lowering.Reached.{kept_nodes}
use Rattle.control_flow_theory.specs.lowering.Renamed.{arms_anew, body_anew, end_anew, stmt_anew, stmts_anew, tree_anew, trees_anew}
use Rattle.control_flow_theory.specs.lowering.FlowFacts.{FlowFacts}
use Rattle.flow_graph.specs.Lowered.{lowered_graph, node_of}
use Rattle.flow_graph.specs.graph_sizes.Sizing.{end_size, graph_size, node_size, tree_size, trees_size}
use Rattle.procedure_split.specs.shaped_ranges.Graphs.{graph_by}

module _ (number : ℕ → ℕ) where
  mutual
    stmt_same : (stmt : language.Stmt) → size (stmt_anew number stmt) ≡ size stmt
    stmt_same (language.Do act) = refl
    stmt_same (language.Choose picker arms) = ap (λ (n : ℕ). 1 + n) (arms_same arms)
    stmt_same (language.Loop control body) = ap (λ (n : ℕ). 1 + n) (body_same body)
    stmt_same (language.Perform entry exit) = refl
    stmt_same (language.Go to) = refl
    stmt_same (language.GoDepending to on) = refl
    stmt_same language.NextSentence = refl
    stmt_same language.ExitParagraph = refl
    stmt_same (language.ExitSection last) = refl
    stmt_same (language.ExitPerform cycle) = refl
    stmt_same language.StopRun = refl

    stmts_same : (stmts : language.Stmts) → sizes (stmts_anew number stmts) ≡ sizes stmts
    stmts_same language.none = refl
    stmts_same (language.also stmt stmts) =
        ap₂ (λ (m n : ℕ). m + n) (stmt_same stmt) (stmts_same stmts)

    arms_same : (arms : language.Arms) → size_arms (arms_anew number arms) ≡ size_arms arms
    arms_same language.done = refl
    arms_same (language.given arm others) =
        ap₂ (λ (m n : ℕ). m + n) (stmts_same arm) (arms_same others)
    arms_same (language.missing others) = arms_same others

    body_same : (body : language.Body) → size_body (body_anew number body) ≡ size_body body
    body_same (language.Nested stmts) = stmts_same stmts
    body_same (language.Performed entry exit) = refl

  mutual
    end_same : (end : graph.End) → end_size (end_anew number end) ≡ end_size end
    end_same (graph.Pick picker arms) = trees_same arms
    end_same (graph.Jump to) = refl
    end_same graph.Return = refl
    end_same graph.Stop = refl
    end_same graph.Dead = refl

    trees_same : (trees : graph.Trees) → trees_size (trees_anew number trees) ≡ trees_size trees
    trees_same graph.no_more = refl
    trees_same (graph.more (graph.tree body end) others) =
        ap₂ (λ (m n : ℕ). m + n) (ap₂ (λ (m n : ℕ). m + n) (stmts_same body) (end_same end))
        (trees_same others)

  tree_same : (tree : graph.Tree) → tree_size (tree_anew number tree) ≡ tree_size tree
  tree_same (graph.tree body end) = ap₂ (λ (m n : ℕ). m + n) (stmts_same body) (end_same end)

  nodes_same : (nodes : List lower.Node) →
      sum_by node_size (graph_nodes number nodes) ≡ sum_by node_size (map node_of nodes)
  nodes_same [] = refl
  nodes_same (one ∷ others) =
      let placed = node_of one in
      let anew : reduced.Node = record { label = one.key; tree = tree_anew number one.tree } in
      sum_by-cons node_size anew (graph_nodes number others)
      ∙ ap₂ (λ (m n : ℕ). 1 + m + n) (tree_same one.tree) (nodes_same others)
      ∙ sym (sum_by-cons node_size placed (map node_of others))

pub numbered-size : (told : FlowFacts) (program : language.Program) (keep : graph.Label → Bool)
    (range : language.Range) →
    graph_size (graph_by told program keep range)
    ≡ graph_size (lowered_graph told program range keep)
numbered-size told program keep range =
    let all : language.Range → graph.Label → Bool = λ other. keep in
    nodes_same (numbers_by all program range) (kept_nodes keep (nodes_of told program range))
