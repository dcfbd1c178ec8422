-- Going along a list.
use Rattle.std.proofs.Common.{◌≡◌, ℕ, ◌+◌, ◌<◌, ◌≤◌, List, ◌∷◌, drop, get_or, length, ap, sym, ◌∙◌, add-one}
use Rattle.std.proofs.Math.Seq.{drop-cons}
use Rattle.std.proofs.lemmas.List.{drop_all}
use Rattle.cob_tree.specs.Places.{stmt_places}
use Rattle.cob_tree.specs.declared.stmt.Stmt.{Stmt}
use Rattle.control_flow_theory.specs.language.Control.{seen, seen_stmts}
use Rattle.control_flow_theory.specs.semantics.Graph as graph
use Rattle.control_flow_theory.specs.lowering.FlowFacts.{FlowFacts}
use Rattle.control_flow_theory.specs.lowering.Completes.{size}
use Rattle.control_flow_theory.specs.lowering.Lower as lower
use Rattle.lowering_labels.proofs.points_lemmas.SizeLemmas.{size-seen}

module _ (told : FlowFacts) (place_of : ℕ → ℕ) (last : ℕ) (leaving : lower.EscapeTargets) (after : graph.End) (behind : graph.Tree) where
  abbrev pub rest_built : List Stmt → ℕ → graph.Tree
  rest_built stmts place = lower.build told place_of (seen_stmts last stmts) place leaving after behind

  -- the first of a rest, and what stands behind it
  pub rest_step : (stmts : List Stmt) (i : ℕ) (stmt : Stmt) (here next : ℕ) (leaf : graph.End) → i < length stmts → stmt ≡ get_or stmts i stmt →
      next ≡ here + stmt_places stmt → leaf ≡ lower.leaf told place_of (seen_stmts last (drop (i + 1) stmts)) next after →
      rest_built (drop i stmts) here ≡ lower.build_stmt told place_of (seen last stmt) here leaving leaf (rest_built (drop (i + 1) stmts) next)
  rest_step stmts i stmt here next leaf lt is e h =
      let left = drop (i + 1) stmts in
      let cons : drop i stmts ≡ stmt ∷ left = rw (add-one i) (drop-cons stmts i stmt lt) ∙ ap (λ s. s ∷ left) (sym is) in
      let there : here + size (seen last stmt) ≡ next = ap (λ n. here + n) (size-seen last stmt) ∙ sym e in
      ap (λ ss. rest_built ss here) cons
      ∙ ap (λ n. lower.build_stmt told place_of (seen last stmt) here leaving (lower.leaf told place_of (seen_stmts last left) n after) (rest_built left n)) there
      ∙ ap (λ l. lower.build_stmt told place_of (seen last stmt) here leaving l (rest_built left next)) (sym h)

  pub rest_over : (stmts : List Stmt) (i here : ℕ) → length stmts ≤ i → rest_built (drop i stmts) here ≡ behind
  rest_over stmts i here le = ap (λ ss. rest_built ss here) (drop_all i stmts le)
