-- Continuations in which a paragraph's end is another.
use Rattle.std.proofs.Common.{◌≡◌, ℕ, ◌+◌, true, false, if◌then◌else◌, List, [], ◌∷◌, refl, ap, sym, ◌∙◌}
use Rattle.cob_tree.specs.declared.stmt.Stmt.{Stmt}
use Rattle.control_flow_theory.specs.language.Control.{seen_stmts}
use Rattle.control_flow_theory.specs.language.Language as language
use Rattle.control_flow_theory.specs.semantics.Graph as graph
use Rattle.control_flow_theory.specs.lowering.FlowFacts.{FlowFacts}
use Rattle.control_flow_theory.specs.lowering.Completes.{size, skips}
use Rattle.control_flow_theory.specs.lowering.Lower as lower
use Rattle.program_facts.specs.completion.FlowFacts.{flow_facts_of}
use Rattle.lowering_labels.specs.points.JumpTarget.{seen_target}
use Rattle.lowering_labels.specs.declared.points.layout.PlaceTable.{PlaceTable}
use Rattle.lowering_labels.specs.declared.points.jump_target.JumpTarget.{JumpTarget}
use Rattle.lowering_labels.specs.declared.points.jump_target.JumpTarget.TheVariants as leaf
use Rattle.statement_lowering.specs.declared.continuations.continuation.Successors.{Successors}
use Rattle.statement_lowering.specs.continuations.Successors.{Lowering, after_by, behind_by, begun, ended, IsBefore, leaving_by, tree_behind}

-- this end in the place of returns
abbrev pub replaced : graph.End → graph.End → graph.End
replaced end (graph.Pick picker arms) = graph.Pick picker arms
replaced end (graph.Jump to) = graph.Jump to
replaced end graph.Return = end
replaced end graph.Stop = graph.Stop
replaced end graph.Dead = graph.Dead

pub ended_is : (end : graph.End) (at : JumpTarget) → ended end at ≡ replaced end (seen_target at)
ended_is end (leaf.Jump to) = refl
ended_is end leaf.Return = refl
ended_is end leaf.Stop = refl

module _ (told : FlowFacts) (place_of : ℕ → ℕ) (end : graph.End) where
  stmt_replaced : (stmt : language.Stmt) (place : ℕ) (after : graph.End) → replaced end (lower.leaf_stmt told place_of stmt place after) ≡ lower.leaf_stmt told place_of stmt place (replaced end after)
  stmt_replaced (language.Do act) place after = elim (skips told act) as (λ b. replaced end (if b then after else graph.Jump (lower.point place)) ≡ (if b then replaced end after else graph.Jump (lower.point place))) [
    | true ↦ refl
    | false ↦ refl
  ]
  stmt_replaced (language.Choose picker arms) place after = refl
  stmt_replaced (language.Loop control body) place after = refl
  stmt_replaced (language.Perform entry exit) place after = refl
  stmt_replaced (language.Go to) place after = refl
  stmt_replaced (language.GoDepending to on) place after = refl
  stmt_replaced language.NextSentence place after = refl
  stmt_replaced language.ExitParagraph place after = refl
  stmt_replaced (language.ExitSection last) place after = refl
  stmt_replaced (language.ExitPerform cycle) place after = refl
  stmt_replaced language.StopRun place after = refl

  leaf_replaced : (stmts : language.Stmts) (place : ℕ) (after : graph.End) → replaced end (lower.leaf told place_of stmts place after) ≡ lower.leaf told place_of stmts place (replaced end after)
  leaf_replaced language.none place after = refl
  leaf_replaced (language.also stmt stmts) place after =
      stmt_replaced stmt place (lower.leaf told place_of stmts (place + size stmt) after)
      ∙ ap (lower.leaf_stmt told place_of stmt place) (leaf_replaced stmts (place + size stmt) after)

  pub leaf_ended : (stmts : language.Stmts) (place : ℕ) (after found : JumpTarget) → seen_target found ≡ lower.leaf told place_of stmts place (seen_target after) →
      ended end found ≡ lower.leaf told place_of stmts place (ended end after)
  leaf_ended stmts place after found h =
      ended_is end found ∙ ap (replaced end) h ∙ leaf_replaced stmts place (seen_target after)
      ∙ ap (lower.leaf told place_of stmts place) (sym (ended_is end after))

-- before a rest
module _ (layout : PlaceTable) (g : Lowering layout) (rest : List Stmt) (place : ℕ) (old new : Successors) (h : IsBefore layout rest place old new) where
  abbrev told : FlowFacts
  told = flow_facts_of g.files g.returning

  pub leaving_before : leaving_by layout g new ≡ leaving_by layout g old
  leaving_before = ap (leaving_by layout g) h.same

  pub last_before : new.last ≡ old.last
  last_before = ap (λ (o : Successors). o.last) h.same

  pub after_before : after_by layout g new ≡ lower.leaf told g.place_of (seen_stmts old.last rest) place (after_by layout g old)
  after_before =
      ap (λ (o : Successors). ended (g.ends o.paragraph) new.after) h.same
      ∙ leaf_ended told g.place_of (g.ends old.paragraph) (seen_stmts old.last rest) place old.after new.after (h.after g.files g.returning old.last g.place_of g.at)

  behind_begun : (stmts : List Stmt) (after : graph.End) → stmts ≡ rest → after ≡ lower.leaf told g.place_of (seen_stmts old.last stmts) place (after_by layout g old) →
      ((first : Stmt) (others : List Stmt) → stmts ≡ first ∷ others → g.node (lower.point place) ≡ lower.build told g.place_of (seen_stmts old.last stmts) place (leaving_by layout g old) (after_by layout g old) (behind_by layout g old)) →
      tree_behind layout g (begun stmts place old.behind) after
      ≡ lower.build told g.place_of (seen_stmts old.last stmts) place (leaving_by layout g old) (after_by layout g old) (behind_by layout g old)
  behind_begun [] after is e at = ap (tree_behind layout g old.behind) e
  behind_begun (first ∷ others) after is e at = at first others refl

  pub behind_before : ((first : Stmt) (others : List Stmt) → rest ≡ first ∷ others → g.node (lower.point place) ≡ lower.build told g.place_of (seen_stmts old.last rest) place (leaving_by layout g old) (after_by layout g old) (behind_by layout g old)) →
      behind_by layout g new
      ≡ lower.build told g.place_of (seen_stmts old.last rest) place (leaving_by layout g old) (after_by layout g old) (behind_by layout g old)
  behind_before at =
      ap (λ (o : Successors). tree_behind layout g o.behind (after_by layout g new)) h.same
      ∙ behind_begun rest (after_by layout g new) refl after_before at
