-- Statements without an escape.
use Rattle.std.proofs.Common.{◌≡◌, ℕ, ◌+◌, true, false, if◌then◌else◌, List, [], ◌∷◌, ◌++◌, Option, Some, None, refl, ap, sym, ◌∙◌}
use Rattle.cob_tree.specs.declared.calc.Calc.{Calc}
use Rattle.cob_tree.specs.declared.calc.Target.{Target}
use Rattle.cob_tree.specs.declared.control.Control.{Control}
use Rattle.cob_tree.specs.declared.file.FileEntry.{FileEntry}
use Rattle.cob_tree.specs.declared.place.Operand.{Operand}
use Rattle.cob_tree.specs.declared.place.Place.{Place}
use Rattle.cob_tree.specs.declared.stmt.Arms.{Arms}
use Rattle.cob_tree.specs.declared.stmt.Stmt.{Stmt}
use Rattle.cob_tree.specs.declared.stmt.Stmt.TheVariants.{Move, Arith, Loop, Perform}
use Rattle.control_flow_theory.specs.language.Control.{cell_of, number_written, setting, move_to, move_of, lowered_cell, arith_act, arith_stmt, control_in, loop_of, perform_of, seen, seen_both, seen_stmts}
use Rattle.control_flow_theory.specs.language.Language as language
use Rattle.control_flow_theory.proofs.language_lemmas.Rows.{seen_move, seen_arith, seen_loop, seen_perform}
use Rattle.control_flow_theory.specs.semantics.Graph as graph
use Rattle.control_flow_theory.specs.graph_rules.Shapes.{followed, alone}
use Rattle.control_flow_theory.specs.lowering.FlowFacts.{FlowFacts}
use Rattle.control_flow_theory.specs.lowering.Completes.{completes, cut, first_is_dead, skips, whole}
use Rattle.control_flow_theory.specs.lowering.Lower as lower
use Rattle.program_facts.specs.completion.Cutting.{IsCut}
use Rattle.program_facts.specs.completion.FlowFacts.{flow_facts_of}
use Rattle.program_facts.proofs.completion_lemmas.Alike.{stmt-alike}
use Rattle.branch_tree.specs.Tree.{seen_body}
use Rattle.branch_tree.specs.declared.tree.Piece.{Piece}
use Rattle.branch_tree.specs.declared.tree.Piece.TheVariants as piece
use Rattle.branch_tree.proofs.TreeRows.{seen_own}
use Rattle.lowering_labels.specs.loop_nodes.Loops.{before}
use Rattle.lowering_labels.proofs.loop_nodes_lemmas.StartRows.{body_pushed}
use Rattle.statement_lowering.specs.declared.escape_free.StmtKind.{StmtKind}
use Rattle.statement_lowering.specs.declared.escape_free.StmtKind.TheVariants as kind
use Rattle.statement_lowering.specs.EscapeFree.{kind_by}
use Rattle.statement_lowering.proofs.Bodies.{past_cut, dead_cut}

apart : false ≡ true → ⊥
apart e = cc

-- Which kind a statement is.

module _ (files : List FileEntry) (returning : List (List ℕ)) where
  abbrev known : FlowFacts
  known = flow_facts_of files returning

  setting_stands : (value : Option ℕ) (from : Operand) (cell : ℕ) → kind.Stands ≡ kind_by known (language.Do (setting value from cell))
  setting_stands None from cell = refl
  setting_stands (Some value) from cell = refl

  one_stands : (cell : Option ℕ) (from : Operand) (to : Place) → kind.Stands ≡ kind_by known (language.Do (move_to cell from to))
  one_stands None from to = refl
  one_stands (Some cell) from to = setting_stands (number_written from) from cell

  moves_stand : (from : Operand) (to : List Place) → kind.Stands ≡ kind_by known (language.Do (move_of from to))
  moves_stand from [] = refl
  moves_stand from (to ∷ []) = one_stands (cell_of to) from to
  moves_stand from (to ∷ next ∷ others) = refl

  act_stands : (cell : Option ℕ) (calc : Calc) (into : List Target) → kind.Stands ≡ kind_by known (language.Do (arith_act cell calc into))
  act_stands None calc into = refl
  act_stands (Some cell) calc into = refl

  choice_stands : (calc : Calc) (into : List Target) (first second : Option language.Stmts) →
      kind.Stands ≡ kind_by known (arith_stmt calc into (record { first = first; second = second }))
  choice_stands calc into None None = act_stands (lowered_cell calc into) calc into
  choice_stands calc into None (Some second) = refl
  choice_stands calc into (Some first) None = refl
  choice_stands calc into (Some first) (Some second) = refl

  loops_stand : (control : Option language.Control) (body : language.Stmts) → kind.Stands ≡ kind_by known (loop_of control body)
  loops_stand None body = refl
  loops_stand (Some control) body = refl

  performs_stand : (control : Option language.Control) (entry exit : ℕ) → kind.Stands ≡ kind_by known (perform_of control entry exit)
  performs_stand None entry exit = refl
  performs_stand (Some control) entry exit = refl

  module _ (last : ℕ) where
    pub move_stands : (from : Operand) (to : List Place) → kind.Stands ≡ kind_by known (seen last (Move from to))
    move_stands from to = moves_stand from to ∙ ap (kind_by known) (sym (seen_move last from to))

    pub arith_stands : (calc : Calc) (into : List Target) (arms : Arms) → kind.Stands ≡ kind_by known (seen last (Arith calc into arms))
    arith_stands calc into arms =
        choice_stands calc into (seen_both last arms).first (seen_both last arms).second ∙ ap (kind_by known) (sym (seen_arith last calc into arms))

    pub loop_stands : (control : Control) (body : List Stmt) → kind.Stands ≡ kind_by known (seen last (Loop control body))
    loop_stands control body = loops_stand (control_in control) (seen_stmts last body) ∙ ap (kind_by known) (sym (seen_loop last control body))

    pub perform_stands : (entry exit : ℕ) (control : Control) → kind.Stands ≡ kind_by known (seen last (Perform entry exit control))
    perform_stands entry exit control = performs_stand (control_in control) entry exit ∙ ap (kind_by known) (sym (seen_perform last entry exit control))

-- What is built of it.

abbrev pub whole_by : (told : FlowFacts) (place_of : ℕ → ℕ) → StmtKind → language.Stmt → graph.Tree → graph.Tree
whole_by told place_of kind.Nothing stmt behind = behind
whole_by told place_of kind.Stops stmt behind = lower.end_alone graph.Stop
whole_by told place_of kind.Stands stmt behind = lower.push told place_of stmt behind

module _ (told : FlowFacts) (place_of : ℕ → ℕ) where
  pub built_whole : (stmt : language.Stmt) (place : ℕ) (leaving : lower.EscapeTargets) (after : graph.End) (behind : graph.Tree) → whole (cut told stmt) ≡ true →
      lower.build_stmt told place_of stmt place leaving after behind ≡ whole_by told place_of (kind_by told stmt) stmt behind
  built_whole (language.Do act) place leaving after behind h =
      elim (skips told act) as (λ b. (if b then behind else lower.push told place_of (language.Do act) behind) ≡ whole_by told place_of (if b then kind.Nothing else kind.Stands) (language.Do act) behind) [
        | true ↦ refl
        | false ↦ refl
      ]
  built_whole (language.Choose picker arms) place leaving after behind h =
      ap (λ b. if b then lower.push told place_of (language.Choose picker arms) behind
      else lower.end_alone (graph.Pick picker (lower.build_arms told place_of (first_is_dead told picker) arms (place + 1) leaving after))) h
  built_whole (language.Loop control body) place leaving after behind h =
      ap (λ b. if b then lower.push told place_of (language.Loop control body) behind else lower.loop_start control place) h
  built_whole (language.Perform entry exit) place leaving after behind h = refl
  built_whole (language.Go to) place leaving after behind h = absurd (apart h)
  built_whole (language.GoDepending to on) place leaving after behind h = absurd (apart h)
  built_whole language.NextSentence place leaving after behind h = absurd (apart h)
  built_whole language.ExitParagraph place leaving after behind h = absurd (apart h)
  built_whole (language.ExitSection last) place leaving after behind h = absurd (apart h)
  built_whole (language.ExitPerform cycle) place leaving after behind h = absurd (apart h)
  built_whole language.StopRun place leaving after behind h = refl

  -- by its kind, as it is known
  pub built_by : (stmt : language.Stmt) (place : ℕ) (leaving : lower.EscapeTargets) (after : graph.End) (behind : graph.Tree) (found is : StmtKind) →
      whole (cut told stmt) ≡ true → found ≡ kind_by told stmt → found ≡ is →
      lower.build_stmt told place_of stmt place leaving after behind ≡ whole_by told place_of is stmt behind
  built_by stmt place leaving after behind found is h k e =
      built_whole stmt place leaving after behind h ∙ ap (λ x. whole_by told place_of x stmt behind) (sym k ∙ e)

  -- where it stands in a body, and completes or doesn't

  pub stands_on : (stmt : language.Stmt) (place : ℕ) (leaving : lower.EscapeTargets) (after : graph.End) (found : StmtKind) (old new : language.Stmts) (behind : graph.Tree) →
      whole (cut told stmt) ≡ true → found ≡ kind_by told stmt → found ≡ kind.Stands → completes told stmt ≡ true →
      new ≡ followed old (alone (cut told stmt)) →
      before old (lower.build_stmt told place_of stmt place leaving after behind) ≡ before new behind
  stands_on stmt place leaving after found old new behind h k e through adds =
      ap (before old) (built_by stmt place leaving after behind found kind.Stands h k e
      ∙ ap (λ b. if b then lower.with_first (cut told stmt) behind else graph.tree (language.also (cut told stmt) language.none) graph.Dead) through)
      ∙ past_cut old new (cut told stmt) behind adds

  pub stands_dead : (stmt : language.Stmt) (place : ℕ) (leaving : lower.EscapeTargets) (after : graph.End) (found : StmtKind) (old new : language.Stmts) (behind : graph.Tree) →
      whole (cut told stmt) ≡ true → found ≡ kind_by told stmt → found ≡ kind.Stands → completes told stmt ≡ false →
      new ≡ followed old (alone (cut told stmt)) →
      before old (lower.build_stmt told place_of stmt place leaving after behind) ≡ graph.tree new graph.Dead
  stands_dead stmt place leaving after found old new behind h k e stops adds =
      ap (before old) (built_by stmt place leaving after behind found kind.Stands h k e
      ∙ ap (λ b. if b then lower.with_first (cut told stmt) behind else graph.tree (language.also (cut told stmt) language.none) graph.Dead) stops)
      ∙ dead_cut old new (cut told stmt) adds

-- a statement that was cut, behind a body
pub adds_cut : (told : FlowFacts) (stmt made : Stmt) (old new : List Piece) (last : ℕ) → IsCut told stmt made → ((at : ℕ) → whole (cut told (seen at stmt)) ≡ true) →
    new ≡ old ++ piece.Own made ∷ [] → seen_body new ≡ followed (seen_body old) (alone (cut told (seen last stmt)))
adds_cut told stmt made old new last cuts h is =
    body_pushed old new (piece.Own made) (cut told (seen last stmt)) is
    (seen_own made ∙ stmt-alike 0 last made (ap whole (cuts 0) ∙ h 0) ∙ cuts last)
