-- Continuations, row by row.
use Rattle.std.proofs.Common.{◌≡◌, ℕ, ◌+◌, ◌<◌, ◌≤◌, if◌then◌else◌, List, [], ◌∷◌, drop, get_or, length, Option, Some, None, inl, inr, refl, ap, sym, ◌∙◌, add-one}
use Rattle.std.proofs.Math.Seq.{drop-cons}
use Rattle.std.proofs.lemmas.List.{drop_all}
use Rattle.std.proofs.lemmas.Bool.{cases_Bool}
use Rattle.cob_tree.specs.declared.calc.Calc.{Calc}
use Rattle.cob_tree.specs.declared.calc.Target.{Target}
use Rattle.cob_tree.specs.declared.control.Control.{Control}
use Rattle.cob_tree.specs.declared.file.FileEntry.{FileEntry}
use Rattle.cob_tree.specs.declared.place.Operand.{Operand}
use Rattle.cob_tree.specs.declared.place.Place.{Place}
use Rattle.cob_tree.specs.declared.stmt.Arms.{Arms}
use Rattle.cob_tree.specs.declared.stmt.Stmt.{Stmt}
use Rattle.cob_tree.specs.declared.stmt.Stmt.TheVariants.{Move, Arith, Loop, Perform}
use Rattle.control_flow_theory.specs.language.Language as language
use Rattle.control_flow_theory.specs.language.Control.{cell_of, number_written, setting, move_to, move_of, lowered_cell, arith_act, arith_stmt, control_in, loop_of, perform_of, seen, seen_both, seen_stmts}
use Rattle.control_flow_theory.proofs.language_lemmas.Rows.{seen_move, seen_arith, seen_loop, seen_perform}
use Rattle.control_flow_theory.specs.semantics.Graph as graph
use Rattle.control_flow_theory.specs.lowering.FlowFacts.{FlowFacts}
use Rattle.control_flow_theory.specs.lowering.Completes.{skips, size}
use Rattle.control_flow_theory.specs.lowering.Lower as lower
use Rattle.program_facts.specs.completion.FlowFacts.{flow_facts_of}
use Rattle.lowering_labels.specs.declared.points.jump_target.Going.{Going}
use Rattle.lowering_labels.specs.declared.points.jump_target.Going.TheVariants as going
use Rattle.lowering_labels.specs.points.JumpTarget.{going_by}

module _ (files : List FileEntry) (returning : List (List ℕ)) where
  abbrev known : FlowFacts
  known = flow_facts_of files returning

  setting_here : (value : Option ℕ) (from : Operand) (cell : ℕ) → going.Here ≡ going_by known (language.Do (setting value from cell))
  setting_here None from cell = refl
  setting_here (Some value) from cell = refl

  one_here : (cell : Option ℕ) (from : Operand) (to : Place) → going.Here ≡ going_by known (language.Do (move_to cell from to))
  one_here None from to = refl
  one_here (Some cell) from to = setting_here (number_written from) from cell

  moves_here : (from : Operand) (to : List Place) → going.Here ≡ going_by known (language.Do (move_of from to))
  moves_here from [] = refl
  moves_here from (to ∷ []) = one_here (cell_of to) from to
  moves_here from (to ∷ next ∷ others) = refl

  act_here : (cell : Option ℕ) (calc : Calc) (into : List Target) → going.Here ≡ going_by known (language.Do (arith_act cell calc into))
  act_here None calc into = refl
  act_here (Some cell) calc into = refl

  choice_here : (calc : Calc) (into : List Target) (first second : Option language.Stmts) →
      going.Here ≡ going_by known (arith_stmt calc into (record { first = first; second = second }))
  choice_here calc into None None = act_here (lowered_cell calc into) calc into
  choice_here calc into None (Some second) = refl
  choice_here calc into (Some first) None = refl
  choice_here calc into (Some first) (Some second) = refl

  loops_here : (control : Option language.Control) (body : language.Stmts) → going.Here ≡ going_by known (loop_of control body)
  loops_here None body = refl
  loops_here (Some control) body = refl

  performs_here : (control : Option language.Control) (entry exit : ℕ) → going.Here ≡ going_by known (perform_of control entry exit)
  performs_here None entry exit = refl
  performs_here (Some control) entry exit = refl

  module _ (last : ℕ) where
    pub move_here : (from : Operand) (to : List Place) → going.Here ≡ going_by known (seen last (Move from to))
    move_here from to = moves_here from to ∙ ap (going_by known) (sym (seen_move last from to))

    pub arith_here : (calc : Calc) (into : List Target) (arms : Arms) → going.Here ≡ going_by known (seen last (Arith calc into arms))
    arith_here calc into arms =
        choice_here calc into (seen_both last arms).first (seen_both last arms).second ∙ ap (going_by known) (sym (seen_arith last calc into arms))

    pub loop_here : (control : Control) (body : List Stmt) → going.Here ≡ going_by known (seen last (Loop control body))
    loop_here control body = loops_here (control_in control) (seen_stmts last body) ∙ ap (going_by known) (sym (seen_loop last control body))

    pub perform_here : (entry exit : ℕ) (control : Control) → going.Here ≡ going_by known (seen last (Perform entry exit control))
    perform_here entry exit control = performs_here (control_in control) entry exit ∙ ap (going_by known) (sym (seen_perform last entry exit control))

-- what a continuation is by the way of its head
abbrev pub by_way : (ℕ → ℕ) → Going → ℕ → graph.End → graph.End
by_way place_of going.Past place after = after
by_way place_of (going.To to) place after = graph.Jump (lower.point (place_of to))
by_way place_of going.Stops place after = graph.Stop
by_way place_of going.Here place after = graph.Jump (lower.point place)

leaf_by_way : (told : FlowFacts) (place_of : ℕ → ℕ) (stmt : language.Stmt) (place : ℕ) (after : graph.End) →
    lower.leaf_stmt told place_of stmt place after ≡ by_way place_of (going_by told stmt) place after
leaf_by_way told place_of (language.Do act) place after = elim (cases_Bool (skips told act)) [
  | inl does ↦
      ap (λ b. if b then after else graph.Jump (lower.point place)) does
      ∙ sym (ap (λ b. by_way place_of (if b then going.Past else going.Here) place after) does)
  | inr not ↦
      ap (λ b. if b then after else graph.Jump (lower.point place)) not
      ∙ sym (ap (λ b. by_way place_of (if b then going.Past else going.Here) place after) not)
]
leaf_by_way told place_of (language.Choose picker arms) place after = refl
leaf_by_way told place_of (language.Loop control body) place after = refl
leaf_by_way told place_of (language.Perform entry exit) place after = refl
leaf_by_way told place_of (language.Go to) place after = refl
leaf_by_way told place_of (language.GoDepending to on) place after = refl
leaf_by_way told place_of language.NextSentence place after = refl
leaf_by_way told place_of language.ExitParagraph place after = refl
leaf_by_way told place_of (language.ExitSection last) place after = refl
leaf_by_way told place_of (language.ExitPerform cycle) place after = refl
leaf_by_way told place_of language.StopRun place after = refl

-- what does nothing takes one place
past_is_one : (told : FlowFacts) (stmt : language.Stmt) → going.Past ≡ going_by told stmt → size stmt ≡ 1
past_is_one told (language.Do act) h = refl
past_is_one told (language.Choose picker arms) h = cc
past_is_one told (language.Loop control body) h = cc
past_is_one told (language.Perform entry exit) h = refl
past_is_one told (language.Go to) h = refl
past_is_one told (language.GoDepending to on) h = refl
past_is_one told language.NextSentence h = refl
past_is_one told language.ExitParagraph h = refl
past_is_one told (language.ExitSection last) h = refl
past_is_one told (language.ExitPerform cycle) h = refl
past_is_one told language.StopRun h = refl

module _ (told : FlowFacts) (place_of : ℕ → ℕ) (last : ℕ) where
  -- the continuation by its first statement
  pub leaf_step : (stmts : List Stmt) (i : ℕ) (stmt : Stmt) (place : ℕ) (after : graph.End) (way : Going) → i < length stmts →
      stmt ≡ get_or stmts i stmt → way ≡ going_by told (seen last stmt) →
      lower.leaf told place_of (seen_stmts last (drop i stmts)) place after
      ≡ by_way place_of way place (lower.leaf told place_of (seen_stmts last (drop (i + 1) stmts)) (place + size (seen last stmt)) after)
  leaf_step stmts i stmt place after way lt is w =
      let e : drop i stmts ≡ stmt ∷ drop (i + 1) stmts = rw (add-one i) (drop-cons stmts i stmt lt) ∙ ap (λ s. s ∷ drop (i + 1) stmts) (sym is) in
      let later = lower.leaf told place_of (seen_stmts last (drop (i + 1) stmts)) (place + size (seen last stmt)) after in
      ap (λ ss. lower.leaf told place_of (seen_stmts last ss) place after) e
      ∙ leaf_by_way told place_of (seen last stmt) place later
      ∙ ap (λ g. by_way place_of g place later) (sym w)

  pub leaf_past : (stmts : List Stmt) (i : ℕ) (stmt : Stmt) (place : ℕ) (after : graph.End) (way : Going) → i < length stmts →
      stmt ≡ get_or stmts i stmt → way ≡ going_by told (seen last stmt) → way ≡ going.Past →
      lower.leaf told place_of (seen_stmts last (drop (i + 1) stmts)) (place + 1) after ≡ lower.leaf told place_of (seen_stmts last (drop i stmts)) place after
  leaf_past stmts i stmt place after way lt is w past =
      let one = past_is_one told (seen last stmt) (sym past ∙ w) in
      sym (leaf_step stmts i stmt place after way lt is w
      ∙ ap (λ g. by_way place_of g place (lower.leaf told place_of (seen_stmts last (drop (i + 1) stmts)) (place + size (seen last stmt)) after)) past
      ∙ ap (λ n. lower.leaf told place_of (seen_stmts last (drop (i + 1) stmts)) (place + n) after) one)

  -- and by which way that is
  pub leaf_by : (stmts : List Stmt) (i : ℕ) (stmt : Stmt) (place : ℕ) (after : graph.End) (way other : Going) → i < length stmts →
      stmt ≡ get_or stmts i stmt → way ≡ going_by told (seen last stmt) → way ≡ other →
      by_way place_of other place (lower.leaf told place_of (seen_stmts last (drop (i + 1) stmts)) (place + size (seen last stmt)) after)
      ≡ lower.leaf told place_of (seen_stmts last (drop i stmts)) place after
  leaf_by stmts i stmt place after way other lt is w h =
      sym (leaf_step stmts i stmt place after way lt is w
      ∙ ap (λ g. by_way place_of g place (lower.leaf told place_of (seen_stmts last (drop (i + 1) stmts)) (place + size (seen last stmt)) after)) h)

  -- behind the last statement it is what it was told
  pub leaf_over : (stmts : List Stmt) (i place : ℕ) (after : graph.End) → length stmts ≤ i →
      after ≡ lower.leaf told place_of (seen_stmts last (drop i stmts)) place after
  leaf_over stmts i place after le =
      sym (ap (λ ss. lower.leaf told place_of (seen_stmts last ss) place after) (drop_all i stmts le))
