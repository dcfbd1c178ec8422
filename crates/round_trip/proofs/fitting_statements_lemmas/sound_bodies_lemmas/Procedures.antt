-- The procedures of a sound source are sound.
use Rattle.std.proofs.Common.{◌≡◌, ◌+◌, ℕ, zero, suc, Bool, false, List, [], ◌∷◌, Some, refl, ap, sym, ◌∙◌, subst}
use Rattle.std.specs.Prelude.{slice_get}
use Rattle.control_flow_theory.specs.language.Language.{Simple, Act, Own, Set, Take, Lower, Picker, If, By, ByCell, Control, Times, Until, Varying, Stmt, Choose, Loop, Arms, done, given, missing, Program, Range, Main}
use Rattle.control_flow_theory.specs.semantics.Graph.{End, tree, Trees, no_more, more}
use Rattle.control_flow_theory.specs.lowering.Completes.{cut, cut_arms, sizes}
use Rattle.control_flow_theory.specs.lowering.FlowFacts.{FlowFacts}
use Rattle.control_flow_theory.specs.lowering.Lower.{EscapeTargets, build_arms}
use Rattle.control_flow_theory.specs.lowering.Renamed.{act_anew, picker_anew, control_anew, stmt_anew, arms_anew, trees_anew}
use Rattle.control_flow_theory.specs.lowering.WellFormed.{tree_count}
use Rattle.control_flow_theory.specs.rendering.Rendering.{Procedure, count_arms}
use Rattle.control_flow_theory.specs.graph_rules.Reduced.{Graphs, tree_in}
use Rattle.control_flow_theory.specs.structuring.Closes.{closed_graph}
use Rattle.control_flow_theory.specs.main_theorem.Chain.{procedure_of, procedures_of}
use Rattle.control_flow_theory.specs.main_theorem.MainTheorem.{Plan, graphs_by}
use Rattle.control_flow_theory.specs.main_theorem.Numbering.{numbers_by}
use Rattle.control_flow_theory.proofs.structuring_lemmas.closing.EachKept.{at-each, body-each}
use Rattle.control_flow_theory.proofs.main_theorem_lemmas.graphs.EachLowered.{BearsLowering, lowered-each}
use Rattle.round_trip.specs.fitting_statements.sound_bodies.Sound.{two_arms, ActBegins, PickerIsSound, ControlIsSound, IsSound, StmtsAreSound, ParagraphsAreSound}
use Rattle.round_trip.specs.fitting_statements.sound_bodies.Trees.{PickIsSound, NodesAreSound}
use Rattle.round_trip.specs.fitting_statements.sound_bodies.Laws.{ProceduresAreSound}
use Rattle.round_trip.proofs.fitting_statements_lemmas.sound_bodies_lemmas.Rules.{bears-rules, closed-sound}

-- ---- as many arms

cut-count : (told : FlowFacts) (arms : Arms) → count_arms (cut_arms told arms) ≡ count_arms arms
cut-count told done = refl
cut-count told (given arm others) = ap suc (cut-count told others)
cut-count told (missing others) = ap suc (cut-count told others)

built-count : (told : FlowFacts) (places : ℕ → ℕ) (first : Bool) (arms : Arms) (n : ℕ) (leaving : EscapeTargets) (after : End) → tree_count (build_arms told places first arms n leaving after) ≡ count_arms arms
built-count told places first done n leaving after = refl
built-count told places first (given arm others) n leaving after = ap suc (built-count told places false others (n + sizes arm) leaving after)
built-count told places first (missing others) n leaving after = ap suc (built-count told places false others n leaving after)

anew-count : (number : ℕ → ℕ) (arms : Arms) → count_arms (arms_anew number arms) ≡ count_arms arms
anew-count number done = refl
anew-count number (given arm others) = ap suc (anew-count number others)
anew-count number (missing others) = ap suc (anew-count number others)

trees-count : (number : ℕ → ℕ) (ts : Trees) → tree_count (trees_anew number ts) ≡ tree_count ts
trees-count number no_more = refl
trees-count number (more (tree body end) others) = ap suc (trees-count number others)

module _ (begins : Simple → Bool) where
  -- ---- lowering

  cut-sound : (told : FlowFacts) (stmt : Stmt) → IsSound begins two_arms stmt → IsSound begins two_arms (cut told stmt)
  cut-sound told (Choose picker arms) s = subst (PickerIsSound begins two_arms picker) (sym (cut-count told arms)) s
  cut-sound told (Loop control body) s = s
  cut-sound told stmt s = tt

  bears-lowering : (told : FlowFacts) → BearsLowering told (IsSound begins two_arms) (IsSound begins two_arms) (PickIsSound begins two_arms)
  bears-lowering told = record {
    cuts = cut-sound told;
    picks = λ places picker arms place leaving after s. subst (PickerIsSound begins two_arms picker) (sym (built-count told places _ arms place leaving after)) s;
    depends = λ places to on after s. tt;
    counts = λ amount body place one other s. (tt, tt, tt);
    tests = λ after test body one other s. tt;
    varies = λ after set step test body one other s. (tt, tt, tt);
  }

  -- ---- cells that are numbered anew

  module _ (number : ℕ → ℕ) where
    act-anew : (act : Act) → ActBegins begins two_arms act → ActBegins begins two_arms (act_anew number act)
    act-anew (Own simple) s = s
    act-anew (Set cell value) s = s
    act-anew (Take cell amount) s = s
    act-anew (Lower cell) s = s

    control-anew : (control : Control) → ControlIsSound begins two_arms control → ControlIsSound begins two_arms (control_anew number control)
    control-anew (Times amount) s = tt
    control-anew (Until after test) s = tt
    control-anew (Varying after set step test) s = act-anew set s

    picker-anew : (picker : Picker) (arms others : ℕ) → others ≡ arms → PickerIsSound begins two_arms picker arms → PickerIsSound begins two_arms (picker_anew number picker) others
    picker-anew (If test) arms others same s = tt
    picker-anew (By chooser) arms others same s = tt
    picker-anew (ByCell cell) arms others same s = ap (two_arms (number cell)) same ∙ s

    stmt-anew : (stmt : Stmt) → IsSound begins two_arms stmt → IsSound begins two_arms (stmt_anew number stmt)
    stmt-anew (Choose picker arms) s = picker-anew picker (count_arms arms) (count_arms (arms_anew number arms)) (anew-count number arms) s
    stmt-anew (Loop control body) s = control-anew control s
    stmt-anew stmt s = tt

    pick-anew : (picker : Picker) (ts : Trees) → PickIsSound begins two_arms picker ts → PickIsSound begins two_arms (picker_anew number picker) (trees_anew number ts)
    pick-anew picker ts s = picker-anew picker (tree_count ts) (tree_count (trees_anew number ts)) (trees-count number ts) s

  graph-sound : (plan : Plan) (program : Program) → ParagraphsAreSound begins two_arms program.paragraphs → (range : Range) →
      NodesAreSound begins two_arms (graphs_by plan program range).nodes
  graph-sound plan program sound range =
      let number = numbers_by plan.keep program range in
      lowered-each plan.told (IsSound begins two_arms) (IsSound begins two_arms) (PickIsSound begins two_arms) (bears-lowering plan.told) program number (IsSound begins two_arms) (PickIsSound begins two_arms)
      (stmt-anew number) (pick-anew number) sound range (plan.keep range)

  -- ---- procedures

  each-sound : (order : List Range) (graphs : Graphs) → ((range : Range) → NodesAreSound begins two_arms (graphs range).nodes) →
      (number : ℕ) (procedure : Procedure) → slice_get (procedures_of order graphs) number ≡ Some procedure →
      StmtsAreSound begins two_arms procedure.body
  each-sound [] graphs sound number procedure is = absurd cc
  each-sound (range ∷ order) graphs sound zero procedure is =
      let closed = closed_graph (graphs range) in
      let At = IsSound begins two_arms in
      let AtPick = PickIsSound begins two_arms in
      let bears = bears-rules begins two_arms in
      let body = body-each At AtPick bears (tree_in closed.nodes closed.entry) (at-each At AtPick bears closed.nodes closed.entry (closed-sound begins (graphs range) (sound range))) in
      let same : procedure_of range closed ≡ procedure = cc in
      subst (λ (one : Procedure). StmtsAreSound begins two_arms one.body) same body
  each-sound (range ∷ order) graphs sound (suc number) procedure is = each-sound order graphs sound number procedure is

pub procedures-sound : ProceduresAreSound
procedures-sound = λ begins plan program sound number procedure is.
    each-sound begins (Main ∷ plan.others) (graphs_by plan program) (graph-sound begins plan program sound) number procedure is
