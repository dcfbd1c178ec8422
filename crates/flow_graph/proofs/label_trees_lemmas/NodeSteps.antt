-- The trees of rests in a range.
use Rattle.std.proofs.Common.{◌≡◌, ℕ, zero, suc, ◌+◌, ◌≤◌, ◌<◌, Bool, true, false, List, [], ◌∷◌, drop, get_or, length, sum_by, Option, Some, None, if◌then◌else◌, slice_get, refl, ap, ap₂, sym, ◌∙◌, subst, arith}
use Rattle.std.proofs.lemmas.Bool.{and_parts}
use Rattle.std.proofs.lemmas.List.Sums.{sum_by-cons}
use Rattle.std.proofs.lemmas.Option.{slice_get-get_or}
use Rattle.cob_tree.specs.Places.{stmt_places}
use Rattle.cob_tree.specs.declared.calc.Calc.{Calc}
use Rattle.cob_tree.specs.declared.calc.Target.{Target}
use Rattle.cob_tree.specs.declared.control.Control.{Control}
use Rattle.cob_tree.specs.declared.program.Program.{Program}
use Rattle.cob_tree.specs.declared.program.Range as code
use Rattle.cob_tree.specs.declared.stmt.Stmt.{Stmt}
use Rattle.cob_tree.specs.declared.stmt.Stmt.TheVariants.{Loop}
use Rattle.control_flow_theory.specs.language.Control.{arith_stmt, control_in, control_of, loop_of, perform_of, seen, seen_stmts}
use Rattle.control_flow_theory.specs.language.Language as language
use Rattle.control_flow_theory.specs.language.OwnItems.{stmt_own, stmts_own}
use Rattle.control_flow_theory.proofs.language_lemmas.Rows.{seen_loop}
use Rattle.control_flow_theory.specs.semantics.Graph as graph
use Rattle.control_flow_theory.specs.lowering.FlowFacts.{FlowFacts}
use Rattle.control_flow_theory.specs.lowering.Completes.{size}
use Rattle.control_flow_theory.specs.lowering.Lower as lower
use Rattle.control_flow_theory.specs.lowering.Lowered.{place_in}
use Rattle.branch_tree.specs.Tree.{seen_body, seen_end}
use Rattle.branch_tree.specs.declared.tree.End.{End}
use Rattle.branch_tree.specs.declared.tree.Piece.{Piece}
use Rattle.lowering_labels.specs.points.FallThrough.{range_by, seen_range}
use Rattle.lowering_labels.specs.points.JumpTarget.{seen_target}
use Rattle.lowering_labels.specs.declared.points.layout.PlaceTable.{PlaceTable}
use Rattle.lowering_labels.specs.declared.points.jump_target.JumpTarget.{JumpTarget}
use Rattle.statement_lowering.specs.LowerList.{Along, Runs, Setting, flow_facts_by}
use Rattle.statement_lowering.specs.LoopParts.{loop_at}
use Rattle.statement_lowering.specs.declared.context.EscapeTargets.{EscapeTargets}
use Rattle.statement_lowering.specs.declared.context.LoweringContext.{LoweringContext}
use Rattle.lowering_labels.specs.loop_nodes.Loops.{before}
use Rattle.lowering_labels.proofs.loop_nodes_lemmas.StartRows.{followed_none}
use Rattle.statement_lowering.specs.continuations.Successors.{Lowering, behind_by, ended, leaving_by}
use Rattle.statement_lowering.specs.continuations.Paragraphs.{graph_of}
use Rattle.statement_lowering.specs.continuations.Statements.{AllFit, AreRests, Fits, IsRest, turn_by}
use Rattle.statement_lowering.specs.declared.continuations.continuation.Successors.{Successors}
use Rattle.statement_lowering.specs.declared.continuations.continuation.Continuation.{Continuation}
use Rattle.flow_graph.specs.label_trees.Node.{GoAlike, GoAlikeFrom, GoesOnIn, is_no_loop, IsPlaced, LeavesIn, returns_at}

-- by its place

pub fit_at : (end place : ℕ) (spots : List Continuation) (i : ℕ) (spot : Continuation) → i < length spots → spot ≡ get_or spots i spot → AllFit end place spots → Fits end (place + i) spot
fit_at end place [] i spot lt is h = absurd (omega (arith, lt))
fit_at end place (first ∷ spots) zero spot lt is h = subst (λ n. Fits end n spot) (omega arith) (subst (Fits end place) (sym is) h.0)
fit_at end place (first ∷ spots) (suc i) spot lt is h = subst (λ n. Fits end n spot) (omega arith) (fit_at end (place + 1) spots i spot (omega (arith, lt)) is h.1)

pub rest_at_index : (layout : PlaceTable) (g : Lowering layout) (place : ℕ) (spots : List Continuation) (i : ℕ) (spot : Continuation) → i < length spots → spot ≡ get_or spots i spot → AreRests layout g place spots →
    IsRest layout g (place + i) spot
rest_at_index layout g place [] i spot lt is h = absurd (omega (arith, lt))
rest_at_index layout g place (first ∷ spots) zero spot lt is h = subst (λ n. IsRest layout g n spot) (omega arith) (subst (IsRest layout g place) (sym is) h.0)
rest_at_index layout g place (first ∷ spots) (suc i) spot lt is h = subst (λ n. IsRest layout g n spot) (omega arith) (rest_at_index layout g (place + 1) spots i spot (omega (arith, lt)) is h.1)

pub here_is : (spots : List Continuation) (i : ℕ) (spot : Continuation) → i < length spots → spot ≡ get_or spots i spot → slice_get spots i ≡ Some spot
here_is spots i spot lt is = slice_get-get_or spots i spot lt ∙ ap (λ (s : Continuation). Some s) (sym is)

-- in ranges that go on alike

leaf_at_end : (place_of : ℕ → ℕ) (program : language.Program) (entry : ℕ) (exit : Option ℕ) (number : ℕ) →
    lower.paragraph_end_target place_of program (range_by entry exit) number
    ≡ (if returns_at exit number then graph.Return else lower.fall_leaf place_of number (slice_get program.paragraphs (suc number)))
leaf_at_end place_of program entry None number = refl
leaf_at_end place_of program entry (Some exit) number = refl

ends_alike : (place_of : ℕ → ℕ) (program : language.Program) (range other : code.Range) (number : ℕ) → returns_at range.exit number ≡ returns_at other.exit number →
    lower.paragraph_end_target place_of program (seen_range range) number ≡ lower.paragraph_end_target place_of program (seen_range other) number
ends_alike place_of program range other number same =
    leaf_at_end place_of program range.entry range.exit number
    ∙ ap (λ t. if t then graph.Return else lower.fall_leaf place_of number (slice_get program.paragraphs (suc number))) same
    ∙ sym (leaf_at_end place_of program other.entry other.exit number)

pub leaves_alike : (telling : LoweringContext) (range other : code.Range) (onward : Successors) (found : EscapeTargets) → GoAlike range other onward → LeavesIn telling range onward found → LeavesIn telling other onward found
leaves_alike telling range other onward found alike h = λ program placed.
    let was = h program placed in
    let control = control_of program in
    let paragraph = ends_alike (place_in control) control range other onward.paragraph alike.paragraph in
    let last = ends_alike (place_in control) control range other onward.last alike.last in
    record {
      sentence = ap (λ end. ended end onward.sentence) (sym paragraph) ∙ was.sentence;
      paragraph = sym paragraph ∙ was.paragraph;
      section = sym last ∙ was.section;
      loop = ap (λ end. ended end onward.behind_loop) (sym paragraph) ∙ was.loop;
      cycle = ap (λ end. ended end onward.cycle) (sym paragraph) ∙ was.cycle;
    }

pub goes_alike : (telling : LoweringContext) (range other : code.Range) (onward : Successors) (found : JumpTarget) → GoAlike range other onward → GoesOnIn telling range onward found → GoesOnIn telling other onward found
goes_alike telling range other onward found alike h = λ program placed.
    let control = control_of program in
    h program placed ∙ ap (λ end. ended end onward.after) (ends_alike (place_in control) control range other onward.paragraph alike.paragraph)

pub goes_same : (spots : List Continuation) (range : code.Range) (place : ℕ) → GoAlikeFrom spots range range place
goes_same spots range place = record {
  along = λ at. true;
  here = refl;
  behind = λ at next spot on is goes. refl;
  alike = λ at spot on is. record { paragraph = refl; last = refl };
}

module _ (telling : LoweringContext) (range : code.Range) (program : Program) (placed : IsPlaced telling program) where
  abbrev layout : PlaceTable
  layout = telling.layout.now

  abbrev pub graph_in : Lowering layout
  graph_in = graph_of telling program (seen_range range) placed

  -- where a rest stands
  abbrev pub setting : (onward : Successors) (leaving : EscapeTargets) → LeavesIn telling range onward leaving → Setting telling leaving
  setting onward leaving h = record {
    place_of = place_in (control_of program);
    last = onward.last;
    theirs = leaving_by layout graph_in onward;
    at = placed.places_in;
    leaves = h program placed;
  }

  -- along the rest at a place
  module _ (here : ℕ) (spot : Continuation) (leaving : EscapeTargets) (after : JumpTarget) (rest : IsRest layout graph_in here spot) (leaves : LeavesIn telling range spot.onward leaving) (goes : GoesOnIn telling range spot.onward after) (old : language.Stmts) where
    rest_built : graph_in.node (lower.point here)
        ≡ lower.build (flow_facts_by telling) (place_in (control_of program)) (seen_stmts spot.onward.last spot.stmts.now) here (leaving_by layout graph_in spot.onward) (seen_target after) (behind_by layout graph_in spot.onward)
    rest_built =
        rest.point
        ∙ ap (λ a. lower.build (flow_facts_by telling) (place_in (control_of program)) (seen_stmts spot.onward.last spot.stmts.now) here (leaving_by layout graph_in spot.onward) a (behind_by layout graph_in spot.onward)) (sym (goes program placed))

    module _ (bodies news : List Piece) (found : Option End) (is : old ≡ seen_body bodies) (runs : Runs telling leaving spot.stmts.now here after found bodies news) where
      pub run_ends : (end : End) → found ≡ Some end → before old (graph_in.node (lower.point here)) ≡ graph.tree (seen_body news) (seen_end end)
      run_ends end at =
          ap₂ before is rest_built
          ∙ subst (λ f. Along f (seen_body bodies) (seen_body news) (λ behind. lower.build (flow_facts_by telling) (place_in (control_of program)) (seen_stmts spot.onward.last spot.stmts.now) here (leaving_by layout graph_in spot.onward) (seen_target after) behind)) at
          (runs (setting spot.onward leaving leaves)) (behind_by layout graph_in spot.onward)

      pub run_goes : found ≡ None → before old (graph_in.node (lower.point here)) ≡ before (seen_body news) (behind_by layout graph_in spot.onward)
      run_goes at =
          ap₂ before is rest_built
          ∙ subst (λ f. Along f (seen_body bodies) (seen_body news) (λ behind. lower.build (flow_facts_by telling) (place_in (control_of program)) (seen_stmts spot.onward.last spot.stmts.now) here (leaving_by layout graph_in spot.onward) (seen_target after) behind)) at
          (runs (setting spot.onward leaving leaves)) (behind_by layout graph_in spot.onward)

-- before an end alone
pub before_only : (body : language.Stmts) (end : graph.End) → before body (lower.end_alone end) ≡ graph.tree body end
before_only body end = ap (λ b. graph.tree b end) (sym (followed_none body))

-- the labels of a loop that a rest begins with

loop_seen : (told : FlowFacts) (place_of : ℕ → ℕ) (is_head : Bool) (c : Option language.Control) (body others : language.Stmts) (place : ℕ) (leaving : lower.EscapeTargets) (after : graph.End) →
    turn_by told place_of is_head (language.also (loop_of c body) others) place leaving after
    ≡ loop_at told place_of is_head c body place leaving (lower.leaf told place_of others (place + size (loop_of c body)) after)
loop_seen told place_of true None body others place leaving after = refl
loop_seen told place_of false None body others place leaving after = refl
loop_seen told place_of is_head (Some control) body others place leaving after = refl

pub turn_of_loop : (told : FlowFacts) (place_of : ℕ → ℕ) (is_head : Bool) (last : ℕ) (control : Control) (body : List Stmt) (others : language.Stmts) (place : ℕ) (leaving : lower.EscapeTargets) (after : graph.End) →
    turn_by told place_of is_head (language.also (seen last (Loop control body)) others) place leaving after
    ≡ loop_at told place_of is_head (control_in control) (seen_stmts last body) place leaving (lower.leaf told place_of others (place + size (seen last (Loop control body))) after)
turn_of_loop told place_of is_head last control body others place leaving after =
    ap (λ x. turn_by told place_of is_head (language.also x others) place leaving after) (seen_loop last control body)
    ∙ loop_seen told place_of is_head (control_in control) (seen_stmts last body) others place leaving after
    ∙ ap (λ x. loop_at told place_of is_head (control_in control) (seen_stmts last body) place leaving (lower.leaf told place_of others (place + size x) after)) (sym (seen_loop last control body))

-- what else a rest begins with has none
pub no_turn : (told : FlowFacts) (place_of : ℕ → ℕ) (is_head : Bool) (x : language.Stmt) (others : language.Stmts) (place : ℕ) (leaving : lower.EscapeTargets) (after : graph.End) → is_no_loop x ≡ true →
    turn_by told place_of is_head (language.also x others) place leaving after ≡ lower.end_alone graph.Dead
no_turn told place_of is_head (language.Do act) others place leaving after h = refl
no_turn told place_of is_head (language.Choose picker arms) others place leaving after h = refl
no_turn told place_of is_head (language.Loop control (language.Nested body)) others place leaving after h = absurd cc
no_turn told place_of is_head (language.Loop control (language.Performed entry exit)) others place leaving after h = refl
no_turn told place_of is_head (language.Perform entry exit) others place leaving after h = refl
no_turn told place_of is_head (language.Go to) others place leaving after h = refl
no_turn told place_of is_head (language.GoDepending to on) others place leaving after h = refl
no_turn told place_of is_head language.NextSentence others place leaving after h = refl
no_turn told place_of is_head language.ExitParagraph others place leaving after h = refl
no_turn told place_of is_head (language.ExitSection last) others place leaving after h = refl
no_turn told place_of is_head (language.ExitPerform cycle) others place leaving after h = refl
no_turn told place_of is_head language.StopRun others place leaving after h = refl

pub arith_no_loop : (calc : Calc) (into : List Target) (first second : Option language.Stmts) → is_no_loop (arith_stmt calc into (record { first = first; second = second })) ≡ true
arith_no_loop calc into None None = refl
arith_no_loop calc into None (Some second) = refl
arith_no_loop calc into (Some first) None = refl
arith_no_loop calc into (Some first) (Some second) = refl

pub perform_no_loop : (control : Option language.Control) (entry exit : ℕ) → is_no_loop (perform_of control entry exit) ≡ true
perform_no_loop None entry exit = refl
perform_no_loop (Some control) entry exit = refl

-- the first of statements
pub first_left : (stmts : List Stmt) (stmt : Stmt) → 0 < length stmts → stmt ≡ get_or stmts 0 stmt → stmts ≡ stmt ∷ drop 1 stmts
first_left [] stmt lt is = absurd (omega (arith, lt))
first_left (first ∷ others) stmt lt is = ap (λ s. s ∷ others) (sym is)

pub first_fits : (end place : ℕ) (spot : Continuation) (stmt : Stmt) → 0 < length spot.stmts.now → stmt ≡ get_or spot.stmts.now 0 stmt → Fits end place spot →
    (stmt_own stmt ≡ true) × (place + stmt_places stmt + sum_by stmt_places (drop 1 spot.stmts.now) ≤ end)
first_fits end place spot stmt lt is fits =
    let cons = first_left spot.stmts.now stmt lt is in (
      (and_parts (stmt_own stmt) (stmts_own (drop 1 spot.stmts.now)) (sym (ap stmts_own cons) ∙ fits.own)).0,
      omega (arith, ap (sum_by stmt_places) cons, sum_by-cons stmt_places stmt (drop 1 spot.stmts.now), fits.within),
    )
