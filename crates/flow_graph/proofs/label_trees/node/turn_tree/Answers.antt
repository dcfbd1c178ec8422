use Rattle.std.proofs.Common.{◌≡◌, ◌+◌, ◌<◌, ◌∷◌, drop, length, sum_by, ap, sym, ◌∙◌, arith}
use Rattle.cob_tree.specs.Places.{stmt_places}
use Rattle.cob_tree.specs.declared.stmt.Stmt.TheVariants.{Loop}
use Rattle.control_flow_theory.specs.language.Control.{control_in, control_of, seen, seen_stmts}
use Rattle.control_flow_theory.specs.language.OwnItems.{stmt_own}
use Rattle.control_flow_theory.specs.lowering.Completes.{size}
use Rattle.control_flow_theory.specs.lowering.Lower as lower
use Rattle.control_flow_theory.specs.lowering.Lowered.{place_in}
use Rattle.branch_tree.proofs.TreeRows.{seen_dead}
use Rattle.lowering_labels.proofs.points_lemmas.SizeLemmas.{size-seen}
use Rattle.lowering_labels.specs.points.JumpTarget.{seen_target}
use Rattle.statement_lowering.specs.LowerList.{flow_facts_by}
use Rattle.statement_lowering.specs.LoopParts.{loop_at}
use Rattle.statement_lowering.proofs.PartRows.{loop_own, loop_places}
use Rattle.statement_lowering.specs.continuations.Successors.{after_by, leaving_by}
use Rattle.statement_lowering.specs.continuations.Statements.{turn_by}
use Rattle.flow_graph.proofs.label_trees_lemmas.NodeSteps.{first_fits, first_left, goes_alike, graph_in, leaves_alike, no_turn, setting, turn_of_loop}
use Rattle.flow_graph.proofs.label_trees.node.turn_tree.Goals as goal

pub returns-in-None : goal.returns-in-None
returns-in-None c =
    let telling = c.args.telling.now in
    let spot = c.args.spot.now in
    let stmts = spot.stmts.now in
    let stmt = c.stmt-item.result in
    let lt : 0 < length stmts = omega (arith, c.in-len1-up.len_at_least) in
    let cons = first_left stmts stmt lt c.stmt-item.is in
    let first = first_fits telling.layout.now.end c.args.place spot stmt lt c.stmt-item.is c.requires.fits in
    λ other alike program placed.
    let g = graph_in telling other program placed in
    let leaving = leaving_by telling.layout.now g spot.onward in
    let after = after_by telling.layout.now g spot.onward in
    let told = flow_facts_by telling in
    let place_of = place_in (control_of program) in
    let last = spot.onward.last in
    c.end_alone-in-None.ensures ∙ ap lower.end_alone seen_dead
    ∙ sym (ap (λ l. turn_by told place_of c.args.is_head (seen_stmts last l) c.args.place leaving after) cons
    ∙ no_turn told place_of c.args.is_head (seen last stmt) (seen_stmts last (drop 1 stmts)) c.args.place leaving after (c.in-None.ensures last))

pub overflow_cast-next : goal.overflow_cast-next
overflow_cast-next c =
    let telling = c.args.telling.now in
    let spot = c.args.spot.now in
    let stmts = spot.stmts.now in
    let stmt = c.stmt-item.result in
    let lt : 0 < length stmts = omega (arith, c.in-len1-up.len_at_least) in
    let cons = first_left stmts stmt lt c.stmt-item.is in
    let first = first_fits telling.layout.now.end c.args.place spot stmt lt c.stmt-item.is c.requires.fits in
    let exact : c.stmt_size.result ≡ stmt_places stmt = omega (arith, c.stmt_size.ensures, first.1, c.requires.small) in
    omega (arith, exact, first.1, c.requires.small)

pub overflow_add-next : goal.overflow_add-next
overflow_add-next c =
    let telling = c.args.telling.now in
    let spot = c.args.spot.now in
    let stmts = spot.stmts.now in
    let stmt = c.stmt-item.result in
    let lt : 0 < length stmts = omega (arith, c.in-len1-up.len_at_least) in
    let cons = first_left stmts stmt lt c.stmt-item.is in
    let first = first_fits telling.layout.now.end c.args.place spot stmt lt c.stmt-item.is c.requires.fits in
    let exact : c.stmt_size.result ≡ stmt_places stmt = omega (arith, c.stmt_size.ensures, first.1, c.requires.small) in
    omega (arith, exact, first.1, c.requires.small)

pub jump_target_of-after-requires : goal.jump_target_of-after-requires
jump_target_of-after-requires c =
    let telling = c.args.telling.now in
    let spot = c.args.spot.now in
    let stmts = spot.stmts.now in
    let stmt = c.stmt-item.result in
    let lt : 0 < length stmts = omega (arith, c.in-len1-up.len_at_least) in
    let cons = first_left stmts stmt lt c.stmt-item.is in
    let first = first_fits telling.layout.now.end c.args.place spot stmt lt c.stmt-item.is c.requires.fits in
    let exact : c.stmt_size.result ≡ stmt_places stmt = omega (arith, c.stmt_size.ensures, first.1, c.requires.small) in
    omega (arith, exact, first.1, ap (sum_by stmt_places) c.rest_at.ensures, c.requires.small)

pub loop_tree-requires-clause-own : goal.loop_tree-requires-clause-own
loop_tree-requires-clause-own c =
    let telling = c.args.telling.now in
    let spot = c.args.spot.now in
    let stmts = spot.stmts.now in
    let stmt = c.stmt-item.result in
    let lt : 0 < length stmts = omega (arith, c.in-len1-up.len_at_least) in
    let cons = first_left stmts stmt lt c.stmt-item.is in
    let first = first_fits telling.layout.now.end c.args.place spot stmt lt c.stmt-item.is c.requires.fits in
    let control = c.in-Some.control.now in
    let turns = c.in-Some.turns.now in
    let is : stmt ≡ Loop control turns = c.in-Some.ensures in
    let places = ap stmt_places is ∙ loop_places control turns in
    (loop_own control turns (sym (ap stmt_own is) ∙ first.0)).1

pub loop_tree-requires-clause-fits : goal.loop_tree-requires-clause-fits
loop_tree-requires-clause-fits c =
    let telling = c.args.telling.now in
    let spot = c.args.spot.now in
    let stmts = spot.stmts.now in
    let stmt = c.stmt-item.result in
    let lt : 0 < length stmts = omega (arith, c.in-len1-up.len_at_least) in
    let cons = first_left stmts stmt lt c.stmt-item.is in
    let first = first_fits telling.layout.now.end c.args.place spot stmt lt c.stmt-item.is c.requires.fits in
    let control = c.in-Some.control.now in
    let turns = c.in-Some.turns.now in
    let is : stmt ≡ Loop control turns = c.in-Some.ensures in
    let places = ap stmt_places is ∙ loop_places control turns in
    omega (arith, places, first.1, c.requires.small)

pub returns-in_ok-tree-in-Some : goal.returns-in_ok-tree-in-Some
returns-in_ok-tree-in-Some c =
    let telling = c.args.telling.now in
    let spot = c.args.spot.now in
    let stmts = spot.stmts.now in
    let stmt = c.stmt-item.result in
    let lt : 0 < length stmts = omega (arith, c.in-len1-up.len_at_least) in
    let cons = first_left stmts stmt lt c.stmt-item.is in
    let first = first_fits telling.layout.now.end c.args.place spot stmt lt c.stmt-item.is c.requires.fits in
    let exact : c.stmt_size.result ≡ stmt_places stmt = omega (arith, c.stmt_size.ensures, first.1, c.requires.small) in
    let control = c.in-Some.control.now in
    let turns = c.in-Some.turns.now in
    let is : stmt ≡ Loop control turns = c.in-Some.ensures in
    let places = ap stmt_places is ∙ loop_places control turns in
    λ other alike program placed.
    let g = graph_in telling other program placed in
    let leaving = leaving_by telling.layout.now g spot.onward in
    let after = after_by telling.layout.now g spot.onward in
    let told = flow_facts_by telling in
    let place_of = place_in (control_of program) in
    let last = spot.onward.last in
    let rest = drop 1 stmts in
    let far : c.args.place + c.stmt_size.result ≡ c.args.place + size (seen last (Loop control turns)) =
    ap (λ n. c.args.place + n) (exact ∙ sym (size-seen last stmt) ∙ ap (λ s. size (seen last s)) is) in
    let there : seen_target c.jump_target_of-after.result ≡ lower.leaf told place_of (seen_stmts last rest) (c.args.place + size (seen last (Loop control turns))) after =
    c.jump_target_of-after.ensures telling.files.now telling.returning.now last place_of placed.places_in
    ∙ ap (λ l. lower.leaf told place_of (seen_stmts last l) (c.args.place + c.stmt_size.result) (seen_target c.after_of-behind.result)) c.rest_at.ensures
    ∙ ap (λ n. lower.leaf told place_of (seen_stmts last rest) n (seen_target c.after_of-behind.result)) far
    ∙ ap (lower.leaf told place_of (seen_stmts last rest) (c.args.place + size (seen last (Loop control turns)))) (goes_alike telling c.args.range other spot.onward c.after_of-behind.result alike c.after_of-behind.ensures program placed) in
    c.in_ok-tree-in-Some.ensures (setting telling other program placed spot.onward c.leaving_of-leaving.result
    (leaves_alike telling c.args.range other spot.onward c.leaving_of-leaving.result alike c.leaving_of-leaving.ensures))
    ∙ ap (loop_at told place_of c.args.is_head (control_in control) (seen_stmts last turns) c.args.place leaving) there
    ∙ sym (ap (λ l. turn_by told place_of c.args.is_head (seen_stmts last l) c.args.place leaving after) cons
    ∙ ap (λ s. turn_by told place_of c.args.is_head (seen_stmts last (s ∷ rest)) c.args.place leaving after) is
    ∙ turn_of_loop told place_of c.args.is_head last control turns (seen_stmts last rest) c.args.place leaving after)
