use Rattle.std.proofs.Common.{Some, None, refl, ◌∙◌, arith, ap}
use Rattle.control_flow_theory.specs.semantics.Graph as graph
use Rattle.branch_tree.specs.Tree.{seen_body}
use Rattle.branch_tree.proofs.TreeRows.{seen_dead}
use Rattle.flow_graph.specs.declared.label_trees.run.StraightRun.{StraightRun}
use Rattle.flow_graph.proofs.label_trees_lemmas.RunRows.{RanAlong, fits-there, is-behind, run-ends, run-goes, run-leaves}
use Rattle.flow_graph.proofs.label_trees.run.straight_run.Goals as goal

pub lower_rest-requires-clause-own : goal.lower_rest-requires-clause-own
lower_rest-requires-clause-own c =
    (fits-there c.args.telling.now c.args.spots.now c.args.place c.index-spots-place.result
    c.requires.whole c.requires.there c.index-spots-place.is).own

pub lower_rest-requires-clause-fits : goal.lower_rest-requires-clause-fits
lower_rest-requires-clause-fits c =
    let fits = fits-there c.args.telling.now c.args.spots.now c.args.place
    c.index-spots-place.result c.requires.whole c.requires.there c.index-spots-place.is in
    omega (arith, fits.within, c.requires.whole.small)

pub returns-in-Some-clause-run : goal.returns-in-Some-clause-run
returns-in-Some-clause-run c =
    let ran : RanAlong c.args.telling.now c.args.spots.now c.args.range c.args.place
    c.index-spots-place.result c.after_of-after.result c.in_ok-end.field-0
    c.lower_rest.new.body.items = record {
      lt = c.requires.there;
      is = c.index-spots-place.is;
      leaving = c.leaving_of-leaving.result;
      leaves = c.leaving_of-leaving.ensures;
      goes = c.after_of-after.ensures;
      bodies = c.new-body.result.items;
      empty = c.new-body.ensures.items;
      runs = c.in_ok-end.ensures;
    } in
    let run : StraightRun = record { tree = c.body_with_end.result; next = None } in
    run-ends c.args.telling.now c.args.spots.now c.args.range c.args.place
    c.index-spots-place.result c.after_of-after.result c.in_ok-end.field-0 c.lower_rest.new.body.items
    ran run c.in-Some.end c.in-Some.is refl c.body_with_end.ensures

pub returns-in-None-behind-clause-run : goal.returns-in-None-behind-clause-run
returns-in-None-behind-clause-run c =
    let ran : RanAlong c.args.telling.now c.args.spots.now c.args.range c.args.place
    c.index-spots-place.result c.after_of-after.result c.in_ok-end.field-0
    c.lower_rest.new.body.items = record {
      lt = c.requires.there;
      is = c.index-spots-place.is;
      leaving = c.leaving_of-leaving.result;
      leaves = c.leaving_of-leaving.ensures;
      goes = c.after_of-after.ensures;
      bodies = c.new-body.result.items;
      empty = c.new-body.ensures.items;
      runs = c.in_ok-end.ensures;
    } in
    let run : StraightRun = record { tree = c.body_with_end-in-None-behind.result; next = None } in
    run-leaves c.args.telling.now c.args.spots.now c.args.range c.args.place
    c.index-spots-place.result c.after_of-after.result c.in_ok-end.field-0 c.lower_rest.new.body.items
    ran run c.in-None.is c.in-None-behind.is refl
    (c.body_with_end-in-None-behind.ensures
    ∙ ap (graph.tree (seen_body c.lower_rest.new.body.items)) c.end_at.ensures)

pub returns-in-Some-behind-clause-next : goal.returns-in-Some-behind-clause-next
returns-in-Some-behind-clause-next c =
    is-behind c.args.telling.now c.args.spots.now c.args.place c.in-Some-behind.next
    c.index-spots-place.result c.requires.whole c.requires.there c.index-spots-place.is
    c.in-Some-behind.is

pub returns-in-Some-behind-clause-run : goal.returns-in-Some-behind-clause-run
returns-in-Some-behind-clause-run c =
    let ran : RanAlong c.args.telling.now c.args.spots.now c.args.range c.args.place
    c.index-spots-place.result c.after_of-after.result c.in_ok-end.field-0
    c.lower_rest.new.body.items = record {
      lt = c.requires.there;
      is = c.index-spots-place.is;
      leaving = c.leaving_of-leaving.result;
      leaves = c.leaving_of-leaving.ensures;
      goes = c.after_of-after.ensures;
      bodies = c.new-body.result.items;
      empty = c.new-body.ensures.items;
      runs = c.in_ok-end.ensures;
    } in
    let run : StraightRun = record {
      tree = c.body_with_end-in-Some-behind.result;
      next = Some c.in-Some-behind.next;
    } in
    run-goes c.args.telling.now c.args.spots.now c.args.range c.args.place
    c.index-spots-place.result c.after_of-after.result c.in_ok-end.field-0 c.lower_rest.new.body.items
    ran run c.in-Some-behind.next c.in-None.is c.in-Some-behind.is refl
    (c.body_with_end-in-Some-behind.ensures ∙ ap (graph.tree (seen_body c.lower_rest.new.body.items)) seen_dead)
