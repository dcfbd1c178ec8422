use Rattle.std.proofs.Common.{◌≡◌, Some, None, ap, get_or, subst, sym, ◌∙◌, arith}
use Rattle.std.proofs.lemmas.Grind.{common_steps}
use Rattle.std.proofs.lemmas.Option.{slice_get-get_or}
use Rattle.cob_tree.specs.declared.program.Range.{Range}
use Rattle.branch_tree.specs.Tree.{seen_tree}
use Rattle.lowering_labels.specs.points.FallThrough.{seen_range}
use Rattle.body_rendering.specs.Procedure.{is_main}
use Rattle.procedure_split.specs.made_procedures.Made.{IsParagraphOf}
use Rattle.procedure_split.proofs.ParagraphRows.{done-more}
use Rattle.procedure_split.proofs.paragraphs.paragraphs_of.Goals as goal

pub loop-at-preserved : goal.loop-at-preserved
loop-at-preserved c =
    let order = c.args.order.now in
    let closed = c.args.closed.now in
    let cells = c.args.cells.now in
    let names = c.args.names.now in
    let at = c.loop-at.at in
    let within = c.loop-at-test.true in
    let first : Range = get_or order at (record { entry = 0; exit = None }) in
    let d = c.index-closed-at.result in
    let one = get_or closed at d in
    let left : c.take_tree-tree.result ≡ one.tree =
    c.take_tree-tree.ensures ∙ ap (λ x. x.tree) (c.loop-at.invariant.unvisited at d (omega arith)) in
    record {
      done = done-more order closed cells c.args.places.now names at c.loop-at.made c.push.new.self
          first one c.index-cells-at.result c.index-names-at.result
          c.in-Ok.paragraph c.loop-at.invariant.done
          (slice_get-get_or order at (record { entry = 0; exit = None }) within)
          (slice_get-get_or closed at d (omega (arith, within, c.requires.trees)))
          (slice_get-get_or cells at c.index-cells-at.result (omega (arith, within, c.requires.items))
          ∙ ap Some (sym c.index-cells-at.is))
          (slice_get-get_or names at c.index-names-at.result (omega (arith, within, c.requires.words))
          ∙ ap Some (sym c.index-names-at.is))
          (subst (λ own. IsParagraphOf own c.args.places.now (is_main (seen_range first))
          (seen_tree one.tree) c.index-names-at.result c.in-Ok.paragraph) c.as_slice-own.ensures
          (subst (λ tree. IsParagraphOf c.as_slice-own.result.now c.args.places.now
          (is_main (seen_range first)) (seen_tree tree) c.index-names-at.result c.in-Ok.paragraph)
          left c.in-Ok.ensures))
          c.in-Ok-push.ensures.ok;
      size = grind (arith, common_steps, c.loop-at.invariant.size);
      unvisited = λ k x le. grind (arith, common_steps, c.loop-at.invariant.unvisited k x);
    }
