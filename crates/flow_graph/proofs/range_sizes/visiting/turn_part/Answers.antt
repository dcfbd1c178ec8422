use Rattle.std.proofs.Common.{◌*◌, length, sym, subst}
use Rattle.branch_tree.specs.Tree.{seen_tree}
use Rattle.flow_graph.specs.range_sizes.Cache.{IsPartAt}
use Rattle.flow_graph.proofs.range_sizes_lemmas.StretchRows.{label-whole}
use Rattle.flow_graph.proofs.range_sizes_lemmas.KeptRows.{kept-part, known-counted, known-kept, part-counted}
use Rattle.flow_graph.proofs.range_sizes_lemmas.PartRows.{tree-below}
use Rattle.flow_graph.proofs.range_sizes.visiting.turn_part.Goals as goal

pub returns-in-Some-clause-part : goal.returns-in-Some-clause-part
returns-in-Some-clause-part c =
    kept-part c.args.telling.now c.args.spots.now c.args.known.now c.args.label c.args.passing
    c.in-Some.part c.requires.known c.in-Some.ensures

pub count-counted-requires-clause-below : goal.count-counted-requires-clause-below
count-counted-requires-clause-below c =
    tree-below c.args.telling.now c.args.spots.now c.args.range c.args.label
    (3 * length c.args.spots.now) (length c.args.known.now.seen.marks.items)
    (seen_tree c.in_ok-tree.tree) c.requires.below c.requires.known.size c.in_ok-tree.ensures.own

pub returns-clause-part : goal.returns-clause-part
returns-clause-part c =
    let telling = c.args.telling.now in
    let spots = c.args.spots.now in
    let label = c.args.label in
    let known = c.args.known.now in
    let counted = c.count-counted.new.self in
    let is = part-counted telling spots known counted c.requires.known (seen_tree c.in_ok-tree.tree)
    c.in_ok-part.part c.in_ok-part.ensures label c.args.passing
    (label-whole telling spots c.args.range label c.args.passing c.in_ok-tree.tree
    (c.requires.known.shared c.requires.shared) c.requires.goes c.in_ok-tree.ensures.alike) in
    subst (λ js. IsPartAt telling spots js.items label c.args.passing c.in_ok-part.part)
    (sym c.in_ok-keep.ensures.jumps) is

pub returns-clause-known : goal.returns-clause-known
returns-clause-known c =
    let telling = c.args.telling.now in
    let spots = c.args.spots.now in
    let label = c.args.label in
    let known = c.args.known.now in
    let counted = c.count-counted.new.self in
    let tree = seen_tree c.in_ok-tree.tree in
    let part = c.in_ok-part.part in
    let is = part-counted telling spots known counted c.requires.known tree part
    c.in_ok-part.ensures label c.args.passing
    (label-whole telling spots c.args.range label c.args.passing c.in_ok-tree.tree
    (c.requires.known.shared c.requires.shared) c.requires.goes c.in_ok-tree.ensures.alike) in
    known-kept telling spots counted c.keep.new.self
    (known-counted telling spots known counted c.requires.known tree part c.in_ok-part.ensures)
    label c.args.passing part c.in_ok-keep.ensures.kept c.in_ok-keep.ensures.jumps
    c.in_ok-keep.ensures.seen c.in_ok-keep.ensures.shared is
