use Rattle.std.proofs.Common.{◌≡◌, ◌*◌, ◌/◌, List, length, refl, sym, subst, arith}
use Rattle.std.proofs.lemmas.Option.{slice_get_within}
use Rattle.control_flow_theory.specs.lowering.Lower.{point}
use Rattle.branch_tree.specs.Tree.{seen_tree}
use Rattle.flow_graph.specs.label_trees.Run.{GoesBehind, IsBehind}
use Rattle.flow_graph.specs.declared.range_sizes.segment.Segment.{Segment}
use Rattle.flow_graph.specs.range_sizes.Exits.{GoesSo}
use Rattle.flow_graph.specs.range_sizes.Cache.{IsPartAt}
use Rattle.flow_graph.specs.range_sizes.Segment.{IsSegment, LeadsTo}
use Rattle.flow_graph.proofs.range_sizes_lemmas.KeptRows.{kept-part, known-counted, known-kept, part-counted}
use Rattle.flow_graph.proofs.range_sizes_lemmas.PartRows.{tree-below}
use Rattle.flow_graph.proofs.range_sizes_lemmas.StretchRows.{below-next, one-more, run-whole, stretch-of}
use Rattle.flow_graph.proofs.range_sizes.segment.part_behind.Goals as goal

pub loop-turn-init : goal.loop-turn-init
loop-turn-init c = record {
  there = slice_get_within c.args.spots.now c.args.from.place c.requires.goes.spot c.requires.goes.there;
  turns = omega arith;
  leads =
      subst (λ (l : List Segment). LeadsTo c.args.telling.now c.args.spots.now c.args.from.passing
      c.args.from.place l c.args.from.place) (sym c.requires.none) refl;
  goes = c.requires.goes;
  below = c.requires.below;
  known = c.requires.known;
  shared = c.requires.shared;
}

pub returns-in-Some-clause-comes : goal.returns-in-Some-clause-comes
returns-in-Some-clause-comes c =
    let spots = c.args.spots.now in
    let here = c.loop-turn.here in
    let known = c.loop-turn.known in
    let there : here * 3 ≡ point here = omega arith in (
      here,
      c.loop-turn.invariant.leads,
      subst (λ n. IsPartAt c.args.telling.now spots known.jumps.items n c.args.from.passing c.in-Some.part)
          there
          (kept-part c.args.telling.now spots known (here * 3) c.args.from.passing c.in-Some.part
          c.loop-turn.invariant.known c.in-Some.ensures),
    )

pub loop-turn-preserved : goal.loop-turn-preserved
loop-turn-preserved c =
    let telling = c.args.telling.now in
    let spots = c.args.spots.now in
    let inv = c.loop-turn.invariant in
    let here = c.loop-turn.here in
    let next = c.in-Some-next.next in
    let stretch : Segment = record { place = here; size = c.tree_size-size.result } in
    let behind : IsBehind spots here next =
    subst (GoesBehind spots here) c.in-Some-next.is c.in_ok-run.ensures.next in
    let runs : IsSegment telling spots c.args.from.passing stretch next =
    stretch-of telling spots c.args.from.range here next c.args.from.passing c.in_ok-run.run' stretch
    (inv.known.shared inv.shared) inv.there behind inv.goes c.in_ok-run.ensures.run
    c.in-Some-next.is refl c.tree_size-size.ensures in
    record {
      there = behind.within;
      turns = omega (arith, inv.turns, behind.later);
      leads =
          subst (λ (l : List Segment). LeadsTo telling spots c.args.from.passing c.args.from.place l next)
          (sym c.in_ok-push-in-Some-next.ensures.items)
          (one-more telling spots c.args.from.passing c.args.from.place here next c.loop-turn.stretches.items
          stretch inv.leads refl runs);
      goes = runs.goes c.args.from.range inv.goes;
      below = below-next telling spots c.args.from.range c.args.from.passing stretch next _ runs inv.goes
          inv.below;
      known = inv.known;
      shared = inv.shared;
    }

pub returns : goal.returns
returns c =
    let inv = c.loop-turn.invariant in
    absurd (omega (arith, inv.there, inv.turns, c.loop-turn-test.false))

pub count-counted-requires-clause-below : goal.count-counted-requires-clause-below
count-counted-requires-clause-below c =
    let telling = c.args.telling.now in
    let spots = c.args.spots.now in
    let inv = c.loop-turn.invariant in
    let here = c.loop-turn.here in
    let own = c.in_ok-run.run' in
    let on : here ≡ point here / 3 = omega arith in
    let goes = subst (λ n. GoesSo spots c.args.from.range n c.args.from.passing) on inv.goes in
    tree-below telling spots c.args.from.range (point here) (3 * length spots)
    (length c.loop-turn.known.seen.marks.items) (seen_tree own.tree) inv.below inv.known.size
    (run-whole telling spots c.args.from.range here c.args.from.passing own inv.goes c.in_ok-run.ensures.run
    c.in-None-next.is c.args.from.range goes)

pub returns-in-None-next-clause-comes : goal.returns-in-None-next-clause-comes
returns-in-None-next-clause-comes c =
    let telling = c.args.telling.now in
    let spots = c.args.spots.now in
    let inv = c.loop-turn.invariant in
    let here = c.loop-turn.here in
    let own = c.in_ok-run.run' in
    let known = c.loop-turn.known in
    let counted = c.count-counted.new.self in
    let tree = seen_tree own.tree in
    let part = c.in_ok-part-in-None-next.part in
    let is = part-counted telling spots known counted inv.known tree part c.in_ok-part-in-None-next.ensures
    (point here) c.args.from.passing (run-whole telling spots c.args.from.range here c.args.from.passing own
    inv.goes c.in_ok-run.ensures.run c.in-None-next.is) in (
      here,
      inv.leads,
      subst (λ js. IsPartAt telling spots js.items (point here) c.args.from.passing part)
          (sym c.in_ok-keep-in-None-next.ensures.jumps) is,
    )

pub returns-in-None-next-clause-known : goal.returns-in-None-next-clause-known
returns-in-None-next-clause-known c =
    let telling = c.args.telling.now in
    let spots = c.args.spots.now in
    let inv = c.loop-turn.invariant in
    let here = c.loop-turn.here in
    let own = c.in_ok-run.run' in
    let known = c.loop-turn.known in
    let counted = c.count-counted.new.self in
    let tree = seen_tree own.tree in
    let part = c.in_ok-part-in-None-next.part in
    let is = part-counted telling spots known counted inv.known tree part c.in_ok-part-in-None-next.ensures
    (point here) c.args.from.passing (run-whole telling spots c.args.from.range here c.args.from.passing own
    inv.goes c.in_ok-run.ensures.run c.in-None-next.is) in
    let on : point here ≡ here * 3 = omega arith in
    known-kept telling spots counted c.keep.new.self
    (known-counted telling spots known counted inv.known tree part c.in_ok-part-in-None-next.ensures) (here * 3)
    c.args.from.passing part c.in_ok-keep-in-None-next.ensures.kept c.in_ok-keep-in-None-next.ensures.jumps
    c.in_ok-keep-in-None-next.ensures.seen c.in_ok-keep-in-None-next.ensures.shared
    (subst (λ n. IsPartAt telling spots counted.jumps.items n c.args.from.passing part) on is)
