use Rattle.std.proofs.Common.{◌≡◌, ◌*◌, List, length, refl, sym, subst, arith, rules}
use Rattle.control_flow_theory.specs.lowering.Lower.{point}
use Rattle.flow_graph.specs.declared.range_sizes.parts.TreeCount.{TreeCount}
use Rattle.flow_graph.specs.declared.range_sizes.segment.Segment.{Segment}
use Rattle.flow_graph.specs.range_sizes.Cache.{IsPartAt}
use Rattle.flow_graph.specs.range_sizes.Segment.{LeadsTo}
use Rattle.flow_graph.proofs.range_sizes_lemmas.KeptRows.{known-kept}
use Rattle.flow_graph.proofs.range_sizes_lemmas.StretchRows.{none-left, one-less, part-further}
use Rattle.flow_graph.proofs.range_sizes.segment.point_part.Goals as goal

pub loop-stretch-init : goal.loop-stretch-init
loop-stretch-init c = record {
  comes = c.in_ok-part.ensures.comes;
  known = c.in_ok-part.ensures.known;
}

pub loop-stretch-preserved : goal.loop-stretch-preserved
loop-stretch-preserved c =
    let telling = c.args.telling.now in
    let spots = c.args.spots.now in
    let inv = c.loop-stretch.invariant in
    let known = c.loop-stretch.known in
    let stretch = c.in-Some.stretch in
    let comes = inv.comes in
    let one = one-less telling spots c.args.passing c.args.place comes.0
    c.pop.new.self.items stretch
    (subst (λ (l : List Segment). LeadsTo telling spots c.args.passing c.args.place l comes.0)
    c.in-Some.ensures.items comes.1) in
    let longer : TreeCount = record c.loop-stretch.part { size = c.saturating_add.result } in
    let further = part-further telling spots known.jumps.items c.args.passing stretch comes.0
    c.loop-stretch.part longer one.1 comes.2 c.saturating_add.ensures refl in
    let there : point stretch.place ≡ stretch.place * 3 = omega arith in
    let is = subst (λ n. IsPartAt telling spots known.jumps.items n c.args.passing longer) there
    further in
    record {
      comes = (
        stretch.place,
        one.0,
        subst (λ js. IsPartAt telling spots js.items (point stretch.place) c.args.passing longer)
            (sym c.in_ok-keep.ensures.jumps) further,
      );
      known = known-kept telling spots known c.keep.new.self inv.known (stretch.place * 3)
          c.args.passing longer c.in_ok-keep.ensures.kept c.in_ok-keep.ensures.jumps
          c.in_ok-keep.ensures.seen c.in_ok-keep.ensures.shared is;
    }

pub returns-clause-part : goal.returns-clause-part
returns-clause-part c =
    let comes = c.loop-stretch.invariant.comes in
    let empty : length c.loop-stretch.stretches.items ≡ 0 = search rules in
    let none = none-left c.loop-stretch.stretches.items empty in
    let leads = subst (λ (l : List Segment). LeadsTo c.args.telling.now c.args.spots.now
    c.args.passing c.args.place l comes.0) none comes.1 in
    subst (λ n. IsPartAt c.args.telling.now c.args.spots.now c.loop-stretch.known.jumps.items
    (point n) c.args.passing c.loop-stretch.part) leads comes.2

pub overflow_mul-stretch : goal.overflow_mul-stretch
overflow_mul-stretch c =
    let inv = c.loop-stretch.invariant in
    let one = one-less c.args.telling.now c.args.spots.now c.args.passing c.args.place inv.comes.0
    c.pop.new.self.items c.in-Some.stretch
    (subst (λ (l : List Segment). LeadsTo c.args.telling.now c.args.spots.now c.args.passing
    c.args.place l inv.comes.0) c.in-Some.ensures.items inv.comes.1) in
    omega (arith, one.1.there, c.requires.whole.count, c.requires.whole.small)

pub keep-requires : goal.keep-requires
keep-requires c =
    let inv = c.loop-stretch.invariant in
    let one = one-less c.args.telling.now c.args.spots.now c.args.passing c.args.place inv.comes.0
    c.pop.new.self.items c.in-Some.stretch
    (subst (λ (l : List Segment). LeadsTo c.args.telling.now c.args.spots.now c.args.passing
    c.args.place l inv.comes.0) c.in-Some.ensures.items inv.comes.1) in
    record { there = omega (arith, one.1.there, inv.known.rows) }
