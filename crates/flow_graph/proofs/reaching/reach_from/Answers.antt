use Rattle.std.proofs.Common.{◌<◌, ◌≤◌, ◌+◌, ◌-◌, ◌^◌, min, length, true, refl, sym, ap, ◌∙◌, arith}
use Rattle.std.proofs.lemmas.Option.{slice_get_within, slice_get_read}
use Rattle.pending_returns.proofs.levels_lemmas.Searching.{few}
use Rattle.flow_graph.proofs.CountRows.{counts-all, counts-more, counts-none}
use Rattle.flow_graph.proofs.KeptSums.{larger}
use Rattle.flow_graph.proofs.MadeRows.{made_all, made_more, made_none}
use Rattle.flow_graph.proofs.Reached.{entry_below, jumps_below, reach_all, reach_begin, reach_more}
use Rattle.flow_graph.proofs.reaching.reach_from.Goals as goal

pub visit-requires-clause-room : goal.visit-requires-clause-room
visit-requires-clause-room c =
    let some = c.requires.range in
    let lt = entry_below c.args.telling.now c.args.spots.now c.args.begin.range c.requires.whole some.0 some.1 c.args.begin.entry c.requires.entry in
    omega (arith, lt, c.requires.size, c.clear.ensures.size)

pub loop-at-init : goal.loop-at-init
loop-at-init c = record {
  reach = reach_begin c.args.telling.now c.args.spots.now c.args.begin.range c.clear.new.self.places.items c.visit.new.self.places.items c.visit.new.self.marks.items c.args.begin.entry c.requires.entry c.clear.ensures.none
      c.in_ok-visit.ensures.marked (c.in_ok-visit.ensures.size ∙ c.clear.ensures.size ∙ c.requires.size) c.in_ok-visit.ensures.adds;
  made = made_none c.args.telling.now c.args.spots.now c.args.begin.range c.visit.new.self.places.items c.args.nodes.now.items c.requires.none;
  counts = counts-none c.args.telling.now c.args.spots.now c.args.begin.range c.visit.new.self.places.items;
  few = omega arith;
}

pub returns-then-at-len : goal.returns-then-at-len
returns-then-at-len c =
    let telling = c.args.telling.now in
    let spots = c.args.spots.now in
    let places = c.loop-at.reach.places.items in
    let over : length places ≤ c.loop-at.at = omega (arith, c.if-at-len.true) in
    record {
      reach = λ all. reach_all telling spots c.args.begin.range c.args.begin.entry places c.loop-at.reach.marks.items c.loop-at.at c.requires.entry c.loop-at.invariant.reach over;
      made = λ all. made_all telling spots c.args.begin.range places c.loop-at.at c.loop-at.nodes.items over c.loop-at.invariant.made;
      within = λ all. (
        c.loop-at.count,
        counts-all telling spots c.args.begin.range places c.loop-at.at c.loop-at.count over c.loop-at.invariant.counts,
        c.loop-at.invariant.few,
      );
      larger = λ no. absurd (let k : ⊥ = cc in k);
      marked = c.loop-at.invariant.reach.marked;
      size = c.loop-at.invariant.reach.size ∙ sym c.requires.size;
    }

pub returns : goal.returns
returns c =
    let telling = c.args.telling.now in
    let spots = c.args.spots.now in
    let places = c.loop-at.reach.places.items in
    let up : length places ≤ length c.loop-at.reach.marks.items = few places c.loop-at.reach.marks.items c.loop-at.invariant.reach.marked in
    let over : length places ≤ c.loop-at.at = omega (arith, up, c.loop-at.invariant.reach.size, c.in_ok-visit.ensures.size, c.clear.ensures.size, c.requires.size, c.len-at-end.ensures, c.loop-at-test.false) in
    record {
      reach = λ all. reach_all telling spots c.args.begin.range c.args.begin.entry places c.loop-at.reach.marks.items c.loop-at.at c.requires.entry c.loop-at.invariant.reach over;
      made = λ all. made_all telling spots c.args.begin.range places c.loop-at.at c.loop-at.nodes.items over c.loop-at.invariant.made;
      within = λ all. (
        c.loop-at.count,
        counts-all telling spots c.args.begin.range places c.loop-at.at c.loop-at.count over c.loop-at.invariant.counts,
        c.loop-at.invariant.few,
      );
      larger = λ no. absurd (let k : ⊥ = cc in k);
      marked = c.loop-at.invariant.reach.marked;
      size = c.loop-at.invariant.reach.size ∙ sym c.requires.size;
    }

pub visit_node-requires-clause-there : goal.visit_node-requires-clause-there
visit_node-requires-clause-there c =
    let is = slice_get_read c.loop-at.reach.places.items (length c.loop-at.reach.places.items) c.loop-at.at c.index-label.result.now refl (omega (arith, c.if-at-len.false)) c.index-label.ensures in
    let lt : c.index-label.result.now < length c.loop-at.reach.marks.items = slice_get_within c.loop-at.reach.marks.items c.index-label.result.now true (c.loop-at.invariant.reach.marked.marked c.index-label.result.now (c.loop-at.at, is)) in
    omega (arith, lt, c.loop-at.invariant.reach.size)

pub visit_node-requires-clause-below : goal.visit_node-requires-clause-below
visit_node-requires-clause-below c =
    let is = slice_get_read c.loop-at.reach.places.items (length c.loop-at.reach.places.items) c.loop-at.at c.index-label.result.now refl (omega (arith, c.if-at-len.false)) c.index-label.ensures in
    jumps_below c.args.telling.now c.args.spots.now c.args.begin.range c.args.begin.entry c.loop-at.reach.places.items c.loop-at.reach.marks.items c.loop-at.at c.index-label.result.now c.loop-at.invariant.reach c.requires.whole c.requires.range (c.loop-at.at, is)

pub visit_node-requires-clause-small : goal.visit_node-requires-clause-small
visit_node-requires-clause-small c = omega (arith, c.loop-at.invariant.reach.size, c.requires.whole.count, c.requires.whole.small)

pub returns-then-count-most : goal.returns-then-count-most
returns-then-count-most c =
    let telling = c.args.telling.now in
    let spots = c.args.spots.now in
    let range = c.args.begin.range in
    let places = c.loop-at.reach.places.items in
    let later = c.visit_node.new.reach.places.items in
    let marks = c.visit_node.new.reach.marks.items in
    let at = c.loop-at.at in
    let here = c.index-label.result.now in
    let lt : at < length places = omega (arith, c.if-at-len.false) in
    let is = slice_get_read places (length places) at here refl lt c.index-label.ensures in
    let some = c.requires.range in
    let adds = c.in_ok-size.ensures.adds in
    let so = reach_more telling spots range c.args.begin.entry places later
    c.loop-at.reach.marks.items marks at here
    c.loop-at.invariant.reach lt is adds c.in_ok-size.ensures.marked c.in_ok-size.ensures.size some in
    let counts = counts-more telling spots range places later (adds some.0 some.1.table).kept at here
    c.loop-at.count c.in_ok-size.size c.saturating_add-count.result lt is
    c.loop-at.invariant.counts c.in_ok-size.ensures.counts
    (c.saturating_add-count.ensures
    ∙ ap (λ n. min (n + 1) (2 ^ 64 - 1)) c.saturating_add.ensures) in
    record {
      reach = λ no. absurd (let k : ⊥ = cc in k);
      made = λ no. absurd (let k : ⊥ = cc in k);
      within = λ no. absurd (let k : ⊥ = cc in k);
      larger = λ given. larger telling spots range later marks so.marked so.sound (at + 1)
          c.saturating_add-count.result c.args.most counts c.if-count-most.true;
      marked = so.marked;
      size = so.size ∙ sym c.requires.size;
    }

pub loop-at-preserved : goal.loop-at-preserved
loop-at-preserved c =
    let telling = c.args.telling.now in
    let spots = c.args.spots.now in
    let range = c.args.begin.range in
    let places = c.loop-at.reach.places.items in
    let later = c.visit_node.new.reach.places.items in
    let at = c.loop-at.at in
    let here = c.index-label.result.now in
    let is = slice_get_read places (length places) at here refl (omega (arith, c.if-at-len.false)) c.index-label.ensures in
    let some = c.requires.range in
    let adds = c.in_ok-size.ensures.adds in
    record {
      reach = reach_more telling spots range c.args.begin.entry places later c.loop-at.reach.marks.items c.visit_node.new.reach.marks.items at here
          c.loop-at.invariant.reach (omega (arith, c.if-at-len.false)) is adds c.in_ok-size.ensures.marked c.in_ok-size.ensures.size some;
      made = made_more telling spots range places later (adds some.0 some.1.table).kept at here (omega (arith, c.if-at-len.false)) is
          c.loop-at.nodes.items c.visit_node.new.nodes.items c.in_ok-size.ensures.node c.loop-at.invariant.made;
      counts = counts-more telling spots range places later (adds some.0 some.1.table).kept at here
          c.loop-at.count c.in_ok-size.size c.saturating_add-count.result
          (omega (arith, c.if-at-len.false)) is c.loop-at.invariant.counts
          c.in_ok-size.ensures.counts
          (c.saturating_add-count.ensures
          ∙ ap (λ n. min (n + 1) (2 ^ 64 - 1)) c.saturating_add.ensures);
      few = c.if-count-most.false;
    }
