use Rattle.std.proofs.Common.{◌≡◌, ℕ, List, length, get_or, subst, arith}
use Rattle.std.proofs.lemmas.Option.{slice_get-get_or}
use Rattle.program_points.specs.declared.paths.trail.Move.{Move}
use Rattle.overlap_trail.specs.finding.Pruning.{Flags, FlagHops}
use Rattle.overlap_trail.proofs.finding_lemmas.Needing.{hops-none, hops-need, hops-all}
use Rattle.overlap_trail.proofs.finding.pruning.need_of_hops.Goals as goal

pub loop-number-init : goal.loop-number-init
loop-number-init c = hops-none c.len-count.result c.args.hops.now c.args.needed.now.items

pub loop-number-preserved : goal.loop-number-preserved
loop-number-preserved c =
    let hops = c.args.hops.now in
    let number = c.loop-number.number in
    let hop = get_or hops number c.index-hops-number.result in
    let there = slice_get-get_or hops number c.index-hops-number.result c.loop-number-test.true in
    hops-need c.len-count.result hops c.args.needed.now.items c.loop-number.needed.items c.need.new.needed.items number hop there c.need.ensures.adds
    (subst (λ (ms : List Move). Flags c.need.new.needed.items c.len-count.result ms) c.as_slice.ensures c.need.ensures.flags) c.loop-number.invariant

pub returns : goal.returns
returns c =
    let count : c.len-count.result ≡ length c.args.needed.now.items = omega (arith, c.len-count.ensures) in
    record {
      size = c.loop-number.invariant.adds.size;
      flags = subst (λ (n : ℕ). FlagHops c.loop-number.needed.items n c.args.hops.now) count
          (hops-all c.len-count.result c.args.hops.now c.args.needed.now.items c.loop-number.needed.items c.loop-number.number c.loop-number-test.false c.loop-number.invariant);
    }
