use Rattle.std.proofs.Common.{◌<◌, false, get_or, length, None, arith}
use Rattle.std.proofs.lemmas.Option.{slice_get-get_or}
use Rattle.cob_tree.specs.declared.program.Range.{Range}
use Rattle.pending_returns.proofs.Getting.{get-read}
use Rattle.pending_returns.proofs.Leveling.{levels-none, levels-more, levels-all}
use Rattle.pending_returns.proofs.facts.levels_of.Goals as goal

pub loop-at-init : goal.loop-at-init
loop-at-init c = record {
  fits = c.in_ok-level.ensures;
  levels = levels-none c.args.table.now c.args.returns.now _ c.new-levels.ensures;
}

pub loop-at-preserved : goal.loop-at-preserved
loop-at-preserved c =
    let table = c.args.table.now in
    let returns = c.args.returns.now in
    let at = c.loop-at.at in
    let none : Range = record { entry = 0; exit = None } in
    let range = get_or c.as_slice.result.now at none in
    let inside : at < length returns = omega (arith, c.loop-at-test.true) in
    record {
      fits = c.in_ok-facts.ensures.fits;
      levels = levels-more table returns at c.loop-at.levels c.push.new.self range (get_or returns at false) c.in_ok-facts.facts
          (get-read c.as_slice.result.now table.ranges at none c.as_slice.ensures (omega (arith, inside, c.requires.known))) (slice_get-get_or returns at false inside)
          c.in_ok-facts.ensures.range c.in_ok-facts.ensures.returns c.in_ok-facts.ensures.tells c.in_ok-push.ensures.ok c.loop-at.invariant.levels;
    }

pub returns : goal.returns
returns c = levels-all c.args.table.now c.args.returns.now c.loop-at.at c.loop-at.levels (omega (arith, c.loop-at-test.false, c.loop-at.auto.at-end, c.requires.known)) c.loop-at.invariant.levels
