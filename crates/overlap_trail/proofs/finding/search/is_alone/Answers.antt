use Rattle.std.proofs.Common.{◌+◌, get_or, Some, None, subst, sym}
use Rattle.pending_returns.proofs.levels_lemmas.Marking.{way-is}
use Rattle.overlap_trail.proofs.finding_lemmas.Ways.{AloneSoFar, alone-none, alone-skip, alone-first, alone-second, alone-all, there-is, not-there}
use Rattle.overlap_trail.proofs.finding.search.is_alone.Goals as goal
use Rattle.overlap_trail.proofs.finding.search.is_alone.Goals.{then-is_way+else-found, else-is_way}

pub loop-number-init : goal.loop-number-init
loop-number-init c = alone-none c.args.ways.now

pub returns-then-found : goal.returns-then-found
returns-then-found c =
    let ways = c.args.ways.now in
    let number = c.loop-number.number in
    let to = there-is (get_or ways number None) c.if-is_way.ensures in
    alone-second ways number to.0 (way-is ways number (Some to.0) c.loop-number-test.true to.1) (subst (λ b. AloneSoFar ways number b) c.if-found.true c.loop-number.invariant)

pub loop-number-preserved : goal.loop-number-preserved
loop-number-preserved c =
    let ways = c.args.ways.now in
    let number = c.loop-number.number in
    elim c.if-is_way.branch [
      | then-is_way+else-found w ↦
          let to = there-is (get_or ways number None) w.if-is_way.ensures in
          subst (λ b. AloneSoFar ways (number + 1) b) (sym w.found-is)
          (alone-first ways number to.0 (way-is ways number (Some to.0) c.loop-number-test.true to.1) (subst (λ b. AloneSoFar ways number b) w.if-found.false c.loop-number.invariant))
      | else-is_way w ↦
          subst (λ b. AloneSoFar ways (number + 1) b) (sym w.found-is)
          (alone-skip ways number c.loop-number.found (way-is ways number None c.loop-number-test.true (not-there (get_or ways number None) w.if-is_way.ensures)) c.loop-number.invariant)
    ]

pub returns : goal.returns
returns c = alone-all c.args.ways.now c.loop-number.number c.loop-number.found c.loop-number-test.false c.loop-number.invariant
