use Rattle.std.proofs.Common.{◌+◌, ◌<◌, length, subst, sym, arith}
use Rattle.pending_returns.proofs.faults_lemmas.Standing.{get-below}
use Rattle.overlap_trail.specs.finding.ReturnLemmas.{Learns}
use Rattle.overlap_trail.proofs.finding_lemmas.Knowing.{RoundSoFar, round-none, round-new, round-same}
use Rattle.overlap_trail.proofs.finding.return_lemmas.round.Goals as goal
use Rattle.overlap_trail.proofs.finding.return_lemmas.round.Goals.{then-branch, else-branch}

pub loop-number-init : goal.loop-number-init
loop-number-init c = round-none c.args.table.now c.args.known.now c.requires.knows

pub is_new-requires-clause-there : goal.is_new-requires-clause-there
is_new-requires-clause-there c = omega (arith, c.loop-number-test.true, c.len-number-end.ensures, c.requires.knows.size, c.loop-number.invariant.knows.size)

pub loop-number-preserved : goal.loop-number-preserved
loop-number-preserved c =
    let table = c.args.table.now in
    let start = c.args.known.now in
    let old = c.loop-number.known in
    let new = c.is_new.new.known in
    let number = c.loop-number.number in
    let learns = c.in_ok-is_new.ensures.learns in
    elim c.if-branch.branch [
      | then-branch w ↦ subst (λ b. RoundSoFar table start new (number + 1) b) (sym w.more-is)
          (round-new table start old new number c.loop-number.more (subst (λ b. Learns table old new number b) w.if-branch.true learns) c.in_ok-is_new.ensures.knows c.loop-number.invariant)
      | else-branch w ↦ subst (λ b. RoundSoFar table start new (number + 1) b) (sym w.more-is)
          (round-same table start old new number c.loop-number.more (subst (λ b. Learns table old new number b) w.if-branch.false learns) c.loop-number.invariant)
    ]

pub returns-clause-closed : goal.returns-clause-closed
returns-clause-closed c = λ same number range e here.
    c.loop-number.invariant.closed same number range
    (let lt : number < length c.args.table.now.ranges = get-below c.args.table.now.ranges number range e in omega (arith, lt, c.loop-number-test.false, c.len-number-end.ensures, c.requires.knows.size)) e here
