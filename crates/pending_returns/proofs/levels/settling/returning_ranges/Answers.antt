use Rattle.std.proofs.Common.{arith}
use Rattle.pending_returns.proofs.levels_lemmas.Searching.{trues-most}
use Rattle.pending_returns.proofs.levels.settling.returning_ranges.Goals as goal

pub rounds-smaller : goal.rounds-smaller
rounds-smaller c =
    let up = c.in_ok-recheck_all.ensures.more c.if-not-branch.false in
    let most = trues-most c.recheck_all.new.returns.items in
    omega (arith, up, most, c.recheck_all.ensures.size, c.rounds.invariant.size)
