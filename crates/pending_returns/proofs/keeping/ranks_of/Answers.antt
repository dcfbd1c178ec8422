use Rattle.std.proofs.Common.{◌+◌, get_or, set, sym, subst, ◌∙◌, arith}
use Rattle.std.proofs.lemmas.Option.{slice_get-get_or}
use Rattle.std.proofs.Math.ListN.{length-set}
use Rattle.pending_returns.proofs.Kept.{RanksUpTo, ranks-more, ranks-all}
use Rattle.pending_returns.proofs.keeping.ranks_of.Goals as goal

pub index_mut-requires : goal.index_mut-requires
index_mut-requires c =
    let kept = c.args.kept.now in
    let at = c.loop-at.at in
    let here = slice_get-get_or kept at 0 c.loop-at-test.true in
    omega (arith, c.requires.below (get_or kept at 0) (at, here), c.loop-at.invariant.size)

pub loop-at-preserved : goal.loop-at-preserved
loop-at-preserved c =
    let kept = c.args.kept.now in
    let ranks = c.loop-at.ranks.items in
    let at = c.loop-at.at in
    let number = get_or kept at 0 in
    let here = slice_get-get_or kept at 0 c.loop-at-test.true in
    record {
      ranks = subst (λ n. RanksUpTo kept (at + 1) (set ranks number n)) (sym c.in_ok-rank.ensures)
          (ranks-more kept ranks at number c.requires.rises here (omega (arith, c.requires.below number (at, here), c.loop-at.invariant.size)) c.loop-at.invariant.ranks);
      size = length-set ranks number c.in_ok-rank.rank ∙ c.loop-at.invariant.size;
    }

pub returns-clause-ranks : goal.returns-clause-ranks
returns-clause-ranks c = ranks-all c.args.kept.now c.loop-at.ranks.items c.loop-at.at (omega (arith, c.loop-at-test.false)) c.loop-at.invariant.ranks
