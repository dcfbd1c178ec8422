use Rattle.std.proofs.Common.{subst}
use Rattle.pending_returns.specs.levels.Reach.{Holds}
use Rattle.pending_returns.proofs.levels_lemmas.Searching.{comes-below}
use Rattle.pending_returns.proofs.levels.settling.comes_back.Goals as goal

pub has_end-requires : goal.has_end-requires
has_end-requires c = λ place h.
    comes-below c.args.table.now c.args.returns.now c.args.range c.requires.tidy place
    (c.in_ok-reached.ensures.reach.0 place (subst (λ ps. Holds ps place) c.as_slice.ensures.value h))
