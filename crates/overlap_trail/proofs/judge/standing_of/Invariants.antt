use Rattle.std.proofs.Common.{◌≡◌, ℕ, List, drop}
use Rattle.overlap_trail.specs.Checking.{exits_of, exits_from, top_is, below_is}
use Rattle.overlap_trail.proofs.judge.standing_of.Given as goal

abbrev pub invariant-loop-hop : goal.invariant-loop-hop
invariant-loop-hop l = (ends : List ℕ) × (exits_of l.hops ≡ exits_from ends (drop l.hop-index l.hops)) × (l.standing.top ≡ top_is l.paragraph ends) × (l.standing.below ≡ below_is l.paragraph ends)
