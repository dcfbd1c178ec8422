use Rattle.std.proofs.Common.{◌≡◌, List, subst, sym, arith}
use Rattle.overlap_trail.specs.declared.finding.search.Predecessor.{Predecessor}
use Rattle.overlap_trail.specs.finding.Search.{Tracks}
use Rattle.overlap_trail.proofs.finding_lemmas.Tracing.{tracks-push, tracks-stay}
use Rattle.overlap_trail.proofs.finding.search.SearchTree.visit.Goals as goal

pub returns-in_ok-push-clause-tracks : goal.returns-in_ok-push-clause-tracks
returns-in_ok-push-clause-tracks c =
    subst (λ (cs : List Predecessor). Tracks (λ to how. (to ≡ c.args.place) × (how ≡ c.args.came)) c.args.self.now.reach.places.items c.visit.new.self.places.items c.args.self.now.came.items cs) (sym c.in_ok-push.ensures.items)
    (tracks-push c.args.self.now.reach.places.items c.visit.new.self.places.items c.visit.new.self.marks.items c.args.place c.in_ok-visit.ensures.adds c.in_ok-visit.ensures.marked c.args.self.now.came.items c.args.came c.requires.size
    (omega (arith, c.if-len.true, c.len.ensures, c.len-2.ensures)))

pub returns-else-len-clause-tracks : goal.returns-else-len-clause-tracks
returns-else-len-clause-tracks c =
    tracks-stay c.args.self.now.reach.places.items c.visit.new.self.places.items c.visit.new.self.marks.items c.args.place c.in_ok-visit.ensures.adds c.in_ok-visit.ensures.marked c.args.self.now.came.items c.args.came c.requires.size
    (omega (arith, c.if-len.false, c.len.ensures, c.len-2.ensures))
