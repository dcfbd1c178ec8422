use Rattle.std.proofs.Common.{set, subst, sym, true, ap, ◌∙◌, Some}
use Rattle.pending_returns.specs.levels.Reach.{IsMarked, Adds}
use Rattle.pending_returns.proofs.levels_lemmas.Marking.{pushed-marks, pushed-adds, same-adds, mark-at}
use Rattle.pending_returns.proofs.levels.reach.Reach.visit.Goals as goal

pub returns-in_ok-push-clause-marked : goal.returns-in_ok-push-clause-marked
returns-in_ok-push-clause-marked c =
    subst (λ ps. IsMarked ps (set c.args.self.now.marks.items c.args.place true)) (sym c.in_ok-push.ensures.items)
    (pushed-marks c.args.self.now.places.items c.args.self.now.marks.items c.args.place c.requires.marked
    (mark-at c.args.self.now.marks.items c.args.place c.index.result.now c.requires.room c.index.ensures ∙ ap (λ b. Some b) c.if-not-index.true) c.requires.room)

pub returns-in_ok-push-clause-adds : goal.returns-in_ok-push-clause-adds
returns-in_ok-push-clause-adds c =
    subst (λ ps. Adds c.args.self.now.places.items ps c.args.place) (sym c.in_ok-push.ensures.items) (pushed-adds c.args.self.now.places.items c.args.place)

pub returns-else-not-index-clause-adds : goal.returns-else-not-index-clause-adds
returns-else-not-index-clause-adds c =
    same-adds c.args.self.now.places.items c.args.place
    (c.requires.marked.there c.args.place (mark-at c.args.self.now.marks.items c.args.place c.index.result.now c.requires.room c.index.ensures ∙ ap (λ b. Some b) c.if-not-index.false))
