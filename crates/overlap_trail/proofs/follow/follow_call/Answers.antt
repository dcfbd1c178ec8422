use Rattle.std.proofs.Common.{sym}
use Rattle.overlap_trail.specs.Follow.{knowing}
use Rattle.overlap_trail.proofs.Turning.{follows-over, follows-no-lemma, follows-met}
use Rattle.overlap_trail.proofs.follow.follow_call.Goals as goal

pub returns-then-is_lemma-clause-follows : goal.returns-then-is_lemma-clause-follows
returns-then-is_lemma-clause-follows c = λ never_first last. follows-over (knowing never_first c.args.lemmas.now) c.args.moves.now last c.args.taken c.args.entry c.args.exit c.in-Some.number c.in-Some.ensures (sym c.if-is_lemma.ensures)

pub returns-else-is_lemma-clause-follows : goal.returns-else-is_lemma-clause-follows
returns-else-is_lemma-clause-follows c = λ never_first last. follows-no-lemma (knowing never_first c.args.lemmas.now) c.args.moves.now last c.args.taken c.args.entry c.args.exit c.in-Some.number c.in-Some.ensures (sym c.if-is_lemma.ensures)

pub returns-in-None-clause-follows : goal.returns-in-None-clause-follows
returns-in-None-clause-follows c = λ never_first last. follows-met (knowing never_first c.args.lemmas.now) c.args.moves.now last c.args.taken c.args.entry c.args.exit c.in-None.ensures
