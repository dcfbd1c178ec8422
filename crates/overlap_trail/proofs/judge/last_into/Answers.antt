use Rattle.std.proofs.Common.{◌+◌, ◌∷◌, drop, ap, ◌∙◌}
use Rattle.overlap_trail.proofs.Meeting.{into-last}
use Rattle.overlap_trail.proofs.judge.last_into.Goals as goal

pub returns-in-Some-Into : goal.returns-in-Some-Into
returns-in-Some-Into c = into-last c.args.moves.now c.args.taken (c.in-Some-Into.ensures.0 ∙ ap (λ m. m ∷ drop (c.args.taken + 1) c.args.moves.now) c.in-Some-Into.field-0-is) c.in-Some-Into.ensures.1
