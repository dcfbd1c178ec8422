use Rattle.std.proofs.Common.{◌≤◌, ◌-◌, Bool, length}
use Rattle.control_flow_theory.specs.language.Language.{Chooser, Performed}
use Rattle.overlap_trail.specs.Follow.{knowing}
use Rattle.overlap_trail.proofs.Turning.{TurnsOn}
use Rattle.overlap_trail.proofs.follow.follow_calls.Given as goal

abbrev pub invariant-turns : goal.invariant-turns
invariant-turns l = record {
  turns : (never_first : Chooser → Bool) → TurnsOn (knowing never_first l.lemmas) l.moves (Performed l.entry l.exit) l.taken l.now;
  begun : l.taken ≤ l.now;
  within : l.now ≤ length l.moves;
}

abbrev pub decreases-turns : goal.decreases-turns
decreases-turns l = length l.moves - l.now
