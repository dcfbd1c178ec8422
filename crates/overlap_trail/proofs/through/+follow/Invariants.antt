use Rattle.std.proofs.Common.{◌≡◌, ◌-◌, ◌≤◌, ℕ, drop, length}
use Rattle.control_flow_theory.specs.language.Language.{Nested}
use Rattle.control_flow_theory.specs.language.Control.{seen_stmts}
use Rattle.overlap_trail.specs.Follow.{known_of}
use Rattle.overlap_trail.proofs.Statements.{FollowsOn}
use Rattle.overlap_trail.proofs.Turning.{TurnsOn}
use Rattle.overlap_trail.proofs.through.+follow.Given as goal

abbrev pub invariant-follow_when-loop-number : goal.invariant-follow_when-loop-number
invariant-follow_when-loop-number l = l.number ≤ l.index

abbrev pub invariant-follow_stmts-loop-stmt : goal.invariant-follow_stmts-loop-stmt
invariant-follow_stmts-loop-stmt l = record {
  follows : (last : ℕ) → FollowsOn (known_of l.files l.lemmas) l.moves (seen_stmts last l.stmts) (seen_stmts last (drop l.stmt-index l.stmt-items)) l.taken l.now;
  begun : l.taken ≤ l.now;
  within : l.now ≤ length l.moves;
  same : l.stmt-items ≡ l.stmts;
}

abbrev pub invariant-follow_turns-turns : goal.invariant-follow_turns-turns
invariant-follow_turns-turns l = record {
  turns : (last : ℕ) → TurnsOn (known_of l.files l.lemmas) l.moves (Nested (seen_stmts last l.body)) l.taken l.now;
  begun : l.taken ≤ l.now;
  within : l.now ≤ length l.moves;
}

abbrev pub decreases-follow_turns-turns : goal.decreases-follow_turns-turns
decreases-follow_turns-turns l = length l.moves - l.now
