use Rattle.std.proofs.Common.{◌≡◌, ◌+◌, ◌*◌, map}
use Rattle.control_flow_theory.specs.language.Control.{seen, seen_when}
use Rattle.statement_builders.specs.arms.Placing.{ArePlaced}
use Rattle.statement_builders.specs.arms.Written.{Way, written, written_branch}
use Rattle.body_rendering.proofs.own_statements_lemmas.Each.{changed_to}
use Rattle.body_rendering.proofs.own_statements.writing.+write.Given as goal

abbrev pub decreases-write_stmt : goal.decreases-write_stmt
decreases-write_stmt l = 14 * goal.size-write_stmt l + 4

abbrev pub decreases-write_in : goal.decreases-write_in
decreases-write_in l = 14 * goal.size-write_in l + 5

abbrev pub decreases-write_each : goal.decreases-write_each
decreases-write_each l = 14 * goal.size-write_each l + 6

abbrev pub decreases-write_stmts : goal.decreases-write_stmts
decreases-write_stmts l = 14 * goal.size-write_stmts l + 7

abbrev pub decreases-write_required : goal.decreases-write_required
decreases-write_required l = 14 * goal.size-write_required l + 8

abbrev pub decreases-write_arm : goal.decreases-write_arm
decreases-write_arm l = 14 * goal.size-write_arm l + 9

abbrev pub decreases-write_when : goal.decreases-write_when
decreases-write_when l = 14 * goal.size-write_when l + 10

abbrev pub decreases-write_each_when : goal.decreases-write_each_when
decreases-write_each_when l = 14 * goal.size-write_each_when l + 11

abbrev pub decreases-write_whens : goal.decreases-write_whens
decreases-write_whens l = 14 * goal.size-write_whens l + 12

abbrev pub decreases-write_pair : goal.decreases-write_pair
decreases-write_pair l = 14 * goal.size-write_pair l + 10

abbrev pub decreases-write_loop : goal.decreases-write_loop
decreases-write_loop l = 14 * goal.size-write_loop l + 9

abbrev pub decreases-write_read : goal.decreases-write_read
decreases-write_read l = 14 * goal.size-write_read l + 11

abbrev pub decreases-write_phrases : goal.decreases-write_phrases
decreases-write_phrases l = 14 * goal.size-write_phrases l + 11

abbrev pub decreases-write_arith : goal.decreases-write_arith
decreases-write_arith l = 14 * goal.size-write_arith l + 12

abbrev pub invariant-write_each-loop-at : goal.invariant-write_each-loop-at
invariant-write_each-loop-at l = record {
  same : (way : Way) → ArePlaced way.place l.places →
      map (seen 0) l.stmts ≡ changed_to (written way) l.at (map (seen 0) l.fn.stmts);
  unvisited : goal.unvisited-write_each-loop-at l;
}

abbrev pub invariant-write_each_when-loop-at : goal.invariant-write_each_when-loop-at
invariant-write_each_when-loop-at l = record {
  same : (way : Way) → ArePlaced way.place l.places →
      map (seen_when 0) l.whens
      ≡ changed_to (written_branch way) l.at (map (seen_when 0) l.fn.whens);
  unvisited : goal.unvisited-write_each_when-loop-at l;
}
