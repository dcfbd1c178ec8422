use Rattle.std.proofs.Common.{◌≡◌, ◌≤◌, drop, take, length}
use Rattle.control_flow_theory.specs.language.Control.{seen_stmts}
use Rattle.program_points.specs.numbering.Kind.{never_first_of}
use Rattle.program_points.specs.numbering.Build.{Builds, BuildsBranches, seen_branches}
use Rattle.program_points.proofs.numbering.build.Builder.+build.Given as goal

abbrev pub invariant-build_stmts-loop-at : goal.invariant-build_stmts-loop-at
invariant-build_stmts-loop-at l = record {
  count : l.self.count ≡ l.fn.self.count;
  longer : length l.fn.self.places.items ≤ length l.self.places.items;
  builds : Builds (never_first_of l.files) l.fn.self.count l.here.number l.fn.self.places.items l.self.places.items l.fn.self.ranges.items l.self.ranges.items (seen_stmts l.here.last (drop l.at l.list)) l.exits l.next;
}

abbrev pub invariant-build_whens-loop-when : goal.invariant-build_whens-loop-when
invariant-build_whens-loop-when l = record {
  count : l.self.count ≡ l.fn.self.count;
  longer : length l.fn.self.places.items ≤ length l.self.places.items;
  builds : BuildsBranches (never_first_of l.files) l.fn.self.count l.here.number l.fn.self.places.items l.self.places.items l.fn.self.ranges.items l.self.ranges.items (seen_branches l.here.last (take l.when-index l.when-items)) l.exits l.ways;
}
