use Rattle.std.proofs.Common.{◌≡◌, ◌≤◌, drop, length, map}
use Rattle.control_flow_theory.specs.language.Control.{seen_sentence}
use Rattle.program_points.specs.numbering.Kind.{never_first_of}
use Rattle.program_points.specs.numbering.Build.{BuildsRest}
use Rattle.program_points.proofs.numbering.build.Builder.build_rest.Given as goal

abbrev pub invariant-loop-at : goal.invariant-loop-at
invariant-loop-at l = record {
  count : l.self.count ≡ l.fn.self.count;
  longer : length l.fn.self.places.items ≤ length l.self.places.items;
  builds : BuildsRest (never_first_of l.files) l.fn.self.count l.here.number l.fn.self.places.items l.self.places.items l.fn.self.ranges.items l.self.ranges.items (map (seen_sentence l.here.last) (drop l.at l.list)) l.next;
}
