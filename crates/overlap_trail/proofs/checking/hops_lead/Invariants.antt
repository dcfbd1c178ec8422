use Rattle.std.proofs.Common.{[], take, drop}
use Rattle.control_flow_theory.specs.language.Control.{control_of}
use Rattle.program_points.specs.numbering.Kind.{never_first_of}
use Rattle.program_points.specs.paths.Accepted.{lemma_ranges}
use Rattle.overlap_trail.specs.Checking.{HopsFrom, exits_of}
use Rattle.overlap_trail.proofs.checking.hops_lead.Given as goal

abbrev pub invariant-loop-number : goal.invariant-loop-number
invariant-loop-number l = record {
  onward : HopsFrom (never_first_of l.program.files) (control_of l.program) (lemma_ranges l.lemmas) l.fault [] l.hops → HopsFrom (never_first_of l.program.files) (control_of l.program) (lemma_ranges l.lemmas) l.fault (exits_of (take l.number l.hops)) (drop l.number l.hops);
  back : HopsFrom (never_first_of l.program.files) (control_of l.program) (lemma_ranges l.lemmas) l.fault (exits_of (take l.number l.hops)) (drop l.number l.hops) → HopsFrom (never_first_of l.program.files) (control_of l.program) (lemma_ranges l.lemmas) l.fault [] l.hops;
}
