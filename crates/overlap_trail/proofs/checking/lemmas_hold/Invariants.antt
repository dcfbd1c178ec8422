use Rattle.std.proofs.Common.{[], take, drop}
use Rattle.control_flow_theory.specs.language.Control.{control_of}
use Rattle.program_points.specs.numbering.Kind.{never_first_of}
use Rattle.program_points.specs.paths.Accepted.{LemmasHold, lemma_ranges}
use Rattle.overlap_trail.proofs.checking.lemmas_hold.Given as goal

abbrev pub invariant-loop-number : goal.invariant-loop-number
invariant-loop-number l = record {
  onward : LemmasHold (never_first_of l.program.files) (control_of l.program) [] l.lemmas → LemmasHold (never_first_of l.program.files) (control_of l.program) (lemma_ranges (take l.number l.lemmas)) (drop l.number l.lemmas);
  back : LemmasHold (never_first_of l.program.files) (control_of l.program) (lemma_ranges (take l.number l.lemmas)) (drop l.number l.lemmas) → LemmasHold (never_first_of l.program.files) (control_of l.program) [] l.lemmas;
}
