use Rattle.std.proofs.Common.{◌+◌, ◌-◌, ◌*◌, length}
use Rattle.control_flow_theory.specs.language.Control.{control_of}
use Rattle.overlap_trail.specs.Follow.{known_of, sought_of}
use Rattle.overlap_trail.specs.Checking.{aim_of}
use Rattle.overlap_trail.proofs.Legs.{IsOnWay}
use Rattle.overlap_trail.proofs.checking.leads.Given as goal

abbrev pub invariant-legs : goal.invariant-legs
invariant-legs l = IsOnWay (known_of l.program.files l.lemmas) (sought_of (control_of l.program) l.range (aim_of l.goal l.hops)) l.count l.moves l.paragraph l.taken l.quiet

abbrev pub decreases-legs : goal.decreases-legs
decreases-legs l = (length l.moves - l.taken) * (l.count + 1) + (l.count - l.quiet)
