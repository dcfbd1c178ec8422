-- Tied meanings are the same behaviour.
use Rattle.std.proofs.Common.{◌≡◌, ◌+◌, ◌*◌, ap, ◌∙◌, arith}
use Rattle.control_flow_theory.specs.runs.Run.{Over, IsOver, Covers}
use Rattle.control_flow_theory.specs.runs.Tied.{Meaning, Tied}
use Rattle.control_flow_theory.specs.semantics.Outcome.{Event, How, Ending, Stopped, Run}
use Rattle.control_flow_theory.specs.semantics_agree.Same.{IsMatchedBy, SameBehaviour}

stopped-over : {Left : Type 0} (run : Run Left) (how : How) (left : Left) → run.standing ≡ Over (Stopped how left) → IsOver run
stopped-over run how left is going = cc

-- a run that covers another matches it
pub covers-matched : {Left : Type 0} (first second : Run Left) → Covers first second → IsMatchedBy first second
covers-matched first second h = record {
  shown = h.shows;
  stopped = λ how left is.
      let e : second ≡ first = h.ends (stopped-over first how left is) in
      (ap (λ r. r.standing) e ∙ is, ap (λ r. r.trace) e);
}

pub tied-same : {World Left : Type 0} (source result : Meaning World Event (Ending Left)) → Tied source result → SameBehaviour source result
tied-same source result h = record {
  units_per_step = h.there;
  steps_per_unit = h.back;
  there = λ world n. covers-matched (source world n) (result world (h.there * (n + 1))) (h.covered world n (h.there * (n + 1)) (omega arith));
  back = λ world n. covers-matched (result world n) (source world (h.back * (n + 1))) (h.covers world n (h.back * (n + 1)) (omega arith));
}
