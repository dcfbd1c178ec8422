-- Tied meanings are the same behaviour.
use Rattle.std.proofs.Common.{◌≡◌, ◌+◌, ◌*◌, List, ap, ◌∙◌, arith}
use Rattle.control_flow_theory.specs.runs.Run.{Over, IsOver, Covers}
use Rattle.control_flow_theory.specs.runs.Tied.{Tied}
use Rattle.cob_tree.specs.declared.program.Program as tree
use Rattle.meanings.specs.plain.World.{File, Stopping, Stopped, Run}
use Rattle.meanings.specs.plain.Source.{source_run}
use Rattle.meanings.specs.plain.Structural.{structural_run}
use Rattle.meanings.specs.plain.Same.{IsMatchedBy, SameBehaviour}

stopped-over : (run : Run) (how : Stopping) (files : List File) → run.standing ≡ Over (Stopped how files) → IsOver run
stopped-over run how files is going = cc

-- a run that covers another matches it
pub covers-matched : (first second : Run) → Covers first second → IsMatchedBy first second
covers-matched first second h = record {
  shown = h.shows;
  stopped = λ how files is.
      let e : second ≡ first = h.ends (stopped-over first how files is) in
      (ap (λ r. r.standing) e ∙ is, ap (λ r. r.trace) e);
}

pub tied-same : (program structured : tree.Program) → Tied (source_run program) (structural_run structured) → SameBehaviour program structured
tied-same program structured h = record {
  units_per_step = h.there;
  steps_per_unit = h.back;
  there = λ world n.
      covers-matched (source_run program world n) (structural_run structured world (h.there * (n + 1))) (h.covered world n (h.there * (n + 1)) (omega arith));
  back = λ world n.
      covers-matched (structural_run structured world n) (source_run program world (h.back * (n + 1))) (h.covers world n (h.back * (n + 1)) (omega arith));
}
