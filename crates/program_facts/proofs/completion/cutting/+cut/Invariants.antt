use Rattle.std.proofs.Common.{◌≡◌, ℕ, ◌++◌, drop, map}
use Rattle.control_flow_theory.specs.language.Control.{seen_stmts, seen_when}
use Rattle.control_flow_theory.specs.lowering.Completes.{cuts}
use Rattle.program_facts.specs.completion.FlowFacts.{flow_facts_of}
use Rattle.program_facts.specs.completion.Cutting.{cut_branch}
use Rattle.program_facts.proofs.completion_lemmas.CutLemmas.{joined}
use Rattle.program_facts.proofs.completion.cutting.+cut.Given as goal

abbrev pub invariant-cut_stmts-loop-stmt : goal.invariant-cut_stmts-loop-stmt
invariant-cut_stmts-loop-stmt l = (last : ℕ) →
    joined (seen_stmts last l.made) (cuts (flow_facts_of l.files l.returning) (seen_stmts last (drop l.stmt-index l.stmts)))
    ≡ cuts (flow_facts_of l.files l.returning) (seen_stmts last l.stmts)

abbrev pub invariant-cut_whens-loop-when : goal.invariant-cut_whens-loop-when
invariant-cut_whens-loop-when l = (last : ℕ) →
    map (seen_when last) l.made ++ map (cut_branch (flow_facts_of l.files l.returning)) (map (seen_when last) (drop l.when-index l.whens))
    ≡ map (cut_branch (flow_facts_of l.files l.returning)) (map (seen_when last) l.whens)
