use Rattle.std.proofs.Common.{◌≡◌, ℕ, drop, false, map}
use Rattle.control_flow_theory.specs.language.Language.{done}
use Rattle.control_flow_theory.specs.language.Control.{seen_stmts, seen_when, branches_before}
use Rattle.program_facts.specs.completion.FlowFacts.{flow_facts_of}
use Rattle.program_facts.specs.completion.Facts.{facts_of_all, facts_of_arms, behind, beside}
use Rattle.program_facts.proofs.completion.facts.+facts.Given as goal

abbrev pub invariant-stmts_facts-loop-stmt : goal.invariant-stmts_facts-loop-stmt
invariant-stmts_facts-loop-stmt l = (last : ℕ) →
    behind l.facts (facts_of_all (flow_facts_of l.files l.returning) (seen_stmts last (drop l.stmt-index l.stmts)))
    ≡ facts_of_all (flow_facts_of l.files l.returning) (seen_stmts last l.stmts)

abbrev pub invariant-whens_facts-loop-when : goal.invariant-whens_facts-loop-when
invariant-whens_facts-loop-when l = (last : ℕ) →
    beside l.facts (facts_of_arms (flow_facts_of l.files l.returning) false (branches_before (map (seen_when last) (drop l.when-index l.whens)) done))
    ≡ facts_of_arms (flow_facts_of l.files l.returning) false (branches_before (map (seen_when last) l.whens) done)
