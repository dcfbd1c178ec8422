-- What splitting answers, where the result is within its limits.
use Rattle.std.proofs.Common.{◌≡◌, ℕ, zero, suc, List, [], ◌∷◌, map, Some, slice_get, refl, ap, subst, arith, Result, Ok, Err, inl, inr}
use Rattle.std.specs.Prelude.{MatchResult}
use Rattle.cob_base.specs.declared.limit.Limit.{Limit}
use Rattle.cob_tree.specs.declared.fault.SplitFault.{SplitFault}
use Rattle.cob_tree.specs.declared.fault.SplitFault.TheVariants as fault
use Rattle.cob_tree.specs.declared.program.Program.{Program}
use Rattle.control_flow_theory.specs.language.Control.{control_of}
use Rattle.control_flow_theory.specs.graph_rules.Reduced as reduced
use Rattle.program_facts.specs.completion.FlowFacts.{flow_facts_of}
use Rattle.pending_returns.specs.FaultFree.{IsFaultFree}
use Rattle.pending_returns.specs.declared.facts.Summary.{Summary}
use Rattle.branch_tree.specs.Graph.{seen_graph}
use Rattle.branch_tree.specs.declared.graph.Graph.{Graph}
use Rattle.procedure_split.specs.Splitting.{IsSplitFault, IsSplitWith, IsTooLarge, NestsTooDeep}
use Rattle.procedure_split.specs.declared.writing.Split.{Split}
use Rattle.procedure_split.proofs.shaped_ranges_lemmas.GraphRows.{have-seen}
use Rattle.cobol_read.specs.Reading.{Reads}
use Rattle.end_to_end_laws.specs.results.restructured_programs.Result.{IsRestructuredTo, IsWithinSplitting}
use Rattle.end_to_end_laws.specs.results.restructured_programs.Laws.{ResultsAreAnswered}
use Rattle.end_to_end_laws.proofs.results_lemmas.restructured_programs_lemmas.FromSplit.{splits-restructured}
use Rattle.end_to_end_laws.proofs.results_lemmas.restructured_programs_lemmas.OneResult.{graphs-same, limits-tell, results-one}

seen-at : (graphs : List Graph) (at : ℕ) (graph : Graph) → slice_get graphs at ≡ Some graph →
    slice_get (map seen_graph graphs) at ≡ Some (seen_graph graph)
seen-at [] at graph there = cc
seen-at (first ∷ graphs) zero graph there =
    let same : first ≡ graph = cc in ap (λ (g : Graph). Some (seen_graph g)) same
seen-at (first ∷ graphs) (suc at) graph there = seen-at graphs at graph there

module _ (bytes : List ℕ) (program made : Program) (summary : Summary) (reads : Reads bytes program)
    (flows : IsFaultFree program summary) (result : IsRestructuredTo program summary made)
    (within : IsWithinSplitting result) where
  not-large : (limit : Limit) → IsTooLarge program summary limit → ⊥
  not-large limit large =
      let past = limits-tell bytes program made summary limit reads flows large result in
      let small = within.small in
      omega (arith, past, small)

  not-deep : (limit : Limit) → NestsTooDeep program summary limit → ⊥
  not-deep limit nests =
      let listed = map seen_graph nests.graphs in
      let same : listed ≡ result.graphs =
      graphs-same program summary summary flows flows nests.plan result.plan listed result.graphs
      (have-seen (flow_facts_of program.files nests.plan.returning) (control_of program)
      nests.plan.order nests.graphs nests.lowered.are) result.lowered in
      let graph = seen_graph nests.deep.graph in
      let shallow = within.shallow nests.deep.at graph
      (subst (λ (graphs : List reduced.Graph). slice_get graphs nests.deep.at ≡ Some graph) same
      (seen-at nests.graphs nests.deep.at nests.deep.graph nests.deep.there)) in
      let deep = nests.deep.deep in
      omega (arith, shallow, deep)

  answered : (answer : Result Split SplitFault) →
      MatchResult answer (IsSplitWith program summary) (IsSplitFault program summary) →
      MatchResult answer (λ split. split.program ≡ made) (λ why. why ≡ fault.NoMemory)
  answered (Ok split) is =
      results-one bytes program split.program made summary summary reads flows flows
      (splits-restructured bytes program split.program summary reads flows is.is).0 result
  answered (Err (fault.Limit limit)) (inl large) = absurd (not-large limit large)
  answered (Err (fault.Limit limit)) (inr deep) = absurd (not-deep limit deep)
  answered (Err fault.NoMemory) is = refl

pub results-answered : ResultsAreAnswered
results-answered bytes program made summary answer reads flows result within is =
    answered bytes program made summary reads flows result within answer is
