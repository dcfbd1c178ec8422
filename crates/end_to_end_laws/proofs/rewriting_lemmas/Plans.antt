-- The graphs of a plan are a sound family.
use Rattle.std.proofs.Common.{◌≡◌, ℕ, zero, suc, ◌<◌, Bool, List, [], ◌∷◌, length, Some, subst}
use Rattle.control_flow_theory.specs.language.Language.{Program, Range, Main, Part}
use Rattle.control_flow_theory.specs.semantics.Doing.{Acting}
use Rattle.control_flow_theory.specs.semantics.Graph.{Label, Family}
use Rattle.control_flow_theory.specs.lowering.FlowFacts.{FlowFacts, IsTold, IsSource}
use Rattle.control_flow_theory.specs.lowering.Lowered.{lowered}
use Rattle.control_flow_theory.specs.lowering.Reached.{kept}
use Rattle.control_flow_theory.specs.lowering.Renamed.{numbered_anew}
use Rattle.control_flow_theory.specs.lowering.Laws.{IsSoundAt}
use Rattle.control_flow_theory.specs.lowering.flow.Paths.{HasFaultyRun}
use Rattle.control_flow_theory.specs.graph_rules.Families.{Never, IsFamily, IsSound}
use Rattle.control_flow_theory.specs.graph_rules.Reduced.{Graphs, kind_at, family_of, kinds_of}
use Rattle.control_flow_theory.specs.graph_rules.Walked.{In}
use Rattle.control_flow_theory.specs.structuring.Closes.{IsClosed}
use Rattle.control_flow_theory.specs.main_theorem.Chain.{lowered_graphs, IsPlan, IsNumberedPlan}
use Rattle.control_flow_theory.specs.main_theorem.Numbering.{counts, counters_of, numbers_by, added_by}
use Rattle.control_flow_theory.proofs.graph_rules_lemmas.rules.Sounds.{sound-by-steps}
use Rattle.control_flow_theory.proofs.lowering_lemmas.flow.Linked.{family-main-sound, family-part-sound, numbered-sound}
use Rattle.control_flow_theory.proofs.main_theorem_lemmas.graphs.LaterCalls.{plan-fits}
use Rattle.control_flow_theory.proofs.main_theorem_lemmas.graphs.LoweredGraphs.{graphs-family, graphs-closed}
use Rattle.control_flow_theory.proofs.main_theorem_lemmas.graphs.Numbering.{counters-numbered}
use Rattle.end_to_end_laws.specs.rewriting.Families.{IsSoundFamily}

-- counters change
counts-change : (places : List ℕ) (cell : ℕ) → kind_at (counts places) cell ≡ Some Never → ⊥
counts-change [] cell never = cc
counts-change (place ∷ places) zero never = cc
counts-change (place ∷ places) (suc cell) never = counts-change places cell never

module _ (told : FlowFacts) (program : Program) (keep : Range → Label → Bool) (others : List Range) (source : IsSource told program) (some : 0 < length program.paragraphs) (plan : IsPlan told program keep others) where
  abbrev pub graphs : Graphs
  graphs = lowered_graphs told program keep (numbers_by keep program) (added_by keep program)

  pub all-change : (range : Range) (cell : ℕ) → kinds_of graphs range cell ≡ Some Never → ⊥
  all-change range cell never = counts-change (counters_of (keep range) program) cell never

  numbered : IsNumberedPlan told program keep (numbers_by keep program) (added_by keep program) others
  numbered =
      let all = counters-numbered told program keep source in
      record { plan = plan; apart = all.0; names = λ range here. all.1 range (plan.just range here) }

  module _ {Memory Left : Type 0} (acting : Acting Memory) (left : Memory → Left) (is_told : IsTold told acting) (fair : HasFaultyRun told program → ⊥) where
    abbrev again : Family
    again = numbered_anew (numbers_by keep program) (kept keep (lowered told program))

    same : again ≡ family_of graphs
    same = graphs-family told program keep (numbers_by keep program) (added_by keep program)

    range-sound : (range : Range) → In range (Main ∷ others) → IsSoundAt acting left again range
    range-sound Main here = numbered-sound acting left told program keep is_told source some plan.returning fair plan.reached (numbers_by keep program) numbered.apart Main (family-main-sound acting left told program keep is_told source some plan.returning fair plan.reached)
    range-sound (Part entry exit) here =
        numbered-sound acting left told program keep is_told source some plan.returning fair plan.reached (numbers_by keep program) numbered.apart (Part entry exit)
        (family-part-sound acting left told program keep is_told source some plan.returning fair plan.reached entry exit (plan.entered entry exit here).1)

    graphs-fit : IsFamily (kinds_of graphs) (family_of graphs) (Main ∷ others)
    graphs-fit = plan-fits told program keep (numbers_by keep program) (added_by keep program) others source some numbered

    graphs-sound : IsSound acting left (kinds_of graphs) (family_of graphs) (Main ∷ others)
    graphs-sound = (sound-by-steps acting left (kinds_of graphs) (family_of graphs) (Main ∷ others) graphs-fit).0
        (λ range here start n. subst (λ family. IsSoundAt acting left family range) same (range-sound range here) start.memory n)

    closed-at : (range : Range) → In range (Main ∷ others) → IsClosed (graphs range)
    closed-at Main here = graphs-closed told program keep (numbers_by keep program) (added_by keep program) source Main some (plan.just Main here)
    closed-at (Part entry exit) here = graphs-closed told program keep (numbers_by keep program) (added_by keep program) source (Part entry exit) (plan.entered entry exit here).0 (plan.just (Part entry exit) here)

    pub plan-sound : IsSoundFamily acting left graphs (Main ∷ others)
    plan-sound = record { closed = closed-at; family = graphs-fit; sound = graphs-sound }
