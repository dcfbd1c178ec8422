-- The premises in records, and that they can be met.
use Rattle.std.proofs.Common.{◌∷◌, refl}
use Rattle.control_flow_theory.specs.language.Language.{Main, Program}
use Rattle.control_flow_theory.specs.semantics.Doing.{Celled}
use Rattle.control_flow_theory.specs.graph_rules.Families.{Has, MaySet}
use Rattle.control_flow_theory.specs.graph_rules.Reduced.{family_of, kinds_of, size}
use Rattle.control_flow_theory.specs.structuring.Closes.{closed_graph}
use Rattle.control_flow_theory.specs.main_theorem.MainTheorem.{Plan, CanBeRestructured, graphs_by, procedures_by, Parts, WhatIsWrittenBehavesAlike, SomePartsAgree}
use Rattle.control_flow_theory.specs.main_theorem.Chain.{IsNumberedPlan}
use Rattle.control_flow_theory.specs.main_theorem.Numbering.{numbers_by, added_by}
use Rattle.control_flow_theory.proofs.main_theorem_lemmas.graphs.Numbering.{counters-numbered}
use Rattle.control_flow_theory.proofs.rendering_lemmas.Serviceable.{whole, names, whole-serves}
use Rattle.control_flow_theory.proofs.main_theorem_lemmas.graphs.LoweredStand.{closed-graphs-stand, closed-at}
use Rattle.control_flow_theory.proofs.main_theorem_lemmas.calls.PerformedProcedures.{closed-performed}
use Rattle.control_flow_theory.proofs.main_theorem_lemmas.calls.CalledEarlier.{order-is-of-graphs}
use Rattle.control_flow_theory.proofs.main_theorem_lemmas.Chain.{headline-over-control}
use Rattle.control_flow_theory.proofs.main_theorem_lemmas.SomeResult.{every-kind, every-cell, tree-served}

numbered : (plan : Plan) (program : Program) → CanBeRestructured plan program →
    IsNumberedPlan plan.told program plan.keep (numbers_by plan.keep program) (added_by plan.keep program) plan.others
numbered plan program can =
    let all = counters-numbered plan.told program plan.keep can.source in
    record { plan = can.planned; apart = all.0; names = λ range here. all.1 range (can.planned.just range here) }

pub written-behaves : {Memory Other Left World : Type 0} (Carries : Celled Memory → Other → Type 0) → WhatIsWrittenBehavesAlike {Memory = Memory} {Other = Other} Carries Left World
written-behaves Carries = λ parts plan program can agree.
    let p = numbered plan program can in
    headline-over-control parts.acting parts.left parts.first parts.result parts.other_left parts.other_first Carries parts.naming parts.kinds
    plan.told program plan.keep (numbers_by plan.keep program) (added_by plan.keep program) plan.others agree.told can.source can.some can.fair p
    (closed-graphs-stand parts.naming parts.kinds plan.told program plan.keep (numbers_by plan.keep program) (added_by plan.keep program) plan.others agree.cells can.source can.some p agree.stand)
    (closed-performed (Main ∷ plan.others) (graphs_by plan program)
    (closed-at parts.naming parts.kinds plan.told program plan.keep (numbers_by plan.keep program) (added_by plan.keep program) plan.others agree.cells can.source can.some p agree.stand)
    (order-is-of-graphs plan.told program plan.keep (numbers_by plan.keep program) (added_by plan.keep program) plan.others can.source can.chooses can.some p can.called))
    agree.serves

pub some-parts : {Memory Left World : Type 0} → SomePartsAgree Memory Left World
some-parts {Memory} {Left} {World} = λ acting left first empty plan program can is_told.
    let naming = names acting left first every-kind empty in
    let parts : Parts Memory (Celled Memory) Left World = record {
      acting = acting;
      left = left;
      first = first;
      result = whole acting left first every-kind empty;
      other_left = λ memory. left memory.own;
      other_first = λ world. record { own = first world; cells = λ range cell. 0 };
      naming = naming;
      kinds = every-kind;
    } in
    let graphs = graphs_by plan program in (
      parts,
      refl,
      refl,
      refl,
      refl,
      record {
        told = is_told;
        serves = whole-serves acting left first every-kind empty;
        cells = λ range here. every-cell range (closed_graph (graphs range)) (size (graphs range).nodes);
        stand = λ range here label. tree-served naming (procedures_by plan program) range (Has (kinds_of graphs) range) (MaySet (kinds_of graphs) range) ((family_of graphs).node range label) ((numbered plan program can).names range here label);
      },
    )
