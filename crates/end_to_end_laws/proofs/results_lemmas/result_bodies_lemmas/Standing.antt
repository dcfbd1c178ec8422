-- The procedures that a program is split into stand by what takes its parts.
use Rattle.std.proofs.Common.{ℕ, suc, ◌∷◌, sym, subst}
use Rattle.cob_tree.specs.declared.program.Program.{Program}
use Rattle.control_flow_theory.specs.language.Control.{control_of}
use Rattle.control_flow_theory.specs.language.Language as language
use Rattle.control_flow_theory.specs.language.Language.{Stmts, Range, Main}
use Rattle.control_flow_theory.specs.semantics.Graph.{body_of}
use Rattle.control_flow_theory.specs.lowering.FlowFacts.{FlowFacts}
use Rattle.control_flow_theory.specs.graph_rules.Families.{Added, Never, Flag, Count, State, Exit}
use Rattle.control_flow_theory.specs.graph_rules.Reduced.{Graphs, tree_in, size}
use Rattle.control_flow_theory.specs.structuring.Closes.{closed_graph}
use Rattle.program_facts.specs.completion.FlowFacts.{flow_facts_of}
use Rattle.control_flow_theory.specs.rendering.Rendering.{Naming}
use Rattle.control_flow_theory.specs.rendering.Procedures.{Writable}
use Rattle.control_flow_theory.specs.main_theorem.Chain.{IsNumberedPlan, ChoiceServed, KindServed, EachCellServed, EachStands, GraphsServed}
use Rattle.control_flow_theory.specs.main_theorem.MainTheorem.{Plan, graphs_by, procedures_by}
use Rattle.control_flow_theory.specs.main_theorem.Numbering.{numbers_by, added_by}
use Rattle.control_flow_theory.proofs.main_theorem_lemmas.graphs.LoweredStand.{closed-graphs-stand}
use Rattle.control_flow_theory.proofs.main_theorem_lemmas.graphs.Numbering.{counters-numbered}
use Rattle.control_flow_theory.specs.expressible_graphs.Served.{ProgramIsServed}
use Rattle.control_flow_theory.specs.expressible_graphs.Laws.{CountersAreServed}
use Rattle.control_flow_theory.proofs.expressible_graphs_lemmas.Graphs.{served-graphs}
use Rattle.cobol_theory.proofs.served_programs_lemmas.Taken.{program-served}
use Rattle.pending_returns.specs.declared.facts.Summary.{Summary}
use Rattle.cobol_theory.specs.cobol_headline.Alike.{Writing, naming_of, writable_of}
use Rattle.procedure_split.specs.Splitting.{IsSplit}
use Rattle.procedure_split.specs.split_behaviour.Alike.{IsWellMade}
use Rattle.pending_returns.specs.FaultFree.{IsFaultFree}
use Rattle.procedure_split.proofs.split_behaviour_lemmas.Joined as split_program
use Rattle.end_to_end_laws.specs.results.result_bodies.Bodies.{TakesBoth}
use Rattle.end_to_end_laws.specs.results.result_bodies.Laws.{ProceduresStand, SplitProceduresStand}
use Rattle.end_to_end_laws.proofs.results_lemmas.result_bodies_lemmas.Takes.{program-taken}

-- ---- words on cells

module _ (own other kinds : Writable) (takes : TakesBoth own other kinds) where
  choice-taken : (range : Range) (body : Stmts) (most cell : ℕ) →
      ChoiceServed own range body most cell → ChoiceServed kinds range body most cell
  choice-taken range body most cell h = λ arms is few.
      let here = h arms is few in (
        (λ value within. takes.sets range cell value (here.0 value within)),
        takes.chooses range cell arms here.1,
      )

  kind-taken : (range : Range) (body : Stmts) (most cell : ℕ) (kind : Added) →
      KindServed own range body most cell kind → KindServed kinds range body most cell kind
  kind-taken range body most cell Never h = takes.compares range cell 1 h
  kind-taken range body most cell Flag h =
      (takes.sets range cell 0 h.0, takes.sets range cell 1 h.1, takes.compares range cell 1 h.2)
  kind-taken range body most cell Count h = tt
  kind-taken range body most cell State h =
      (takes.compares range cell 0 h.0, choice-taken range body most cell h.1)
  kind-taken range body most cell Exit h =
      (takes.aboves range cell h.0, choice-taken range body most cell h.1)

-- ---- procedures

module _ (program made : Program) (summary : Summary) (well : IsWellMade program)
    (flows : IsFaultFree program summary) (split : IsSplit program summary made) where
  abbrev control : language.Program
  control = control_of program

  abbrev plan : Plan
  plan = split_program.plan program made summary well flows split

  abbrev writing : Writing
  writing = split_program.writing program made summary well flows split

  abbrev graphs : Graphs
  graphs = graphs_by plan control

  abbrev naming : Naming
  naming = naming_of program writing

  abbrev own : Writable
  own = writable_of program writing

  abbrev told : FlowFacts
  told = flow_facts_of program.files split.plan.returning

  numbered : IsNumberedPlan plan.told control plan.keep (numbers_by plan.keep control)
      (added_by plan.keep control) plan.others
  numbered =
      let is = (split_program.planned program made summary well flows split).planned in
      let all = counters-numbered plan.told control plan.keep
      (split_program.is-source program made summary well flows split) in
      record {
        plan = is;
        apart = all.0;
        names = λ range here. all.1 range (is.just range here);
      }

  -- the program's own kinds take its parts
  own-served : (range : Range) → ProgramIsServed naming own told range control
  own-served range =
      program-served program writing range well.proper well.fit
      (split_program.keeps program made summary well flows split) well.whole

  module _ (other kinds : Writable) (takes : TakesBoth own other kinds)
      (served : (range : Range) → ProgramIsServed naming other told range control) where
    both-served : (range : Range) → ProgramIsServed naming kinds plan.told range control
    both-served range =
        subst (λ t. ProgramIsServed naming kinds t range control)
        (sym (split_program.planned program made summary well flows split).told)
        (program-taken naming own other kinds takes told range control (own-served range)
        (served range))

    cells-served : EachCellServed kinds (Main ∷ plan.others) graphs
    cells-served = λ range here cell kind is.
        let closed = closed_graph (graphs range) in
        kind-taken own other kinds takes range (body_of (tree_in closed.nodes closed.entry))
        (suc (size (graphs range).nodes)) cell kind
        ((split_program.can-be program made summary well flows split).cells range here cell kind
        is)

    counters : CountersAreServed kinds (Main ∷ plan.others) graphs
    counters = λ range here cell is.
        let one = split_program.counters program made summary well flows split range here cell is in
        (takes.counts range cell one.0, takes.aboves range cell one.1)

    parts-served : GraphsServed naming kinds (Main ∷ plan.others) graphs
    parts-served =
        served-graphs naming kinds plan control
        (split_program.is-source program made summary well flows split)
        (split_program.planned program made summary well flows split).planned.just
        (λ range here. both-served range) counters

    each-stands : EachStands naming kinds (procedures_by plan control)
    each-stands =
        closed-graphs-stand naming kinds plan.told control plan.keep (numbers_by plan.keep control)
        (added_by plan.keep control) plan.others cells-served
        (split_program.is-source program made summary well flows split)
        (split_program.some program made summary well flows split) numbered parts-served

  procedures-stand : ProceduresStand program writing
  procedures-stand other kinds takes served = each-stands other kinds takes served

pub split-stands : SplitProceduresStand
split-stands program made summary well flows split = (
  plan program made summary well flows split,
  split_program.is-written program made summary well flows split,
  procedures-stand program made summary well flows split,
)
