-- What holds of sound bodies. A choice by a cell is sound where it has two arms or more: none of
-- the rules makes one that has fewer.
use Rattle.std.specs.Prelude.{ℕ, ◌≡◌, Bool, Some, slice_get}
use Rattle.control_flow_theory.specs.language.Language.{Simple, Program}
use Rattle.control_flow_theory.specs.rendering.Rendering.{Procedure}
use Rattle.control_flow_theory.specs.graph_rules.Reduced.{Graph}
use Rattle.control_flow_theory.specs.structuring.Closes.{closed_graph}
use Rattle.control_flow_theory.specs.main_theorem.MainTheorem.{Plan, procedures_by}
use Rattle.round_trip.specs.fitting_statements.sound_bodies.Sound.{two_arms, StmtsAreSound, ParagraphsAreSound}
use Rattle.round_trip.specs.fitting_statements.sound_bodies.Trees.{NodesAreSound}

-- what the rules leave of a graph that is sound is sound
abbrev pub RulesKeepSoundness : Type 0
RulesKeepSoundness =
    (begins : Simple → Bool) (graph : Graph) → NodesAreSound begins two_arms graph.nodes →
    NodesAreSound begins two_arms (closed_graph graph).nodes

-- the procedures of a source that is sound are sound
abbrev pub ProceduresAreSound : Type 0
ProceduresAreSound =
    (begins : Simple → Bool) (plan : Plan) (program : Program) →
    ParagraphsAreSound begins two_arms program.paragraphs →
    (number : ℕ) (procedure : Procedure) →
    slice_get (procedures_by plan program) number ≡ Some procedure →
    StmtsAreSound begins two_arms procedure.body
