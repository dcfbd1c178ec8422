-- How many arms the choices of procedures have.
use Rattle.std.specs.Prelude.{ℕ, suc, ◌≡◌, ◌≤◌, ◌<◌, ◌==◌, true, ◌∷◌, length, Some, slice_get}
use Rattle.control_flow_theory.specs.language.Language.{Chooser, Program, Range, Main}
use Rattle.control_flow_theory.specs.language.Structured.{StmtsNest}
use Rattle.control_flow_theory.specs.lowering.FlowFacts.{IsSource}
use Rattle.control_flow_theory.specs.graph_rules.Families.{Added, Never, Flag, Count, State, Exit}
use Rattle.control_flow_theory.specs.graph_rules.Reduced.{kind_at, size, tree_in}
use Rattle.control_flow_theory.specs.graph_rules.Walked.{In}
use Rattle.control_flow_theory.specs.semantics.Graph.{body_of}
use Rattle.control_flow_theory.specs.structuring.Closes.{closed_graph}
use Rattle.control_flow_theory.specs.rendering.Rendering.{Naming, Procedure}
use Rattle.control_flow_theory.specs.rendering.Procedures.{Writable}
use Rattle.control_flow_theory.specs.main_theorem.Chain.{IsPlan, stmts_arms}
use Rattle.control_flow_theory.specs.main_theorem.MainTheorem.{Plan, graphs_by, procedures_by}
use Rattle.fixed_point.specs.Choices.{ChoiceFits}
use Rattle.fixed_point.specs.Fixed.{stands_in}
use Rattle.fixed_point.specs.Written.{StmtsChoose}

-- a choice by a chooser has as many arms as this tells of it, and one by a cell as that does
abbrev pub counting : (Chooser → ℕ) → (Range → ℕ → ℕ) → Writable
counting width most = record {
  simples = λ simple. true;
  conds = λ cond. true;
  choosers = λ chooser arms. length arms == width chooser;
  amounts = λ amount. true;
  sets = λ range cell value. true;
  compares = λ range cell value. true;
  counts = λ range cell. true;
  aboves = λ range cell. true;
  chooses = λ range cell arms. arms == most range cell;
}

-- choices are by such a cell
abbrev pub IsChosenBy : Added → Type 0
IsChosenBy Never = ⊥
IsChosenBy Flag = ⊥
IsChosenBy Count = ⊥
IsChosenBy State = Unit {0}
IsChosenBy Exit = Unit {0}

-- the numbers tell how many arms the first choice by each cell has, where these are no more than a
-- graph's nodes and one
abbrev pub TellsArms : Plan → Program → (Range → ℕ → ℕ) → Type 0
TellsArms plan program most = (range : Range) → In range (Main ∷ plan.others) → (cell : ℕ) →
    (kind : Added) → kind_at (closed_graph (graphs_by plan program range)).added cell ≡ Some kind →
    IsChosenBy kind → (arms : ℕ) →
    stmts_arms cell (body_of (tree_in (closed_graph (graphs_by plan program range)).nodes
    (closed_graph (graphs_by plan program range)).entry)) ≡ Some arms →
    arms ≤ suc (size (graphs_by plan program range).nodes) → most range cell ≡ arms

-- each procedure of a source nests, performing procedures, and each of its choices has so many arms
abbrev pub ProceduresAreCounted : Type 0
ProceduresAreCounted =
    (naming : Naming) (most : Range → ℕ → ℕ) (plan : Plan) (program : Program) →
    IsSource plan.told program → 0 < length program.paragraphs →
    IsPlan plan.told program plan.keep plan.others → TellsArms plan program most →
    (number : ℕ) (procedure : Procedure) →
    slice_get (procedures_by plan program) number ≡ Some procedure →
    StmtsNest (λ entry exit. stands_in (procedures_by plan program) entry exit ≡ true)
    procedure.body
    × StmtsChoose (ChoiceFits naming (counting plan.told.width most)
    (procedures_by plan program) procedure.range) procedure.body
