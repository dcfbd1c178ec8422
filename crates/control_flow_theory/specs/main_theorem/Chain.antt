-- From a source to the written program, over what lowering, the rules and rendering give: the whole
-- headline of this theory.
use Rattle.std.specs.Prelude.{ℕ, suc, ◌⊎◌, ◌≡◌, ◌<◌, ◌≤◌, ◌==◌, Bool, true, false, if◌then◌else◌, List, [], ◌∷◌, length, Option, Some, None, slice_get}
use Rattle.control_flow_theory.specs.runs.Machine.{meaning}
use Rattle.control_flow_theory.specs.language.Language.{Picker, If, By, ByCell, Stmt, Do, Choose, Loop, Perform, Go, GoDepending, NextSentence, ExitParagraph, ExitSection, ExitPerform, StopRun, Stmts, none, also, Arms, done, given, missing, Body, Nested, Performed, Program, Range, Main, Part}
use Rattle.control_flow_theory.specs.semantics.Doing.{Acting, Celled, alone}
use Rattle.control_flow_theory.specs.semantics.Source.{source_machine}
use Rattle.control_flow_theory.specs.semantics.Graph.{Label, Tree, tree, End, Pick, Jump, Return, Stop, Dead, Trees, no_more, more, body_of, end_of}
use Rattle.control_flow_theory.specs.semantics.Structural.{structural}
use Rattle.control_flow_theory.specs.language.Structured.{IsStructuredControl}
use Rattle.control_flow_theory.specs.semantics_agree.Same.{SameBehaviour}
use Rattle.control_flow_theory.specs.lowering.FlowFacts.{FlowFacts, IsTold, IsSource}
use Rattle.control_flow_theory.specs.lowering.Lower as lower
use Rattle.control_flow_theory.specs.lowering.Lowered.{nodes_of, lowered}
use Rattle.control_flow_theory.specs.lowering.Reached.{AreReached, kept_nodes}
use Rattle.control_flow_theory.specs.lowering.Renamed.{tree_anew}
use Rattle.control_flow_theory.specs.lowering.flow.Paths.{HasFaultyRun}
use Rattle.control_flow_theory.specs.lowering.flow.Entered.{FreelyComes, IsEntered, NamesWhatReturns}
use Rattle.control_flow_theory.specs.lowering.Laws.{KeepsApart}
use Rattle.control_flow_theory.specs.lowering.WellFormed.{tree_count, IsFirstDead, AreJustReached}
use Rattle.control_flow_theory.specs.lowering.flow.Called.{IsCalled}
use Rattle.control_flow_theory.specs.graph_rules.Fits as fits
use Rattle.control_flow_theory.specs.graph_rules.Walked.{is_in, In}
use Rattle.control_flow_theory.specs.graph_rules.Families.{Added, Never, Flag, Count, State, Exit, Has, MaySet}
use Rattle.control_flow_theory.specs.graph_rules.Reduced.{Node, Graph, tree_in, kind_at, size, Graphs, family_of, kinds_of}
use Rattle.control_flow_theory.specs.structuring.Closes.{IsClosed, closed_graph}
use Rattle.control_flow_theory.specs.rendering.Rendering.{Empty, Naming, Procedure, count_arms, standing, rendered}
use Rattle.control_flow_theory.specs.rendering.Procedures.{Writable, ActFits, TestFits, PickerFits, ControlFits, StmtsStand, stmts_call}
use Rattle.control_flow_theory.specs.rendering.Serving.{Serves}

-- the nodes of lowering as those that the rules reduce, with their cells numbered anew
abbrev pub graph_nodes : (ℕ → ℕ) → List lower.Node → List Node
graph_nodes number [] = []
graph_nodes number (one ∷ others) =
    record { label = one.key; tree = tree_anew number one.tree } ∷ graph_nodes number others

-- the graph of each range: its kept nodes, and its counters
abbrev pub lowered_graphs : FlowFacts → Program → (keep : Range → Label → Bool) →
    (numbers : Range → ℕ → ℕ) → (added : Range → List Added) → Graphs
lowered_graphs told program keep numbers added range = record {
  entry = (lowered told program).entry range;
  nodes = graph_nodes (numbers range) (kept_nodes (keep range) (nodes_of told program range));
  added = added range;
}

-- what is written of a range: the tree at the entry of its graph
abbrev pub procedure_of : Range → Graph → Procedure
procedure_of range graph =
    record {
      range = range;
      body = body_of (tree_in graph.nodes graph.entry);
      end = end_of (tree_in graph.nodes graph.entry);
    }

-- the procedures of the closed graphs, in this order
abbrev pub procedures_of : List Range → Graphs → List Procedure
procedures_of [] graphs = []
procedures_of (range ∷ ranges) graphs =
    procedure_of range (closed_graph (graphs range)) ∷ procedures_of ranges graphs

-- no range comes twice, and each that is performed in a range's level, by a free flow path, comes
-- after it
abbrev pub CallsStandLater : FlowFacts → Program → List Range → Type 0
CallsStandLater told program [] = Unit {0}
CallsStandLater told program (range ∷ ranges) =
    (is_in range ranges ≡ false)
    × ((entry exit : ℕ) → IsCalled told program range entry exit → In (Part entry exit) ranges)
    × CallsStandLater told program ranges

-- The cells that are read and written, whatever is performed and wherever a jump leads.
module _ (Reads Writes : ℕ → Type 0) where
  -- any range may be performed
  abbrev pub Anywhere : Range → Type 0
  Anywhere to = Unit {0}

  -- what chooses names only these cells, and is none itself
  abbrev pub PickerNames : Picker → Type 0
  PickerNames (If test) = fits.TestFits Anywhere Reads Writes test
  PickerNames (By chooser) = Unit {0}
  PickerNames (ByCell cell) = ⊥

  abbrev mutual
    -- the statement names only these cells
    pub StmtNames : Stmt → Type 0
    StmtNames (Do act) = fits.ActFits Anywhere Reads Writes act
    StmtNames (Choose picker arms) = PickerNames picker × ArmsName arms
    StmtNames (Loop control body) = fits.ControlFits Anywhere Reads Writes control × BodyNames body
    StmtNames (Perform entry exit) = Unit {0}
    StmtNames (Go to) = Unit {0}
    StmtNames (GoDepending to chooser) = Unit {0}
    StmtNames NextSentence = Unit {0}
    StmtNames ExitParagraph = Unit {0}
    StmtNames (ExitSection last) = Unit {0}
    StmtNames (ExitPerform cycle) = Unit {0}
    StmtNames StopRun = Unit {0}

    -- the statements name only these cells
    pub StmtsName : Stmts → Type 0
    StmtsName none = Unit {0}
    StmtsName (also stmt stmts) = StmtNames stmt × StmtsName stmts

    -- the arms name only these cells
    pub ArmsName : Arms → Type 0
    ArmsName done = Unit {0}
    ArmsName (given arm others) = StmtsName arm × ArmsName others
    ArmsName (missing others) = ArmsName others

    -- the loop's body names only these cells
    pub BodyNames : Body → Type 0
    BodyNames (Nested stmts) = StmtsName stmts
    BodyNames (Performed entry exit) = Unit {0}

  abbrev mutual
    -- the end of a tree names only these cells
    pub EndNames : End → Type 0
    EndNames (Pick picker arms) = PickerNames picker × TreesName arms
    EndNames (Jump to) = Unit {0}
    EndNames Return = Unit {0}
    EndNames Stop = Unit {0}
    EndNames Dead = Unit {0}

    -- the trees name only these cells
    pub TreesName : Trees → Type 0
    TreesName no_more = Unit {0}
    TreesName (more (tree body end) others) = StmtsName body × EndNames end × TreesName others

  -- the tree names only these cells
  abbrev pub TreeNames : Tree → Type 0
  TreeNames (tree body end) = StmtsName body × EndNames end

-- each node of the range names only cells of the range
abbrev pub NamesItsCells : Graphs → Range → Type 0
NamesItsCells graphs range = (label : Label) →
    TreeNames (Has (kinds_of graphs) range) (MaySet (kinds_of graphs) range)
    ((family_of graphs).node range label)

-- how a program is lowered: which ranges return, which nodes are kept, and in which order the
-- ranges come, main first
pub record IsPlan (told : FlowFacts) (program : Program) (keep : Range → Label → Bool)
    (others : List Range) : Type 0 where
  -- the table names the ranges that are entered and return, and none that doesn't return
  pub returning : NamesWhatReturns told program
  -- each range that the table names is one whose level comes to its end by a free flow path
  pub exact : (entry exit : ℕ) → told.returning entry exit ≡ true →
      FreelyComes told program (Part entry exit) exit []
  -- the nodes that are reached are kept
  pub reached : AreReached (lowered told program) keep
  -- in a range of the order no node is kept but those that are reached
  pub just : (range : Range) → In range (Main ∷ others) →
      AreJustReached told program range (keep range)
  -- each range of the order is of the program, and is entered by a free flow path
  pub entered : (entry exit : ℕ) → In (Part entry exit) (Main ∷ others) →
      (entry < length program.paragraphs) × IsEntered told program (Part entry exit)
  -- the ranges come in an order in which each performs later ones alone
  pub order : CallsStandLater told program (Main ∷ others)

-- the plan is one for the program, and its counters are numbered
pub record IsNumberedPlan (told : FlowFacts) (program : Program) (keep : Range → Label → Bool)
    (numbers : Range → ℕ → ℕ) (added : Range → List Added) (others : List Range) : Type 0 where
  -- it is a plan for the program
  pub plan : IsPlan told program keep others
  -- no two counters of a range have one number, and each that is named is among its cells
  pub apart : KeepsApart numbers
  -- the graph of each range names only its own cells
  pub names : (range : Range) → In range (Main ∷ others) →
      NamesItsCells (lowered_graphs told program keep numbers added) range

-- the first number, or else the second
abbrev pub or_first : Option ℕ → Option ℕ → Option ℕ
or_first (Some arms) others = Some arms
or_first None others = others

-- How many arms the first choice by the cell has that is there.
module _ (cell : ℕ) where
  -- the number of arms, where the choice is by the cell
  abbrev pub picker_arms : Picker → ℕ → Option ℕ
  picker_arms (If test) arms = None
  picker_arms (By chooser) arms = None
  picker_arms (ByCell by) arms = if by == cell then Some arms else None

  abbrev mutual
    -- the number of arms of the first choice by the cell in a statement
    pub stmt_arms : Stmt → Option ℕ
    stmt_arms (Do act) = None
    stmt_arms (Choose picker arms) =
        or_first (picker_arms picker (count_arms arms)) (arms_arms arms)
    stmt_arms (Loop control body) = body_arms body
    stmt_arms (Perform entry exit) = None
    stmt_arms (Go to) = None
    stmt_arms (GoDepending to chooser) = None
    stmt_arms NextSentence = None
    stmt_arms ExitParagraph = None
    stmt_arms (ExitSection last) = None
    stmt_arms (ExitPerform cycle) = None
    stmt_arms StopRun = None

    -- the number of arms of the first choice by the cell in these statements
    pub stmts_arms : Stmts → Option ℕ
    stmts_arms none = None
    stmts_arms (also stmt stmts) = or_first (stmt_arms stmt) (stmts_arms stmts)

    -- the number of arms of the first choice by the cell within these arms
    pub arms_arms : Arms → Option ℕ
    arms_arms done = None
    arms_arms (given arm others) = or_first (stmts_arms arm) (arms_arms others)
    arms_arms (missing others) = arms_arms others

    -- the number of arms of the first choice by the cell in a loop's body
    pub body_arms : Body → Option ℕ
    body_arms (Nested stmts) = stmts_arms stmts
    body_arms (Performed entry exit) = None

-- where a choice by the cell is in the body, of so many arms, which are so many at most, it may
-- choose among them, and 0 to the number of its arms may be moved to the cell
abbrev pub ChoiceServed : Writable → Range → (body : Stmts) → (most : ℕ) → (cell : ℕ) → Type 0
ChoiceServed kinds range body most cell =
    (arms : ℕ) → stmts_arms cell body ≡ Some arms → arms ≤ most →
    ((value : ℕ) → value ≤ arms → kinds.sets range cell value ≡ true)
    × (kinds.chooses range cell arms ≡ true)

-- what the rules write of an added cell may be written; of a count they write nothing
abbrev pub KindServed : Writable → Range → (body : Stmts) → (most : ℕ) → (cell : ℕ) → Added →
    Type 0
KindServed kinds range body most cell Never = kinds.compares range cell 1 ≡ true
KindServed kinds range body most cell Flag = (kinds.sets range cell 0 ≡ true)
    × (kinds.sets range cell 1 ≡ true) × (kinds.compares range cell 1 ≡ true)
KindServed kinds range body most cell Count = Unit {0}
KindServed kinds range body most cell State =
    (kinds.compares range cell 0 ≡ true) × ChoiceServed kinds range body most cell
KindServed kinds range body most cell Exit =
    (kinds.aboves range cell ≡ true) × ChoiceServed kinds range body most cell

-- each added cell of a range that is closed to this graph, of so many nodes
abbrev pub CellsServed : Writable → Range → Graph → (nodes : ℕ) → Type 0
CellsServed kinds range closed nodes =
    (cell : ℕ) (kind : Added) → kind_at closed.added cell ≡ Some kind →
    KindServed kinds range (body_of (tree_in closed.nodes closed.entry)) (suc nodes) cell kind

-- each of the ranges that are written
abbrev pub EachCellServed : Writable → List Range → Graphs → Type 0
EachCellServed kinds order graphs = (range : Range) → In range order →
    CellsServed kinds range (closed_graph (graphs range)) (size (graphs range).nodes)

-- there is nothing in the first arm
abbrev pub StartsEmpty : Arms → Type 0
StartsEmpty done = Unit {0}
StartsEmpty (given none others) = Unit {0}
StartsEmpty (given (also stmt stmts) others) = ⊥
StartsEmpty (missing others) = Unit {0}

-- what the rules may make of the arms of a choice: as many, and nothing of a first one that is Dead
pub record MayBecome (trees : Trees) (arms : Arms) : Type 0 where
  -- there are as many arms
  pub as_many : count_arms arms ≡ tree_count trees
  -- where the first is Dead, there is nothing in it
  pub dead : IsFirstDead trees → StartsEmpty arms

-- The parts that are in a tree may be written, whatever is performed, wherever a jump leads and
-- whatever the arms become.
module _ (naming : Naming) (kinds : Writable) (procedures : List Procedure) (range : Range) where
  -- a choice among these trees may be written
  abbrev pub PickServed : Picker → Trees → Type 0
  PickServed (If test) trees = TestFits naming kinds procedures range test
  PickServed (By chooser) trees = (arms : Arms) → MayBecome trees arms →
      kinds.choosers chooser (standing (naming.empty range (By chooser)) 0 arms) ≡ true
  PickServed (ByCell cell) trees = ⊥

  abbrev mutual
    -- the parts of a statement may be written
    pub StmtServed : Stmt → Type 0
    StmtServed (Do act) = ActFits naming kinds procedures range act
    StmtServed (Choose picker arms) =
        PickerFits naming kinds procedures range picker
        (standing (naming.empty range picker) 0 arms)
        × ArmsServed arms
    StmtServed (Loop control body) =
        ControlFits naming kinds procedures range control × BodyServed body
    StmtServed (Perform entry exit) = Unit {0}
    StmtServed (Go to) = Unit {0}
    StmtServed (GoDepending to chooser) = Unit {0}
    StmtServed NextSentence = Unit {0}
    StmtServed ExitParagraph = Unit {0}
    StmtServed (ExitSection last) = Unit {0}
    StmtServed (ExitPerform cycle) = Unit {0}
    StmtServed StopRun = Unit {0}

    -- the parts of these statements may be written
    pub StmtsServed : Stmts → Type 0
    StmtsServed none = Unit {0}
    StmtsServed (also stmt stmts) = StmtServed stmt × StmtsServed stmts

    -- the parts of these arms may be written
    pub ArmsServed : Arms → Type 0
    ArmsServed done = Unit {0}
    ArmsServed (given arm others) = StmtsServed arm × ArmsServed others
    ArmsServed (missing others) = ArmsServed others

    -- the parts of a loop's body may be written
    pub BodyServed : Body → Type 0
    BodyServed (Nested stmts) = StmtsServed stmts
    BodyServed (Performed entry exit) = Unit {0}

  abbrev mutual
    -- the parts of a tree's end may be written
    pub EndServed : End → Type 0
    EndServed (Pick picker arms) = PickServed picker arms × TreesServed arms
    EndServed (Jump to) = Unit {0}
    EndServed Return = Unit {0}
    EndServed Stop = Unit {0}
    EndServed Dead = Unit {0}

    -- the parts of these trees may be written
    pub TreesServed : Trees → Type 0
    TreesServed no_more = Unit {0}
    TreesServed (more (tree body end) others) =
        StmtsServed body × EndServed end × TreesServed others

  -- the parts of a tree may be written
  abbrev pub TreeServed : Tree → Type 0
  TreeServed (tree body end) = StmtsServed body × EndServed end

-- what is in the graphs of these ranges may be written
abbrev pub GraphsServed : Naming → Writable → List Range → Graphs → Type 0
GraphsServed naming kinds order graphs = (range : Range) → In range order → (label : Label) →
    TreeServed naming kinds (procedures_of order graphs) range ((family_of graphs).node range label)

-- each procedure but the first is performed by an earlier one
abbrev pub EachIsPerformed : List Procedure → Type 0
EachIsPerformed procedures = (number : ℕ) (procedure : Procedure) →
    slice_get procedures number ≡ Some procedure → 1 ≤ number →
    (from : ℕ) × (caller : Procedure) × (from < number) × (slice_get procedures from ≡ Some caller)
    × (stmts_call procedure.range caller.body ≡ true)

-- A PERFORM of the range is in the tree.
abbrev mutual
  pub TreeCalls : Range → Tree → Type 0
  TreeCalls range (tree body end) = (stmts_call range body ≡ true) ⊎ EndCalls range end

  -- a tree's end performs the range
  pub EndCalls : Range → End → Type 0
  EndCalls range (Pick picker arms) = TreesCall range arms
  EndCalls range (Jump to) = ⊥
  EndCalls range Return = ⊥
  EndCalls range Stop = ⊥
  EndCalls range Dead = ⊥

  -- one of these trees performs the range
  pub TreesCall : Range → Trees → Type 0
  TreesCall range no_more = ⊥
  TreesCall range (more first others) = TreeCalls range first ⊎ TreesCall range others

-- one of the nodes performs the range
abbrev pub NodesCall : Range → List Node → Type 0
NodesCall range [] = ⊥
NodesCall range (node ∷ nodes) = TreeCalls range node.tree ⊎ NodesCall range nodes

-- what a node of a closed graph performs, the one node that is left performs
abbrev pub ClosingLosesNoPerform : Type 0
ClosingLosesNoPerform =
    (range : Range) (graph : Graph) → IsClosed graph → NodesCall range graph.nodes →
    stmts_call range (body_of (tree_in (closed_graph graph).nodes (closed_graph graph).entry))
    ≡ true

-- each range but the first is performed by a node of an earlier one
abbrev pub CalledFromEarlier : List Range → Graphs → Type 0
CalledFromEarlier order graphs =
    (number : ℕ) (range : Range) → slice_get order number ≡ Some range → 1 ≤ number →
    (from : ℕ) × (caller : Range) × (from < number) × (slice_get order from ≡ Some caller)
    × NodesCall range (graphs caller).nodes

-- each closed graph is performed, where each graph is
abbrev pub ClosedGraphsArePerformed : Type 0
ClosedGraphsArePerformed = (order : List Range) (graphs : Graphs) →
    ((range : Range) → In range order → IsClosed (graphs range)) → CalledFromEarlier order graphs →
    EachIsPerformed (procedures_of order graphs)

-- the bodies hold parts of the program and words on cells that are served, and each choice by a
-- cell is where the cell isn't zero
abbrev pub EachStands : Naming → Writable → List Procedure → Type 0
EachStands naming kinds procedures = (number : ℕ) (procedure : Procedure) →
    slice_get procedures number ≡ Some procedure →
    StmtsStand naming kinds procedures procedure.range procedure.body

-- where what is in the lowered graphs may be written, and what the rules write of each added
-- cell, the closed graphs can be written
abbrev pub ClosedGraphsStand : Type 0
ClosedGraphsStand =
    (naming : Naming) (kinds : Writable) (told : FlowFacts) (program : Program)
    (keep : Range → Label → Bool) (numbers : Range → ℕ → ℕ) (added : Range → List Added)
    (others : List Range) →
    EachCellServed kinds (Main ∷ others) (lowered_graphs told program keep numbers added) →
    IsSource told program →
    0 < length program.paragraphs → IsNumberedPlan told program keep numbers added others →
    GraphsServed naming kinds (Main ∷ others) (lowered_graphs told program keep numbers added) →
    EachStands naming kinds
    (procedures_of (Main ∷ others) (lowered_graphs told program keep numbers added))

-- the headline: lowered by this plan, closed by the rules and written, a program that isn't faulty
-- is structured and behaves as it did
abbrev pub TheHeadline : {Memory Other : Type 0} → (Celled Memory → Other → Type 0) → Type 0 →
    Type 0 → Type 0
TheHeadline {Memory} {Other} Carries Left World =
    (acting : Acting Memory) (left : Memory → Left) (first : World → Memory) (result : Acting Other)
    (other_left : Other → Left) (other_first : World → Other) (naming : Naming) (kinds : Writable)
    (told : FlowFacts) (program : Program) (keep : Range → Label → Bool) (numbers : Range → ℕ → ℕ)
    (added : Range → List Added) (others : List Range) →
    IsTold told acting → IsSource told program → 0 < length program.paragraphs →
    (HasFaultyRun told program → ⊥) →
    IsNumberedPlan told program keep numbers added others →
    let procedures =
    procedures_of (Main ∷ others) (lowered_graphs told program keep numbers added) in
    EachStands naming kinds procedures → EachIsPerformed procedures →
    Serves acting left first result other_left other_first Carries naming kinds →
    IsStructuredControl (rendered naming procedures)
    × SameBehaviour (λ world. meaning (source_machine (alone acting) left program) (first world))
    (λ world. structural (alone result) other_left (rendered naming procedures)
    (other_first world))

-- for any parts of a source there is a structured result of the same behaviour, whose parts do the
-- same and keep cells beside
abbrev pub SomeResultBehaves : Type 0 → Type 0 → Type 0 → Type 0
SomeResultBehaves Memory Left World =
    (acting : Acting Memory) (left : Memory → Left) (first : World → Memory)
    (empty : Range → Picker → ℕ → Empty)
    (told : FlowFacts) (program : Program) (keep : Range → Label → Bool) (numbers : Range → ℕ → ℕ)
    (added : Range → List Added) (others : List Range) →
    IsTold told acting → IsSource told program → 0 < length program.paragraphs →
    (HasFaultyRun told program → ⊥) →
    IsNumberedPlan told program keep numbers added others →
    let procedures =
    procedures_of (Main ∷ others) (lowered_graphs told program keep numbers added) in
    CalledFromEarlier (Main ∷ others) (lowered_graphs told program keep numbers added) →
    (result : Acting (Celled Memory)) × (naming : Naming) × (naming.empty ≡ empty)
    × IsStructuredControl (rendered naming procedures)
    × SameBehaviour (λ world. meaning (source_machine (alone acting) left program) (first world))
    (λ world. structural (alone result) (λ memory. left memory.own) (rendered naming procedures)
    (record { own = first world; cells = λ range cell. 0 }))
