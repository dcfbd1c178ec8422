-- What holds of the rules: the walk by recursion is the walk step by step, each rule keeps what a
-- walk does, and a shaped family does what it did.
use Rattle.std.specs.Prelude.{ℕ, ◌≡◌, ◌≢◌, ◌↔◌, ◌+◌, ◌*◌, Bool, true, List, Some, [], ◌∷◌, None}
use Rattle.control_flow_theory.specs.runs.Run.{Over, Covers}
use Rattle.control_flow_theory.specs.semantics.Outcome.{Lost}
use Rattle.control_flow_theory.specs.runs.Tied.{Tied}
use Rattle.control_flow_theory.specs.runs.Machine.{meaning}
use Rattle.control_flow_theory.specs.language.Language.{Range, Stmts, Test, Main}
use Rattle.control_flow_theory.specs.semantics.Doing.{Acting, Celled}
use Rattle.control_flow_theory.specs.semantics.Graph.{Label, End, Family, Tree, body_of, end_of, IsLast}
use Rattle.control_flow_theory.specs.semantics.Walk.{walk_machine, main_machine}
use Rattle.control_flow_theory.specs.graph_rules.Charged.{Paid, Matched}
use Rattle.control_flow_theory.specs.graph_rules.Costs.{cost, parted}
use Rattle.control_flow_theory.specs.graph_rules.Walked.{In, walked, walked_from}
use Rattle.control_flow_theory.specs.graph_rules.Joins.{Joined, Pruned, JoinsTree}
use Rattle.control_flow_theory.specs.graph_rules.Inlines.{Inlined, InlinesTree}
use Rattle.control_flow_theory.specs.graph_rules.Loops.{Keeper, Endless, Looped, Tested, Flagged, LoopsTree, tested_node}
use Rattle.control_flow_theory.specs.graph_rules.Families.{Kinds, Has, IsFamily, Ready, Extends, IsSound, Never}
use Rattle.control_flow_theory.specs.language.Items.{before}
use Rattle.control_flow_theory.specs.graph_rules.Shapes.{Live, end_at, NoTarget, Only, joined, joined_once, inlined, other_targets, flat}
use Rattle.control_flow_theory.specs.graph_rules.Reduced.{Node, Graph, Graphs, LeadsToNodes, rule_step, shaped, family_of, kinds_of, Form, form_of, all_shaped}

module _ (Memory Left : Type 0) where
  -- the walk by recursion takes exactly the units that its steps cost
  abbrev pub WalkTakesItsUnits : Type 0
  WalkTakesItsUnits =
      (acting : Acting Memory) (left : Memory → Left) (kinds : Kinds) (family : Family)
      (order : List Range) → IsFamily kinds family order → (range : Range) → In range order →
      Paid (walked acting left family order range) (walk_machine acting left family range)
      (cost acting) parted

  -- the walk of a range by recursion and the one step by step are tied
  abbrev pub WalksAreTied : Type 0
  WalksAreTied =
      (acting : Acting Memory) (left : Memory → Left) (kinds : Kinds) (family : Family)
      (order : List Range) → IsFamily kinds family order → (range : Range) → In range order →
      Tied (walked acting left family order range) (meaning (walk_machine acting left family range))

  -- The second family does what the first does: from any range and any ready memory, a walk of m
  -- units in either is covered by one of
  -- 8 * (m + 1) units in the other, and it is sound.
  abbrev pub DoesTheSame : Acting Memory → (Memory → Left) → Kinds → Family → Family → List Range →
      Type 0
  DoesTheSame acting left kinds g h order =
      IsSound acting left kinds h order
      × ((range : Range) → In range order →
      Matched 8 (walked_from acting left (λ (start : Ready Memory kinds). start.memory)
      g order range)
      (walked_from acting left (λ (start : Ready Memory kinds). start.memory) h order range))

  -- where choices have become statements, the walks do the same
  abbrev pub JoinKeeps : Type 0
  JoinKeeps = (acting : Acting Memory) (left : Memory → Left) (kinds : Kinds) (g h : Family)
      (order : List Range) → IsFamily kinds g order → IsFamily kinds h order →
      IsSound acting left kinds g order →
      (reached : Range → Label → Bool) → Joined (λ r l. reached r l ≡ true) g h →
      DoesTheSame acting left kinds g h order

  -- nodes to which no jump leads may be left out
  abbrev pub PruneKeeps : Type 0
  PruneKeeps =
      (acting : Acting Memory) (left : Memory → Left) (kinds : Kinds) (g h : Family)
      (order : List Range) → IsFamily kinds g order → IsFamily kinds h order →
      IsSound acting left kinds g order →
      (reached : Range → Label → Bool) → Pruned (λ r l. reached r l ≡ true) g h →
      DoesTheSame acting left kinds g h order

  -- where a node has taken the place of the jumps to it, the walks do the same
  abbrev pub InlineKeeps : Type 0
  InlineKeeps =
      (acting : Acting Memory) (left : Memory → Left) (kinds : Kinds) (g h : Family)
      (order : List Range) → IsFamily kinds g order → IsFamily kinds h order →
      IsSound acting left kinds g order →
      (range : Range) (label : Label) → Inlined range label g h →
      DoesTheSame acting left kinds g h order

  -- where a node has become a loop that is tested before or after, the walks do the same
  abbrev pub TestedKeeps : Type 0
  TestedKeeps =
      (acting : Acting Memory) (left : Memory → Left) (kinds : Kinds) (g h : Family)
      (order : List Range) → IsFamily kinds g order → IsFamily kinds h order →
      IsSound acting left kinds g order →
      (after turned : Bool) (test : Test) (range : Range) (label : Label) (out : End) (body : Stmts)
      → Tested after turned test range label out body g h →
      DoesTheSame acting left kinds g h order

  -- the cell of an endless loop is one that never changes
  abbrev pub LoopKeeps : Type 0
  LoopKeeps = (acting : Acting Memory) (left : Memory → Left) (kinds more : Kinds) (g h : Family)
      (order : List Range) → Extends kinds more → IsFamily kinds g order → IsFamily more h order →
      IsSound acting left kinds g order →
      (keeper : Keeper) (cell : ℕ) (range : Range) (label : Label) (out : End) (body : Stmts) →
      (keeper ≡ Endless → more range cell ≡ Some Never) →
      Looped keeper cell range label out body g h order → DoesTheSame acting left more g h order

  -- memories that agree on the program's own and on these cells
  abbrev pub SameCells : Kinds → Celled Memory → Celled Memory → Type 0
  SameCells kinds s t = (s.own ≡ t.own)
      × ((range : Range) (cell : ℕ) → Has kinds range cell →
      s.cells range cell ≡ t.cells range cell)

  -- a walk depends on nothing but the program's memory and the cells of its family
  abbrev pub WalkSeesItsCells : Type 0
  WalkSeesItsCells =
      (acting : Acting Memory) (left : Memory → Left) (kinds : Kinds) (family : Family)
      (order : List Range) → IsFamily kinds family order →
      (range : Range) (s t : Celled Memory) (units : ℕ) → SameCells kinds s t →
      walked acting left family order range s units ≡ walked acting left family order range t units

  -- a rule keeps what a walk does from any two memories that agree on every cell that both families
  -- have
  abbrev pub KeptFromAgreeing : Type 0
  KeptFromAgreeing =
      (acting : Acting Memory) (left : Memory → Left) (kinds more : Kinds) (g h : Family)
      (order : List Range) → IsFamily kinds g order → Extends kinds more →
      DoesTheSame acting left more g h order →
      (range : Range) → In range order → (s : Celled Memory) (t : Ready Memory more) →
      SameCells kinds s t.memory → (m : ℕ) →
      Covers (walked acting left g order range s m)
      (walked acting left h order range t.memory (8 * (m + 1)))
      × Covers (walked acting left h order range t.memory m)
      (walked acting left g order range s (8 * (m + 1)))

  -- a family is sound where no step of its walks is lost
  abbrev pub SoundBySteps : Type 0
  SoundBySteps =
      (acting : Acting Memory) (left : Memory → Left) (kinds : Kinds) (family : Family)
      (order : List Range) → IsFamily kinds family order →
      ((range : Range) → In range order → (start : Ready Memory kinds) (n : ℕ) →
      (meaning (walk_machine acting left family range) start.memory n).standing ≢ Over Lost)
      ↔ IsSound acting left kinds family order

-- the tree after all joins
abbrev pub JoinGives : Type 0
JoinGives = (t : Tree) → JoinsTree t (before (body_of (joined t)) []) (end_of (joined t))

-- the tree after one join; joins one by one lead to the tree after all joins, and where none
-- applies that is the tree
abbrev pub OneJoinGives : Type 0
OneJoinGives =
    (t u : Tree) → joined_once t ≡ Some u → JoinsTree t (before (body_of u) []) (end_of u)

-- a join more or less makes no difference to the tree after all joins
abbrev pub JoinsAddUp : Type 0
JoinsAddUp = (t u : Tree) → joined_once t ≡ Some u → joined u ≡ joined t

-- where no join applies, the tree after all joins is the tree itself
abbrev pub NoJoinIsLeft : Type 0
NoJoinIsLeft = (t : Tree) → joined_once t ≡ None → joined t ≡ t

-- the tree with a node in place of the jumps to it
abbrev pub InlineGives : Type 0
InlineGives = (label : Label) (node t : Tree) →
    InlinesTree (λ l. l ≡ label) node t (before (body_of (inlined label node t)) [])
    (end_of (inlined label node t))

-- the body of an endless loop, of one with a flag, and the node of one with a test of its own
abbrev pub EndlessGives : Type 0
EndlessGives = (cell : ℕ) (label : Label) (out : End) (t : Tree) →
    other_targets label t ≡ NoTarget →
    LoopsTree Endless cell label out t (before (flat Endless cell label t) [])

-- the body of a loop with a flag, where its leaves lead to one target
abbrev pub FlagGives : Type 0
FlagGives = (cell : ℕ) (label : Label) (live : Live) (t : Tree) →
    other_targets label t ≡ Only live →
    LoopsTree Flagged cell label (end_at live) t (before (flat Flagged cell label t) [])

-- the node of a loop with a test of its own
abbrev pub FormGives : Type 0
FormGives = (label : Label) (live : Live) (t : Tree) (form : Form) →
    form_of label live t ≡ Some form →
    t ≡ tested_node form.after form.turned form.test label form.body (end_at live)

-- a closed graph stays closed
abbrev pub ShapedIsClosed : Type 0
ShapedIsClosed = (graph : Graph) → LeadsToNodes graph → LeadsToNodes (shaped graph)

-- where one node is left, it is a body and a last end
abbrev pub SingleIsLast : Type 0
SingleIsLast = (graph : Graph) (node : Node) →
    LeadsToNodes graph → (shaped graph).nodes ≡ node ∷ [] →
    IsLast (end_of node.tree)

-- shaping ends where no rule applies
abbrev pub ShapingEnds : Type 0
ShapingEnds = (graph : Graph) → rule_step (shaped graph) ≡ None

module _ {Memory Left : Type 0} (acting : Acting Memory) (left : Memory → Left) where
  -- the second graphs do what the first do: they have their cells, are a sound family, and from any
  -- range and any ready memory the walks are tied
  pub record AsBefore (graphs others : Graphs) (order : List Range) : Type 0 where
    -- the second graphs have the cells of the first
    pub extends : Extends (kinds_of graphs) (kinds_of others)
    -- the second graphs are a family
    pub family : IsFamily (kinds_of others) (family_of others) order
    -- it is sound
    pub sound : IsSound acting left (kinds_of others) (family_of others) order
    -- from any range and any ready memory the walks are tied
    pub tied : (range : Range) → In range order →
        Tied (walked_from acting left (λ (start : Ready Memory (kinds_of others)). start.memory)
        (family_of graphs) order range)
        (walked_from acting left (λ (start : Ready Memory (kinds_of others)). start.memory)
        (family_of others) order range)

-- the shaped family walks as the lowered one
abbrev pub ShapedKeeps : Type 0 → Type 0 → Type 0
ShapedKeeps Memory Left =
    (acting : Acting Memory) (left : Memory → Left) (graphs : Graphs) (order : List Range) →
    IsFamily (kinds_of graphs) (family_of graphs) order →
    IsSound acting left (kinds_of graphs) (family_of graphs) order →
    AsBefore acting left graphs (all_shaped order graphs) order

-- the walk of the whole program, once it is shaped, does what it did, step by step and with no cell
-- set
abbrev pub ShapedMainIsTied : Type 0 → Type 0 → Type 0
ShapedMainIsTied Memory Left =
    (acting : Acting Memory) (left : Memory → Left) (graphs : Graphs) (order : List Range) →
    IsFamily (kinds_of graphs) (family_of graphs) order →
    IsSound acting left (kinds_of graphs) (family_of graphs) order → In Main order →
    Tied (meaning (main_machine acting left (family_of graphs)))
    (meaning (main_machine acting left (family_of (all_shaped order graphs))))
