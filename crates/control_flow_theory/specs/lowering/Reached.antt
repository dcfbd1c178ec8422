-- Only the nodes that are reached from the entry.
use Rattle.std.specs.Prelude.{ℕ, ◌≡◌, ◌⊎◌, Bool, true, if◌then◌else◌, List, [], ◌∷◌}
use Rattle.control_flow_theory.specs.runs.Machine.{meaning}
use Rattle.control_flow_theory.specs.language.Language.{Program, Range}
use Rattle.control_flow_theory.specs.semantics.Doing.{Acting, Celled}
use Rattle.control_flow_theory.specs.semantics.Graph.{Label, tree, End, Pick, Jump, Return, Stop, Dead, Trees, no_more, more, end_of, Family}
use Rattle.control_flow_theory.specs.semantics.Walk.{walk_machine}
use Rattle.control_flow_theory.specs.lowering.FlowFacts.{FlowFacts}
use Rattle.control_flow_theory.specs.lowering.Lower.{end_alone, Node}
use Rattle.control_flow_theory.specs.lowering.Lowered.{nodes_of, lowered, find}

-- a leaf of the end jumps to the label
abbrev mutual
  pub JumpsTo : Label → End → Type 0
  JumpsTo label (Pick picker arms) = ArmsJumpTo label arms
  JumpsTo label (Jump to) = to ≡ label
  JumpsTo label Return = ⊥
  JumpsTo label Stop = ⊥
  JumpsTo label Dead = ⊥

  -- a leaf of one of these trees jumps to the label
  pub ArmsJumpTo : Label → Trees → Type 0
  ArmsJumpTo label no_more = ⊥
  ArmsJumpTo label (more (tree body end) others) = JumpsTo label end ⊎ ArmsJumpTo label others

-- the node is come to by jumps from the range's entry
pub data IsReached (family : Family) (range : Range) : Label → Type 0 where
  entered : IsReached family range (family.entry range)
  jumped : (label to : Label) → IsReached family range label →
      JumpsTo to (end_of (family.node range label)) → IsReached family range to

-- the family with these nodes alone
abbrev pub kept : (Range → Label → Bool) → Family → Family
kept keep family =
    record {
      entry = family.entry;
      node = λ range label. if keep range label then family.node range label else end_alone Dead;
    }

-- the nodes whose labels are kept
abbrev pub kept_nodes : (Label → Bool) → List Node → List Node
kept_nodes keep [] = []
kept_nodes keep (one ∷ others) =
    if keep one.key then one ∷ kept_nodes keep others else kept_nodes keep others

-- these are the nodes that are reached, and maybe more
abbrev pub AreReached : Family → (Range → Label → Bool) → Type 0
AreReached family keep =
    (range : Range) (label : Label) → IsReached family range label → keep range label ≡ true

-- what isn't reached makes no difference to a walk
abbrev pub UnreachedMakesNoDifference : Type 0 → Type 0 → Type 0
UnreachedMakesNoDifference Memory Left =
    (acting : Acting Memory) (left : Memory → Left) (family : Family) (keep : Range → Label → Bool)
    → AreReached family keep →
    (range : Range) (memory : Celled Memory) (n : ℕ) →
    meaning (walk_machine acting left (kept keep family) range) memory n
    ≡ meaning (walk_machine acting left family range) memory n

-- the family of the kept nodes is the one that looks them up in the shorter list
abbrev pub KeptNodesAreFound : Type 0
KeptNodesAreFound =
    (told : FlowFacts) (program : Program) (keep : Range → Label → Bool) (range : Range)
    (label : Label)
    →
    (kept keep (lowered told program)).node range label
    ≡ find label (kept_nodes (keep range) (nodes_of told program range))
