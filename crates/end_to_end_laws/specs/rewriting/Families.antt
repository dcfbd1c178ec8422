-- Sound families of graphs, and what is kept where another graph takes the place of one of them.
use Rattle.std.specs.Prelude.{◌≡◌, List}
use Rattle.control_flow_theory.specs.language.Language.{Range}
use Rattle.control_flow_theory.specs.semantics.Doing.{Acting}
use Rattle.control_flow_theory.specs.graph_rules.Charged.{Matched}
use Rattle.control_flow_theory.specs.graph_rules.Families.{Extends, IsFamily, IsSound}
use Rattle.control_flow_theory.specs.graph_rules.Reduced.{Graph, Graphs, family_of, kinds_of, with_graph}
use Rattle.control_flow_theory.specs.graph_rules.Walked.{In, walked_from}
use Rattle.control_flow_theory.specs.structuring.Closes.{IsClosed}
use Rattle.control_flow_theory.specs.structuring.Keeps.{Twins}

module _ {Memory Left : Type 0} (acting : Acting Memory) (left : Memory → Left) where
  -- the graphs of these ranges are a sound family in this order
  pub record IsSoundFamily (graphs : Graphs) (order : List Range) : Type 0 where
    -- the labels of each graph rise, and its entry and its jumps are to its own nodes
    pub closed : (range : Range) → In range order → IsClosed (graphs range)
    -- no range comes twice, each performs only ranges after it and names only its own items, and
    -- there is no jump in a body
    pub family : IsFamily (kinds_of graphs) (family_of graphs) order
    -- from a memory in which each item that never changes holds 0, no walk is ever lost
    pub sound : IsSound acting left (kinds_of graphs) (family_of graphs) order

  -- the other graphs are a sound family that does what the first does
  pub record WalkAlike (graphs others : Graphs) (order : List Range) : Type 0 where
    -- they have the items of the first, so these are the items that both have
    pub extends : Extends (kinds_of graphs) (kinds_of others)
    -- they are a sound family
    pub sound : IsSoundFamily others order
    -- from memories that agree on the program's own and on the items that both have, a walk of m
    -- units in either is covered by one of 8 * (m + 1) units in the other
    pub matched : (range : Range) → In range order →
        Matched {World = Twins Memory (kinds_of graphs) (kinds_of others)} 8
        (walked_from acting left (λ w. w.first) (family_of graphs) order range)
        (walked_from acting left (λ w. w.second) (family_of others) order range)

-- whatever the parts of a program do: in the place of the old graph, of whichever range of a sound
-- family, the new one makes a sound family that does the same
abbrev pub KeepsWalks : Type 0 → Type 0 → (old new : Graph) → Type 0
KeepsWalks Memory Left old new =
    (acting : Acting Memory) (left : Memory → Left) (graphs : Graphs) (order : List Range)
    (range : Range) → In range order → graphs range ≡ old →
    IsSoundFamily acting left graphs order →
    WalkAlike acting left graphs (with_graph graphs range new) order
