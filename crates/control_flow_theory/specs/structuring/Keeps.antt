-- What a rule keeps that brings a cell of its own: from memories that agree on the cells of both
-- families, both walk alike.
use Rattle.std.specs.Prelude.{ℕ, ◌≡◌, ◌≢◌, Some, None, List}
use Rattle.control_flow_theory.specs.runs.Tied.{Meaning, Tied}
use Rattle.control_flow_theory.specs.runs.Machine.{meaning}
use Rattle.control_flow_theory.specs.semantics.Outcome.{Event, Ending}
use Rattle.control_flow_theory.specs.language.Language.{Range}
use Rattle.control_flow_theory.specs.semantics.Doing.{Acting, Celled}
use Rattle.control_flow_theory.specs.semantics.Graph.{Family}
use Rattle.control_flow_theory.specs.semantics.Walk.{walk_machine}
use Rattle.control_flow_theory.specs.graph_rules.Walked.{In, walked_from}
use Rattle.control_flow_theory.specs.graph_rules.Charged.{Matched}
use Rattle.control_flow_theory.specs.graph_rules.Families.{Added, Never, Kinds, Has, IsReady, Extends, IsFamily, IsSound}

-- the kinds with one cell more, which statements may set
pub record Gains (kinds more : Kinds) (range : Range) (cell : ℕ) : Type 0 where
  pub extends : Extends kinds more
  -- the cell is new
  pub fresh : kinds range cell ≡ None
  -- what it is for
  pub kind : Added
  pub new : more range cell ≡ Some kind
  -- statements may set it
  pub may_set : kind ≢ Never

-- two memories, each ready for its family, which have the same own part and agree on the cells that
-- both families have
pub record Twins (Memory : Type 0) (kinds more : Kinds) : Type 0 where
  pub first : Celled Memory
  pub second : Celled Memory
  pub first_ready : IsReady kinds first
  pub second_ready : IsReady more second
  -- the program's own memory is the same
  pub own : first.own ≡ second.own
  -- and so is each cell that the first family has
  pub cells : (range : Range) (cell : ℕ) → Has kinds range cell →
      first.cells range cell ≡ second.cells range cell

module _ {Memory Left : Type 0} (acting : Acting Memory) (left : Memory → Left) where
  -- the walk of a range from a world's memory, step by step
  abbrev pub steps_from : {World : Type 0} → (World → Celled Memory) → Family → Range →
      Meaning World Event (Ending Left)
  steps_from memory family range world n =
      meaning (walk_machine acting left family range) (memory world) n

  -- the new family is one, and sound; from such memories both walk alike, step by step and within
  -- eight times the units
  pub record Kept (kinds more : Kinds) (g h : Family) (order : List Range) : Type 0 where
    -- the new family is a family
    pub family : IsFamily more h order
    -- it is sound
    pub sound : IsSound acting left more h order
    -- step by step the walks are tied
    pub tied : (range : Range) → In range order →
        Tied {World = Twins Memory kinds more} (steps_from (λ w. w.first) g range)
        (steps_from (λ w. w.second) h range)
    -- within eight times the units each shows what the other does
    pub matched : (range : Range) → In range order →
        Matched {World = Twins Memory kinds more} 8
        (walked_from acting left (λ w. w.first) g order range)
        (walked_from acting left (λ w. w.second) h order range)
