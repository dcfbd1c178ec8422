-- The ranges that flow paths enter from main on, and what a table of returning ranges names of
-- them.
use Rattle.std.specs.Prelude.{ℕ, ◌≡◌, true, List, [], ◌∷◌}
use Rattle.control_flow_theory.specs.language.Language.{Perform, Program, Range, Main, Part}
use Rattle.control_flow_theory.specs.language.Items.{Item, Do}
use Rattle.control_flow_theory.specs.semantics.Source.{rest_of}
use Rattle.control_flow_theory.specs.lowering.FlowFacts.{FlowFacts}
use Rattle.control_flow_theory.specs.lowering.flow.Comes.{Comes}
use Rattle.control_flow_theory.specs.lowering.flow.Paths.{free}

-- a free flow path of the program comes to this rest, in the level of this range
abbrev pub FreelyComes : FlowFacts → Program → Range → ℕ → List Item → Type 0
FreelyComes told program range number rest =
    Comes (free told) program 0 (rest_of program 0) range number rest

-- main, and each range that a free flow path performs in the level of such a range
pub data IsEntered (told : FlowFacts) (program : Program) : Range → Type 0 where
  main : IsEntered told program Main
  performed : (range : Range) (number : ℕ) (rest : List Item) (entry exit : ℕ) →
      IsEntered told program range →
      FreelyComes told program range number (Do (Perform entry exit) ∷ rest) →
      IsEntered told program (Part entry exit)

-- the table names each range that is entered and returns, and maybe more
abbrev pub NamesWhatReturns : FlowFacts → Program → Type 0
NamesWhatReturns told program = (entry exit : ℕ) → IsEntered told program (Part entry exit) →
    FreelyComes told program (Part entry exit) exit [] → told.returning entry exit ≡ true
