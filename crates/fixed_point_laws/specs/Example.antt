-- A program of one STOP RUN, which comes again.
use Rattle.std.specs.Prelude.{◌≡◌, Bool, true, false, ◌==◌, [], ◌∷◌}
use Rattle.control_flow_theory.specs.language.Language.{StopRun, none, also, Program, Range, Main, Part}
use Rattle.control_flow_theory.specs.semantics.Graph.{Label}
use Rattle.control_flow_theory.specs.main_theorem.MainTheorem.{Plan}
use Rattle.program_facts.specs.completion.FlowFacts.{flow_facts_of}
use Rattle.statement_builders.specs.arms.Written.{Way, naming_in}
use Rattle.fixed_point.specs.Fixed.{result_by, ResultIsWritten}

-- STOP RUN.
abbrev pub stopping : Program
stopping = record { paragraphs = (also StopRun none ∷ []) ∷ [] }

-- the nodes that are kept: of main, the paragraph's node
abbrev pub stopping_kept : Range → Label → Bool
stopping_kept Main label = label == 0
stopping_kept (Part entry exit) label = true

-- the plan: there are no files, nothing returns, and main is the one range
abbrev pub stopping_plan : Plan
stopping_plan = record { told = flow_facts_of [] []; keep = stopping_kept; others = [] }

-- how it is written, without an item
abbrev pub stopping_way : Way
stopping_way = record {
  first = 0;
  table = record {
    stands = λ range cell. false;
    changes = λ range cell. false;
    item = λ range cell. 0;
    digits = λ range cell. 0;
    signed = λ range cell. false;
    most = λ range cell. 0;
    ends_in_other = λ range cell. false;
  };
  place = λ range. 0;
  range = Main;
}

-- the program is written as itself, and what a result that comes again asks is met
abbrev pub StoppingComesAgain : Type 0
StoppingComesAgain =
    (result_by stopping_plan stopping (naming_in stopping_way) ≡ stopping)
    × ResultIsWritten stopping_plan stopping (naming_in stopping_way) stopping_plan
    (naming_in stopping_way)
