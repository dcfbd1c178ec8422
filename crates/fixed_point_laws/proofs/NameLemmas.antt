-- What COBOL parts are called, once and again.
use Rattle.std.proofs.Common.{◌≡◌, ℕ, ◌+◌, Bool, true, false, if◌then◌else◌, List, [], ◌∷◌, ◌++◌, refl, ap}
use Rattle.std.specs.Prelude.{not, map}
use Rattle.cob_tree.specs.declared.choice.Subject.TheVariants as subjects
use Rattle.cob_tree.specs.declared.file.FileEntry.{FileEntry}
use Rattle.control_flow_theory.specs.language.Language.{Own, Set, Take, Lower, Chooser, Evaluate, Read, Arith, Depending, If, By, ByCell, none, also, Arms, done, given, missing, Range}
use Rattle.program_facts.specs.completion.FlowFacts.{flow_facts_of}
use Rattle.control_flow_theory.specs.rendering.Rendering.{standing}
use Rattle.cobol_theory.specs.cell_items.Cell.{cell_operand, operand_expr}
use Rattle.cobol_theory.specs.cell_items.Laws.{number_tests}
use Rattle.cobol_theory.specs.cell_serving.Entries.{whole_literal}
use Rattle.cobol_theory.specs.cell_serving.Naming.{last_stands, numbers_from, other_stands, whens_of}
use Rattle.statement_builders.specs.arms.Written.{Way, naming_in}
use Rattle.fixed_point_laws.specs.Names.{PartsKeepNames, ReadsAreAlike, WhatActsIsWrittenSo, ChoosersComeAgain}

pub parts-keep : PartsKeepNames
parts-keep = λ way. record { simple = λ s. refl; cond = λ c. refl; amount = λ a. refl }

module _ (way : Way) (files : List FileEntry) (once again : List (List ℕ)) (range : Range) where
  chooser-alike : (chooser : Chooser) (arms : Arms) → (arms ≡ done → ⊥) →
      (flow_facts_of files again).never_first ((naming_in way).chooser chooser (standing ((naming_in way).empty range (By chooser)) 0 arms)) ≡ true → (flow_facts_of files once).never_first chooser ≡ true
  chooser-alike (Evaluate subject tests has_other) arms some e = absurd cc
  chooser-alike (Read file into has_end) done some e = absurd (some refl)
  chooser-alike (Read file into true) (given none others) some e = absurd cc
  chooser-alike (Read file into false) (given none others) some e = e
  chooser-alike (Read file into has_end) (given (also s ss) others) some e = absurd cc
  chooser-alike (Read file into true) (missing others) some e = absurd cc
  chooser-alike (Read file into false) (missing others) some e = e
  chooser-alike (Arith calc into) arms some e = absurd cc
  chooser-alike (Depending on names) arms some e = absurd cc

pub reads-alike : ReadsAreAlike
reads-alike = λ way files once again. record {
  chooser = λ range chooser arms some e. chooser-alike way files once again range chooser arms some e;
  cell = λ range cell arms. refl;
}

pub acts-so : WhatActsIsWrittenSo
acts-so way place files once again range (Own simple) h = h
acts-so way place files once again range (Set cell value) h = refl
acts-so way place files once again range (Take cell amount) h = refl
acts-so way place files once again range (Lower cell) h = refl

last-false : (arms : List Bool) → last_stands (arms ++ false ∷ []) ≡ false
last-false [] = refl
last-false (arm ∷ []) = refl
last-false (arm ∷ next ∷ arms) = last-false (next ∷ arms)

by-cell : (ends : Bool) (arms : List Bool) → last_stands (if not ends then arms ++ false ∷ [] else arms) ≡ other_stands ends arms
by-cell true arms = refl
by-cell false arms = last-false arms

pub choosers-again : ChoosersComeAgain
choosers-again way other range (If test) arms = tt
choosers-again way other range (By (Evaluate subject tests has_other)) arms = refl
choosers-again way other range (By (Read file into has_end)) arms = refl
choosers-again way other range (By (Arith calc into)) arms = refl
choosers-again way other range (By (Depending on names)) arms = refl
choosers-again way other range (ByCell cell) arms =
    ap (Evaluate (subjects.Value (operand_expr (cell_operand (way.first + way.table.item range cell))))
    (map number_tests (numbers_from whole_literal 1 (whens_of (way.table.ends_in_other range cell) arms))))
    (by-cell (way.table.ends_in_other range cell) arms)
