-- What trees choose and loops test by, as the theory has it.
use Rattle.control_flow_theory.specs.language.Control.{test_of}
use Rattle.control_flow_theory.specs.language.Language as language
use Rattle.branch_tree.specs.declared.chooser.Test.{Test}
use Rattle.branch_tree.specs.declared.chooser.Test.TheVariants as test
use Rattle.branch_tree.specs.declared.chooser.Chooser.{Chooser}
use Rattle.branch_tree.specs.declared.chooser.Chooser.TheVariants as chooser
use Rattle.branch_tree.specs.declared.chooser.Picker.{Picker}
use Rattle.branch_tree.specs.declared.chooser.Picker.TheVariants as picker

-- a test
abbrev pub seen_test : Test → language.Test
seen_test (test.Holds cond) = test_of cond
seen_test (test.Is cell value) = language.Is cell value
seen_test (test.Above cell) = language.Above cell

-- a chooser
abbrev pub seen_chooser : Chooser → language.Chooser
seen_chooser (chooser.Evaluate subject tests has_other) = language.Evaluate subject tests has_other
seen_chooser (chooser.Read file into has_end) = language.Read file into has_end
seen_chooser (chooser.Arith calc into) = language.Arith calc into
seen_chooser (chooser.Depending on names) = language.Depending on names

-- what chooses
abbrev pub seen_picker : Picker → language.Picker
seen_picker (picker.If test) = language.If (seen_test test)
seen_picker (picker.By chooser) = language.By (seen_chooser chooser)
seen_picker (picker.ByCell cell) = language.ByCell cell
