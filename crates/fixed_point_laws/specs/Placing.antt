-- What the procedures of a result are called again.
use Rattle.std.specs.Prelude.{ℕ, ◌≡◌, ◌<◌, List, length, Some, slice_get}
use Rattle.cob_tree.specs.declared.program.Paragraph.{Paragraph}
use Rattle.cob_tree.specs.declared.program.Program.{Program}
use Rattle.cob_tree.specs.declared.program.Range.{Range}
use Rattle.out_names.specs.Naming.{names_of}

-- each range begins with the paragraph of its own number
abbrev pub BeginInOrder : List Range → Type 0
BeginInOrder order = (number : ℕ) (range : Range) → slice_get order number ≡ Some range →
    range.entry ≡ number

-- each range is called as its paragraph, where that has a name
abbrev pub NamesComeAgain : Type 0
NamesComeAgain =
    (program : Program) (order : List Range) → BeginInOrder order → (number : ℕ) →
    number < length order → (paragraph : Paragraph) (name : List ℕ) →
    slice_get program.paragraphs number ≡ Some paragraph → paragraph.name ≡ Some name →
    slice_get (names_of program order) number ≡ Some name
