-- Paragraphs of one sentence.
use Rattle.std.specs.Prelude.{ℕ, List, [], ◌∷◌, Some, None}
use Rattle.cob_tree.specs.declared.program.Paragraph.{Paragraph}
use Rattle.cob_tree.specs.declared.program.Sentence.{Sentence}

-- a paragraph of this name with one sentence, in no section of its own
abbrev pub paragraph_named : (name : List ℕ) → Sentence → Paragraph
paragraph_named name sentence =
    record { name = Some name; section = None; sentences = sentence ∷ [] }
