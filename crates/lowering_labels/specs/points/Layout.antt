-- The places of a program: each paragraph, and after it its statements in text order.
use Rattle.std.specs.Prelude.{ℕ, ◌+◌, ◌≡◌, List, [], ◌∷◌, sum_by, slice_index_or}
use Rattle.cob_tree.specs.Places.{stmt_places}
use Rattle.cob_tree.specs.declared.program.Paragraph.{Paragraph}
use Rattle.cob_tree.specs.declared.program.Program.{Program}
use Rattle.control_flow_theory.specs.language.Control.{control_of}
use Rattle.control_flow_theory.specs.lowering.Lowered.{place_in}

-- the places of a paragraph's statements
abbrev pub paragraph_size : Paragraph → ℕ
paragraph_size paragraph =
    sum_by (λ sentence. sum_by stmt_places sentence.stmts) paragraph.sentences

-- the places of paragraphs, of which the first has this one
abbrev pub places_from : ℕ → List Paragraph → List ℕ
places_from place [] = []
places_from place (paragraph ∷ others) =
    place ∷ places_from (place + 1 + paragraph_size paragraph) others

-- the number after their last place
abbrev pub end_from : ℕ → List Paragraph → ℕ
end_from place [] = place
end_from place (paragraph ∷ others) = end_from (place + 1 + paragraph_size paragraph) others

-- the place of a paragraph, by a table; after its last one the end
abbrev pub place_at : List ℕ → ℕ → ℕ → ℕ
place_at places end number = slice_index_or places number end

-- the table gives these places
abbrev pub AreAt : List ℕ → ℕ → (ℕ → ℕ) → Type 0
AreAt places end place_of = (number : ℕ) → place_at places end number ≡ place_of number

-- the table has the place of each paragraph
pub record IsLayout (program : Program) (places : List ℕ) (end : ℕ) : Type 0 where
  -- the places are those of the paragraphs
  pub table : places ≡ places_from 0 program.paragraphs
  -- the end comes after the last of them
  pub last : end ≡ end_from 0 program.paragraphs
  -- they are the theory's places
  pub places_in : AreAt places end (place_in (control_of program))
