-- Which paragraphs are told apart by their headers alone.
use Rattle.std.specs.Prelude.{ℕ, ◌≡◌, Bool, true, false, ◌⊎◌, List, [], ◌∷◌, Option, Some, None}
use Rattle.cob_tree.specs.declared.program.Paragraph.{Paragraph}
use Rattle.cob_tree.specs.declared.program.Program.{Program}
use Rattle.program_facts.specs.well_scoped.Part.{is_filled}
use Rattle.round_trip.specs.spelling.stmt_spelling.Division.{is_bare_by}
use Rattle.round_trip.specs.procedures.Names.{header_names, AreDifferent, AreTitled}

-- the paragraph may come next: after a section of which nothing else is printed only a section may
abbrev pub MayFollow : (bare : Bool) → (name section : Option (List ℕ)) → Type 0
MayFollow bare None None = ⊥
MayFollow bare (Some name) None = bare ≡ false
MayFollow bare name (Some section) = Unit {0}

-- nothing is printed of the paragraph but the header of its section
abbrev pub is_bare : Paragraph → Bool
is_bare paragraph = is_bare_by paragraph.name paragraph.section paragraph.sentences

-- each has a header
abbrev pub AreHeaded : (bare : Bool) → List Paragraph → Type 0
AreHeaded bare [] = Unit {0}
AreHeaded bare (paragraph ∷ paragraphs) =
    MayFollow bare paragraph.name paragraph.section × AreHeaded (is_bare paragraph) paragraphs

-- the first may have none, with sentences if another one follows
abbrev pub MayBegin : (name section : Option (List ℕ)) → Paragraph → List Paragraph → Type 0
MayBegin None None paragraph paragraphs =
    ((is_filled paragraph.sentences ≡ true) ⊎ (paragraphs ≡ [])) × AreHeaded false paragraphs
MayBegin name section paragraph paragraphs = AreHeaded false (paragraph ∷ paragraphs)

-- there is one at least
abbrev pub AreOutlined : List Paragraph → Type 0
AreOutlined [] = ⊥
AreOutlined (paragraph ∷ paragraphs) =
    MayBegin paragraph.name paragraph.section paragraph paragraphs

-- each has a name, and no section begins with it
abbrev pub HaveNamesAlone : List Paragraph → Type 0
HaveNamesAlone [] = Unit {0}
HaveNamesAlone (paragraph ∷ paragraphs) =
    (((name : List ℕ) × (paragraph.name ≡ Some name)) × (paragraph.section ≡ None))
    × HaveNamesAlone paragraphs

-- the names of the procedures are names of headers, of which none comes twice
pub record HasProcedures (program : Program) : Type 0 where
  -- its paragraphs are told apart by their headers
  pub outlined : AreOutlined program.paragraphs
  -- their names may be names of headers
  pub titled : AreTitled program.paragraphs
  -- no name comes twice
  pub different : AreDifferent (header_names program.paragraphs)
