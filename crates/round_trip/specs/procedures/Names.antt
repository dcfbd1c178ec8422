-- The names of a program's paragraphs and sections.
use Rattle.std.specs.Prelude.{ℕ, ◌≡◌, true, false, List, [], ◌∷◌, ◌++◌, Option, Some, None}
use Rattle.std.specs.List.{list_any}
use Rattle.std.specs.Str.{bytes_eq}
use Rattle.cob_tree.specs.declared.program.Paragraph.{Paragraph}
use Rattle.unparser.specs.Token.{procedure_token}
use Rattle.symbol_tables.specs.procedure_names.Procedures.{header_name}
use Rattle.cobol_grammar.specs.Name.{is_capital_word}

-- the name, if there is one
abbrev pub own_name : Option (List ℕ) → List (List ℕ)
own_name None = []
own_name (Some name) = name ∷ []

-- the names of paragraphs and sections, in the order of their headers
abbrev pub header_names : List Paragraph → List (List ℕ)
header_names [] = []
header_names (paragraph ∷ paragraphs) =
    own_name paragraph.section ++ (own_name paragraph.name ++ header_names paragraphs)

-- none comes twice
abbrev pub AreDifferent : List (List ℕ) → Type 0
AreDifferent [] = Unit {0}
AreDifferent (name ∷ names) =
    (list_any (bytes_eq name) names ≡ false) × AreDifferent names

-- a name that a paragraph or section may have
pub record IsTitle (name : List ℕ) : Type 0 where
  -- it is read as such a name
  pub named : header_name (procedure_token name) ≡ Some name
  pub capital : is_capital_word name ≡ true

-- the name, if there is one, may be such a name
abbrev pub IfTitle : Option (List ℕ) → Type 0
IfTitle None = Unit {0}
IfTitle (Some name) = IsTitle name

-- the names of these paragraphs and of their sections are such names
abbrev pub AreTitled : List Paragraph → Type 0
AreTitled [] = Unit {0}
AreTitled (paragraph ∷ paragraphs) =
    IfTitle paragraph.section × (IfTitle paragraph.name × AreTitled paragraphs)
