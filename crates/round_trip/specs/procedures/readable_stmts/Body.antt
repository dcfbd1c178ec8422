-- What paragraphs are to have in them beside their headers, and their headers apart, at the places
-- where they are printed.
use Rattle.std.specs.Prelude.{ℕ, ◌+◌, ◌≡◌, Bool, true, false, ◌||◌, is_some, ◌⊎◌, List, [], ◌∷◌, length, Option, Some, None}
use Rattle.cob_tree.specs.declared.program.Paragraph.{Paragraph}
use Rattle.cob_tree.specs.declared.program.Program.{Program}
use Rattle.cob_tree.specs.declared.program.Sentence.{Sentence}
use Rattle.program_facts.specs.well_scoped.Part.{is_filled}
use Rattle.cobol_grammar.specs.stmt_forms.Paragraph.{scope_of}
use Rattle.cobol_grammar.specs.stmt_forms.Part.{Parts}
use Rattle.round_trip.specs.spelling.stmt_spelling.Division.{is_bare_by, paragraph_tokens, SpellsHeader, SpellsSentences}
use Rattle.round_trip.specs.spelling.stmt_spelling.Part.{Kept}

module _ {Side Known : Type 0} (parts : Parts Side Known) (kept : Kept Side) (program : Program)
  where
    -- ---- headers

    -- the headers of a paragraph are spelled; that of a section has three tokens
    abbrev pub IsHeaded : (taken : ℕ) → (name section : Option (List ℕ)) → Type 0
    IsHeaded taken None None = Unit {0}
    IsHeaded taken (Some name) None = SpellsHeader parts kept program name taken
    IsHeaded taken None (Some section) = SpellsHeader parts kept program section taken
    IsHeaded taken (Some name) (Some section) =
        SpellsHeader parts kept program section taken
        × SpellsHeader parts kept program name (taken + 3)

    -- the headers of these paragraphs are spelled, after so many tokens
    abbrev pub AreHeaders : (taken : ℕ) → List Paragraph → Type 0
    AreHeaders taken [] = Unit {0}
    AreHeaders taken (paragraph ∷ paragraphs) =
        IsHeaded taken paragraph.name paragraph.section
        × AreHeaders (taken + length (paragraph_tokens parts kept program paragraph)) paragraphs

    -- ---- what follows them

    -- the sentences of a paragraph are spelled, and it may come next: after a bare section only a
    -- section may
    abbrev pub SpellsBody : (bare in_section : Bool) → (name section : Option (List ℕ)) →
        List Sentence → Type 0
    SpellsBody bare in_section None None sentences = ⊥
    SpellsBody bare in_section (Some name) None sentences =
        (bare ≡ false) × SpellsSentences parts kept program (scope_of in_section) sentences
    SpellsBody bare in_section name (Some section) sentences =
        SpellsSentences parts kept program (scope_of true) sentences

    -- nothing is printed of the paragraph but the header of its section
    abbrev pub is_bare : Paragraph → Bool
    is_bare paragraph = is_bare_by paragraph.name paragraph.section paragraph.sentences

    -- the paragraphs after the first
    abbrev pub SpellsBehind : (bare in_section : Bool) → List Paragraph → Type 0
    SpellsBehind bare in_section [] = Unit {0}
    SpellsBehind bare in_section (paragraph ∷ paragraphs) =
        SpellsBody bare in_section paragraph.name paragraph.section paragraph.sentences
        × SpellsBehind (is_bare paragraph) (is_some paragraph.section || in_section) paragraphs

    -- the first paragraph may have no name, with sentences if another one follows
    abbrev pub SpellsFirstBody : (name section : Option (List ℕ)) → Paragraph → List Paragraph →
        Type 0
    SpellsFirstBody None None paragraph paragraphs =
        SpellsSentences parts kept program (scope_of false) paragraph.sentences
        × (((is_filled paragraph.sentences ≡ true) ⊎ (paragraphs ≡ []))
        × SpellsBehind false false paragraphs)
    SpellsFirstBody name section paragraph paragraphs =
        SpellsBehind false false (paragraph ∷ paragraphs)

    -- the paragraphs of a program, of which there is one at least
    abbrev pub SpellsBodies : List Paragraph → Type 0
    SpellsBodies [] = ⊥
    SpellsBodies (paragraph ∷ paragraphs) =
        SpellsFirstBody paragraph.name paragraph.section paragraph paragraphs
