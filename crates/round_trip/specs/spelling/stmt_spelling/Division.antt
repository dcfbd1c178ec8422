-- What sentences, paragraphs and sections are to have in them, so that the tokens that they are
-- printed with spell them.
use Rattle.std.specs.Prelude.{ℕ, suc, ◌+◌, ◌≡◌, Bool, true, false, ◌||◌, is_some, ◌⊎◌, List, [], ◌∷◌, length, Option, Some, None}
use Rattle.cob_tree.specs.declared.program.Paragraph.{Paragraph}
use Rattle.cob_tree.specs.declared.program.Program.{Program}
use Rattle.cob_tree.specs.declared.program.Sentence.{Sentence}
use Rattle.cob_tree.specs.declared.stmt.Stmt.TheVariants as stmts
use Rattle.cobol_lex.specs.declared.token.TokenKind.{TokenKind}
use Rattle.cobol_print.specs.Unit.{all_tokens}
use Rattle.program_facts.specs.well_scoped.Part.{is_filled}
use Rattle.unparser.specs.Token.{Tokens, procedure_token}
use Rattle.cobol_print.specs.units.Division.{paragraph_units}
use Rattle.cobol_grammar.specs.declared.stmt_forms.scope.Scope.{Scope}
use Rattle.cobol_grammar.specs.stmt_forms.Jump.{begins_procedure}
use Rattle.cobol_grammar.specs.stmt_forms.Paragraph.{sentence_of, scope_of}
use Rattle.cobol_grammar.specs.stmt_forms.Part.{Parts}
use Rattle.cob_base.specs.Limit.{max_nesting}
use Rattle.cobol_grammar.specs.stmt_forms.Verb.{begins_stmt}
use Rattle.round_trip.specs.spelled_forms.Spelling.{Any, Spelled}
use Rattle.round_trip.specs.spelling.stmt_spelling.Part.{Kept}
use Rattle.round_trip.specs.spelling.stmt_spelling.Stmt.{Each, SpellsList}

-- nothing is printed but the header of a section: it has neither a named paragraph nor sentences
abbrev pub is_bare_by : (name section : Option (List ℕ)) → List Sentence → Bool
is_bare_by None (Some section) [] = true
is_bare_by _ _ _ = false

-- no token follows
abbrev pub AtEnd : Option TokenKind → Type 0
AtEnd behind = behind ≡ None

module _ {Side Known : Type 0} (parts : Parts Side Known) (kept : Kept Side) (program : Program)
  where
    -- the statements of a sentence are spelled, within the limit of nesting
    abbrev pub SpellsSentence : Scope → Sentence → Type 0
    SpellsSentence scope sentence =
        SpellsList parts kept program (suc max_nesting) scope sentence.stmts

    -- the sentences of a paragraph are spelled; EXIT without a further word is its only statement
    abbrev pub SpellsSentences : Scope → List Sentence → Type 0
    SpellsSentences scope sentences =
        (sentences ≡ sentence_of (stmts.Exit ∷ []) ∷ []) ⊎ Each (SpellsSentence scope) sentences

    -- The name of a paragraph or section, after so many tokens: it is one, no other has it, and no
    -- statement begins with it.
    pub record SpellsHeader (name : List ℕ) (taken : ℕ) : Type 0 where
      -- its token is a name that no earlier one has
      pub spelled : Spelled parts.header_name taken (procedure_token name ∷ []) Any
          (λ found. (found.0 ≡ name) × (parts.duplicate_fault found.0 found.1 ≡ None))
      -- its token begins a paragraph or section
      pub begins : begins_procedure parts (procedure_token name) ≡ true
      -- no statement begins with it
      pub no_stmt : begins_stmt (procedure_token name) ≡ false

    -- the tokens that a paragraph is printed with
    abbrev pub paragraph_tokens : Paragraph → Tokens
    paragraph_tokens paragraph = all_tokens (paragraph_units program paragraph)

    -- a section of which nothing else is printed
    abbrev pub is_bare : Paragraph → Bool
    is_bare paragraph = is_bare_by paragraph.name paragraph.section paragraph.sentences

    -- a paragraph is spelled with its headers, after so many tokens; after a bare section only a
    -- section may follow
    abbrev pub SpellsHeaded : (bare in_section : Bool) → (taken : ℕ) → (name section : Option
        (List ℕ)) → List Sentence → Type 0
    SpellsHeaded bare in_section taken None None sentences = ⊥
    SpellsHeaded bare in_section taken (Some name) None sentences =
        (bare ≡ false)
        × (SpellsHeader name taken × SpellsSentences (scope_of in_section) sentences)
    SpellsHeaded bare in_section taken None (Some section) sentences =
        SpellsHeader section taken × SpellsSentences (scope_of true) sentences
    SpellsHeaded bare in_section taken (Some name) (Some section) sentences =
        SpellsHeader section taken
        × (SpellsHeader name (taken + 3) × SpellsSentences (scope_of true) sentences)

    -- these paragraphs are spelled, after so many tokens
    abbrev pub SpellsParagraphs : (bare in_section : Bool) → (taken : ℕ) → List Paragraph → Type 0
    SpellsParagraphs bare in_section taken [] = Unit {0}
    SpellsParagraphs bare in_section taken (paragraph ∷ paragraphs) =
        SpellsHeaded bare in_section taken paragraph.name paragraph.section paragraph.sentences
        × SpellsParagraphs (is_bare paragraph) (is_some paragraph.section || in_section)
        (taken + length (paragraph_tokens paragraph)) paragraphs

    -- the first paragraph may have no name, with sentences if another one follows
    abbrev pub SpellsFirst : (name section : Option (List ℕ)) → (taken : ℕ) → Paragraph →
        List Paragraph → Type 0
    SpellsFirst None None taken paragraph paragraphs =
        SpellsSentences (scope_of false) paragraph.sentences
        × (((is_filled paragraph.sentences ≡ true) ⊎ (paragraphs ≡ []))
        × SpellsParagraphs false false (taken + length (paragraph_tokens paragraph)) paragraphs)
    SpellsFirst name section taken paragraph paragraphs =
        SpellsParagraphs false false taken (paragraph ∷ paragraphs)

    -- the paragraphs of a program, of which there is one at least
    abbrev pub SpellsDivision : (taken : ℕ) → List Paragraph → Type 0
    SpellsDivision taken [] = ⊥
    SpellsDivision taken (paragraph ∷ paragraphs) =
        SpellsFirst paragraph.name paragraph.section taken paragraph paragraphs
