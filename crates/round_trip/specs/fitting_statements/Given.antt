-- What the parts by which a source is read have to do with the tests: what they give passes the
-- test of each use of which no fault is noted.
use Rattle.std.specs.Prelude.{ℕ, ◌≡◌, ◌≤◌, Bool, true, ◌||◌, is_some, ◌⊎◌, List, [], ◌∷◌, Option, Some, None}
use Rattle.cob_tree.specs.Depth.{stmts_depth}
use Rattle.cob_tree.specs.declared.place.Operand.TheVariants as operands
use Rattle.cob_tree.specs.declared.program.Paragraph.{Paragraph}
use Rattle.cob_tree.specs.declared.program.Sentence.{Sentence}
use Rattle.cob_tree.specs.declared.stmt.Stmt.TheVariants as stmts
use Rattle.cobol_lex.specs.declared.token.TokenKind.{TokenKind}
use Rattle.cobol_lex.specs.declared.token.TokenKind.TheVariants as kinds
use Rattle.parser_combinators.specs.declared.note.Position.{Position}
use Rattle.grammar_laws.specs.form_results.Giving.{Gives}
use Rattle.program_facts.specs.well_scoped.Part.{is_filled}
use Rattle.cobol_grammar.specs.declared.stmt_forms.scope.Scope.{Scope}
use Rattle.cobol_grammar.specs.stmt_forms.Paragraph.{sentence_of, scope_of}
use Rattle.cobol_grammar.specs.stmt_forms.Part.{Parts}
use Rattle.cob_base.specs.Limit.{max_nesting}
use Rattle.round_trip.specs.spelling.stmt_spelling.Part.{Kept}
use Rattle.round_trip.specs.spelling.stmt_spelling.Stmt.{Each}
use Rattle.round_trip.specs.fitting_statements.Fits.{Fits}
use Rattle.round_trip.specs.fitting_statements.Scope.{are_in_scope}
use Rattle.round_trip.specs.fitting_statements.Statement.{are_fit_stmts}

-- ---- parts

module _ {Side Known : Type 0} (parts : Parts Side Known) (kept : Kept Side) (fits : Fits) where
  -- a side passes where arithmetic reads it, and as a count, if no such fault is noted of it
  pub record NumberFits (side : Side) : Type 0 where
    -- where arithmetic reads it
    pub number : parts.number_fault side ≡ None → fits.number (parts.operand_of side) ≡ true
    -- as a whole number
    pub whole : parts.whole_fault side ≡ None → fits.whole (parts.operand_of side) ≡ true
    -- as a count of turns
    pub turns : parts.whole_fault side ≡ None → fits.turns (parts.operand_of side) ≡ true

  -- a side that is an operand passes as a value and as a number, if no such fault is noted of it
  pub record OperandFits (side : Side) : Type 0 where
    -- as a value
    pub value : parts.value_fault side ≡ None → fits.value (parts.operand_of side) ≡ true
    -- as a number
    pub as_number : NumberFits side
    -- what is known of it is kept
    pub side_kept : kept.operand (parts.operand_of side) side

  -- An item, which may be an operand too where it is a number. As another value it needn't fit: an
  -- operand counts as one term more, after which its window may have no room.
  pub record PlaceFits (side : Side) : Type 0 where
    -- where it takes a value
    pub receives : parts.value_fault side ≡ None → fits.receives (parts.place_of side) ≡ true
    -- where arithmetic reads and changes it
    pub number : parts.number_fault side ≡ None → fits.number_place (parts.place_of side) ≡ true
    -- where arithmetic only sets it
    pub result : parts.result_fault side ≡ None → fits.result_place (parts.place_of side) ≡ true
    -- where it chooses a jump
    pub whole : parts.whole_fault side ≡ None → fits.whole_place (parts.place_of side) ≡ true
    -- where it is a name of level 88 that is SET
    pub condition : parts.condition_fault side ≡ None →
        fits.condition_place (parts.place_of side) ≡ true
    -- where it takes the records of a file
    pub into : (file : ℕ) → parts.into_fault (Some file) side ≡ None →
        fits.into file (parts.place_of side) ≡ true
    -- what is known of it is kept
    pub side_kept : kept.operand (operands.Place (parts.place_of side)) side
    -- as an operand that is a number
    pub as_number : NumberFits side

  -- an expression, as a value and as a number
  pub record ExprFits (side : Side) : Type 0 where
    -- as a value
    pub value : parts.value_fault side ≡ None → fits.expr_value (parts.expr_of side) ≡ true
    -- where arithmetic works it out
    pub number : parts.number_fault side ≡ None → fits.expr_number (parts.expr_of side) ≡ true
    -- what is known of it is kept
    pub side_kept : kept.expr (parts.expr_of side) side

  -- a record that is written
  pub record EntryFits (side : Side) : Type 0 where
    -- where it is written
    pub written : fits.entry_record (parts.entry_of side) ≡ true
    -- what is known of it is kept
    pub side_kept : kept.entry (parts.entry_of side) side

  -- the file is known, and passes
  abbrev pub FileFits : Option ℕ → Type 0
  FileFits None = ⊥
  FileFits (Some file) = fits.file file ≡ true

  -- two parts pass, one beside the other, if no fault is noted of them
  pub record PairsFit : Type 0 where
    -- a value with the place that takes it
    pub moves : (side other : Side) → kept.operand (parts.operand_of side) side →
        kept.operand (operands.Place (parts.place_of other)) other →
        parts.move_fault side other ≡ None →
        fits.moves (parts.operand_of side) (parts.place_of other) ≡ true
    -- a record with what it is written from
    pub writes : (side other : Side) → kept.operand (parts.operand_of side) side →
        kept.entry (parts.entry_of other) other → parts.move_fault side other ≡ None →
        fits.writes (parts.entry_of other) (parts.operand_of side) ≡ true
    -- a subject of EVALUATE with what it is compared with
    pub compares : (side other : Side) → kept.expr (parts.expr_of side) side →
        kept.expr (parts.expr_of other) other →
        parts.subject_fault (parts.known_of side) other ≡ None →
        fits.compares (parts.expr_of side) (parts.expr_of other) ≡ true

  -- all parts pass, where they are read of tokens of these kinds
  pub record PartsFit (Kind : TokenKind → Type 0) : Type 0 where
    pub operand : Gives Kind parts.operand OperandFits
    pub reference : Gives Kind parts.reference PlaceFits
    -- after a word that may be a name, where it counts turns
    pub reference_behind : (name : List ℕ) (position : Position) →
        Gives Kind (parts.reference_behind name position)
        (λ side. Kind (kinds.Word name) → parts.is_name (kinds.Word name) ≡ true →
        NumberFits side)
    -- digits that count turns
    pub digits_side : (digits : List ℕ) (position : Position) → Kind (kinds.Digits digits) →
        NumberFits (parts.digits_side digits position)
    pub expr : Gives Kind parts.expr ExprFits
    pub cond : Gives Kind parts.cond (λ found. fits.cond found.0 ≡ true)
    pub file : Gives Kind parts.file FileFits
    pub record_name : Gives Kind parts.record_name EntryFits
    -- two parts, one beside the other
    pub pairs : PairsFit
    -- what a procedure begins with has a label
    pub entry : (name : List ℕ) (span : ℕ × ℕ) → parts.procedure_of name ≡ Some span →
        fits.label span.0 ≡ true
    -- from one procedure to another one, or itself
    pub range : (name last : List ℕ) (span end : ℕ × ℕ) → parts.procedure_of name ≡ Some span →
        parts.procedure_of last ≡ Some end → fits.range span.0 end.1 ≡ true

-- ---- the division

module _ (fits : Fits) where
  -- a sentence of one statement or more, which pass and nest no deeper than they may
  pub record FitSentence (scope : Scope) (sentence : Sentence) : Type 0 where
    -- there is a statement
    pub filled : is_filled sentence.stmts ≡ true
    -- each passes
    pub fit : are_fit_stmts fits sentence.stmts ≡ true
    -- each is in scope
    pub in_scope : are_in_scope sentence.stmts scope ≡ true
    -- they nest no deeper than the limit
    pub depth : stmts_depth sentence.stmts ≤ max_nesting

  -- EXIT without a further word is the only statement of its paragraph
  abbrev pub FitSentences : Scope → List Sentence → Type 0
  FitSentences scope sentences =
      (sentences ≡ sentence_of (stmts.Exit ∷ []) ∷ []) ⊎ Each (FitSentence scope) sentences

  -- a paragraph is in a section once one has begun
  abbrev pub FitParagraphs : (in_section : Bool) → List Paragraph → Type 0
  FitParagraphs in_section [] = Unit {0}
  FitParagraphs in_section (paragraph ∷ paragraphs) =
      FitSentences (scope_of (is_some paragraph.section || in_section)) paragraph.sentences
      × FitParagraphs (is_some paragraph.section || in_section) paragraphs
