-- What the parts by which a source is read have to do with the parts by which what is printed of it
-- is read again: what the first give is spelled again, and kept the same.
use Rattle.std.specs.Prelude.{ℕ, ◌≡◌, true, List, Option, Some, None}
use Rattle.cob_tree.specs.declared.place.Expr.{Expr}
use Rattle.cob_tree.specs.declared.place.Operand.{Operand}
use Rattle.cob_tree.specs.declared.place.Operand.TheVariants as operands
use Rattle.cob_tree.specs.declared.program.Program.{Program}
use Rattle.cobol_lex.specs.declared.token.TokenKind.{TokenKind}
use Rattle.cobol_lex.specs.declared.token.TokenKind.TheVariants as kinds
use Rattle.parser_combinators.specs.declared.note.Note.{Note}
use Rattle.parser_combinators.specs.declared.note.Position.{Position}
use Rattle.grammar_laws.specs.form_results.Giving.{Gives}
use Rattle.cobol_grammar.specs.stmt_forms.Part.{Parts}
use Rattle.round_trip.specs.spelling.stmt_spelling.Part.{Kept, SpellsOperand, SpellsPlace, SpellsExpr, SpellsCond, SpellsFile, SpellsRecord, SpellsEntry, SpellsRange}
use Rattle.round_trip.specs.spelling.stmt_spelling.Stmt.{CountsTurns}

module _ {Side Known : Type 0} (parts again : Parts Side Known) (kept : Kept Side)
    (program : Program) where
  -- ---- what is read

  -- an operand that is spelled again
  pub record FitsOperand (side : Side) : Type 0 where
    -- it is spelled again
    pub spelled : SpellsOperand again kept program (parts.operand_of side)
    -- and counts an inline PERFORM
    pub counts : CountsTurns again kept program (parts.operand_of side)
    -- the same is kept of it
    pub side_kept : kept.operand (parts.operand_of side) side

  -- an item, which may be an operand too where it is used as a number
  pub record FitsPlace (side : Side) : Type 0 where
    -- it is spelled again
    pub spelled : SpellsPlace again kept program (parts.place_of side)
    -- the same is kept of it
    pub side_kept : kept.operand (operands.Place (parts.place_of side)) side
    -- where it is a number, it is an operand that is spelled again
    pub number : parts.number_fault side ≡ None → FitsOperand side

  -- an expression that is spelled again
  pub record FitsExpr (side : Side) : Type 0 where
    -- it is spelled again
    pub spelled : SpellsExpr again kept program (parts.expr_of side)
    -- the same is kept of it
    pub side_kept : kept.expr (parts.expr_of side) side

  -- a record that is spelled again
  pub record FitsEntry (side : Side) : Type 0 where
    -- it is spelled again
    pub spelled : SpellsRecord again kept program (parts.entry_of side)
    -- the same is kept of it
    pub side_kept : kept.entry (parts.entry_of side) side

  -- the file is known, and is spelled again
  abbrev pub FitsFile : Option ℕ → Type 0
  FitsFile None = ⊥
  FitsFile (Some file) = SpellsFile again kept program file

  -- ---- of what no fault was noted none is noted again

  -- where the first finds no fault of an operand, the second finds none
  abbrev pub Passes : (fault others : Side → Option Note) → Type 0
  Passes fault others = (operand : Operand) (side next : Side) →
      kept.operand operand side → kept.operand operand next →
      fault side ≡ None → others next ≡ None

  -- the same of an expression
  abbrev pub PassesExpr : (fault others : Side → Option Note) → Type 0
  PassesExpr fault others = (expr : Expr) (side next : Side) →
      kept.expr expr side → kept.expr expr next → fault side ≡ None → others next ≡ None

  -- for each use of a part, where the first find no fault the second find none
  pub record UsesFit : Type 0 where
    -- an operand as a value
    pub value : Passes parts.value_fault again.value_fault
    -- an operand as a number
    pub number : Passes parts.number_fault again.number_fault
    -- an operand as a number without decimals
    pub whole : Passes parts.whole_fault again.whole_fault
    -- a name of level 88
    pub condition : Passes parts.condition_fault again.condition_fault
    -- a place that takes a result
    pub result : Passes parts.result_fault again.result_fault
    -- the place of INTO, for records of this file
    pub into : (file : ℕ) → Passes (parts.into_fault (Some file)) (again.into_fault (Some file))
    -- an expression as a value
    pub value_expr : PassesExpr parts.value_fault again.value_fault
    -- an expression as a number
    pub number_expr : PassesExpr parts.number_fault again.number_fault
    -- an operand that is moved to another
    pub moves : (from to : Operand) (side next other last : Side) →
        kept.operand from side → kept.operand from next →
        kept.operand to other → kept.operand to last →
        parts.move_fault side other ≡ None → again.move_fault next last ≡ None
    -- an operand that is moved to a record
    pub writes : (from : Operand) (entry : ℕ) (side next other last : Side) →
        kept.operand from side → kept.operand from next →
        kept.entry entry other → kept.entry entry last →
        parts.move_fault side other ≡ None → again.move_fault next last ≡ None
    -- a subject of EVALUATE with what it is compared with
    pub compares : (subject expr : Expr) (side next other last : Side) →
        kept.expr subject side → kept.expr subject next →
        kept.expr expr other → kept.expr expr last →
        parts.subject_fault (parts.known_of side) other ≡ None →
        again.subject_fault (again.known_of next) last ≡ None

  -- ---- all parts, of tokens of these kinds

  -- each part gives what is spelled again
  pub record PartsFit (Kind : TokenKind → Type 0) : Type 0 where
    pub operand : Gives Kind parts.operand FitsOperand
    pub reference : Gives Kind parts.reference FitsPlace
    -- after a word that may be a name, where it counts turns
    pub reference_behind : (name : List ℕ) (position : Position) →
        Gives Kind (parts.reference_behind name position)
        (λ side. Kind (kinds.Word name) → parts.is_name (kinds.Word name) ≡ true →
        parts.whole_fault side ≡ None → FitsOperand side)
    -- digits as an operand
    pub digits_side : (digits : List ℕ) (position : Position) → Kind (kinds.Digits digits) →
        FitsOperand (parts.digits_side digits position)
    pub expr : Gives Kind parts.expr FitsExpr
    pub cond : Gives Kind parts.cond (λ found. SpellsCond again kept program found.0)
    pub file : Gives Kind parts.file FitsFile
    pub record_name : Gives Kind parts.record_name FitsEntry
    -- of what no fault was noted none is noted again
    pub uses : UsesFit
    -- what a procedure begins with has a label
    pub entry : (name : List ℕ) (span : ℕ × ℕ) → parts.procedure_of name ≡ Some span →
        SpellsEntry again kept program span.0
    -- from one procedure to another one, or itself
    pub range : (name last : List ℕ) (span end : ℕ × ℕ) → parts.procedure_of name ≡ Some span →
        parts.procedure_of last ≡ Some end → SpellsRange again kept program span.0 end.1
