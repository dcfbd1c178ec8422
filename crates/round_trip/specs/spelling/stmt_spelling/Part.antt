-- What the parts of statements are to spell: each is spelled by the tokens that it is printed with.
use Rattle.std.specs.Prelude.{ℕ, ◌≡◌, Bool, true, false, ◌||◌, ◌==◌, ◌⊎◌, List, [], ◌∷◌, ◌++◌, Option, Some, None, codes}
use Rattle.cob_base.specs.Bytes.{equal_sign}
use Rattle.cob_tree.specs.declared.cond.Cond.{Cond}
use Rattle.cob_tree.specs.declared.place.Expr.{Expr}
use Rattle.cob_tree.specs.declared.place.Operand.{Operand}
use Rattle.cob_tree.specs.declared.place.Operand.TheVariants as operands
use Rattle.cob_tree.specs.declared.place.Place.{Place}
use Rattle.cob_tree.specs.declared.program.Program.{Program}
use Rattle.cobol_lex.specs.declared.token.TokenKind.{TokenKind}
use Rattle.cobol_lex.specs.declared.token.TokenKind.TheVariants as kinds
use Rattle.parser_combinators.specs.declared.note.Note.{Note}
use Rattle.parser_combinators.specs.Form.{begins_by}
use Rattle.parser_combinators.specs.Part.{is_key}
use Rattle.unparser.specs.Condition.{cond_tokens}
use Rattle.unparser.specs.File.{file_tokens, label_tokens}
use Rattle.unparser.specs.Token.{procedure_token}
use Rattle.unparser.specs.Place.{item_name, expr_tokens, operand_tokens, place_tokens}
use Rattle.cobol_grammar.specs.stmt_forms.Loop.{continues_item}
use Rattle.cobol_grammar.specs.stmt_forms.Part.{Parts}
use Rattle.round_trip.specs.spelled_forms.Spelling.{first_of, Spelled}
use Rattle.round_trip.specs.spelling.stmt_spelling.Behind.{is_one_of, behind_parts, BehindPart, EndsStmt, IsNot, BeginsPhrase}

-- ANY or OTHER
abbrev pub is_test_word : TokenKind → Bool
is_test_word kind = is_key (codes "ANY") kind || is_key (codes "OTHER") kind

-- ANY, OTHER, NOT, TRUE or FALSE
abbrev pub is_value_word : TokenKind → Bool
is_value_word kind =
    is_test_word kind
    || (is_key (codes "NOT") kind
    || (is_key (codes "TRUE") kind || is_key (codes "FALSE") kind))

-- what is kept of operands, expressions and records as they are read: which side may be read of
-- each
pub record Kept (Side : Type 0) : Type 1 where
  pub operand : Operand → Side → Type 0
  pub expr : Expr → Side → Type 0
  -- a record, by its place among the entries
  pub entry : ℕ → Side → Type 0

module _ {Side Known : Type 0} (parts : Parts Side Known) where
  -- what may follow an operand or a place: another one, or `=` too
  abbrev pub BehindOperand : Option TokenKind → Type 0
  BehindOperand behind =
      BehindPart behind
      ⊎ ((begins_by parts.begins_operand behind ≡ true) ⊎ (behind ≡ Some (kinds.Mark equal_sign)))

  -- what follows a part is no part, and what is kept tells what is in the tree
  pub record PartsAreTold (kept : Kept Side) : Type 0 where
    -- no word that may follow a part begins an operand
    pub word_no_operand : (word : List ℕ) → is_one_of behind_parts word ≡ true →
        parts.begins_operand (kinds.Word word) ≡ false
    -- no such word is a name
    pub word_no_name : (word : List ℕ) → is_one_of behind_parts word ≡ true →
        parts.is_name (kinds.Word word) ≡ false
    -- no such word is the name of a procedure
    pub word_no_procedure : (word : List ℕ) → is_one_of behind_parts word ≡ true →
        parts.is_procedure_word (kinds.Word word) ≡ false
    pub digits_no_name : (digits : List ℕ) → parts.is_name (kinds.Digits digits) ≡ false
    pub digits_no_procedure : (digits : List ℕ) →
        parts.is_procedure_word (kinds.Digits digits) ≡ false
    pub period_no_operand : parts.begins_operand kinds.Period ≡ false
    pub period_no_name : parts.is_name kinds.Period ≡ false
    pub period_no_procedure : parts.is_procedure_word kinds.Period ≡ false
    pub equal_no_name : parts.is_name (kinds.Mark equal_sign) ≡ false
    -- what may be a name begins an operand
    pub names_are_operands : (kind : TokenKind) → parts.is_name kind ≡ true →
        parts.begins_operand kind ≡ true
    -- nothing that goes on with a name begins an operand
    pub operand_apart : (kind : TokenKind) → parts.begins_operand kind ≡ true →
        continues_item kind ≡ false
    -- the operand in the tree is the one that was kept
    pub operand_told : (operand : Operand) (side : Side) → kept.operand operand side →
        parts.operand_of side ≡ operand
    -- so is the place
    pub place_told : (place : Place) (side : Side) → kept.operand (operands.Place place) side →
        parts.place_of side ≡ place
    -- so is the expression
    pub expr_told : (expr : Expr) (side : Side) → kept.expr expr side → parts.expr_of side ≡ expr
    -- so is the entry
    pub entry_told : (entry : ℕ) (side : Side) → kept.entry entry side →
        parts.entry_of side ≡ entry

  module _ (kept : Kept Side) (program : Program) where
    -- ---- operands

    -- the operand is a literal, as it is where either an item or a literal may be
    pub record IsLiteral (operand : Operand) : Type 0 where
      -- it doesn't begin with a name
      pub no_name : (behind : Option TokenKind) →
          begins_by parts.is_name (first_of (operand_tokens program operand) behind) ≡ false

    -- an operand that is an item, as it is where only an item may be
    pub record SpellsItem (operand : Operand) : Type 0 where
      -- it begins with a name
      pub name : (behind : Option TokenKind) →
          begins_by parts.is_name (first_of (operand_tokens program operand) behind) ≡ true
      -- it is spelled as a reference too
      pub by_reference : (taken : ℕ) →
          Spelled parts.reference taken (operand_tokens program operand) BehindOperand
          (kept.operand operand)

    -- an operand is spelled by its tokens
    pub record SpellsOperand (operand : Operand) : Type 0 where
      -- its first token begins an operand
      pub begins : (behind : Option TokenKind) →
          begins_by parts.begins_operand (first_of (operand_tokens program operand) behind)
          ≡ true
      pub spelled : (taken : ℕ) →
          Spelled parts.operand taken (operand_tokens program operand) BehindOperand
          (kept.operand operand)
      -- it is a literal or an item
      pub either : IsLiteral operand ⊎ SpellsItem operand

    -- a place is spelled by its tokens
    pub record SpellsPlace (place : Place) : Type 0 where
      -- its first token is a name
      pub begins : (behind : Option TokenKind) →
          begins_by parts.is_name (first_of (place_tokens program place) behind) ≡ true
      pub spelled : (taken : ℕ) →
          Spelled parts.reference taken (place_tokens program place) BehindOperand
          (kept.operand (operands.Place place))

    -- no such fault is noted of it
    abbrev pub Without : (Side → Option Note) → Operand → Type 0
    Without fault operand = (side : Side) → kept.operand operand side → fault side ≡ None

    -- an operand as a value
    abbrev pub SpellsValue : Operand → Type 0
    SpellsValue operand = SpellsOperand operand × Without parts.value_fault operand

    -- an operand as a number
    abbrev pub SpellsNumber : Operand → Type 0
    SpellsNumber operand = SpellsOperand operand × Without parts.number_fault operand

    -- a place as a number
    abbrev pub SpellsNumberPlace : Place → Type 0
    SpellsNumberPlace place =
        SpellsPlace place × Without parts.number_fault (operands.Place place)

    -- one operand may be moved to the other
    abbrev pub MovesTo : Operand → Operand → Type 0
    MovesTo from to = (side other : Side) → kept.operand from side → kept.operand to other →
        parts.move_fault side other ≡ None

    -- ---- expressions and conditions

    -- an expression is spelled by its tokens
    pub record SpellsExpr (expr : Expr) : Type 0 where
      pub spelled : (taken : ℕ) →
          Spelled parts.expr taken (expr_tokens program expr false) BehindPart (kept.expr expr)
      -- it begins with none of the words that may come in its place
      pub plain : (behind : Option TokenKind) →
          begins_by is_value_word (first_of (expr_tokens program expr false) behind) ≡ false

    -- no such fault is noted of an expression
    abbrev pub WithoutExpr : (Side → Option Note) → Expr → Type 0
    WithoutExpr fault expr = (side : Side) → kept.expr expr side → fault side ≡ None

    -- A condition is spelled by its tokens. After a name of level 88 that ends one a NOT is read
    -- with it, since a test could be there.
    pub record SpellsCond (cond : Cond) : Type 0 where
      -- it is spelled where no NOT follows
      pub spelled : (taken : ℕ) →
          Spelled parts.cond taken (cond_tokens program cond false) EndsStmt
          (λ found. found ≡ (cond, false))
      -- where a NOT follows, it is spelled without it, or with it
      pub before_not :
          ((taken : ℕ) →
          Spelled parts.cond taken (cond_tokens program cond false) IsNot
          (λ found. found ≡ (cond, false)))
          ⊎ ((taken : ℕ) →
          Spelled parts.cond taken
          (cond_tokens program cond false ++ kinds.Word (codes "NOT") ∷ []) BeginsPhrase
          (λ found. found ≡ (cond, true)))
      -- it begins neither with ANY nor with OTHER
      pub plain : (behind : Option TokenKind) →
          begins_by is_test_word (first_of (cond_tokens program cond false) behind) ≡ false

    -- ---- names

    -- the name of a file is spelled by its token
    pub record SpellsFile (file : ℕ) : Type 0 where
      -- its token is a name
      pub begins : (behind : Option TokenKind) →
          begins_by parts.is_name (first_of (file_tokens program file) behind) ≡ true
      pub spelled : (taken : ℕ) →
          Spelled parts.file taken (file_tokens program file) BehindOperand
          (λ found. found ≡ Some file)

    -- the name of a record that is written is spelled by its token
    pub record SpellsRecord (entry : ℕ) : Type 0 where
      pub spelled : (taken : ℕ) →
          Spelled parts.record_name taken (kinds.Word (item_name program entry) ∷ []) BehindPart
          (kept.entry entry)

    -- a word or digits with which the name of a procedure may begin
    abbrev pub IsProcedureName : List ℕ → Type 0
    IsProcedureName name =
        ((procedure_token name ≡ kinds.Word name)
        × (parts.is_procedure_word (kinds.Word name) ≡ true))
        ⊎ (procedure_token name ≡ kinds.Digits name)

    -- the label of this paragraph names what has this entry and exit
    pub record SpellsLabel (number : ℕ) (span : ℕ × ℕ) : Type 0 where
      pub name : List ℕ
      pub tokens : label_tokens program number ≡ procedure_token name ∷ []
      -- the name of a procedure may begin so
      pub begins : IsProcedureName name
      -- the procedure of that name has this entry and exit
      pub found : parts.procedure_of name ≡ Some span

    -- a label to go to
    abbrev pub SpellsEntry : ℕ → Type 0
    SpellsEntry to = (exit : ℕ) × SpellsLabel to (to, exit)

    -- the labels of an entry and an exit name the range between them
    pub record SpellsRange (entry exit : ℕ) : Type 0 where
      -- where what begins at the entry ends
      pub last : ℕ
      pub first_label : SpellsLabel entry (entry, last)
      -- a range of one paragraph is named by one label
      pub alone : (entry == exit) ≡ true → last ≡ exit
      -- of any other the second label names what ends at the exit
      pub last_label : (entry == exit) ≡ false → (first : ℕ) × SpellsLabel exit (first, exit)
