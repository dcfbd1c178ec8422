-- What statements are to have in them, so that the tokens that they are printed with spell them.
use Rattle.std.specs.Prelude.{ℕ, zero, suc, ◌≡◌, true, false, ◌⊎◌, List, [], ◌∷◌, Option, Some, None, codes}
use Rattle.cob_tree.specs.declared.calc.Calc.{Calc}
use Rattle.cob_tree.specs.declared.calc.Calc.TheVariants as calcs
use Rattle.cob_tree.specs.declared.calc.Target.{Target}
use Rattle.cob_tree.specs.declared.choice.Subject.{Subject}
use Rattle.cob_tree.specs.declared.choice.Subject.TheVariants as subjects
use Rattle.cob_tree.specs.declared.choice.Test.{Test}
use Rattle.cob_tree.specs.declared.choice.Test.TheVariants as tests
use Rattle.cob_tree.specs.declared.control.Control.{Control}
use Rattle.cob_tree.specs.declared.control.Control.TheVariants as controls
use Rattle.cob_tree.specs.declared.file.Opening.{Opening}
use Rattle.cob_tree.specs.declared.place.Expr.{Expr}
use Rattle.cob_tree.specs.declared.place.Operand.{Operand}
use Rattle.cob_tree.specs.declared.place.Operand.TheVariants as operands
use Rattle.cob_tree.specs.declared.place.Place.{Place}
use Rattle.cob_tree.specs.declared.program.Program.{Program}
use Rattle.cob_tree.specs.declared.stmt.Arms.{Arms, out-Arms}
use Rattle.cob_tree.specs.declared.stmt.Stmt.{Stmt, out-Stmt}
use Rattle.cob_tree.specs.declared.stmt.Stmt.TheOpen.{Stmt-F}
use Rattle.cob_tree.specs.declared.stmt.When.{When, out-When}
use Rattle.cobol_lex.specs.declared.token.TokenKind.{TokenKind}
use Rattle.cobol_lex.specs.declared.token.TokenKind.TheVariants as kinds
use Rattle.parser_combinators.specs.declared.note.Note.{Note}
use Rattle.parser_combinators.specs.declared.note.Position.{Position}
use Rattle.parser_combinators.specs.Form.{begins_by}
use Rattle.unparser.specs.Place.{operand_tokens}
use Rattle.program_facts.specs.well_scoped.Part.{is_filled}
use Rattle.cobol_grammar.specs.declared.stmt_forms.scope.Scope.{Scope}
use Rattle.cobol_grammar.specs.stmt_forms.Jump.{is_digits}
use Rattle.cobol_grammar.specs.stmt_forms.Loop.{continues_item, looped}
use Rattle.cobol_grammar.specs.stmt_forms.Part.{Parts}
use Rattle.round_trip.specs.spelled_forms.Spelling.{first_of, Spelled}
use Rattle.round_trip.specs.spelling.stmt_spelling.Part.{Kept, BehindOperand, SpellsOperand, SpellsPlace, Without, SpellsValue, SpellsNumber, SpellsNumberPlace, MovesTo, SpellsExpr, WithoutExpr, SpellsCond, SpellsFile, SpellsRecord, SpellsEntry, SpellsRange}

-- each of these has the property
abbrev pub Each : {A : Type 0} → (A → Type 0) → List A → Type 0
Each P [] = Unit {0}
Each P (x ∷ xs) = P x × Each P xs

-- what is there has the property
abbrev pub IfAny : {A : Type 0} → (A → Type 0) → Option A → Type 0
IfAny P None = Unit {0}
IfAny P (Some x) = P x

-- there is one at least, and it holds of each
abbrev pub Some_of : {A : Type 0} → (A → Type 0) → List A → Type 0
Some_of P list = (is_filled list ≡ true) × Each P list

module _ {Side Known : Type 0} (parts : Parts Side Known) (kept : Kept Side) (program : Program)
  where
    -- ---- heads

    -- a place that takes this operand
    abbrev pub Receives : Operand → Place → Type 0
    Receives from place =
        SpellsPlace parts kept program place
        × (Without parts kept program parts.value_fault (operands.Place place)
        × MovesTo parts kept program from (operands.Place place))

    -- a target of which this fault isn't noted
    abbrev pub TakesResult : (Side → Option Note) → Target → Type 0
    TakesResult fault target =
        SpellsPlace parts kept program target.place
        × Without parts kept program fault (operands.Place target.place)

    -- targets that are read and changed, one at least
    abbrev pub Targets : List Target → Type 0
    Targets into = Some_of (TakesResult parts.number_fault) into

    -- targets that are only set, one at least
    abbrev pub Results : List Target → Type 0
    Results into = Some_of (TakesResult parts.result_fault) into

    -- an operand of arithmetic
    abbrev pub Number : Operand → Type 0
    Number operand = SpellsNumber parts kept program operand

    -- arithmetic with its targets
    abbrev pub SpellsCalc : Calc → List Target → Type 0
    SpellsCalc (calcs.Add operands) into = Some_of Number operands × Targets into
    SpellsCalc (calcs.AddGiving operands) into = Some_of Number operands × Results into
    SpellsCalc (calcs.Subtract operands) into = Some_of Number operands × Targets into
    SpellsCalc (calcs.SubtractGiving operands from) into =
        Some_of Number operands × (Number from × Results into)
    SpellsCalc (calcs.Multiply by) into = Number by × Targets into
    SpellsCalc (calcs.MultiplyGiving one by) into = Number one × (Number by × Results into)
    SpellsCalc (calcs.Divide by) into = Number by × Targets into
    SpellsCalc (calcs.DivideGiving by what) into = Number by × (Number what × Results into)
    SpellsCalc (calcs.Compute expr) into =
        (SpellsExpr parts kept program expr
        × WithoutExpr parts kept program parts.number_fault expr)
        × Results into

    -- an operand that counts by a whole number
    abbrev pub Whole : Operand → Type 0
    Whole operand =
        SpellsOperand parts kept program operand
        × Without parts kept program parts.whole_fault operand

    -- how often a PERFORM is done
    abbrev pub SpellsControl : Control → Type 0
    SpellsControl controls.Once = Unit {0}
    SpellsControl (controls.Times count) = Whole count
    SpellsControl (controls.Until after cond) = SpellsCond parts kept program cond
    SpellsControl (controls.Varying after item from by cond) =
        SpellsNumberPlace parts kept program item
        × (Number from × (Number by × SpellsCond parts kept program cond))

    -- an item that counts an inline PERFORM; it is told from the name of a paragraph by its second
    -- token
    pub record CountsByItem (count : Operand) : Type 0 where
      pub first : List ℕ
      pub others : List TokenKind
      pub tokens : operand_tokens program count ≡ kinds.Word first ∷ others
      pub is_name : parts.is_name (kinds.Word first) ≡ true
      -- what follows its first word makes it an item
      pub goes_on : begins_by continues_item
          (first_of others (Some (kinds.Word (codes "TIMES")))) ≡ true
      -- the rest of it is spelled after its first word
      pub spelled : (taken : ℕ) (position : Position) →
          Spelled (parts.reference_behind first position) taken others
          (BehindOperand parts) (kept.operand count)

    -- digits that count an inline PERFORM
    pub record CountsByDigits (count : Operand) : Type 0 where
      pub digits : List ℕ
      pub tokens : operand_tokens program count ≡ kinds.Digits digits ∷ []
      -- the digits are what counts
      pub is : (position : Position) → kept.operand count (parts.digits_side digits position)

    -- what counts an inline PERFORM and begins neither with a name nor with digits
    pub record CountsOtherwise (count : Operand) : Type 0 where
      pub first : TokenKind
      pub others : List TokenKind
      pub tokens : operand_tokens program count ≡ first ∷ others
      pub no_name : parts.is_name first ≡ false
      pub no_digits : is_digits first ≡ false
      pub no_procedure : parts.is_procedure_word first ≡ false

    -- what counts an inline PERFORM, told from the name of a paragraph
    abbrev pub CountsTurns : Operand → Type 0
    CountsTurns count =
        CountsByItem count ⊎ (CountsByDigits count ⊎ CountsOtherwise count)

    -- how often an inline PERFORM is done
    abbrev pub SpellsTurns : Control → Type 0
    SpellsTurns controls.Once = ⊥
    SpellsTurns (controls.Times count) = Whole count × CountsTurns count
    SpellsTurns control = SpellsControl control

    -- ---- what EVALUATE compares

    -- the subject of EVALUATE
    abbrev pub SpellsSubject : Subject → Type 0
    SpellsSubject subjects.True = Unit {0}
    SpellsSubject subjects.False = Unit {0}
    SpellsSubject (subjects.Value expr) =
        SpellsExpr parts kept program expr
        × WithoutExpr parts kept program parts.value_fault expr

    -- an expression that is compared with the subject
    abbrev pub Compares : Expr → Expr → Type 0
    Compares subject expr =
        SpellsExpr parts kept program expr
        × (WithoutExpr parts kept program parts.value_fault expr
        × ((side other : Side) → kept.expr subject side → kept.expr expr other →
        parts.subject_fault (parts.known_of side) other ≡ None))

    -- a test of a WHEN, under this subject
    abbrev pub SpellsTest : Subject → Test → Type 0
    SpellsTest subject tests.Any = Unit {0}
    SpellsTest (subjects.Value expr) (tests.Value not from to) =
        Compares expr from × IfAny (Compares expr) to
    SpellsTest (subjects.Value expr) (tests.Holds cond) = ⊥
    SpellsTest subject (tests.Holds cond) = SpellsCond parts kept program cond
    SpellsTest subject (tests.Value not from to) = ⊥

    -- the operand of FROM, for this record
    abbrev pub WrittenFrom : ℕ → Operand → Type 0
    WrittenFrom entry from =
        SpellsValue parts kept program from
        × ((side other : Side) → kept.operand from side → kept.entry entry other →
        parts.move_fault side other ≡ None)

    -- ---- statements

    module _ (Held : Scope → List Stmt → Type 0) (scope : Scope) where
      -- a statement's arms
      abbrev pub SpellsArms : Arms → Type 0
      SpellsArms arms =
          IfAny (Held scope) (out-Arms arms).first × IfAny (Held scope) (out-Arms arms).second

      -- a WHEN, under this subject
      abbrev pub SpellsWhen : Subject → When → Type 0
      SpellsWhen subject when =
          Some_of (SpellsTest subject) (out-When when).tests × Held scope (out-When when).stmts

      -- none, or some that are held
      abbrev pub HeldOrNone : List Stmt → Type 0
      HeldOrNone [] = Unit {0}
      HeldOrNone (stmt ∷ others) = Held scope (stmt ∷ others)

      -- the parts of a statement are spelled; EXIT without a further word isn't read as other
      -- statements are, so it is none
      abbrev pub SpellsShape : Stmt-F Stmt Arms When → Type 0
      SpellsShape (Stmt-F.Display items advance) =
          Some_of (SpellsValue parts kept program) items
      SpellsShape (Stmt-F.Move from to) =
          SpellsValue parts kept program from × Some_of (Receives from) to
      SpellsShape (Stmt-F.Arith calc into arms) = SpellsCalc calc into × SpellsArms arms
      SpellsShape (Stmt-F.SetTrue place) =
          SpellsPlace parts kept program place
          × Without parts kept program parts.condition_fault (operands.Place place)
      SpellsShape (Stmt-F.Opens openings) =
          Some_of (λ (opening : Opening). SpellsFile parts kept program opening.file) openings
      SpellsShape (Stmt-F.Closes files) = Some_of (SpellsFile parts kept program) files
      SpellsShape (Stmt-F.Read file into arms) =
          SpellsFile parts kept program file
          × (IfAny (λ place. SpellsPlace parts kept program place
          × (Without parts kept program parts.value_fault (operands.Place place)
          × Without parts kept program (parts.into_fault (Some file)) (operands.Place place)))
          into × SpellsArms arms)
      SpellsShape (Stmt-F.Write entry from) =
          SpellsRecord parts kept program entry × IfAny (WrittenFrom entry) from
      SpellsShape (Stmt-F.Rewrite entry from) =
          SpellsRecord parts kept program entry × IfAny (WrittenFrom entry) from
      SpellsShape (Stmt-F.If cond met unmet) =
          SpellsCond parts kept program cond × (Held scope met × HeldOrNone unmet)
      SpellsShape (Stmt-F.Evaluate subject whens other) =
          SpellsSubject subject
          × (Some_of (SpellsWhen subject) whens × IfAny (Held scope) other)
      SpellsShape (Stmt-F.Loop control body) = SpellsTurns control × Held (looped scope) body
      SpellsShape (Stmt-F.Perform entry exit control) =
          SpellsRange parts kept program entry exit × SpellsControl control
      SpellsShape (Stmt-F.Go to) = SpellsEntry parts kept program to
      SpellsShape (Stmt-F.GoDepending to on) =
          Some_of (SpellsEntry parts kept program) to
          × (SpellsPlace parts kept program on
          × Without parts kept program parts.whole_fault (operands.Place on))
      SpellsShape Stmt-F.Exit = ⊥
      SpellsShape Stmt-F.ExitSection = scope.in_section ≡ true
      SpellsShape (Stmt-F.ExitPerform cycle) = scope.in_loop ≡ true
      SpellsShape _ = Unit {0}

      -- a statement
      abbrev pub SpellsStmt : Stmt → Type 0
      SpellsStmt stmt = SpellsShape (out-Stmt stmt)

    -- a list of one statement or more is spelled, with so many levels for what they hold
    unfoldable pub SpellsList : ℕ → Scope → List Stmt → Type 0
    SpellsList zero scope list = ⊥
    SpellsList (suc levels) scope list = Some_of (SpellsStmt (SpellsList levels) scope) list
