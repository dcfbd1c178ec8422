-- Of which uses of operands and expressions no fault is noted, by what the names of their program
-- tell of them.
use Rattle.std.specs.Prelude.{ℕ, ◌≡◌, not, true, List, [], Some, None}
use Rattle.cob_tree.specs.declared.entry.Entry.{Entry}
use Rattle.cob_tree.specs.declared.place.Expr.{Expr}
use Rattle.cob_tree.specs.declared.place.Operand.{Operand}
use Rattle.cob_tree.specs.declared.program.Program.{Program}
use Rattle.parser_combinators.specs.declared.note.Position.{Position}
use Rattle.symbol_tables.specs.data_names.Names.{Names}
use Rattle.symbol_tables.specs.declared.procedure_names.table.ProcedureTable.{ProcedureTable}
use Rattle.cobol_grammar.specs.declared.expr_forms.side.ExprContent.{ExprContent}
use Rattle.cobol_grammar.specs.declared.expr_forms.side.ExprContent.TheVariants as makes
use Rattle.cobol_grammar.specs.declared.expr_forms.side.Side.{Side}
use Rattle.cobol_grammar.specs.declared.expr_forms.side.ValueKind.{ValueKind}
use Rattle.cobol_grammar.specs.expr_forms.Fault.{compared_as, is_condition, kind_of, value_fault, number_fault, result_fault, whole_fault, condition_fault}
use Rattle.cobol_grammar.specs.Use.{known_of, record_kind, moved_fault, move_fault, into_fault, subject_fault}
use Rattle.cobol_grammar.specs.Whole.{parts_of}
use Rattle.round_trip.specs.spelling.stmt_spelling.Part.{Without, WithoutExpr, MovesTo}
use Rattle.round_trip.specs.spelling.expr_spelling.Printable.{Judged, is_number, takes_result, is_counting, judged_expr, judged_operand, reference}
use Rattle.round_trip.specs.spelling.cond_spelling.Printable.{kinds_suit}
use Rattle.round_trip.specs.spelling.Kept.{IsEntrySide, kept_of}
use Rattle.round_trip.specs.spelling.expr_spelling.Spelled.{IsExprSide, IsOperandSide}

-- such a value may be moved to such a receiver, wherever they are
abbrev pub MayMove : ExprContent → (from to : ValueKind) → Type 0
MayMove make from to = (position : Position) → moved_fault make from to position ≡ None

-- a subject of EVALUATE may be compared with it
abbrev pub MayCompare : (subject other : Judged) → Type 0
MayCompare subject other =
    kinds_suit (compared_as subject.kind) (compared_as other.kind) subject other ≡ true

module _ (names : Names) (entries : List Entry) (table : ProcedureTable) (program : Program) where
  -- no fault of these uses is noted of an operand
  pub record OperandIsFree (operand : Operand) : Type 0 where
    -- as a value, unless it is a name of level 88
    pub value : not (is_condition (judged_operand names program operand).kind) ≡ true →
        Without (parts_of names entries table) (kept_of names program) program
        (λ side. value_fault side) operand
    -- as a number, where it is one
    pub number : is_number (judged_operand names program operand).kind ≡ true →
        Without (parts_of names entries table) (kept_of names program) program
        (λ side. number_fault side) operand
    -- as what takes a result, where it may
    pub result : takes_result (judged_operand names program operand).kind ≡ true →
        Without (parts_of names entries table) (kept_of names program) program
        (λ side. result_fault side) operand
    -- as a number without decimals, where it is one
    pub whole : is_counting (judged_operand names program operand).kind ≡ true →
        Without (parts_of names entries table) (kept_of names program) program
        (λ side. whole_fault side) operand
    -- as a name of level 88, where it is one
    pub condition : is_condition (judged_operand names program operand).kind ≡ true →
        Without (parts_of names entries table) (kept_of names program) program
        (λ side. condition_fault side) operand
    -- as the place of INTO, where the records of the file may be moved to it
    pub into : (file : ℕ) → MayMove makes.Item (record_kind entries file)
        (judged_operand names program operand).kind →
        Without (parts_of names entries table) (kept_of names program) program
        (λ side. into_fault entries (Some file) side) operand
    -- where it is moved to what it may be moved to
    pub moves : (to : Operand) → MayMove (judged_operand names program operand).make
        (judged_operand names program operand).kind (judged_operand names program to).kind →
        MovesTo (parts_of names entries table) (kept_of names program) program operand to
    -- where it is moved to a record that it may be moved to, by WRITE or REWRITE FROM
    pub writes : (entry : ℕ) → MayMove (judged_operand names program operand).make
        (judged_operand names program operand).kind (kind_of (reference names program entry [])) →
        (side other : Side) → IsOperandSide names program operand side →
        IsEntrySide names program entry other → move_fault side other ≡ None

  -- no fault of these uses is noted of an expression
  pub record ExprIsFree (expr : Expr) : Type 0 where
    -- as a value, unless it is a name of level 88
    pub value : not (is_condition (judged_expr names program expr).kind) ≡ true →
        WithoutExpr (parts_of names entries table) (kept_of names program) program
        (λ side. value_fault side) expr
    -- as a number, where it is one
    pub number : is_number (judged_expr names program expr).kind ≡ true →
        WithoutExpr (parts_of names entries table) (kept_of names program) program
        (λ side. number_fault side) expr
    -- beside a subject of EVALUATE with which it may be compared
    pub compares : (other : Expr) →
        MayCompare (judged_expr names program expr) (judged_expr names program other) →
        (side next : Side) → IsExprSide names program expr side →
        IsExprSide names program other next → subject_fault (known_of side) next ≡ None
