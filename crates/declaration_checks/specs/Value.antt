-- The rules on VALUE.
use Rattle.std.specs.Prelude.{Bool, not, ◌&&◌, ◌||◌, List, ◌∷◌, [], Option, Some, None}
use Rattle.std.specs.List.{fold}
use Rattle.std.specs.Option.{is_some}
use Rattle.cob_tree.specs.declared.entry.Entry.{Entry}
use Rattle.cobol_grammar.specs.declared.data_forms.draft.Clause.{Clause}
use Rattle.cobol_grammar.specs.declared.data_forms.draft.Clause.TheVariants as drafts
use Rattle.cobol_grammar.specs.declared.data_forms.draft.SpanDraft.{SpanDraft}
use Rattle.cobol_grammar.specs.declared.data_forms.draft.ThruDraft.{ThruDraft}
use Rattle.parser_combinators.specs.declared.note.NameKind.TheVariants.{Value}
use Rattle.parser_combinators.specs.Note.{earliest}
use Rattle.parser_combinators.specs.declared.note.Note.{Note}
use Rattle.parser_combinators.specs.declared.note.Position.{Position}
use Rattle.declaration_checks.specs.declared.clause.ClauseKind.TheVariants as kinds
use Rattle.declaration_checks.specs.declared.literal.LiteralTarget.{LiteralTarget}
use Rattle.declaration_checks.specs.Clause.{clause_of}
use Rattle.declaration_checks.specs.Fault.{fault_at, fault_unless, first_of}
use Rattle.declaration_checks.specs.Literal.{fits}

-- ---- of a level 88: there are values, and each fits its item

-- a level 88 without a VALUE clause has a fault
abbrev pub missing_by : Position → Option Clause → Option Note
missing_by at None = fault_at Value at
missing_by at (Some clause) = None

-- a level 88 lacks its values
abbrev pub missing_fault : Position → List Clause → Option Note
missing_fault at clauses = missing_by at (clause_of kinds.Value clauses)

-- the end of a range of values doesn't fit
abbrev pub to_fault : LiteralTarget → Option ThruDraft → Option Note
to_fault target None = None
to_fault target (Some thru) = fault_unless (fits thru.to target) Value thru.to_at

-- a value, or an end of a range of values, doesn't fit
abbrev pub span_fault : LiteralTarget → SpanDraft → Option Note
span_fault target span =
    first_of
    (fault_unless (fits span.from target) Value span.from_at ∷ to_fault target span.thru ∷ [])

-- the first fault, with that of one value more
abbrev pub and_span : LiteralTarget → Option Note → SpanDraft → Option Note
and_span target fault span = earliest fault (span_fault target span)

-- the first of these values that doesn't fit
abbrev pub spans_fault : LiteralTarget → List SpanDraft → Option Note
spans_fault target spans = fold (and_span target) None spans

-- ---- of an item: one literal, which fits

-- the entry may have a value: it is outside the FILE SECTION, redefines nothing, is no group that
-- repeats, and nothing above it bars one
abbrev pub may_have_value : Entry → (group barred : Bool) → Bool
may_have_value entry group barred =
    not (is_some entry.file || (is_some entry.redefines || (group && is_some entry.occurs)))
    && not barred

-- the fault of an item's value that is a range
abbrev pub thru_fault : Option ThruDraft → Option Note
thru_fault None = None
thru_fault (Some thru) = fault_at Value thru.at

-- an item has no second value
abbrev pub second_fault : List SpanDraft → Option Note
second_fault [] = None
second_fault (span ∷ spans) = fault_at Value span.from_at

-- what is wrong with the literals of an item's VALUE clause
abbrev pub literals_fault : LiteralTarget → List SpanDraft → Option Note
literals_fault target [] = None
literals_fault target (span ∷ spans) =
    first_of
    (fault_unless (fits span.from target) Value span.from_at
    ∷ thru_fault span.thru ∷ second_fault spans ∷ [])

-- what is wrong with an item's VALUE clause
abbrev pub value_by : Entry → LiteralTarget → (barred : Bool) → Option Clause → Option Note
value_by entry target barred (Some (drafts.Value at spans)) =
    first_of
    (fault_unless (may_have_value entry target.group barred) Value at
    ∷ literals_fault target spans ∷ [])
value_by entry target barred _ = None

-- what is wrong with an item's value
abbrev pub value_fault : Entry → LiteralTarget → (barred : Bool) → List Clause → Option Note
value_fault entry target barred clauses =
    value_by entry target barred (clause_of kinds.Value clauses)
