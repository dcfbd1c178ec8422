-- Clauses by their kind.
use Rattle.std.specs.Prelude.{ℕ, Bool, not, ◌==◌, List, [], ◌∷◌, ◌++◌, Option, Some, None, if◌then◌else◌}
use Rattle.std.specs.List.{find, list_any}
use Rattle.cobol_grammar.specs.declared.data_forms.draft.Clause.{Clause}
use Rattle.cobol_grammar.specs.declared.data_forms.draft.Clause.TheVariants as drafts
use Rattle.declaration_checks.specs.declared.clause.ClauseKind.{ClauseKind}
use Rattle.declaration_checks.specs.declared.clause.ClauseKind.TheVariants as kinds
use Rattle.parser_combinators.specs.declared.note.NameKind.TheVariants.{Usage}
use Rattle.parser_combinators.specs.declared.note.Note.{Note}
use Rattle.parser_combinators.specs.declared.note.Position.{Position}
use Rattle.declaration_checks.specs.Fault.{fault_at}

-- the kind of a clause
abbrev pub kind_of : Clause → ClauseKind
kind_of (drafts.Redefines at name name_at) = kinds.Redefines
kind_of (drafts.Picture at text text_at) = kinds.Picture
kind_of (drafts.Usage at usage) = kinds.Usage
kind_of (drafts.Sign at leading separate) = kinds.Sign
kind_of (drafts.Occurs at count count_at) = kinds.Occurs
kind_of (drafts.Value at spans) = kinds.Value

-- the number of a kind of clause, by which kinds are told apart
abbrev pub kind_number : ClauseKind → ℕ
kind_number kinds.Redefines = 0
kind_number kinds.Picture = 1
kind_number kinds.Usage = 2
kind_number kinds.Sign = 3
kind_number kinds.Occurs = 4
kind_number kinds.Value = 5

-- where a clause begins
abbrev pub position_of : Clause → Position
position_of (drafts.Redefines at name name_at) = at
position_of (drafts.Picture at text text_at) = at
position_of (drafts.Usage at usage) = at
position_of (drafts.Sign at leading separate) = at
position_of (drafts.Occurs at count count_at) = at
position_of (drafts.Value at spans) = at

-- the clause is of this kind
abbrev pub is_of : ClauseKind → Clause → Bool
is_of kind clause = kind_number (kind_of clause) == kind_number kind

-- the first clause of a kind
abbrev pub clause_of : ClauseKind → List Clause → Option Clause
clause_of kind clauses = find (is_of kind) clauses

-- the fault of a clause whose kind comes twice in one entry, at the first token of the second
abbrev pub again_from : (before clauses : List Clause) → Option Note
again_from before [] = None
again_from before (clause ∷ clauses) =
    if list_any (is_of (kind_of clause)) before
    then fault_at Usage (position_of clause)
    else again_from (before ++ clause ∷ []) clauses

-- the first clause of an entry whose kind comes twice
abbrev pub duplicate_fault : List Clause → Option Note
duplicate_fault clauses = again_from [] clauses

-- the clause isn't VALUE
abbrev pub is_other : Clause → Bool
is_other clause = not (is_of kinds.Value clause)

-- a usage fault at a clause, if there is one
abbrev pub at_clause : Option Clause → Option Note
at_clause None = None
at_clause (Some clause) = fault_at Usage (position_of clause)

-- a level 88 has no clause other than VALUE
abbrev pub other_fault : List Clause → Option Note
other_fault clauses = at_clause (find is_other clauses)
