-- Usages, which groups hand down to what is in them, and the rules on them (ISO 1989:1985, the
-- USAGE clause).
use Rattle.std.specs.Prelude.{ℕ, Bool, true, false, not, ◌||◌, ◌==◌, List, [], ◌∷◌, ◌++◌, length, map, Option, Some, None, slice_get, if◌then◌else◌}
use Rattle.std.specs.List.{fold}
use Rattle.cob_tree.specs.declared.entry.Entry.{Entry}
use Rattle.cob_tree.specs.declared.picture.Picture.{Picture}
use Rattle.cob_tree.specs.declared.picture.Picture.TheVariants as pictures
use Rattle.cob_tree.specs.declared.picture.Usage.{Usage}
use Rattle.cob_tree.specs.declared.picture.Usage.TheVariants as usages
use Rattle.cobol_grammar.specs.declared.data_forms.draft.Clause.{Clause}
use Rattle.cobol_grammar.specs.declared.data_forms.draft.Clause.TheVariants as drafts
use Rattle.cobol_grammar.specs.declared.data_forms.draft.DataDraft.{DataDraft}
use Rattle.cobol_grammar.specs.declared.data_forms.draft.EntryDraft.{EntryDraft}
use Rattle.cobol_grammar.specs.declared.data_forms.draft.FdDraft.{FdDraft}
use Rattle.parser_combinators.specs.declared.note.NameKind.TheVariants.{Usage as BadUsage}
use Rattle.parser_combinators.specs.declared.note.Note.{Note}
use Rattle.parser_combinators.specs.declared.note.Position.{Position}
use Rattle.declaration_checks.specs.declared.clause.ClauseKind.TheVariants as kinds
use Rattle.declaration_checks.specs.Clause.{clause_of, position_of}
use Rattle.declaration_checks.specs.Fault.{fault_unless, first_of}
use Rattle.declaration_checks.specs.Standing.{before, holder_of}

-- ---- the usage of each entry, which an item or a group hands down

-- the usage that a USAGE clause gives
abbrev pub usage_in : Option Clause → Option Usage
usage_in (Some (drafts.Usage at usage)) = Some usage
usage_in _ = None

-- the usage of an entry by its own first USAGE clause, where it has one
abbrev pub own_usage : List Clause → Option Usage
own_usage clauses = usage_in (clause_of kinds.Usage clauses)

-- the usage of an entry: what is handed down to it, where something is, else its own
abbrev pub usage_by : (above own : Option Usage) → Option Usage
usage_by None own = own
usage_by (Some usage) own = Some usage

-- the usage of an entry to which this one is handed down; a level 88 has none
abbrev pub entry_usage : Entry → (above own : Option Usage) → Option Usage
entry_usage entry above own = if entry.level == 88 then None else usage_by above own

-- the usage that is found, if there is one
abbrev pub found_usage : Option (Option Usage) → Option Usage
found_usage None = None
found_usage (Some usage) = usage

-- what is handed down to an entry by the item or group that it is in
abbrev pub usage_above : (usages : List (Option Usage)) → (holder : Option ℕ) → Option Usage
usage_above usages None = None
usage_above usages (Some item) = found_usage (slice_get usages item)

-- the usages of the entries so far and of this one, which has the next number
abbrev pub handed_at : List Entry → List (Option Usage) → (own : Option Usage) → Option Entry →
    List (Option Usage)
handed_at bases usages own None = usages
handed_at bases usages own (Some entry) =
    usages
    ++ entry_usage entry (usage_above usages (holder_of entry (before bases (length usages)))) own
    ∷ []

-- the usages of the entries so far and of the next one, which has this one of its own
abbrev pub handed : List Entry → List (Option Usage) → (own : Option Usage) → List (Option Usage)
handed bases usages own = handed_at bases usages own (slice_get bases (length usages))

-- the usages of entries, which have these of their own
abbrev pub usages_of : List Entry → (owns : List (Option Usage)) → List (Option Usage)
usages_of bases owns = fold (handed bases) [] owns

-- ---- their own usages, by their drafts, the records of files first

-- the own usage of an entry with this draft
abbrev pub draft_usage : EntryDraft → Option Usage
draft_usage draft = own_usage draft.clauses

-- the own usages of these entries
abbrev pub section_usages : List EntryDraft → List (Option Usage)
section_usages drafts = map draft_usage drafts

-- the own usages of the entries of these FDs
abbrev pub record_usages : List FdDraft → List (Option Usage)
record_usages [] = []
record_usages (fd ∷ fds) = section_usages fd.entries ++ record_usages fds

-- the own usages of the entries of a program
abbrev pub own_usages : DataDraft → List (Option Usage)
own_usages data_part = record_usages data_part.fds ++ section_usages data_part.storage

-- ---- the rules on them

-- both are the same usage
abbrev pub same_usage : Usage → Usage → Bool
same_usage usages.Display usages.Display = true
same_usage usages.Binary usages.Binary = true
same_usage usages.Packed usages.Packed = true
same_usage _ _ = false

-- a usage other than DISPLAY, which only numbers have
abbrev pub is_computational : Option Usage → Bool
is_computational (Some usages.Binary) = true
is_computational (Some usages.Packed) = true
is_computational _ = false

-- a picture that is there is of a number
abbrev pub may_compute : Option Picture → Bool
may_compute None = true
may_compute (Some (pictures.Number signed whole part)) = true
may_compute (Some _) = false

-- an entry has no usage other than the one that is handed down to it
abbrev pub other_usage : (above : Option Usage) → Option Clause → Option Note
other_usage (Some above) (Some (drafts.Usage at usage)) =
    fault_unless (same_usage usage above) BadUsage at
other_usage above _ = None

-- where a usage is: at its clause, or at the entry where it has none
abbrev pub usage_place : (at : Position) → Option Clause → Position
usage_place at None = at
usage_place at (Some clause) = position_of clause

-- an item that isn't a number has usage DISPLAY
abbrev pub form_fault : Option Picture → (group : Bool) → Option Usage → Position → Option Note
form_fault picture group usage place =
    fault_unless (group || (may_compute picture || not (is_computational usage))) BadUsage place

-- a SIGN clause is beside usage DISPLAY alone
abbrev pub beside_fault : Option Usage → Option Clause → Option Note
beside_fault usage None = None
beside_fault usage (Some clause) =
    fault_unless (not (is_computational usage)) BadUsage (position_of clause)

-- what is wrong with an entry's usage, where this is handed down to it
abbrev pub usage_fault : Option Picture → (group : Bool) → (above : Option Usage) → Position →
    List Clause → Option Note
usage_fault picture group above at clauses =
    first_of
    (other_usage above (clause_of kinds.Usage clauses)
    ∷ form_fault picture group (usage_by above (own_usage clauses))
    (usage_place at (clause_of kinds.Usage clauses))
    ∷ beside_fault (usage_by above (own_usage clauses)) (clause_of kinds.Sign clauses) ∷ [])
