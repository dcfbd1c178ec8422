-- Drafts whose names, pictures, values and status items can be printed.
use Rattle.std.specs.Prelude.{◌≡◌, Bool, true, ◌&&◌, List, map}
use Rattle.cobol_grammar.specs.declared.data_forms.draft.Clause.{Clause}
use Rattle.cobol_grammar.specs.declared.data_forms.draft.Clause.TheVariants as clauses
use Rattle.cobol_grammar.specs.declared.data_forms.draft.DataDraft.{DataDraft}
use Rattle.cobol_grammar.specs.declared.data_forms.draft.Divisions.{Divisions}
use Rattle.cobol_grammar.specs.declared.data_forms.draft.EntryDraft.{EntryDraft}
use Rattle.cobol_grammar.specs.declared.data_forms.draft.FdDraft.{FdDraft}
use Rattle.cobol_grammar.specs.declared.data_forms.draft.SelectDraft.{SelectDraft}
use Rattle.cobol_grammar.specs.declared.data_forms.draft.SpanDraft.{SpanDraft}
use Rattle.cobol_grammar.specs.declared.data_forms.draft.StatusDraft.{StatusDraft}
use Rattle.cobol_grammar.specs.declared.data_forms.draft.ThruDraft.{ThruDraft}
use Rattle.control_flow_theory.specs.language.All.{all}
use Rattle.program_facts.specs.well_scoped.Part.{if_any}
use Rattle.round_trip.specs.printable.printable_tokens.Printable.{is_printable_text, begins_well}
use Rattle.round_trip.specs.printable.Part.{is_printable_name, is_printable_place, is_printable_operand}

-- ---- entries

-- the end of a range of values
abbrev pub thru_printable : ThruDraft → Bool
thru_printable thru = is_printable_operand thru.to

-- a value or a range of values
abbrev pub span_printable : SpanDraft → Bool
span_printable span = is_printable_operand span.from && if_any thru_printable span.thru

-- the picture or the values of a clause
abbrev pub clause_printable : Clause → Bool
clause_printable (clauses.Value at spans) = all (map span_printable spans)
clause_printable (clauses.Picture at text text_at) = begins_well text
clause_printable _ = true

-- the name, the picture and the values of an entry
abbrev pub entry_printable : EntryDraft → Bool
entry_printable entry =
    if_any is_printable_name entry.name && all (map clause_printable entry.clauses)

-- these entries can be printed
abbrev pub entries_printable : List EntryDraft → Bool
entries_printable entries = all (map entry_printable entries)

-- the records of an FD
abbrev pub fd_printable : FdDraft → Bool
fd_printable fd = entries_printable fd.entries

-- the DATA DIVISION
abbrev pub data_printable : DataDraft → Bool
data_printable data_part =
    all (map fd_printable data_part.fds) && entries_printable data_part.storage

-- ---- files

-- a FILE STATUS clause
abbrev pub status_printable : StatusDraft → Bool
status_printable status = is_printable_place status.place

-- a SELECT
abbrev pub select_printable : SelectDraft → Bool
select_printable select =
    is_printable_name select.name && is_printable_text select.assign
    && all (map status_printable select.statuses)

-- ---- all of them

-- the divisions before the PROCEDURE DIVISION
pub record ArePrintable (divisions : Divisions) : Type 0 where
  pub name : is_printable_name divisions.name ≡ true
  pub selects : all (map select_printable divisions.selects) ≡ true
  pub items : data_printable divisions.data_part ≡ true
