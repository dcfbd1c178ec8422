-- Drafts whose status items are named, and whose values are literals.
use Rattle.std.specs.Prelude.{◌≡◌, Bool, true, ◌&&◌, List, map}
use Rattle.cobol_grammar.specs.declared.data_forms.draft.Clause.{Clause}
use Rattle.cobol_grammar.specs.declared.data_forms.draft.Clause.TheVariants as clauses
use Rattle.cobol_grammar.specs.declared.data_forms.draft.DataDraft.{DataDraft}
use Rattle.cobol_grammar.specs.declared.data_forms.draft.Divisions.{Divisions}
use Rattle.cobol_grammar.specs.declared.data_forms.draft.EntryDraft.{EntryDraft}
use Rattle.cobol_grammar.specs.declared.data_forms.draft.FdDraft.{FdDraft}
use Rattle.cobol_grammar.specs.declared.data_forms.draft.SelectDraft.{SelectDraft}
use Rattle.cobol_grammar.specs.declared.data_forms.draft.SpanDraft.{SpanDraft}
use Rattle.cobol_grammar.specs.declared.data_forms.draft.StatusDraft.{StatusDraft}
use Rattle.cobol_grammar.specs.declared.data_forms.draft.ThruDraft.{ThruDraft}
use Rattle.control_flow_theory.specs.language.All.{all}
use Rattle.program_facts.specs.well_scoped.Part.{Counts, is_filled, if_any, place_named}
use Rattle.grammar_laws.specs.form_results.Numbered.{is_literal}

-- ---- values

-- the end of a range of values is a literal
abbrev pub thru_literal : ThruDraft → Bool
thru_literal thru = is_literal thru.to

-- a value, or each end of a range of values, is a literal
abbrev pub span_literal : SpanDraft → Bool
span_literal span = is_literal span.from && if_any thru_literal span.thru

-- the values of a VALUE clause are literals, one at least
abbrev pub clause_literal : Clause → Bool
clause_literal (clauses.Value at spans) = is_filled spans && all (map span_literal spans)
clause_literal _ = true

-- the values of an entry are literals
abbrev pub entry_literal : EntryDraft → Bool
entry_literal entry = all (map clause_literal entry.clauses)

-- the values of these entries are literals
abbrev pub entries_literal : List EntryDraft → Bool
entries_literal entries = all (map entry_literal entries)

-- the values of an FD's records are literals, and there is one record at least
abbrev pub fd_literal : FdDraft → Bool
fd_literal fd = is_filled fd.entries && entries_literal fd.entries

-- the values of the DATA DIVISION are literals
abbrev pub data_literal : DataDraft → Bool
data_literal data_part = all (map fd_literal data_part.fds) && entries_literal data_part.storage

-- ---- status items

-- what a status item names is there
abbrev pub status_named : Counts → StatusDraft → Bool
status_named counts status = place_named counts status.place

-- what the status items of a SELECT name is there
abbrev pub select_named : Counts → SelectDraft → Bool
select_named counts select = all (map (status_named counts) select.statuses)

-- ---- all of them

-- the status items are named, and the values are literals
pub record DivisionsNamed (counts : Counts) (divisions : Divisions) : Type 0 where
  pub statuses : all (map (select_named counts) divisions.selects) ≡ true
  pub values : data_literal divisions.data_part ≡ true
