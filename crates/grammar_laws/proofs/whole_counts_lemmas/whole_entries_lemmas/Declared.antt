-- Entries that are declared: no number has more than 18 digits.
use Rattle.std.proofs.Common.{◌≡◌, ℕ, zero, suc, ◌+◌, Bool, true, false, if◌then◌else◌, List, [], ◌∷◌, ◌++◌, length, map, Option, Some, None, refl, ap, sym, ◌∙◌}
use Rattle.std.specs.Prelude.{◌==◌, ◌^◌, nat_lt, slice_get}
use Rattle.std.specs.List.{fold}
use Rattle.std.proofs.lemmas.Bool.{and_parts}
use Rattle.cob_tree.specs.declared.entry.Entry.{Entry}
use Rattle.cob_tree.specs.declared.picture.Usage.{Usage}
use Rattle.picture_data.specs.Reading.{picture_of as picture_of_text}
use Rattle.cobol_grammar.specs.declared.data_forms.draft.Clause.{Clause}
use Rattle.cobol_grammar.specs.declared.data_forms.draft.Clause.TheVariants as clauses
use Rattle.cobol_grammar.specs.declared.data_forms.draft.Divisions.{Divisions}
use Rattle.cobol_grammar.specs.declared.data_forms.draft.EntryDraft.{EntryDraft}
use Rattle.cobol_grammar.specs.declared.data_forms.draft.FdDraft.{FdDraft}
use Rattle.cobol_grammar.specs.declared.data_forms.draft.SelectDraft.{SelectDraft}
use Rattle.symbol_tables.specs.data_names.Names.{is_group}
use Rattle.declaration_checks.specs.declared.clause.ClauseKind.TheVariants as kinds
use Rattle.declaration_checks.specs.Base.{picture_if, picture_by, picture_in, level_of, condition_of, item_of, base_of}
use Rattle.declaration_checks.specs.Clause.{clause_of}
use Rattle.declaration_checks.specs.Declaring.{section_bases, record_bases, bases_of, picture_of, settled, settled_at, settle, settle_all, settle_records, usages_in, entries_of}
use Rattle.declaration_checks.specs.File.{file_number}
use Rattle.declaration_checks.specs.Standing.{behind}
use Rattle.control_flow_theory.specs.language.All.{all}
use Rattle.program_facts.proofs.well_scoped_lemmas.Made.{both, all-added}
use Rattle.grammar_laws.specs.whole_counts.whole_entries.Fitting.{is_short, has_short_picture}
use Rattle.grammar_laws.proofs.whole_counts_lemmas.whole_entries_lemmas.Pictures.{picture-short}

abbrev Short : List Entry → Type 0
Short entries = all (map has_short_picture entries) ≡ true

-- ---- entries by their drafts alone

text-short : (text : List ℕ) → is_short (picture_by text) ≡ true
text-short text = go (nat_lt (length text) (2 ^ 31))
  where
    go : (b : Bool) → is_short (if b then picture_if (picture_of_text text) else None) ≡ true
    go true = picture-short text
    go false = refl

clause-short : (clause : Option Clause) → is_short (picture_in clause) ≡ true
clause-short None = refl
clause-short (Some (clauses.Value at spans)) = refl
clause-short (Some (clauses.Redefines at name name_at)) = refl
clause-short (Some (clauses.Picture at text text_at)) = text-short text
clause-short (Some (clauses.Usage at usage)) = refl
clause-short (Some (clauses.Sign at leading separate)) = refl
clause-short (Some (clauses.Occurs at count count_at)) = refl

base-short : (file : Option ℕ) (draft : EntryDraft) → has_short_picture (base_of file draft) ≡ true
base-short file draft = go (level_of draft.level == 88)
  where
    go : (b : Bool) → has_short_picture (if b then condition_of draft file else item_of draft (level_of draft.level) file) ≡ true
    go true = refl
    go false = clause-short (clause_of kinds.Picture draft.clauses)

section-short : (file : Option ℕ) (drafts : List EntryDraft) → Short (section_bases file drafts)
section-short file [] = refl
section-short file (draft ∷ drafts) = both (base-short file draft) (section-short file drafts)

append-short : (front entries : List Entry) → Short front → Short entries → Short (front ++ entries)
append-short [] entries f e = e
append-short (first ∷ front) entries f e =
    let h = and_parts (has_short_picture first) (all (map has_short_picture front)) f in both h.0 (append-short front entries h.1 e)

records-short : (selects : List SelectDraft) (at : ℕ) (fds : List FdDraft) → Short (record_bases selects at fds)
records-short selects at [] = refl
records-short selects at (fd ∷ fds) =
    let file = Some (file_number selects fd at) in
    append-short (section_bases file fd.entries) (record_bases selects (at + 1) fds) (section-short file fd.entries) (records-short selects (at + 1) fds)

bases-short : (divisions : Divisions) → Short (bases_of divisions)
bases-short divisions =
    let fds = divisions.data_part.fds in
    let storage = divisions.data_part.storage in
    append-short (record_bases divisions.selects 0 fds) (section_bases None storage) (records-short divisions.selects 0 fds) (section-short None storage)

-- ---- as they are settled

module _ (bases : List Entry) (usages : List (Option Usage)) (short : Short bases) where
  settled-short : (at : ℕ) (entry : Entry) → has_short_picture entry ≡ true → is_short (picture_of bases at entry) ≡ true
  settled-short at entry s = go (is_group entry (behind bases at))
    where
      go : (b : Bool) → is_short (if b then None else entry.picture) ≡ true
      go true = refl
      go false = s

  at-short : (list : List Entry) (i : ℕ) (entry : Entry) → Short list → slice_get list i ≡ Some entry → has_short_picture entry ≡ true
  at-short [] i entry s e = absurd cc
  at-short (first ∷ list) zero entry s e = ap has_short_picture (some_is first entry (sym e)) ∙ (and_parts (has_short_picture first) (all (map has_short_picture list)) s).0
    where
      some_is : (x y : Entry) → Some y ≡ Some x → y ≡ x
      some_is x y e = cc
  at-short (first ∷ list) (suc i) entry s e = at-short list i entry (and_parts (has_short_picture first) (all (map has_short_picture list)) s).1 e

  next-short : (entries : List Entry) (draft : EntryDraft) (o : Option Entry) → slice_get bases (length entries) ≡ o → Short entries → Short (settled_at bases usages entries draft o)
  next-short entries draft None is s = s
  next-short entries draft (Some entry) is s =
      all-added has_short_picture entries (settled bases usages (length entries) draft entry) s (settled-short (length entries) entry (at-short bases (length entries) entry short is))

  all-short : (drafts : List EntryDraft) (entries : List Entry) → Short entries → Short (settle_all bases usages entries drafts)
  all-short [] entries s = s
  all-short (draft ∷ drafts) entries s = all-short drafts (settle bases usages entries draft) (next-short entries draft (slice_get bases (length entries)) refl s)

  fds-short : (fds : List FdDraft) (entries : List Entry) → Short entries → Short (fold (settle_records bases usages) entries fds)
  fds-short [] entries s = s
  fds-short (fd ∷ fds) entries s = fds-short fds (settle_records bases usages entries fd) (all-short fd.entries entries s)

pub entries-short : (divisions : Divisions) → Short (entries_of divisions)
entries-short divisions =
    let bases = bases_of divisions in
    let usages = usages_in bases divisions in
    let short = bases-short divisions in
    all-short bases usages short divisions.data_part.storage (fold (settle_records bases usages) [] divisions.data_part.fds) (fds-short bases usages short divisions.data_part.fds [] refl)
