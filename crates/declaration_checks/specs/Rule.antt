-- The rules on an entry. `bases` are the entries of the program by their drafts, `sizes` the bytes
-- of each, `usages` its usage where it has one, `at` the entry's number.
use Rattle.std.specs.Prelude.{ℕ, Bool, ◌==◌, List, ◌∷◌, [], Option, Some, None, slice_get, if◌then◌else◌}
use Rattle.cob_tree.specs.declared.entry.Entry.{Entry}
use Rattle.cob_tree.specs.declared.picture.Usage.{Usage}
use Rattle.cobol_grammar.specs.declared.data_forms.draft.EntryDraft.{EntryDraft}
use Rattle.symbol_tables.specs.data_names.Names.{is_group}
use Rattle.parser_combinators.specs.declared.note.NameKind.TheVariants.{Level}
use Rattle.parser_combinators.specs.declared.note.Note.{Note}
use Rattle.declaration_checks.specs.declared.literal.LiteralTarget.{LiteralTarget}
use Rattle.declaration_checks.specs.declared.standing.Standing.{Standing}
use Rattle.declaration_checks.specs.Base.{spans_of}
use Rattle.declaration_checks.specs.Clause.{duplicate_fault, other_fault}
use Rattle.declaration_checks.specs.Fault.{fault_at, first_of}
use Rattle.declaration_checks.specs.Item.{level_stands, occurs_fault, picture_fault, sign_fault}
use Rattle.declaration_checks.specs.Redefining.{redefines_fault, size_at}
use Rattle.declaration_checks.specs.Standing.{before, behind, holder_of, standing_of}
use Rattle.declaration_checks.specs.Usage.{usage_above, usage_fault}
use Rattle.declaration_checks.specs.Value.{missing_fault, spans_fault, value_fault}

-- what a literal for this entry is to fit, which is a group or isn't
abbrev pub target_by : (group : Bool) → List ℕ → ℕ → Entry → LiteralTarget
target_by group sizes at entry = record {
  group = group;
  picture = entry.picture;
  size = size_at (slice_get sizes at);
}

-- what a literal for the entry with this number is to fit
abbrev pub target_of : List Entry → List ℕ → ℕ → Entry → LiteralTarget
target_of bases sizes at entry = target_by (is_group entry (behind bases at)) sizes at entry

-- the first value of a draft that doesn't fit this entry
abbrev pub fits_at : List Entry → List ℕ → EntryDraft → ℕ → Option Entry → Option Note
fits_at bases sizes draft item None = None
fits_at bases sizes draft item (Some entry) =
    spans_fault (target_of bases sizes item entry) (spans_of draft.clauses)

-- the values of a level 88 fit its item
abbrev pub fits_fault : List Entry → List ℕ → EntryDraft → Option ℕ → Option Note
fits_fault bases sizes draft None = None
fits_fault bases sizes draft (Some item) = fits_at bases sizes draft item (slice_get bases item)

-- a level 88
abbrev pub condition_fault : List Entry → List ℕ → EntryDraft → Option ℕ → Option Note
condition_fault bases sizes draft item =
    first_of
    (duplicate_fault draft.clauses
    ∷ other_fault draft.clauses
    ∷ missing_fault draft.at draft.clauses
    ∷ fits_fault bases sizes draft item ∷ [])

-- the clauses of an item or a group, where this is above it and this usage is handed down to it
abbrev pub clauses_fault : Entry → LiteralTarget → Standing → (above : Option Usage) → EntryDraft →
    Option Note
clauses_fault entry target standing above draft =
    first_of
    (duplicate_fault draft.clauses
    ∷ picture_fault entry.picture target.group draft.at draft.clauses
    ∷ usage_fault entry.picture target.group above draft.at draft.clauses
    ∷ sign_fault entry.picture target.group draft.clauses
    ∷ occurs_fault entry.level standing.dims draft.clauses
    ∷ value_fault entry target standing.barred draft.clauses ∷ [])

-- the first fault of an item or a group
abbrev pub item_fault : List Entry → List ℕ → List (Option Usage) → ℕ → Entry → EntryDraft →
    Option Note
item_fault bases sizes usages at entry draft =
    first_of
    (clauses_fault entry (target_of bases sizes at entry)
    (standing_of entry (before bases at))
    (usage_above usages (holder_of entry (before bases at))) draft
    ∷ redefines_fault bases sizes at entry draft.clauses ∷ [])

-- the first fault of an entry but for its level
abbrev pub kind_fault : List Entry → List ℕ → List (Option Usage) → ℕ → Entry → EntryDraft →
    Option ℕ → Option Note
kind_fault bases sizes usages at entry draft holder =
    if entry.level == 88
    then condition_fault bases sizes draft holder
    else item_fault bases sizes usages at entry draft

-- the first fault of an entry; LEVEL is at its first token, so no other fault of the entry counts
-- before it
abbrev pub held_fault : List Entry → List ℕ → List (Option Usage) → ℕ → Entry → EntryDraft →
    Option ℕ → Option Note
held_fault bases sizes usages at entry draft holder =
    if level_stands entry.level holder
    then kind_fault bases sizes usages at entry draft holder
    else fault_at Level draft.at

-- the first fault of an entry
abbrev pub entry_fault : List Entry → List ℕ → List (Option Usage) → ℕ → Entry → EntryDraft →
    Option Note
entry_fault bases sizes usages at entry draft =
    held_fault bases sizes usages at entry draft (holder_of entry (before bases at))
