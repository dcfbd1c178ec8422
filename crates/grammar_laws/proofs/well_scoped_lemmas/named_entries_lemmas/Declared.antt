-- Entries as they are declared, where no rule is broken.
use Rattle.std.proofs.Common.{◌≡◌, ℕ, zero, suc, ◌+◌, ◌-◌, Bool, true, false, not, if◌then◌else◌, List, [], ◌∷◌, ◌++◌, length, map, Option, Some, None, refl, ap, sym, ◌∙◌, subst, arith, tests, length-append}
use Rattle.std.specs.Prelude.{◌==◌, nat_le, slice_get}
use Rattle.std.specs.List.{fold}
use Rattle.std.proofs.lemmas.Bool.{and_parts, le-leb}
use Rattle.cob_tree.specs.declared.entry.Entry.{Entry}
use Rattle.cob_tree.specs.declared.picture.Usage.{Usage}
use Rattle.parser_combinators.specs.declared.note.NameKind.TheVariants.{Level}
use Rattle.parser_combinators.specs.declared.note.Note.{Note}
use Rattle.parser_combinators.specs.Note.{precedes, earliest}
use Rattle.cobol_grammar.specs.declared.data_forms.draft.Divisions.{Divisions}
use Rattle.cobol_grammar.specs.declared.data_forms.draft.EntryDraft.{EntryDraft}
use Rattle.cobol_grammar.specs.declared.data_forms.draft.FdDraft.{FdDraft}
use Rattle.cobol_grammar.specs.declared.data_forms.draft.SelectDraft.{SelectDraft}
use Rattle.cobol_grammar.specs.declared.data_forms.draft.StatusDraft.{StatusDraft}
use Rattle.cob_store.specs.sizes.Size.{sized}
use Rattle.declaration_checks.specs.declared.judging.Judged.{Judged}
use Rattle.declaration_checks.specs.Declaring.{settled, settled_at, settle, settle_all, settle_records, judged_at, judge, judge_all, judge_records, bases_of, entries_of, start_of, usages_in, fault_of}
use Rattle.declaration_checks.specs.File.{status_by, file_of}
use Rattle.declaration_checks.specs.Fault.{fault_at}
use Rattle.declaration_checks.specs.Item.{level_stands}
use Rattle.declaration_checks.specs.Rule.{kind_fault, entry_fault}
use Rattle.declaration_checks.specs.Standing.{before, holder_of}
use Rattle.symbol_tables.specs.data_names.Nesting.{nearest}
use Rattle.control_flow_theory.specs.language.All.{all}
use Rattle.program_facts.specs.well_scoped.Part.{Counts, if_any, place_named}
use Rattle.program_facts.proofs.well_scoped_lemmas.Made.{both, all-added}
use Rattle.grammar_laws.specs.well_scoped.named_data.Drafts.{data_literal, select_named, status_named}
use Rattle.grammar_laws.specs.well_scoped.named_entries.Entries.{begins_with_item, has_level, values_literal, file_named, EntriesNamed}
use Rattle.grammar_laws.proofs.well_scoped_lemmas.named_entries_lemmas.Bases.{bases-fine}

none_of : (early late : Option Note) → earliest early late ≡ None → (early ≡ None) × (late ≡ None)
none_of None late e = (refl, e)
none_of (Some early) None e = absurd cc
none_of (Some early) (Some late) e = go (precedes late early) e
  where
    go : (b : Bool) → (if b then Some late else Some early) ≡ None → (Some early ≡ None) × (Some late ≡ None)
    go true e = absurd cc
    go false e = absurd cc

get-fine : {A : Type 0} (test : A → Bool) (list : List A) (i : ℕ) → all (map test list) ≡ true → if_any test (slice_get list i) ≡ true
get-fine test [] i h = refl
get-fine test (x ∷ list) zero h = (and_parts (test x) (all (map test list)) h).0
get-fine test (x ∷ list) (suc i) h = get-fine test list i (and_parts (test x) (all (map test list)) h).1

-- ---- levels

level-some : (level : ℕ) (holder : Option ℕ) → level_stands level holder ≡ true → nat_le 1 level ≡ true
level-some zero holder h = absurd (no_zero holder h)
  where
    no_zero : (holder : Option ℕ) → level_stands 0 holder ≡ true → ⊥
    no_zero None e = cc
    no_zero (Some holder) e = cc
level-some (suc level) holder h = le-leb 1 (suc level) (omega arith)

-- an entry that stands in no other is of level 01 or 77
level-first : (level : ℕ) → level_stands level None ≡ true → not (level == 88) ≡ true
level-first level h = go (level == 88) refl
  where
    at_88 : level ≡ 88 → ⊥
    at_88 e = absurd (apart (subst (λ l. level_stands l None ≡ true) e h))
      where
        apart : false ≡ true → ⊥
        apart e = cc

    go : (b : Bool) → (level == 88) ≡ b → not b ≡ true
    go true e = absurd (at_88 (same_number e))
      where
        same_number : (level == 88) ≡ true → level ≡ 88
        same_number e = grind (arith, tests)
    go false e = refl

stands : (bases : List Entry) (sizes : List ℕ) (usages : List (Option Usage)) (at : ℕ) (entry : Entry) (draft : EntryDraft) → entry_fault bases sizes usages at entry draft ≡ None → level_stands entry.level (holder_of entry (before bases at)) ≡ true
stands bases sizes usages at entry draft n = go (level_stands entry.level (holder_of entry (before bases at))) refl n
  where
    go : (b : Bool) → level_stands entry.level (holder_of entry (before bases at)) ≡ b →
        (if b then kind_fault bases sizes usages at entry draft (holder_of entry (before bases at)) else fault_at Level draft.at) ≡ None →
        level_stands entry.level (holder_of entry (before bases at)) ≡ true
    go true e n = e
    go false e n = absurd cc

no_holder : (entry : Entry) (bases : List Entry) → holder_of entry (before bases 0) ≡ None
unfolding nearest
no_holder entry bases = refl

-- ---- entry by entry

module _ (bases : List Entry) (sizes : List ℕ) (usages : List (Option Usage)) (values : all (map values_literal bases) ≡ true) where
  -- the entries so far
  record SoFar (entries : List Entry) : Type 0 where
    begins : begins_with_item entries ≡ true
    levels : all (map has_level entries) ≡ true
    literals : all (map values_literal entries) ≡ true

  -- what comes of it, where no fault is found; as many are settled as are judged
  record Goes (entries : List Entry) (judged : Judged) (next : List Entry) (later : Judged) : Type 0 where
    counted : length next ≡ later.at
    fine : later.fault ≡ None → (judged.fault ≡ None) × (SoFar entries → SoFar next)

  begins-added : (entries : List Entry) (entry : Entry) (at : ℕ) → length entries ≡ at → begins_with_item entries ≡ true → (at ≡ 0 → not (entry.level == 88) ≡ true) → begins_with_item (entries ++ entry ∷ []) ≡ true
  begins-added [] entry at e b h = h (sym e)
  begins-added (first ∷ entries) entry at e b h = b

  first-level : (entry : Entry) (draft : EntryDraft) (at : ℕ) → entry_fault bases sizes usages at entry draft ≡ None → at ≡ 0 → not (entry.level == 88) ≡ true
  first-level entry draft at n e =
      level-first entry.level (ap (level_stands entry.level) (sym (no_holder entry bases)) ∙ stands bases sizes usages 0 entry draft (ap (λ i. entry_fault bases sizes usages i entry draft) (sym e) ∙ n))

  settled-goes : (entries : List Entry) (judged : Judged) (draft : EntryDraft) (o : Option Entry) → length entries ≡ judged.at → slice_get bases judged.at ≡ o →
      Goes entries judged (settled_at bases usages entries draft o) (judged_at bases sizes usages judged draft o)
  settled-goes entries judged draft None e is = record { counted = e; fine = λ n. (n, λ S. S) }
  settled-goes entries judged draft (Some entry) e is =
      let next : Entry = settled bases usages (length entries) draft entry in
      let literal : values_literal entry ≡ true = ap (if_any values_literal) (sym is) ∙ get-fine values_literal bases judged.at values in
      record {
        counted = length-append entries (next ∷ []) ∙ ap (λ n. n + 1) e;
        fine = λ n.
            let h = none_of judged.fault (entry_fault bases sizes usages judged.at entry draft) n in (
              h.0,
              λ S. record {
                begins = begins-added entries next judged.at e S.begins (first-level entry draft judged.at h.1);
                levels = all-added has_level entries next S.levels (level-some entry.level (holder_of entry (before bases judged.at)) (stands bases sizes usages judged.at entry draft h.1));
                literals = all-added values_literal entries next S.literals literal;
              },
            );
      }

  one-goes : (entries : List Entry) (judged : Judged) (draft : EntryDraft) → length entries ≡ judged.at → Goes entries judged (settle bases usages entries draft) (judge bases sizes usages judged draft)
  one-goes entries judged draft e =
      subst (λ at. Goes entries judged (settled_at bases usages entries draft (slice_get bases at)) (judge bases sizes usages judged draft)) (sym e)
      (settled-goes entries judged draft (slice_get bases judged.at) e refl)

  then-goes : (entries : List Entry) (judged : Judged) (mid : List Entry) (later : Judged) (last : List Entry) (end : Judged) → Goes entries judged mid later → Goes mid later last end → Goes entries judged last end
  then-goes entries judged mid later last end G H = record {
    counted = H.counted;
    fine = λ n. let behind = H.fine n in let ahead = G.fine behind.0 in (ahead.0, λ S. behind.1 (ahead.1 S));
  }

  all-goes : (drafts : List EntryDraft) (entries : List Entry) (judged : Judged) → length entries ≡ judged.at → Goes entries judged (settle_all bases usages entries drafts) (judge_all bases sizes usages judged drafts)
  all-goes [] entries judged e = record { counted = e; fine = λ n. (n, λ S. S) }
  all-goes (draft ∷ drafts) entries judged e =
      let one = one-goes entries judged draft e in
      then-goes entries judged (settle bases usages entries draft) (judge bases sizes usages judged draft) _ _ one (all-goes drafts (settle bases usages entries draft) (judge bases sizes usages judged draft) one.counted)

  records-go : (fds : List FdDraft) (entries : List Entry) (judged : Judged) → length entries ≡ judged.at → Goes entries judged (fold (settle_records bases usages) entries fds) (fold (judge_records bases sizes usages) judged fds)
  records-go [] entries judged e = record { counted = e; fine = λ n. (n, λ S. S) }
  records-go (fd ∷ fds) entries judged e =
      let one = all-goes fd.entries entries judged e in
      then-goes entries judged (settle_records bases usages entries fd) (judge_records bases sizes usages judged fd) _ _ one (records-go fds (settle_records bases usages entries fd) (judge_records bases sizes usages judged fd) one.counted)

pub entries : (divisions : Divisions) → data_literal divisions.data_part ≡ true → fault_of divisions ≡ None → EntriesNamed (entries_of divisions)
entries divisions literal none =
    let bases = bases_of divisions in
    let sizes = (sized (entries_of divisions)).sizes in
    let usages = usages_in bases divisions in
    let values = bases-fine divisions literal in
    let records = records-go bases sizes usages values divisions.data_part.fds [] (start_of divisions) refl in
    let storage = all-goes bases sizes usages values divisions.data_part.storage _ _ records.counted in
    let found = ((then-goes bases sizes usages values [] (start_of divisions) _ _ _ _ records storage).fine none).1 (record { begins = refl; levels = refl; literals = refl }) in
    record { begins = found.begins; levels = found.levels; values = found.literals }

-- ---- files

status-fine : (counts : Counts) (status : Option StatusDraft) → if_any (status_named counts) status ≡ true → if_any (place_named counts) (status_by status) ≡ true
status-fine counts None h = refl
status-fine counts (Some status) h = h

pub files : (counts : Counts) (selects : List SelectDraft) → all (map (select_named counts) selects) ≡ true → all (map (file_named counts) (map file_of selects)) ≡ true
files counts [] h = refl
files counts (select ∷ selects) h =
    let e = and_parts (select_named counts select) (all (map (select_named counts) selects)) h in
    both (status-fine counts (slice_get select.statuses (length select.statuses - 1)) (get-fine (status_named counts) select.statuses (length select.statuses - 1) e.0)) (files counts selects e.1)
