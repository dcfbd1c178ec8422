-- What divisions declare with no fault: its entries, FD by FD, keep the rules.
use Rattle.std.proofs.Common.{◌≡◌, ℕ, zero, suc, ◌+◌, Bool, true, false, if◌then◌else◌, List, [], ◌∷◌, ◌++◌, length, map, drop, Option, Some, None, refl, ap, sym, ◌∙◌, subst, append_assoc, append-nil, length-append, arith}
use Rattle.std.specs.Prelude.{◌==◌, slice_get}
use Rattle.cob_tree.specs.declared.entry.Entry.{Entry}
use Rattle.cob_tree.specs.declared.picture.Usage.{Usage}
use Rattle.cob_tree.specs.declared.program.Program.{Program}
use Rattle.cobol_grammar.specs.declared.data_forms.draft.EntryDraft.{EntryDraft}
use Rattle.cobol_grammar.specs.declared.data_forms.draft.FdDraft.{FdDraft}
use Rattle.cobol_grammar.specs.declared.data_forms.draft.SelectDraft.{SelectDraft}
use Rattle.parser_combinators.specs.declared.note.Note.{Note}
use Rattle.parser_combinators.specs.Note.{earliest}
use Rattle.grammar_laws.specs.well_scoped.named_data.Drafts.{entry_literal}
use Rattle.declaration_checks.specs.declared.judging.Judged.{Judged}
use Rattle.declaration_checks.specs.Base.{base_of, condition_of, item_of, level_of}
use Rattle.declaration_checks.specs.Declaring.{section_bases, record_bases, settled, settled_at, settle, settle_all, judged_at, judge, judge_all}
use Rattle.declaration_checks.specs.File.{file_number}
use Rattle.declaration_checks.specs.Rule.{entry_fault}
use Rattle.declaration_checks.specs.Standing.{before, holder_of}
use Rattle.declaration_checks.specs.Usage.{entry_usage, usage_above, draft_usage, section_usages, record_usages}
use Rattle.grammar_laws.proofs.whole_counts_lemmas.entry_bounds_lemmas.Usages.{Handed}
use Rattle.round_trip.specs.spelling.data_spelling.Sections.{StandIn}
use Rattle.round_trip.specs.declarations.printed_declarations.Rules.{base, bases, sizes, EntriesKeep}
use Rattle.round_trip.proofs.declarations_lemmas.Entries.{none_of}
use Rattle.round_trip.proofs.declarations_lemmas.Kept.{same-base, entry-keeps}

-- ---- drafts one behind the other, each with its file

pub record Placed : Type 0 where
  pub file : Option ℕ
  pub draft : EntryDraft

abbrev pub placed_base : Placed → Entry
placed_base placed = base_of placed.file placed.draft

abbrev pub section : Option ℕ → List EntryDraft → List Placed
section file drafts = map (λ draft. record { file = file; draft = draft }) drafts

abbrev pub flat_fds : List SelectDraft → (at : ℕ) → List FdDraft → List Placed
flat_fds selects at [] = []
flat_fds selects at (fd ∷ fds) = section (Some (file_number selects fd at)) fd.entries ++ flat_fds selects (at + 1) fds

bases-append : (front back : List Placed) → map placed_base (front ++ back) ≡ map placed_base front ++ map placed_base back
bases-append [] back = refl
bases-append (placed ∷ front) back = ap (λ list. placed_base placed ∷ list) (bases-append front back)

pub section-flat : (file : Option ℕ) (drafts : List EntryDraft) → section_bases file drafts ≡ map placed_base (section file drafts)
section-flat file [] = refl
section-flat file (draft ∷ drafts) = ap (λ list. base_of file draft ∷ list) (section-flat file drafts)

pub fds-flat : (selects : List SelectDraft) (at : ℕ) (fds : List FdDraft) → record_bases selects at fds ≡ map placed_base (flat_fds selects at fds)
fds-flat selects at [] = refl
fds-flat selects at (fd ∷ fds) =
    ap (λ list. list ++ record_bases selects (at + 1) fds) (section-flat (Some (file_number selects fd at)) fd.entries)
    ∙ ap (λ list. map placed_base (section (Some (file_number selects fd at)) fd.entries) ++ list) (fds-flat selects (at + 1) fds)
    ∙ sym (bases-append (section (Some (file_number selects fd at)) fd.entries) (flat_fds selects (at + 1) fds))

pub all-flat : (selects : List SelectDraft) (fds : List FdDraft) (storage : List EntryDraft) →
    record_bases selects 0 fds ++ section_bases None storage ≡ map placed_base (flat_fds selects 0 fds ++ section None storage)
all-flat selects fds storage =
    ap (λ list. list ++ section_bases None storage) (fds-flat selects 0 fds)
    ∙ ap (λ list. map placed_base (flat_fds selects 0 fds) ++ list) (section-flat None storage)
    ∙ sym (bases-append (flat_fds selects 0 fds) (section None storage))

-- ---- the entries that they declare

abbrev pub settled_from : List Entry → List (Option Usage) → (at : ℕ) → List Placed → List Entry
settled_from list used at [] = []
settled_from list used at (placed ∷ more) = settled list used at placed.draft (placed_base placed) ∷ settled_from list used (at + 1) more

pub settled-append : (list : List Entry) (used : List (Option Usage)) (at : ℕ) (front back : List Placed) → settled_from list used at (front ++ back) ≡ settled_from list used at front ++ settled_from list used (at + length front) back
settled-append list used at [] back = let same : at ≡ at + 0 = omega arith in ap (λ n. settled_from list used n back) same
settled-append list used at (placed ∷ front) back =
    let same : (at + 1) + length front ≡ at + length (placed ∷ front) = omega arith in
    ap (λ more. settled list used at placed.draft (placed_base placed) ∷ more) (settled-append list used (at + 1) front back ∙ ap (λ n. settled_from list used (at + 1) front ++ settled_from list used n back) same)

drop-next : {A : Type 0} (list : List A) (k : ℕ) (x : A) (more : List A) → drop k list ≡ x ∷ more → (slice_get list k ≡ Some x) × (drop (k + 1) list ≡ more)
drop-next [] zero x more e = absurd cc
drop-next [] (suc k) x more e = absurd cc
drop-next (y ∷ list) zero x more e = (cc, cc)
drop-next (y ∷ list) (suc k) x more e =
    let h = drop-next list k x more e in
    let one : suc k + 1 ≡ suc (k + 1) = omega arith in
    (h.0, ap (λ n. drop n (y ∷ list)) one ∙ h.1)

abbrev pub drafts_of : List Placed → List EntryDraft
drafts_of placed = map (λ (p : Placed). p.draft) placed

-- the own usage of a draft
abbrev pub placed_usage : Placed → Option Usage
placed_usage placed = draft_usage placed.draft

pub section-owns : (file : Option ℕ) (drafts : List EntryDraft) → section_usages drafts ≡ map placed_usage (section file drafts)
section-owns file [] = refl
section-owns file (draft ∷ drafts) = ap (λ list. draft_usage draft ∷ list) (section-owns file drafts)

owns-append : (front back : List Placed) → map placed_usage (front ++ back) ≡ map placed_usage front ++ map placed_usage back
owns-append [] back = refl
owns-append (placed ∷ front) back = ap (λ list. placed_usage placed ∷ list) (owns-append front back)

fds-owns : (selects : List SelectDraft) (at : ℕ) (fds : List FdDraft) → record_usages fds ≡ map placed_usage (flat_fds selects at fds)
fds-owns selects at [] = refl
fds-owns selects at (fd ∷ fds) =
    let front = section (Some (file_number selects fd at)) fd.entries in
    ap (λ list. list ++ record_usages fds) (section-owns (Some (file_number selects fd at)) fd.entries)
    ∙ ap (λ list. map placed_usage front ++ list) (fds-owns selects (at + 1) fds)
    ∙ sym (owns-append front (flat_fds selects (at + 1) fds))

pub all-owns : (selects : List SelectDraft) (fds : List FdDraft) (storage : List EntryDraft) →
    record_usages fds ++ section_usages storage ≡ map placed_usage (flat_fds selects 0 fds ++ section None storage)
all-owns selects fds storage =
    ap (λ list. list ++ section_usages storage) (fds-owns selects 0 fds)
    ∙ ap (λ list. map placed_usage (flat_fds selects 0 fds) ++ list) (section-owns None storage)
    ∙ sym (owns-append (flat_fds selects 0 fds) (section None storage))

-- each has the usage that is handed down to it, or its own
abbrev pub AllHanded : List Entry → List (Option Usage) → ℕ → List Placed → Type 0
AllHanded list used at [] = Unit {0}
AllHanded list used at (p ∷ placed) =
    (slice_get used at ≡ Some (entry_usage (placed_base p) (usage_above used (holder_of (placed_base p) (before list at))) (placed_usage p))) × AllHanded list used (at + 1) placed

pub all-handed : (list : List Entry) (own used : List (Option Usage)) → Handed list own used → (placed : List Placed) (at : ℕ) → drop at list ≡ map placed_base placed → drop at own ≡ map placed_usage placed →
    AllHanded list used at placed
all-handed list own used handed [] at from owned = tt
all-handed list own used handed (p ∷ placed) at from owned =
    let found = drop-next list at (placed_base p) (map placed_base placed) from in
    let its = drop-next own at (placed_usage p) (map placed_usage placed) owned in
    (handed at (placed_base p) (placed_usage p) found.0 its.0, all-handed list own used handed placed (at + 1) found.1 its.1)

module _ (list : List Entry) (long : List ℕ) (used : List (Option Usage)) where
  abbrev pub From : ℕ → List Placed → Type 0
  From at placed = drop at list ≡ map placed_base placed

  pub settles : (placed more : List Placed) (done : List Entry) → From (length done) (placed ++ more) → settle_all list used done (drafts_of placed) ≡ done ++ settled_from list used (length done) placed
  settles [] more done from = sym (append-nil done)
  settles (p ∷ placed) more done from =
      let found = drop-next list (length done) (placed_base p) (map placed_base (placed ++ more)) from in
      let next : Entry = settled list used (length done) p.draft (placed_base p) in
      let one : settle list used done p.draft ≡ done ++ next ∷ [] = ap (settled_at list used done p.draft) found.0 in
      let size : length (done ++ next ∷ []) ≡ length done + 1 = length-append done (next ∷ []) in
      ap (λ entries. settle_all list used entries (drafts_of placed)) one
      ∙ settles placed more (done ++ next ∷ []) (subst (λ n. From n (placed ++ more)) (sym size) found.1)
      ∙ append_assoc done (next ∷ []) (settled_from list used (length (done ++ next ∷ [])) placed)
      ∙ ap (λ n. done ++ next ∷ settled_from list used n placed) size

  -- no rule on any of them is broken
  abbrev pub AllFine : ℕ → List Placed → Type 0
  AllFine at [] = Unit {0}
  AllFine at (p ∷ placed) = (entry_fault list long used at (placed_base p) p.draft ≡ None) × AllFine (at + 1) placed

  abbrev pub faults_from : ℕ → Option Note → List Placed → Option Note
  faults_from at fault [] = fault
  faults_from at fault (p ∷ placed) = faults_from (at + 1) (earliest fault (entry_fault list long used at (placed_base p) p.draft)) placed

  pub judges : (placed more : List Placed) (at : ℕ) (fault : Option Note) → From at (placed ++ more) →
      judge_all list long used (record { at = at; fault = fault }) (drafts_of placed) ≡ record { at = at + length placed; fault = faults_from at fault placed }
  judges [] more at fault from = let same : at ≡ at + 0 = omega arith in ap (λ n. record { at = n; fault = fault }) same
  judges (p ∷ placed) more at fault from =
      let found = drop-next list at (placed_base p) (map placed_base (placed ++ more)) from in
      let start : Judged = record { at = at; fault = fault } in
      let later = earliest fault (entry_fault list long used at (placed_base p) p.draft) in
      let one : judge list long used start p.draft ≡ record { at = at + 1; fault = later } = ap (judged_at list long used start p.draft) found.0 in
      let same : (at + 1) + length placed ≡ at + length (p ∷ placed) = omega arith in
      ap (λ judged. judge_all list long used judged (drafts_of placed)) one
      ∙ judges placed more (at + 1) later found.1
      ∙ ap (λ n. record { at = n; fault = faults_from (at + 1) later placed }) same

  pub all-fine : (placed : List Placed) (at : ℕ) (fault : Option Note) → faults_from at fault placed ≡ None → (fault ≡ None) × AllFine at placed
  all-fine [] at fault e = (e, tt)
  all-fine (p ∷ placed) at fault e =
      let behind = all-fine placed (at + 1) (earliest fault (entry_fault list long used at (placed_base p) p.draft)) e in
      let here = none_of fault (entry_fault list long used at (placed_base p) p.draft) behind.0 in
      (here.0, (here.1, behind.1))

  -- by themselves they say what their drafts do
  pub same-bases : (placed : List Placed) (at : ℕ) → AllFine at placed → map base (settled_from list used at placed) ≡ map placed_base placed
  same-bases [] at h = refl
  same-bases (p ∷ placed) at h =
      ap (λ e. e ∷ map base (settled_from list used (at + 1) placed)) (same-base list long used at p.file p.draft h.0) ∙ ap (λ more. placed_base p ∷ more) (same-bases placed (at + 1) h.1)

  pub stand-in : (file : Option ℕ) (drafts : List EntryDraft) (at : ℕ) → StandIn file (settled_from list used at (section file drafts))
  stand-in file [] at = tt
  stand-in file (draft ∷ drafts) at = (go (level_of draft.level == 88), stand-in file drafts (at + 1))
    where
      go : (b : Bool) → (if b then condition_of draft file else item_of draft (level_of draft.level) file).file ≡ file
      go true = refl
      go false = refl

-- ---- they keep the rules

abbrev pub AreLiteral : List Placed → Type 0
AreLiteral [] = Unit {0}
AreLiteral (p ∷ placed) = (entry_literal p.draft ≡ true) × AreLiteral placed

pub all-keep : (program : Program) (used : List (Option Usage)) (placed : List Placed) (at : ℕ) → AreLiteral placed → AllHanded (bases program) used at placed → AllFine (bases program) (sizes program) used at placed →
    EntriesKeep program at (settled_from (bases program) used at placed)
all-keep program used [] at l u h = tt
all-keep program used (p ∷ placed) at l u h = (entry-keeps program used at p.file p.draft l.0 u.0 h.0, all-keep program used placed (at + 1) l.1 u.1 h.1)
