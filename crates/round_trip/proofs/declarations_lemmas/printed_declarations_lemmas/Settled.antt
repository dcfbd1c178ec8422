-- Drafts of printed entries, one behind the other: what they declare is these entries, with no fault.
use Rattle.std.proofs.Common.{◌≡◌, ℕ, zero, suc, ◌+◌, List, [], ◌∷◌, ◌++◌, length, map, drop, Option, Some, None, refl, ap, sym, ◌∙◌, subst, append_assoc, append-nil, length-append, arith}
use Rattle.std.specs.Prelude.{slice_get}
use Rattle.cob_tree.specs.declared.entry.Entry.{Entry}
use Rattle.cob_tree.specs.declared.program.Program.{Program}
use Rattle.cobol_grammar.specs.declared.data_forms.draft.EntryDraft.{EntryDraft}
use Rattle.declaration_checks.specs.declared.judging.Judged.{Judged}
use Rattle.declaration_checks.specs.Base.{base_of}
use Rattle.declaration_checks.specs.Declaring.{section_bases, settled, settled_at, settle, settle_all, judged_at, judge, judge_all, redefines_of, picture_of, usage_of}
use Rattle.round_trip.specs.spelling.data_spelling.Sections.{StandIn}
use Rattle.round_trip.specs.spelling.data_spelling.Drafts.{IsDraft, AreDrafts}
use Rattle.round_trip.specs.declarations.printed_declarations.Rules.{base, bases, usages, sizes, EntryKeeps, EntriesKeep}
use Rattle.round_trip.proofs.declarations_lemmas.printed_declarations_lemmas.Bases.{base-is, same-entry}
use Rattle.round_trip.proofs.declarations_lemmas.printed_declarations_lemmas.Faults.{entry-none, redefined-is, picture-kept}
use Rattle.round_trip.proofs.declarations_lemmas.printed_declarations_lemmas.Usages.{map-at, above-none, usage-settled}

-- the bases of a section are those of its entries
pub section-bases : (program : Program) (file : Option ℕ) (at : ℕ) (entries : List Entry) (drafts : List EntryDraft) → StandIn file entries → EntriesKeep program at entries → AreDrafts program entries drafts →
    section_bases file drafts ≡ map base entries
section-bases program file at [] [] s k d = refl
section-bases program file at [] (draft ∷ drafts) s k d = absurd d
section-bases program file at (entry ∷ entries) [] s k d = absurd d
section-bases program file at (entry ∷ entries) (draft ∷ drafts) s k d =
    ap (λ e. e ∷ section_bases file drafts)
    (subst (λ f. base_of f draft ≡ base entry) s.0 (base-is program at entry draft k.0.level k.0.kind d.0))
    ∙ ap (λ list. base entry ∷ list) (section-bases program file (at + 1) entries drafts s.1 k.1 d.1)

drop-next : (list : List Entry) (k : ℕ) (x : Entry) (more : List Entry) → drop k list ≡ x ∷ more → (slice_get list k ≡ Some x) × (drop (k + 1) list ≡ more)
drop-next [] zero x more e = absurd cc
drop-next [] (suc k) x more e = absurd cc
drop-next (y ∷ list) zero x more e = (cc, cc)
drop-next (y ∷ list) (suc k) x more e =
    let h = drop-next list k x more e in
    let one : suc k + 1 ≡ suc (k + 1) = omega arith in
    (h.0, ap (λ n. drop n (y ∷ list)) one ∙ h.1)

-- one entry
settled-is : (program : Program) (at : ℕ) (entry : Entry) (draft : EntryDraft) → usage_of (bases program) (usages program) at (base entry) ≡ entry.usage → EntryKeeps program at entry → IsDraft program entry draft →
    settled (bases program) (usages program) at draft (base entry) ≡ entry
settled-is program at entry draft used K D =
    same-entry {l = entry.level} {m = entry.level} {n = entry.name} {o = entry.name} {f = entry.file} {g = entry.file}
    {r = redefines_of (bases program) at (base entry) draft} {s = entry.redefines} {p = picture_of (bases program) at (base entry)} {q = entry.picture}
    {a = entry.sign} {b = entry.sign} {t = usage_of (bases program) (usages program) at (base entry)} {u = entry.usage} {c = entry.occurs} {d = entry.occurs}
    {v = entry.value} {w = entry.value} {x = entry.ranges} {y = entry.ranges}
    refl refl refl (redefined-is program at entry draft D K.kind) (picture-kept program at entry draft D K.kind) refl used refl refl refl

module _ (program : Program) (keep : EntriesKeep program 0 program.entries) where
  -- the entries from this number on are these
  abbrev From : ℕ → List Entry → Type 0
  From at entries = drop at program.entries ≡ entries

  pub settled-all : (entries more done : List Entry) (drafts : List EntryDraft) → From (length done) (entries ++ more) → EntriesKeep program (length done) entries → AreDrafts program entries drafts →
      settle_all (bases program) (usages program) done drafts ≡ done ++ entries
  settled-all [] more done [] from k d = sym (append-nil done)
  settled-all [] more done (draft ∷ drafts) from k d = absurd d
  settled-all (entry ∷ entries) more done [] from k d = absurd d
  settled-all (entry ∷ entries) more done (draft ∷ drafts) from k d =
      let found = drop-next program.entries (length done) entry (entries ++ more) from in
      let one : settle (bases program) (usages program) done draft ≡ done ++ entry ∷ [] =
      ap (settled_at (bases program) (usages program) done draft) (map-at base program.entries (length done) entry found.0)
      ∙ ap (λ e. done ++ e ∷ []) (settled-is program (length done) entry draft (usage-settled program keep (length done) entry found.0) k.0 d.0) in
      let long : length (done ++ entry ∷ []) ≡ length done + 1 = length-append done (entry ∷ []) in
      ap (λ list. settle_all (bases program) (usages program) list drafts) one
      ∙ settled-all entries more (done ++ entry ∷ []) drafts (subst (λ n. From n (entries ++ more)) (sym long) found.1) (subst (λ n. EntriesKeep program n entries) (sym long) k.1) d.1
      ∙ append_assoc done (entry ∷ []) entries

  pub judged-all : (entries more : List Entry) (at : ℕ) (drafts : List EntryDraft) → From at (entries ++ more) → EntriesKeep program at entries → AreDrafts program entries drafts →
      judge_all (bases program) (sizes program) (usages program) (record { at = at; fault = None }) drafts ≡ record { at = at + length entries; fault = None }
  judged-all [] more at [] from k d = let same : at ≡ at + 0 = omega arith in ap (λ n. record { at = n; fault = None }) same
  judged-all [] more at (draft ∷ drafts) from k d = absurd d
  judged-all (entry ∷ entries) more at [] from k d = absurd d
  judged-all (entry ∷ entries) more at (draft ∷ drafts) from k d =
      let found = drop-next program.entries at entry (entries ++ more) from in
      let start : Judged = record { at = at; fault = None } in
      let one : judge (bases program) (sizes program) (usages program) start draft ≡ record { at = at + 1; fault = None } =
      ap (judged_at (bases program) (sizes program) (usages program) start draft) (map-at base program.entries at entry found.0)
      ∙ ap (λ f. record { at = at + 1; fault = f }) (entry-none program at entry draft d.0 (λ other. above-none program keep at entry found.0 other) k.0) in
      let same : (at + 1) + length entries ≡ at + length (entry ∷ entries) = omega arith in
      ap (λ judged. judge_all (bases program) (sizes program) (usages program) judged drafts) one
      ∙ judged-all entries more (at + 1) drafts found.1 k.1 d.1 ∙ ap (λ n. record { at = n; fault = None }) same

-- the entries behind these
pub behind-these : (program : Program) (entries more : List Entry) (at : ℕ) → drop at program.entries ≡ entries ++ more → drop (at + length entries) program.entries ≡ more
behind-these program [] more at e = let same : at + 0 ≡ at = omega arith in ap (λ n. drop n program.entries) same ∙ e
behind-these program (entry ∷ entries) more at e =
    let found = drop-next program.entries at entry (entries ++ more) e in
    let same : at + length (entry ∷ entries) ≡ (at + 1) + length entries = omega arith in
    ap (λ n. drop n program.entries) same ∙ behind-these program entries more (at + 1) found.1
