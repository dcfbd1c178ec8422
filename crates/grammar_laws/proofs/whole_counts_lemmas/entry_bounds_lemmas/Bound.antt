-- Entry by entry: where no rule is broken, its file and what it redefines are there, a level 88 has
-- a value and no picture, and a sign and a usage suit its picture.
use Rattle.std.proofs.Common.{◌≡◌, ℕ, zero, suc, ◌+◌, ◌<◌, Bool, true, false, not, ◌||◌, cond, ◌&&◌, if◌then◌else◌, List, [], ◌∷◌, ◌++◌, length, map, drop, Option, Some, None, refl, ap, sym, ◌∙◌, subst, append_assoc, length-append, eq-eqb, arith}
use Rattle.std.specs.Prelude.{◌==◌, is_some, slice_get}
use Rattle.std.specs.List.{fold, find}
use Rattle.std.proofs.lemmas.Bool.{and_parts}
use Rattle.cob_tree.specs.declared.entry.Entry.{Entry}
use Rattle.cob_tree.specs.declared.picture.Picture.{Picture}
use Rattle.cob_tree.specs.declared.picture.Picture.TheVariants as pictures
use Rattle.cob_tree.specs.declared.picture.Sign.TheVariants.{Within}
use Rattle.cob_tree.specs.declared.picture.Usage.{Usage}
use Rattle.cob_tree.specs.declared.picture.Usage.TheVariants.{Display}
use Rattle.symbol_tables.specs.data_names.Names.{is_group}
use Rattle.parser_combinators.specs.declared.note.NameKind.TheVariants.{Level}
use Rattle.parser_combinators.specs.declared.note.Position.{Position}
use Rattle.parser_combinators.specs.Note.{earliest}
use Rattle.cobol_grammar.specs.declared.data_forms.draft.Clause.{Clause}
use Rattle.cobol_grammar.specs.declared.data_forms.draft.Clause.TheVariants as clauses
use Rattle.cobol_grammar.specs.declared.data_forms.draft.Divisions.{Divisions}
use Rattle.cobol_grammar.specs.declared.data_forms.draft.EntryDraft.{EntryDraft}
use Rattle.cobol_grammar.specs.declared.data_forms.draft.FdDraft.{FdDraft}
use Rattle.cobol_grammar.specs.declared.data_forms.draft.SelectDraft.{SelectDraft}
use Rattle.cob_store.specs.sizes.Size.{sized}
use Rattle.declaration_checks.specs.declared.clause.ClauseKind.TheVariants as kinds
use Rattle.declaration_checks.specs.declared.judging.Judged.{Judged}
use Rattle.declaration_checks.specs.Base.{base_of, condition_of, item_of, level_of, sign_in, sign_of, spans_in, spans_of, span_of}
use Rattle.declaration_checks.specs.Clause.{duplicate_fault, other_fault, is_of, clause_of}
use Rattle.declaration_checks.specs.Declaring.{section_bases, record_bases, settled, settled_at, settle, settle_all, settle_records, judged_at, judge, judge_all, judge_records, bases_of, usages_in, usage_or, usage_of, entries_of, start_of, fault_of, declared_of}
use Rattle.declaration_checks.specs.Fault.{fault_at}
use Rattle.declaration_checks.specs.File.{file_number, file_of}
use Rattle.declaration_checks.specs.Item.{level_stands, picture_fault, sign_by, sign_fault, occurs_fault}
use Rattle.declaration_checks.specs.Rule.{target_of, fits_fault, condition_fault, clauses_fault, item_fault, kind_fault, entry_fault}
use Rattle.declaration_checks.specs.Standing.{before, behind, holder_of, standing_of}
use Rattle.declaration_checks.specs.Usage.{found_usage, usage_by, entry_usage, usage_above, draft_usage, own_usage, section_usages, record_usages, own_usages, usage_fault}
use Rattle.declaration_checks.specs.Value.{missing_by, missing_fault, value_fault}
use Rattle.declaration_checks.specs.Redefining.{redefines_fault}
use Rattle.control_flow_theory.specs.language.All.{all}
use Rattle.program_facts.specs.well_scoped.Part.{is_filled, if_any}
use Rattle.program_facts.proofs.well_scoped_lemmas.Made.{both, all-added}
use Rattle.grammar_laws.specs.well_scoped.named_data.Drafts.{clause_literal, entry_literal, entries_literal, fd_literal, data_literal, span_literal}
use Rattle.grammar_laws.specs.whole_counts.entry_bounds.Bounds.{is_below, is_in, has_file, file_there, redefine_earlier, has_values, sign_suits, usage_suits, is_pictured, EntriesBound}
use Rattle.grammar_laws.proofs.whole_counts_lemmas.entry_bounds_lemmas.Redefined.{redefines-earlier}
use Rattle.grammar_laws.proofs.whole_counts_lemmas.entry_bounds_lemmas.Usages.{Handed, usages-handed, usage-suits}
use Rattle.grammar_laws.proofs.whole_counts_lemmas.entry_bounds_lemmas.Selected.{none_of, has_select, all-selected, number-there, all-named, AllFiled, all-recorded}

-- ---- values of a level 88

filled-map : {A B : Type 0} (f : A → B) (list : List A) → is_filled list ≡ true → is_filled (map f list) ≡ true
filled-map f [] e = e
filled-map f (x ∷ list) e = refl

found-passes : {A : Type 0} (test p : A → Bool) (list : List A) → all (map test list) ≡ true → if_any test (find p list) ≡ true
found-passes test p [] h = refl
found-passes {A = A} test p (x ∷ list) h = let e = and_parts (test x) (all (map test list)) h in go (p x) e.0 (found-passes test p list e.1)
  where
    go : (b : Bool) → test x ≡ true → if_any test (find p list) ≡ true → if_any test (cond b (Some x) (find p list)) ≡ true
    go true here behind = here
    go false here behind = behind

found-is : {A : Type 0} (p : A → Bool) (list : List A) → if_any p (find p list) ≡ true
found-is p [] = refl
found-is {A = A} p (x ∷ list) = go (p x) refl (found-is p list)
  where
    go : (b : Bool) → p x ≡ b → if_any p (find p list) ≡ true → if_any p (cond b (Some x) (find p list)) ≡ true
    go true here behind = here
    go false here behind = behind

-- the clause is there, is VALUE, and has a value
clause-filled : (at : Position) (clause : Option Clause) → missing_by at clause ≡ None → if_any (is_of kinds.Value) clause ≡ true → if_any clause_literal clause ≡ true → is_filled (spans_in clause) ≡ true
clause-filled at None missing is literal = absurd cc
clause-filled at (Some (clauses.Value value_at spans)) missing is literal = (and_parts (is_filled spans) (all (map span_literal spans)) literal).0
clause-filled at (Some (clauses.Redefines clause_at name name_at)) missing is literal = absurd cc
clause-filled at (Some (clauses.Picture clause_at text text_at)) missing is literal = absurd cc
clause-filled at (Some (clauses.Usage clause_at usage)) missing is literal = absurd cc
clause-filled at (Some (clauses.Sign clause_at leading separate)) missing is literal = absurd cc
clause-filled at (Some (clauses.Occurs clause_at count count_at)) missing is literal = absurd cc

spans-filled : (draft : EntryDraft) → entry_literal draft ≡ true → missing_fault draft.at draft.clauses ≡ None → is_filled (spans_of draft.clauses) ≡ true
spans-filled draft literal missing =
    clause-filled draft.at (clause_of kinds.Value draft.clauses) missing (found-is (is_of kinds.Value) draft.clauses) (found-passes clause_literal (is_of kinds.Value) draft.clauses literal)

missing-none : (bases : List Entry) (sizes : List ℕ) (draft : EntryDraft) (holder : Option ℕ) → condition_fault bases sizes draft holder ≡ None → missing_fault draft.at draft.clauses ≡ None
missing-none bases sizes draft holder e =
    let again = earliest None (duplicate_fault draft.clauses) in
    let other = earliest again (other_fault draft.clauses) in
    let missing = earliest other (missing_fault draft.at draft.clauses) in
    (none_of other (missing_fault draft.at draft.clauses) (none_of missing (fits_fault bases sizes draft holder) e).0).1

-- ---- pictures and signs

abbrev no_picture : Option Picture
no_picture = None

-- a group has no picture
sign-suits : (group : Bool) (picture : Option Picture) (clause : Option Clause) → sign_by picture group clause ≡ None → sign_suits (sign_in clause) (if group then None else picture) ≡ true
sign-suits true picture clause e = refl
sign-suits false None clause e = refl
sign-suits false (Some (pictures.Letters count)) clause e = refl
sign-suits false (Some (pictures.Any count)) clause e = refl
sign-suits false (Some (pictures.Edited mask)) clause e = refl
sign-suits false (Some (pictures.Number true whole part)) clause e = refl
sign-suits false (Some (pictures.Number false whole part)) None e = refl
sign-suits false (Some (pictures.Number false whole part)) (Some (clauses.Sign at leading false)) e = refl
sign-suits false (Some (pictures.Number false whole part)) (Some (clauses.Sign at leading true)) e = absurd cc
sign-suits false (Some (pictures.Number false whole part)) (Some (clauses.Value at spans)) e = refl
sign-suits false (Some (pictures.Number false whole part)) (Some (clauses.Redefines at name name_at)) e = refl
sign-suits false (Some (pictures.Number false whole part)) (Some (clauses.Picture at text text_at)) e = refl
sign-suits false (Some (pictures.Number false whole part)) (Some (clauses.Usage at usage)) e = refl
sign-suits false (Some (pictures.Number false whole part)) (Some (clauses.Occurs at count count_at)) e = refl

-- no rule on its picture, its usage and its sign is broken
record Fine (bases : List Entry) (usages : List (Option Usage)) (at : ℕ) (entry : Entry) (draft : EntryDraft) : Type 0 where
  picture : picture_fault entry.picture (is_group entry (behind bases at)) draft.at draft.clauses ≡ None
  usage : usage_fault entry.picture (is_group entry (behind bases at)) (usage_above usages (holder_of entry (before bases at))) draft.at draft.clauses ≡ None
  sign : sign_fault entry.picture (is_group entry (behind bases at)) draft.clauses ≡ None

fine-clauses : (bases : List Entry) (sizes : List ℕ) (usages : List (Option Usage)) (at : ℕ) (entry : Entry) (draft : EntryDraft) → item_fault bases sizes usages at entry draft ≡ None →
    Fine bases usages at entry draft
fine-clauses bases sizes usages at entry draft e =
    let target = target_of bases sizes at entry in
    let standing = standing_of entry (before bases at) in
    let above = usage_above usages (holder_of entry (before bases at)) in
    let its_picture = picture_fault entry.picture target.group draft.at draft.clauses in
    let its_usage = usage_fault entry.picture target.group above draft.at draft.clauses in
    let its_sign = sign_fault entry.picture target.group draft.clauses in
    let picture = earliest (duplicate_fault draft.clauses) its_picture in
    let usage = earliest picture its_usage in
    let sign = earliest usage its_sign in
    let occurs = earliest sign (occurs_fault entry.level standing.dims draft.clauses) in
    let h = (none_of (clauses_fault entry target standing above draft) (redefines_fault bases sizes at entry draft.clauses) e).0 in
    let k = (none_of occurs (value_fault entry target standing.barred draft.clauses) h).0 in
    let l = none_of usage its_sign (none_of sign (occurs_fault entry.level standing.dims draft.clauses) k).0 in
    let m = none_of picture its_usage l.0 in
    record { picture = (none_of (duplicate_fault draft.clauses) its_picture m.0).1; usage = m.1; sign = l.1 }

module _ (bases : List Entry) (sizes : List ℕ) (owns usages : List (Option Usage)) (handed : Handed bases owns usages) (files : ℕ) where
  -- no rule on the level is broken, and then none on the kind
  kind-none : (at : ℕ) (entry : Entry) (draft : EntryDraft) → entry_fault bases sizes usages at entry draft ≡ None → kind_fault bases sizes usages at entry draft (holder_of entry (before bases at)) ≡ None
  kind-none at entry draft e = go (level_stands entry.level (holder_of entry (before bases at))) e
    where
      go : (b : Bool) → (if b then kind_fault bases sizes usages at entry draft (holder_of entry (before bases at)) else fault_at Level draft.at) ≡ None →
          kind_fault bases sizes usages at entry draft (holder_of entry (before bases at)) ≡ None
      go true e = e
      go false e = absurd cc

  base-valued : (file : Option ℕ) (at : ℕ) (draft : EntryDraft) → entry_literal draft ≡ true → entry_fault bases sizes usages at (base_of file draft) draft ≡ None → has_values (base_of file draft) ≡ true
  base-valued file at draft literal e = go (level_of draft.level == 88) refl e
    where
      go : (b : Bool) → (level_of draft.level == 88) ≡ b → entry_fault bases sizes usages at (if b then condition_of draft file else item_of draft (level_of draft.level) file) draft ≡ None →
          has_values (if b then condition_of draft file else item_of draft (level_of draft.level) file) ≡ true
      go true is e =
          filled-map span_of (spans_of draft.clauses) (spans-filled draft literal
          (missing-none bases sizes draft (holder_of (condition_of draft file) (before bases at)) (kind-none at (condition_of draft file) draft e)))
      go false is e = ap (λ c. not c || false) is

  base-pictured : (file : Option ℕ) (at : ℕ) (draft : EntryDraft) →
      slice_get usages at ≡ Some (entry_usage (base_of file draft) (usage_above usages (holder_of (base_of file draft) (before bases at))) (draft_usage draft)) →
      entry_fault bases sizes usages at (base_of file draft) draft ≡ None → is_pictured (settled bases usages at draft (base_of file draft)) ≡ true
  base-pictured file at draft used e = go (level_of draft.level == 88) refl used e
    where
      none : (group : Bool) →
          (not (true && is_some (if group then None else no_picture)) && sign_suits Within (if group then None else no_picture)
          && usage_suits (if group then Display else usage_or None) Within (if group then None else no_picture)) ≡ true
      none true = refl
      none false = refl

      -- its usage by the one that it is given
      given-usage : (entry : Entry) (given : Option Usage) → slice_get usages at ≡ Some given → usage_of bases usages at entry ≡ (if is_group entry (behind bases at) then Display else usage_or given)
      given-usage entry given used = ap (λ u. if is_group entry (behind bases at) then Display else usage_or (found_usage u)) used

      -- its usage, where it is no level 88
      item-usage : (entry : Entry) → (entry.level == 88) ≡ false → slice_get usages at ≡ Some (entry_usage entry (usage_above usages (holder_of entry (before bases at))) (draft_usage draft)) →
          usage_of bases usages at entry ≡ (if is_group entry (behind bases at) then Display else usage_or (usage_by (usage_above usages (holder_of entry (before bases at))) (own_usage draft.clauses)))
      item-usage entry is used =
          let above = usage_above usages (holder_of entry (before bases at)) in
          given-usage entry (entry_usage entry above (draft_usage draft)) used
          ∙ ap (λ c. if is_group entry (behind bases at) then Display else usage_or (if c then None else usage_by above (own_usage draft.clauses))) is

      go : (b : Bool) → (level_of draft.level == 88) ≡ b →
          slice_get usages at ≡ Some (entry_usage (if b then condition_of draft file else item_of draft (level_of draft.level) file)
          (usage_above usages (holder_of (if b then condition_of draft file else item_of draft (level_of draft.level) file) (before bases at))) (draft_usage draft)) →
          entry_fault bases sizes usages at (if b then condition_of draft file else item_of draft (level_of draft.level) file) draft ≡ None →
          is_pictured (settled bases usages at draft (if b then condition_of draft file else item_of draft (level_of draft.level) file)) ≡ true
      go true is used e =
          let group = is_group (condition_of draft file) (behind bases at) in
          subst (λ u. (not (true && is_some (if group then None else no_picture)) && sign_suits Within (if group then None else no_picture) && usage_suits u Within (if group then None else no_picture)) ≡ true)
          (sym (given-usage (condition_of draft file) None used)) (none group)
      go false is used e =
          let entry = item_of draft (level_of draft.level) file in
          let group = is_group entry (behind bases at) in
          let above = usage_above usages (holder_of entry (before bases at)) in
          let k = kind-none at entry draft e in
          let item = subst (λ b. (if b then condition_fault bases sizes draft (holder_of entry (before bases at)) else item_fault bases sizes usages at entry draft) ≡ None) is k in
          let F = fine-clauses bases sizes usages at entry draft item in
          both
          (both (ap (λ b. not (b && is_some (if group then None else entry.picture))) is) (sign-suits group entry.picture (clause_of kinds.Sign draft.clauses) F.sign))
          (subst (λ u. usage_suits u (sign_of draft.clauses) (if group then None else entry.picture) ≡ true) (sym (item-usage entry is used))
          (usage-suits group entry.picture above draft.at draft.clauses F.picture F.usage))

  base-file : (file : Option ℕ) (draft : EntryDraft) → (base_of file draft).file ≡ file
  base-file file draft = go (level_of draft.level == 88)
    where
      go : (b : Bool) → (if b then condition_of draft file else item_of draft (level_of draft.level) file).file ≡ file
      go true = refl
      go false = refl

  -- ---- the entries so far

  record SoFar (entries : List Entry) : Type 0 where
    in_files : all (map (file_there files) entries) ≡ true
    redefined : redefine_earlier 0 entries ≡ true
    valued : all (map has_values entries) ≡ true
    pictured : all (map is_pictured entries) ≡ true

  earlier-added : (count at : ℕ) (entries : List Entry) (entry : Entry) → count + length entries ≡ at → redefine_earlier count entries ≡ true → is_below at entry.redefines ≡ true →
      redefine_earlier count (entries ++ entry ∷ []) ≡ true
  earlier-added count at [] entry is e b = let same : at ≡ count = omega (arith, is) in both (subst (λ n. is_below n entry.redefines ≡ true) same b) refl
  earlier-added count at (first ∷ entries) entry is e b =
      let h = and_parts (is_below count first.redefines) (redefine_earlier (count + 1) entries) e in
      both h.0 (earlier-added (count + 1) at entries entry (omega (arith, is)) h.1 b)

  -- ---- the files that they are of

  either : (a b c : Bool) → (a || b) ≡ true → (b ≡ true → c ≡ true) → (a || c) ≡ true
  either true b c e h = refl
  either false b c e h = h e

  has-kept : (file : ℕ) (entries others : List Entry) → has_file file entries ≡ true → has_file file (entries ++ others) ≡ true
  has-kept file [] others e = absurd cc
  has-kept file (entry ∷ entries) others e = either (is_in file entry.file) (has_file file entries) (has_file file (entries ++ others)) e (has-kept file entries others)

  has-last : (file : ℕ) (entries : List Entry) (entry : Entry) → entry.file ≡ Some file → has_file file (entries ++ entry ∷ []) ≡ true
  has-last file [] entry is = ap (λ b. b || false) (ap (is_in file) is ∙ eq-eqb file file refl)
  has-last file (first ∷ entries) entry is = either (is_in file first.file) true (has_file file (entries ++ entry ∷ [])) (any (is_in file first.file)) (λ t. has-last file entries entry is)
    where
      any : (b : Bool) → (b || true) ≡ true
      any true = refl
      any false = refl

  -- what comes of the next ones: the bases behind them are these, with these own usages, and no fault before leaves all so
  record Goes (entries : List Entry) (judged : Judged) (more : List Entry) (rest : List (Option Usage)) (next : List Entry) (later : Judged) : Type 0 where
    counted : length next ≡ later.at
    aligned : drop later.at bases ≡ more
    owned : drop later.at owns ≡ rest
    fine : later.fault ≡ None → (judged.fault ≡ None) × (SoFar entries → SoFar next)
    filed : (file : ℕ) → has_file file entries ≡ true → has_file file next ≡ true

  abbrev Start : List Entry → Judged → List Entry → List (Option Usage) → Type 0
  Start entries judged more rest = (length entries ≡ judged.at) × (drop judged.at bases ≡ more) × (drop judged.at owns ≡ rest)

  drop-next : {A : Type 0} (list : List A) (k : ℕ) (x : A) (more : List A) → drop k list ≡ x ∷ more → (slice_get list k ≡ Some x) × (drop (k + 1) list ≡ more)
  drop-next [] zero x more e = absurd cc
  drop-next [] (suc k) x more e = absurd cc
  drop-next (y ∷ list) zero x more e = (cc, cc)
  drop-next (y ∷ list) (suc k) x more e =
      let h = drop-next list k x more e in
      let one : suc k + 1 ≡ suc (k + 1) = omega arith in
      (h.0, ap (λ n. drop n (y ∷ list)) one ∙ h.1)

  entry-goes : (file : Option ℕ) (entries : List Entry) (judged : Judged) (draft : EntryDraft) (more : List Entry) (rest : List (Option Usage)) → length entries ≡ judged.at →
      drop (judged.at + 1) bases ≡ more → drop (judged.at + 1) owns ≡ rest →
      slice_get usages judged.at ≡ Some (entry_usage (base_of file draft) (usage_above usages (holder_of (base_of file draft) (before bases judged.at))) (draft_usage draft)) →
      is_below files file ≡ true → entry_literal draft ≡ true →
      Goes entries judged more rest (settled_at bases usages entries draft (Some (base_of file draft))) (judged_at bases sizes usages judged draft (Some (base_of file draft)))
  entry-goes file entries judged draft more rest e aligned owned used there literal =
      let entry = base_of file draft in
      let next : Entry = settled bases usages (length entries) draft entry in
      record {
        counted = length-append entries (next ∷ []) ∙ ap (λ n. n + 1) e;
        aligned = aligned;
        owned = owned;
        fine = λ n.
            let h = none_of judged.fault (entry_fault bases sizes usages judged.at entry draft) n in (
              h.0,
              λ S. record {
                in_files = all-added (file_there files) entries next S.in_files (ap (is_below files) (base-file file draft) ∙ there);
                redefined = earlier-added 0 (length entries) entries next (omega arith) S.redefined (redefines-earlier bases (length entries) entry draft);
                valued = all-added has_values entries next S.valued (base-valued file judged.at draft literal h.1);
                pictured = all-added is_pictured entries next S.pictured (subst (λ n. is_pictured (settled bases usages n draft entry) ≡ true) (sym e) (base-pictured file judged.at draft used h.1));
              },
            );
        filed = λ number has. has-kept number entries (next ∷ []) has;
      }

  one-goes : (file : Option ℕ) (entries : List Entry) (judged : Judged) (draft : EntryDraft) (more : List Entry) (rest : List (Option Usage)) → Start entries judged (base_of file draft ∷ more) (draft_usage draft ∷ rest) →
      is_below files file ≡ true → entry_literal draft ≡ true → Goes entries judged more rest (settle bases usages entries draft) (judge bases sizes usages judged draft)
  one-goes file entries judged draft more rest s there literal =
      let found = drop-next bases judged.at (base_of file draft) more s.1 in
      let own = drop-next owns judged.at (draft_usage draft) rest s.2 in
      subst (λ o. Goes entries judged more rest (settled_at bases usages entries draft o) (judge bases sizes usages judged draft)) (sym (ap (slice_get bases) s.0 ∙ found.0))
      (subst (λ o. Goes entries judged more rest (settled_at bases usages entries draft (Some (base_of file draft))) (judged_at bases sizes usages judged draft o)) (sym found.0)
      (entry-goes file entries judged draft more rest s.0 found.1 own.1 (handed judged.at (base_of file draft) (draft_usage draft) found.0 own.0) there literal))

  then-goes : (entries : List Entry) (judged : Judged) (more : List Entry) (rest : List (Option Usage)) (mid : List Entry) (later : Judged) (behind : List Entry) (back : List (Option Usage)) (last : List Entry) (end : Judged) →
      Goes entries judged more rest mid later → Goes mid later behind back last end → Goes entries judged behind back last end
  then-goes entries judged more rest mid later behind back last end G H = record {
    counted = H.counted;
    aligned = H.aligned;
    owned = H.owned;
    fine = λ n. let after = H.fine n in let ahead = G.fine after.0 in (ahead.0, λ S. after.1 (ahead.1 S));
    filed = λ file has. H.filed file (G.filed file has);
  }

  all-goes : (file : Option ℕ) (drafts : List EntryDraft) (entries : List Entry) (judged : Judged) (more : List Entry) (rest : List (Option Usage)) →
      Start entries judged (section_bases file drafts ++ more) (section_usages drafts ++ rest) →
      is_below files file ≡ true → entries_literal drafts ≡ true → Goes entries judged more rest (settle_all bases usages entries drafts) (judge_all bases sizes usages judged drafts)
  all-goes file [] entries judged more rest s there literal = record { counted = s.0; aligned = s.1; owned = s.2; fine = λ n. (n, λ S. S); filed = λ file has. has }
  all-goes file (draft ∷ drafts) entries judged more rest s there literal =
      let h = and_parts (entry_literal draft) (entries_literal drafts) literal in
      let next = settle bases usages entries draft in
      let later = judge bases sizes usages judged draft in
      let one = one-goes file entries judged draft (section_bases file drafts ++ more) (section_usages drafts ++ rest) s there h.0 in
      then-goes entries judged (section_bases file drafts ++ more) (section_usages drafts ++ rest) next later more rest _ _ one
      (all-goes file drafts next later more rest (one.counted, one.aligned, one.owned) there h.1)

  one-filed : (number : ℕ) (entries : List Entry) (judged : Judged) (draft : EntryDraft) (more : List Entry) (rest : List (Option Usage)) → Start entries judged (base_of (Some number) draft ∷ more) rest →
      has_file number (settle bases usages entries draft) ≡ true
  one-filed number entries judged draft more rest s =
      let found = drop-next bases judged.at (base_of (Some number) draft) more s.1 in
      subst (λ o. has_file number (settled_at bases usages entries draft o) ≡ true) (sym (ap (slice_get bases) s.0 ∙ found.0))
      (has-last number entries (settled bases usages (length entries) draft (base_of (Some number) draft)) (base-file (Some number) draft))

  all-filed : (number : ℕ) (drafts : List EntryDraft) (entries : List Entry) (judged : Judged) (more : List Entry) (rest : List (Option Usage)) →
      Start entries judged (section_bases (Some number) drafts ++ more) (section_usages drafts ++ rest) →
      is_below files (Some number) ≡ true → is_filled drafts ≡ true → entries_literal drafts ≡ true → has_file number (settle_all bases usages entries drafts) ≡ true
  all-filed number [] entries judged more rest s there filled literal = absurd cc
  all-filed number (draft ∷ drafts) entries judged more rest s there filled literal =
      let h = and_parts (entry_literal draft) (entries_literal drafts) literal in
      let next = settle bases usages entries draft in
      let later = judge bases sizes usages judged draft in
      let one = one-goes (Some number) entries judged draft (section_bases (Some number) drafts ++ more) (section_usages drafts ++ rest) s there h.0 in
      (all-goes (Some number) drafts next later more rest (one.counted, one.aligned, one.owned) there h.1).filed number
      (one-filed number entries judged draft (section_bases (Some number) drafts ++ more) (section_usages (draft ∷ drafts) ++ rest) s)

module _ (bases : List Entry) (sizes : List ℕ) (owns usages : List (Option Usage)) (handed : Handed bases owns usages) (selects : List SelectDraft) where
  records-go : (fds : List FdDraft) (number : ℕ) (entries : List Entry) (judged : Judged) (more : List Entry) (rest : List (Option Usage)) →
      Start bases sizes owns usages handed (length selects) entries judged (record_bases selects number fds ++ more) (record_usages fds ++ rest) →
      all (map (has_select selects) fds) ≡ true → all (map fd_literal fds) ≡ true →
      Goes bases sizes owns usages handed (length selects) entries judged more rest (fold (settle_records bases usages) entries fds) (fold (judge_records bases sizes usages) judged fds)
  records-go [] number entries judged more rest s selected literal = record { counted = s.0; aligned = s.1; owned = s.2; fine = λ n. (n, λ S. S); filed = λ file has. has }
  records-go (fd ∷ fds) number entries judged more rest s selected literal =
      let h = and_parts (fd_literal fd) (all (map fd_literal fds)) literal in
      let k = and_parts (has_select selects fd) (all (map (has_select selects) fds)) selected in
      let file = Some (file_number selects fd number) in
      let behind = record_bases selects (number + 1) fds ++ more in
      let back = record_usages fds ++ rest in
      let here : drop judged.at bases ≡ section_bases file fd.entries ++ behind = s.1 ∙ append_assoc (section_bases file fd.entries) (record_bases selects (number + 1) fds) more in
      let own : drop judged.at owns ≡ section_usages fd.entries ++ back = s.2 ∙ append_assoc (section_usages fd.entries) (record_usages fds) rest in
      let drafts = and_parts (is_filled fd.entries) (entries_literal fd.entries) h.0 in
      let next = settle_records bases usages entries fd in
      let later = judge_records bases sizes usages judged fd in
      let one = all-goes bases sizes owns usages handed (length selects) file fd.entries entries judged behind back (s.0, here, own) (number-there selects fd number k.0) drafts.1 in
      then-goes bases sizes owns usages handed (length selects) entries judged behind back next later more rest _ _ one
      (records-go fds (number + 1) next later more rest (one.counted, one.aligned, one.owned) k.1 h.1)

  records-filed : (fds : List FdDraft) (number : ℕ) (entries : List Entry) (judged : Judged) (more : List Entry) (rest : List (Option Usage)) →
      Start bases sizes owns usages handed (length selects) entries judged (record_bases selects number fds ++ more) (record_usages fds ++ rest) →
      all (map (has_select selects) fds) ≡ true → all (map fd_literal fds) ≡ true → AllFiled selects (fold (settle_records bases usages) entries fds) fds number
  records-filed [] number entries judged more rest s selected literal = tt
  records-filed (fd ∷ fds) number entries judged more rest s selected literal =
      let h = and_parts (fd_literal fd) (all (map fd_literal fds)) literal in
      let k = and_parts (has_select selects fd) (all (map (has_select selects) fds)) selected in
      let file = file_number selects fd number in
      let behind = record_bases selects (number + 1) fds ++ more in
      let back = record_usages fds ++ rest in
      let here : drop judged.at bases ≡ section_bases (Some file) fd.entries ++ behind = s.1 ∙ append_assoc (section_bases (Some file) fd.entries) (record_bases selects (number + 1) fds) more in
      let own : drop judged.at owns ≡ section_usages fd.entries ++ back = s.2 ∙ append_assoc (section_usages fd.entries) (record_usages fds) rest in
      let drafts = and_parts (is_filled fd.entries) (entries_literal fd.entries) h.0 in
      let there = number-there selects fd number k.0 in
      let one = all-goes bases sizes owns usages handed (length selects) (Some file) fd.entries entries judged behind back (s.0, here, own) there drafts.1 in
      let next = settle_records bases usages entries fd in
      let later = judge_records bases sizes usages judged fd in (
        (records-go fds (number + 1) next later more rest (one.counted, one.aligned, one.owned) k.1 h.1).filed file
            (all-filed bases sizes owns usages handed (length selects) file fd.entries entries judged behind back (s.0, here, own) there drafts.0 drafts.1),
        records-filed fds (number + 1) next later more rest (one.counted, one.aligned, one.owned) k.1 h.1,
      )

  filed-more : (entries others : List Entry) (fds : List FdDraft) (number : ℕ) → ((file : ℕ) → has_file file entries ≡ true → has_file file others ≡ true) → AllFiled selects entries fds number → AllFiled selects others fds number
  filed-more entries others [] number more filed = tt
  filed-more entries others (fd ∷ fds) number more filed = (more (file_number selects fd number) filed.0, filed-more entries others fds (number + 1) more filed.1)

append_nil : {A : Type 0} (list : List A) → list ++ [] ≡ list
append_nil [] = refl
append_nil (x ∷ list) = ap (λ l. x ∷ l) (append_nil list)

map-length : {A B : Type 0} (f : A → B) (list : List A) → length (map f list) ≡ length list
map-length f [] = refl
map-length f (x ∷ list) = ap suc (map-length f list)

-- ---- a fault that was found stays

module _ (bases : List Entry) (sizes : List ℕ) (usages : List (Option Usage)) where
  kept-by : (judged : Judged) (draft : EntryDraft) (o : Option Entry) → (judged_at bases sizes usages judged draft o).fault ≡ None → judged.fault ≡ None
  kept-by judged draft None e = e
  kept-by judged draft (Some entry) e = (none_of judged.fault (entry_fault bases sizes usages judged.at entry draft) e).0

  kept-all : (drafts : List EntryDraft) (judged : Judged) → (judge_all bases sizes usages judged drafts).fault ≡ None → judged.fault ≡ None
  kept-all [] judged e = e
  kept-all (draft ∷ drafts) judged e = kept-by judged draft (slice_get bases judged.at) (kept-all drafts (judge bases sizes usages judged draft) e)

  kept-records : (fds : List FdDraft) (judged : Judged) → (fold (judge_records bases sizes usages) judged fds).fault ≡ None → judged.fault ≡ None
  kept-records [] judged e = e
  kept-records (fd ∷ fds) judged e = kept-all fd.entries judged (kept-records fds (judge_records bases sizes usages judged fd) e)

-- ---- all entries

bound-so-far : (divisions : Divisions) → data_literal divisions.data_part ≡ true → fault_of divisions ≡ None →
    SoFar (bases_of divisions) (sized (entries_of divisions)).sizes (own_usages divisions.data_part) (usages_in (bases_of divisions) divisions) (usages-handed (bases_of divisions) (own_usages divisions.data_part)) (length divisions.selects)
    (entries_of divisions)
    × ((file : ℕ) → file < length divisions.selects → has_file file (entries_of divisions) ≡ true)
bound-so-far divisions literal none =
    let bases = bases_of divisions in
    let sizes = (sized (entries_of divisions)).sizes in
    let owns = own_usages divisions.data_part in
    let usages = usages_in bases divisions in
    let handed = usages-handed bases owns in
    let fds = divisions.data_part.fds in
    let storage = divisions.data_part.storage in
    let count = length divisions.selects in
    let judged = fold (judge_records bases sizes usages) (start_of divisions) fds in
    let no_file_fault = kept-records bases sizes usages fds (start_of divisions) (kept-all bases sizes usages storage judged none) in
    let selected = all-selected divisions no_file_fault in
    let h = and_parts (all (map fd_literal fds)) (entries_literal storage) literal in
    let records = records-go bases sizes owns usages handed divisions.selects fds 0 [] (start_of divisions) (section_bases None storage) (section_usages storage) (refl, refl, refl) selected h.0 in
    let entries = fold (settle_records bases usages) [] fds in
    let others = all-goes bases sizes owns usages handed count None storage entries judged [] [] (records.counted, records.aligned ∙ sym (append_nil (section_bases None storage)), records.owned ∙ sym (append_nil (section_usages storage))) refl h.1 in
    let all_of = then-goes bases sizes owns usages handed count [] (start_of divisions) (section_bases None storage) (section_usages storage) entries judged [] [] _ _ records others in
    let filed = filed-more bases sizes owns usages handed divisions.selects entries (entries_of divisions) fds 0 others.filed
    (records-filed bases sizes owns usages handed divisions.selects fds 0 [] (start_of divisions) (section_bases None storage) (section_usages storage) (refl, refl, refl) selected h.0) in
    ((all_of.fine none).1 (record { in_files = refl; redefined = refl; valued = refl; pictured = refl }), all-recorded fds (entries_of divisions) divisions.selects (all-named divisions no_file_fault) filed)

pub bound : (divisions : Divisions) → data_literal divisions.data_part ≡ true → (declared_of divisions).fault ≡ None →
    EntriesBound (length (declared_of divisions).files) (declared_of divisions).entries
bound divisions literal none =
    let all_of = bound-so-far divisions literal none in
    let S = all_of.0 in
    subst (λ count. EntriesBound count (entries_of divisions)) (sym (map-length file_of divisions.selects))
    (record { in_files = S.in_files; redefined = S.redefined; valued = S.valued; pictured = S.pictured; recorded = all_of.1 })
