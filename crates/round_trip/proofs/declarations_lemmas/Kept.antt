-- An entry that is declared with no fault keeps the rules.
use Rattle.std.proofs.Common.{◌≡◌, ℕ, zero, suc, Bool, true, false, cond, if◌then◌else◌, List, [], ◌∷◌, map, reverse, Option, Some, None, refl, ap, sym, ◌∙◌, subst}
use Rattle.std.specs.Prelude.{◌==◌, slice_get, codes}
use Rattle.std.specs.List.{find}
use Rattle.std.specs.Option.{is_some}
use Rattle.std.proofs.lemmas.Bool.{and_parts}
use Rattle.cob_tree.specs.declared.entry.Entry.{Entry}
use Rattle.cob_tree.specs.declared.picture.Usage.{Usage}
use Rattle.cob_tree.specs.declared.picture.Usage.TheVariants.{Display}
use Rattle.cob_tree.specs.declared.program.Program.{Program}
use Rattle.cobol_grammar.specs.declared.data_forms.draft.Clause.{Clause}
use Rattle.cobol_grammar.specs.declared.data_forms.draft.Clause.TheVariants as clauses
use Rattle.cobol_grammar.specs.declared.data_forms.draft.EntryDraft.{EntryDraft}
use Rattle.cobol_grammar.specs.declared.data_forms.draft.SpanDraft.{SpanDraft}
use Rattle.symbol_tables.specs.data_names.Names.{is_group}
use Rattle.parser_combinators.specs.declared.note.NameKind.TheVariants.{Level}
use Rattle.parser_combinators.specs.declared.note.Position.{Position}
use Rattle.control_flow_theory.specs.language.All.{all}
use Rattle.program_facts.specs.well_scoped.Part.{is_filled, if_any}
use Rattle.grammar_laws.specs.well_scoped.named_data.Drafts.{clause_literal, entry_literal, span_literal}
use Rattle.grammar_laws.specs.whole_counts.entry_bounds.Bounds.{usage_suits}
use Rattle.grammar_laws.proofs.whole_counts_lemmas.entry_bounds_lemmas.Usages.{usage-suits}
use Rattle.unparser.specs.Place.{entry_name, item_name}
use Rattle.declaration_checks.specs.declared.clause.ClauseKind.TheVariants as kinds
use Rattle.declaration_checks.specs.Base.{base_of, condition_of, item_of, level_of, number_of, spans_in, spans_of, span_of, redefines_of as marks_of}
use Rattle.declaration_checks.specs.Clause.{duplicate_fault, other_fault, is_of, clause_of}
use Rattle.declaration_checks.specs.Declaring.{settled, usage_or, usage_of}
use Rattle.declaration_checks.specs.Fault.{fault_at}
use Rattle.declaration_checks.specs.Item.{level_stands, picture_fault, sign_fault, occurs_fault}
use Rattle.declaration_checks.specs.Redefining.{redefined_by, redefined_in, redefines_fault, last_alike}
use Rattle.declaration_checks.specs.Rule.{target_of, fits_at, fits_fault, condition_fault, clauses_fault, item_fault, kind_fault, entry_fault}
use Rattle.declaration_checks.specs.Standing.{before, behind, holder_of, standing_of}
use Rattle.declaration_checks.specs.Usage.{usage_by, entry_usage, found_usage, usage_above, own_usage, draft_usage, usage_fault}
use Rattle.declaration_checks.specs.Value.{missing_by, missing_fault, value_fault}
use Rattle.round_trip.specs.spelling.data_spelling.Printable.{IfAny}
use Rattle.round_trip.specs.declarations.printed_declarations.Rules.{marked, base, bases, sizes, PictureSuits, SignSuits, Repeats, Redefines, ItemKeeps, FitAt, FitHolder, IsFilled, ConditionKeeps, KindKeeps, EntryKeeps}
use Rattle.round_trip.proofs.declarations_lemmas.printed_declarations_lemmas.Bases.{same-entry}
use Rattle.round_trip.proofs.declarations_lemmas.printed_declarations_lemmas.Lookup.{any-found}
use Rattle.round_trip.proofs.declarations_lemmas.Entries.{first-none, kept, pictured, signed, repeated, Valued, valued, Redefined, Found, found, named-so, spans-fit, a-level}

-- ---- the first clause of a kind is of it

find-passes : {A : Type 0} (test p : A → Bool) (list : List A) → all (map test list) ≡ true → if_any test (find p list) ≡ true
find-passes test p [] h = refl
find-passes {A = A} test p (x ∷ list) h = let e = and_parts (test x) (all (map test list)) h in go (p x) e.0 (find-passes test p list e.1)
  where
    go : (b : Bool) → test x ≡ true → if_any test (find p list) ≡ true → if_any test (cond b (Some x) (find p list)) ≡ true
    go true here behind = here
    go false here behind = behind

find-is : {A : Type 0} (p : A → Bool) (list : List A) → if_any p (find p list) ≡ true
find-is p [] = refl
find-is {A = A} p (x ∷ list) = go (p x) refl (find-is p list)
  where
    go : (b : Bool) → p x ≡ b → if_any p (find p list) ≡ true → if_any p (cond b (Some x) (find p list)) ≡ true
    go true here behind = here
    go false here behind = behind

clause-filled : (at : Position) (clause : Option Clause) → missing_by at clause ≡ None → if_any (is_of kinds.Value) clause ≡ true → if_any clause_literal clause ≡ true → is_filled (spans_in clause) ≡ true
clause-filled at None missing is literal = absurd cc
clause-filled at (Some (clauses.Value value_at spans)) missing is literal = (and_parts (is_filled spans) (all (map span_literal spans)) literal).0
clause-filled at (Some (clauses.Redefines clause_at name name_at)) missing is literal = absurd cc
clause-filled at (Some (clauses.Picture clause_at text text_at)) missing is literal = absurd cc
clause-filled at (Some (clauses.Usage clause_at said_usage)) missing is literal = absurd cc
clause-filled at (Some (clauses.Sign clause_at leading separate)) missing is literal = absurd cc
clause-filled at (Some (clauses.Occurs clause_at count count_at)) missing is literal = absurd cc

spans-filled : (drafts : List SpanDraft) → is_filled drafts ≡ true → IsFilled (map span_of drafts)
spans-filled [] e = absurd cc
spans-filled (draft ∷ drafts) e = tt

-- ---- no fault of an entry is none of its kind

module _ (list : List Entry) (long : List ℕ) (used : List (Option Usage)) (at : ℕ) where
  kind-none : (entry : Entry) (draft : EntryDraft) → entry_fault list long used at entry draft ≡ None →
      (level_stands entry.level (holder_of entry (before list at)) ≡ true) × (kind_fault list long used at entry draft (holder_of entry (before list at)) ≡ None)
  kind-none entry draft e = go (level_stands entry.level (holder_of entry (before list at))) e
    where
      go : (b : Bool) → (if b then kind_fault list long used at entry draft (holder_of entry (before list at)) else fault_at Level draft.at) ≡ None →
          (b ≡ true) × (kind_fault list long used at entry draft (holder_of entry (before list at)) ≡ None)
      go true e = (refl, e)
      go false e = absurd cc

  -- no rule on its clauses is broken
  record Fine (entry : Entry) (draft : EntryDraft) : Type 0 where
    picture : picture_fault entry.picture (is_group entry (behind list at)) draft.at draft.clauses ≡ None
    usage : usage_fault entry.picture (is_group entry (behind list at)) (usage_above used (holder_of entry (before list at))) draft.at draft.clauses ≡ None
    sign : sign_fault entry.picture (is_group entry (behind list at)) draft.clauses ≡ None
    occurs : occurs_fault entry.level (standing_of entry (before list at)).dims draft.clauses ≡ None
    value : value_fault entry (target_of list long at entry) (standing_of entry (before list at)).barred draft.clauses ≡ None
    redefines : redefines_fault list long at entry draft.clauses ≡ None

  fine : (entry : Entry) (draft : EntryDraft) → item_fault list long used at entry draft ≡ None → Fine entry draft
  fine entry draft e =
      let target = target_of list long at entry in
      let standing = standing_of entry (before list at) in
      let above = usage_above used (holder_of entry (before list at)) in
      let h = first-none (clauses_fault entry target standing above draft ∷ redefines_fault list long at entry draft.clauses ∷ []) e in
      let k = first-none
      (duplicate_fault draft.clauses
      ∷ picture_fault entry.picture target.group draft.at draft.clauses
      ∷ usage_fault entry.picture target.group above draft.at draft.clauses
      ∷ sign_fault entry.picture target.group draft.clauses
      ∷ occurs_fault entry.level standing.dims draft.clauses
      ∷ value_fault entry target standing.barred draft.clauses ∷ []) h.0 in
      record { picture = k.1.0; usage = k.1.1.0; sign = k.1.1.1.0; occurs = k.1.1.1.1.0; value = k.1.1.1.1.1.0; redefines = h.1.0 }

  -- what it redefines is marked
  marks-by : (entry : Entry) (clause : Option Clause) → Found list long at entry clause → if_any (is_of kinds.Redefines) clause ≡ true →
      marked (redefined_by list at entry clause) ≡ (if is_some clause then Some 0 else None)
  marks-by entry None f is = refl
  marks-by entry (Some (clauses.Redefines clause_at name name_at)) f is = ap marked f.1.0
  marks-by entry (Some (clauses.Picture clause_at text text_at)) f is = absurd cc
  marks-by entry (Some (clauses.Usage clause_at said_usage)) f is = absurd cc
  marks-by entry (Some (clauses.Sign clause_at leading separate)) f is = absurd cc
  marks-by entry (Some (clauses.Occurs clause_at count count_at)) f is = absurd cc
  marks-by entry (Some (clauses.Value clause_at spans)) f is = absurd cc

  marks : (entry : Entry) (draft : EntryDraft) → Fine entry draft → marked (redefined_in list at entry draft.clauses) ≡ marks_of draft.clauses
  marks entry draft F =
      marks-by entry (clause_of kinds.Redefines draft.clauses) (found list long at entry (clause_of kinds.Redefines draft.clauses) F.redefines) (find-is (is_of kinds.Redefines) draft.clauses)
      ∙ ap (λ b. if b then Some 0 else None) (sym (any-found (is_of kinds.Redefines) draft.clauses))

  no-picture : (b : Bool) → kept b None ≡ None
  no-picture true = refl
  no-picture false = refl

  -- by itself it says what its draft does
  pub same-base : (file : Option ℕ) (draft : EntryDraft) → entry_fault list long used at (base_of file draft) draft ≡ None → base (settled list used at draft (base_of file draft)) ≡ base_of file draft
  same-base file draft e = go (level_of draft.level == 88) refl e
    where
      go : (b : Bool) → (level_of draft.level == 88) ≡ b → entry_fault list long used at (if b then condition_of draft file else item_of draft (level_of draft.level) file) draft ≡ None →
          base (settled list used at draft (if b then condition_of draft file else item_of draft (level_of draft.level) file)) ≡ (if b then condition_of draft file else item_of draft (level_of draft.level) file)
      go true is e = same-entry refl refl refl refl (no-picture (is_group (condition_of draft file) (behind list at))) refl refl refl refl refl
      go false is e =
          let entry : Entry = item_of draft (level_of draft.level) file in
          let k = subst (λ b. (if b then condition_fault list long draft (holder_of entry (before list at)) else item_fault list long used at entry draft) ≡ None) is (kind-none entry draft e).1 in
          let F = fine entry draft k in
          same-entry refl refl refl
          (ap (λ b. marked (if b then None else redefined_in list at entry draft.clauses)) is ∙ marks entry draft F)
          (pictured (is_group entry (behind list at)) draft.at (clause_of kinds.Picture draft.clauses) F.picture).1
          refl refl refl refl refl

-- ---- the names of entries by themselves are theirs

same-name : (entries : List Entry) (n : ℕ) (other : Entry) → slice_get (map base entries) n ≡ Some other → entry_name (slice_get entries n) ≡ entry_name (Some other)
same-name [] zero other e = absurd cc
same-name [] (suc n) other e = absurd cc
same-name (entry ∷ entries) zero other e = ap entry_name e
same-name (entry ∷ entries) (suc n) other e = same-name entries n other e

module _ (program : Program) (used : List (Option Usage)) (at : ℕ) (file : Option ℕ) (draft : EntryDraft) where
  -- the usage of this entry in the list is what is handed down to it, or its own
  abbrev HandedTo : Entry → Type 0
  HandedTo entry = slice_get used at ≡ Some (entry_usage entry (usage_above used (holder_of entry (before (bases program) at))) (draft_usage draft))

  abbrev titled : Option (List ℕ) → List ℕ
  titled o = elim o [ None ↦ codes "FILLER" | Some name ↦ name ]

  item-keeps : (is : (level_of draft.level == 88) ≡ false) → HandedTo (item_of draft (level_of draft.level) file) → Fine (bases program) (sizes program) used at (item_of draft (level_of draft.level) file) draft →
      base (settled (bases program) used at draft (item_of draft (level_of draft.level) file)) ≡ item_of draft (level_of draft.level) file →
      ItemKeeps program at (settled (bases program) used at draft (item_of draft (level_of draft.level) file))
  item-keeps is handed F same =
      let entry : Entry = item_of draft (level_of draft.level) file in
      let E : Entry = settled (bases program) used at draft entry in
      let group = is_group entry (behind (bases program) at) in
      let P = pictured group draft.at (clause_of kinds.Picture draft.clauses) F.picture in
      record {
        pictured = subst (λ (x : Entry). PictureSuits (is_group x (behind (bases program) at)) (kept group entry.picture)) (sym same) P.0;
        signed = subst (SignSuits entry.sign) (sym P.1) (signed group entry.picture (clause_of kinds.Sign draft.clauses) F.sign);
        used = subst (λ u. usage_suits u entry.sign (kept group entry.picture) ≡ true) (sym settled-usage)
            (usage-suits group entry.picture (usage_above used (holder_of entry (before (bases program) at))) draft.at draft.clauses F.picture F.usage);
        repeated = subst (λ (x : Entry). IfAny (Repeats x.level (standing_of x (before (bases program) at)).dims) entry.occurs) (sym same)
            (repeated entry.level (standing_of entry (before (bases program) at)).dims (clause_of kinds.Occurs draft.clauses) F.occurs);
        valued = subst
            (λ (x : Entry). IfAny (Valued x (target_of (bases program) (sizes program) at x) (standing_of x (before (bases program) at)).barred) entry.value) (sym same)
            (valued entry (target_of (bases program) (sizes program) at entry) (standing_of entry (before (bases program) at)).barred (clause_of kinds.Value draft.clauses) F.value);
        redefines = subst (λ b. IfAny (Redefines program at E) (if b then None else redefined_in (bases program) at entry draft.clauses)) (sym is)
            (by E same (clause_of kinds.Redefines draft.clauses) (found (bases program) (sizes program) at entry (clause_of kinds.Redefines draft.clauses) F.redefines));
        no_ranges = refl;
      }
    where
      settled-usage : usage_of (bases program) used at (item_of draft (level_of draft.level) file)
          ≡ (if is_group (item_of draft (level_of draft.level) file) (behind (bases program) at) then Display
          else usage_or (usage_by (usage_above used (holder_of (item_of draft (level_of draft.level) file) (before (bases program) at))) (own_usage draft.clauses)))
      settled-usage =
          let entry : Entry = item_of draft (level_of draft.level) file in
          let group = is_group entry (behind (bases program) at) in
          let above = usage_above used (holder_of entry (before (bases program) at)) in
          ap (λ u. if group then Display else usage_or (found_usage u)) handed
          ∙ ap (λ c. if group then Display else usage_or (if c then None else usage_by above (own_usage draft.clauses))) is

      by : (E : Entry) → base E ≡ item_of draft (level_of draft.level) file → (clause : Option Clause) →
          Found (bases program) (sizes program) at (item_of draft (level_of draft.level) file) clause →
          IfAny (Redefines program at E) (redefined_by (bases program) at (item_of draft (level_of draft.level) file) clause)
      by E same None f = tt
      by E same (Some (clauses.Redefines clause_at name name_at)) f =
          let entry : Entry = item_of draft (level_of draft.level) file in
          let so = named-so (bases program) name entry (last_alike entry (reverse (before (bases program) at))) f.0 f.1.0 in
          let title : item_name program f.0 ≡ name = same-name program.entries f.0 so.0 so.1 ∙ ap titled so.2 in
          subst (IfAny (Redefines program at E)) (sym f.1.0)
          (subst (λ (x : Entry). Redefined (bases program) (sizes program) at x (item_name program f.0) f.0) (sym same)
          (subst (λ (title : List ℕ). Redefined (bases program) (sizes program) at entry title f.0) (sym title) f.1))
      by E same (Some (clauses.Picture clause_at text text_at)) f = tt
      by E same (Some (clauses.Usage clause_at said_usage)) f = tt
      by E same (Some (clauses.Sign clause_at leading separate)) f = tt
      by E same (Some (clauses.Occurs clause_at count count_at)) f = tt
      by E same (Some (clauses.Value clause_at spans)) f = tt

  -- ---- a level 88

  no-kept : (b : Bool) → kept b None ≡ None
  no-kept true = refl
  no-kept false = refl

  condition-keeps : entry_literal draft ≡ true → HandedTo (condition_of draft file) → condition_fault (bases program) (sizes program) draft (holder_of (condition_of draft file) (before (bases program) at)) ≡ None →
      base (settled (bases program) used at draft (condition_of draft file)) ≡ condition_of draft file → ConditionKeeps program at (settled (bases program) used at draft (condition_of draft file))
  condition-keeps literal handed e same =
      let holder = holder_of (condition_of draft file) (before (bases program) at) in
      let h = first-none
      (duplicate_fault draft.clauses ∷ other_fault draft.clauses ∷ missing_fault draft.at draft.clauses
      ∷ fits_fault (bases program) (sizes program) draft holder ∷ []) e in
      record {
        no_redefines = refl;
        no_picture = no-kept (is_group (condition_of draft file) (behind (bases program) at));
        no_sign = refl;
        no_usage = display (is_group (condition_of draft file) (behind (bases program) at));
        no_occurs = refl;
        no_value = refl;
        filled = spans-filled (spans_of draft.clauses)
            (clause-filled draft.at (clause_of kinds.Value draft.clauses) h.1.1.0 (find-is (is_of kinds.Value) draft.clauses) (find-passes clause_literal (is_of kinds.Value) draft.clauses literal));
        fit = subst (λ (x : Entry). FitHolder program (map span_of (spans_of draft.clauses)) (holder_of x (before (bases program) at))) (sym same) (fit-holder holder h.1.1.1.0);
      }
    where
      display : (b : Bool) → (if b then Display else usage_or (found_usage (slice_get used at))) ≡ Display
      display true = refl
      display false = ap (λ u. usage_or (found_usage u)) handed

      fit-at : (item : ℕ) (o : Option Entry) → fits_at (bases program) (sizes program) draft item o ≡ None → FitAt program (map span_of (spans_of draft.clauses)) item o
      fit-at item None e = tt
      fit-at item (Some entry) e = (spans-fit (target_of (bases program) (sizes program) item entry) None (spans_of draft.clauses) e).1

      fit-holder : (o : Option ℕ) → fits_fault (bases program) (sizes program) draft o ≡ None → FitHolder program (map span_of (spans_of draft.clauses)) o
      fit-holder None e = tt
      fit-holder (Some item) e = fit-at item (slice_get (bases program) item) e

  -- ---- an entry

  pub entry-keeps : entry_literal draft ≡ true → HandedTo (base_of file draft) → entry_fault (bases program) (sizes program) used at (base_of file draft) draft ≡ None → EntryKeeps program at (settled (bases program) used at draft (base_of file draft))
  entry-keeps literal handed e = go (level_of draft.level == 88) refl handed e (same-base (bases program) (sizes program) used at file draft e)
    where
      stands : (x : Entry) → entry_fault (bases program) (sizes program) used at x draft ≡ None → base (settled (bases program) used at draft x) ≡ x →
          level_stands x.level (holder_of (base (settled (bases program) used at draft x)) (before (bases program) at)) ≡ true
      stands x e same =
          subst (λ (y : Entry). level_stands x.level (holder_of y (before (bases program) at)) ≡ true) (sym same) (kind-none (bases program) (sizes program) used at x draft e).0

      go : (b : Bool) → (level_of draft.level == 88) ≡ b → HandedTo (if b then condition_of draft file else item_of draft (level_of draft.level) file) →
          entry_fault (bases program) (sizes program) used at (if b then condition_of draft file else item_of draft (level_of draft.level) file) draft ≡ None →
          base (settled (bases program) used at draft (if b then condition_of draft file else item_of draft (level_of draft.level) file)) ≡ (if b then condition_of draft file else item_of draft (level_of draft.level) file) →
          EntryKeeps program at (settled (bases program) used at draft (if b then condition_of draft file else item_of draft (level_of draft.level) file))
      go true is handed e same = record {
        level = refl;
        stands = stands (condition_of draft file) e same;
        kind = condition-keeps literal handed (kind-none (bases program) (sizes program) used at (condition_of draft file) draft e).1 same;
      }
      go false is handed e same =
          let entry : Entry = item_of draft (level_of draft.level) file in
          let k = subst (λ b. (if b then condition_fault (bases program) (sizes program) draft (holder_of entry (before (bases program) at)) else item_fault (bases program) (sizes program) used at entry draft) ≡ None) is
          (kind-none (bases program) (sizes program) used at entry draft e).1 in
          record {
            level = a-level (number_of draft.level);
            stands = stands entry e same;
            kind = subst (λ b. KindKeeps b program at (settled (bases program) used at draft entry)) (sym is) (item-keeps is handed (fine (bases program) (sizes program) used at entry draft k) same);
          }
