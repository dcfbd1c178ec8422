-- The usages that printed entries say, as groups hand them down: each entry has the one that it says.
use Rattle.std.proofs.Common.{◌≡◌, ℕ, zero, suc, ◌+◌, ◌<◌, Bool, true, false, if◌then◌else◌, List, [], ◌∷◌, map, Option, Some, None, refl, ap, sym, ◌∙◌, subst, arith}
use Rattle.std.specs.Prelude.{◌==◌, slice_get}
use Rattle.std.proofs.lemmas.Bool.{and_parts}
use Rattle.std.proofs.lemmas.Bool.Decides.{nat_tests}
use Rattle.cob_tree.specs.declared.entry.Entry.{Entry}
use Rattle.cob_tree.specs.declared.picture.Picture.{Picture}
use Rattle.cob_tree.specs.declared.picture.Sign.{Sign}
use Rattle.cob_tree.specs.declared.picture.Usage.{Usage}
use Rattle.cob_tree.specs.declared.picture.Usage.TheVariants.{Display, Binary, Packed}
use Rattle.cob_tree.specs.declared.program.Program.{Program}
use Rattle.cobol_grammar.specs.declared.data_forms.draft.Clause.{Clause}
use Rattle.cobol_grammar.specs.declared.data_forms.draft.EntryDraft.{EntryDraft}
use Rattle.symbol_tables.specs.data_names.Grouping.{is_numbered, has_items}
use Rattle.symbol_tables.specs.data_names.Names.{is_group}
use Rattle.declaration_checks.specs.declared.clause.ClauseKind.TheVariants as kinds
use Rattle.declaration_checks.specs.Clause.{clause_of}
use Rattle.declaration_checks.specs.Declaring.{usage_or, usage_of}
use Rattle.declaration_checks.specs.Standing.{before, behind, holder_of}
use Rattle.declaration_checks.specs.Usage.{usage_in, usage_by, entry_usage, found_usage, usage_above, draft_usage, section_usages}
use Rattle.grammar_laws.specs.whole_counts.entry_bounds.Bounds.{usage_suits}
use Rattle.grammar_laws.proofs.whole_counts_lemmas.entry_bounds_lemmas.Usages.{Below, usages-handed, holder-below}
use Rattle.round_trip.specs.spelling.data_spelling.Drafts.{IsUsage, IsDraft, AreDrafts}
use Rattle.round_trip.specs.declarations.printed_declarations.Rules.{base, bases, said, owns, usages, PictureSuits, ItemKeeps, KindKeeps, EntryKeeps, EntriesKeep}
use Rattle.round_trip.proofs.declarations_lemmas.printed_declarations_lemmas.Bases.{condition-spans}
use Rattle.round_trip.proofs.declarations_lemmas.printed_declarations_lemmas.Holders.{holder-group}
use Rattle.round_trip.proofs.declarations_lemmas.printed_declarations_lemmas.Lookup.{first_in, parts-of, usage-found}

-- ---- what a draft says

pub usage-said : (usage : Usage) (list : List Clause) → IsUsage usage list → usage_in (first_in list) ≡ said usage
usage-said Display list h = ap (λ list. usage_in (first_in list)) h
usage-said Binary list h = ap (λ list. usage_in (first_in list)) h.1
usage-said Packed list h = ap (λ list. usage_in (first_in list)) h.1

pub own-said : (program : Program) (at : ℕ) (entry : Entry) (draft : EntryDraft) → KindKeeps (entry.level == 88) program at entry → IsDraft program entry draft → draft_usage draft ≡ said entry.usage
own-said program at entry draft K D = go (entry.level == 88) K
  where
    go : (b : Bool) → KindKeeps b program at entry → draft_usage draft ≡ said entry.usage
    go true K = ap (λ list. usage_in (clause_of kinds.Usage list)) (condition-spans program at entry draft.clauses K D.clauses).3 ∙ sym (ap said K.no_usage)
    go false K =
        let P = parts-of program entry draft.clauses D.clauses K.no_ranges in
        ap usage_in (usage-found P) ∙ usage-said entry.usage P.usage P.is_usage

abbrev pub says : Entry → Option Usage
says entry = said entry.usage

pub section-owns : (program : Program) (at : ℕ) (entries : List Entry) (drafts : List EntryDraft) → EntriesKeep program at entries → AreDrafts program entries drafts → section_usages drafts ≡ map says entries
section-owns program at [] [] k d = refl
section-owns program at [] (draft ∷ drafts) k d = absurd d
section-owns program at (entry ∷ entries) [] k d = absurd d
section-owns program at (entry ∷ entries) (draft ∷ drafts) k d =
    ap (λ own. own ∷ section_usages drafts) (own-said program at entry draft k.0.kind d.0) ∙ ap (λ list. says entry ∷ list) (section-owns program (at + 1) entries drafts k.1 d.1)

-- ---- the entry of a number

pub map-at : {A B : Type 0} (f : A → B) (list : List A) (n : ℕ) (x : A) → slice_get list n ≡ Some x → slice_get (map f list) n ≡ Some (f x)
map-at f [] zero x e = absurd cc
map-at f [] (suc n) x e = absurd cc
map-at f (y ∷ list) zero x e = ap (λ o. Some (f o)) (some-is e)
  where
    some-is : Some y ≡ Some x → y ≡ x
    some-is e = cc
map-at f (y ∷ list) (suc n) x e = map-at f list n x e

-- and back
at-map : {A B : Type 0} (f : A → B) (list : List A) (n : ℕ) (y : B) → slice_get (map f list) n ≡ Some y → (x : A) × (slice_get list n ≡ Some x) × (f x ≡ y)
at-map f [] zero y e = absurd cc
at-map f [] (suc n) y e = absurd cc
at-map f (x ∷ list) zero y e = (x, refl, some-is e)
  where
    some-is : Some (f x) ≡ Some y → f x ≡ y
    some-is e = cc
at-map f (x ∷ list) (suc n) y e = at-map f list n y e

keeps-at : (program : Program) (entries : List Entry) (at n : ℕ) (entry : Entry) → EntriesKeep program at entries → slice_get entries n ≡ Some entry → EntryKeeps program (at + n) entry
keeps-at program [] at zero entry k e = absurd cc
keeps-at program [] at (suc n) entry k e = absurd cc
keeps-at program (first ∷ entries) at zero entry k e =
    let none : at ≡ at + 0 = omega arith in subst (λ m. EntryKeeps program m entry) none (subst (EntryKeeps program at) (some-is e) k.0)
  where
    some-is : Some first ≡ Some entry → first ≡ entry
    some-is e = cc
keeps-at program (first ∷ entries) at (suc n) entry k e =
    let one : (at + 1) + n ≡ at + suc n = omega arith in subst (λ m. EntryKeeps program m entry) one (keeps-at program entries (at + 1) n entry k.1 e)

-- ---- groups say none

no-picture : (usage : Usage) (sign : Sign) (o : Option Picture) → o ≡ None → usage_suits usage sign o ≡ true → usage ≡ Display
no-picture usage sign o none e = by usage (subst (λ o. usage_suits usage sign o ≡ true) none e)
  where
    by : (usage : Usage) → usage_suits usage sign None ≡ true → usage ≡ Display
    by Display e = refl
    by Binary e = absurd cc
    by Packed e = absurd cc

not-88 : (level : ℕ) → is_numbered level ≡ true → (level == 88) ≡ false
not-88 level e = grind (arith, nat_tests)

item-of : (program : Program) (at : ℕ) (entry : Entry) → (entry.level == 88) ≡ false → EntryKeeps program at entry → ItemKeeps program at entry
item-of program at entry e K = subst (λ b. KindKeeps b program at entry) e K.kind

-- a group says no usage
pub group-says : (program : Program) (at : ℕ) (entry : Entry) → is_group (base entry) (behind (bases program) at) ≡ true → ItemKeeps program at entry → entry.usage ≡ Display
group-says program at entry e K =
    let none : entry.picture ≡ None = subst (λ b. PictureSuits b entry.picture) e K.pictured in no-picture entry.usage entry.sign entry.picture none K.used

module _ (program : Program) (keep : EntriesKeep program 0 program.entries) where
  keeps : (n : ℕ) (entry : Entry) → slice_get program.entries n ≡ Some entry → EntryKeeps program n entry
  keeps n entry e = let none : 0 + n ≡ n = omega arith in subst (λ m. EntryKeeps program m entry) none (keeps-at program program.entries 0 n entry keep e)

  handed-at : (at : ℕ) (entry : Entry) → slice_get program.entries at ≡ Some entry →
      slice_get (usages program) at ≡ Some (entry_usage (base entry) (usage_above (usages program) (holder_of (base entry) (before (bases program) at))) (says entry))
  handed-at at entry e =
      usages-handed (bases program) (owns program) at (base entry) (says entry) (map-at base program.entries at entry e) (map-at says program.entries at entry e)

  -- where it is no level 88
  item-handed : (at : ℕ) (entry : Entry) → slice_get program.entries at ≡ Some entry → (entry.level == 88) ≡ false →
      slice_get (usages program) at ≡ Some (usage_by (usage_above (usages program) (holder_of (base entry) (before (bases program) at))) (says entry))
  item-handed at entry e other =
      handed-at at entry e ∙ ap (λ c. Some (if c then None else usage_by (usage_above (usages program) (holder_of (base entry) (before (bases program) at))) (says entry))) other

  abbrev AboveNone : ℕ → Entry → Type 0
  AboveNone at entry = usage_above (usages program) (holder_of (base entry) (before (bases program) at)) ≡ None

  -- nothing is handed down to an entry but a level 88, as far as one is before so many
  above-before : (most at : ℕ) (entry : Entry) → at < most → slice_get program.entries at ≡ Some entry → (entry.level == 88) ≡ false → AboveNone at entry
  above-before zero at entry less e other = absurd (omega (arith, less))
  above-before (suc most) at entry less e other =
      go (holder_of (base entry) (before (bases program) at)) refl (λ (n : ℕ) x inside i o. above-before most n x (omega (arith, less, inside)) i o)
    where
      go : (o : Option ℕ) → holder_of (base entry) (before (bases program) at) ≡ o →
          ((n : ℕ) (x : Entry) → n < at → slice_get program.entries n ≡ Some x → (x.level == 88) ≡ false → AboveNone n x) → usage_above (usages program) o ≡ None
      go None is again = refl
      go (Some h) is again =
          let group = holder-group (bases program) at (base entry) h (map-at base program.entries at entry e) other is in
          let found = at-map base program.entries h group.group group.there in
          let parts = and_parts (is_numbered group.group.level) (has_items group.group.level group.group.file (behind (bases program) h)) group.is in
          let level : (found.0.level == 88) ≡ false = ap (λ (x : Entry). x.level == 88) found.2 ∙ not-88 group.group.level parts.0 in
          let item = item-of program h found.0 level (keeps h found.0 found.1) in
          let none : says found.0 ≡ None = ap said (group-says program h found.0 (ap (λ x. is_group x (behind (bases program) h)) found.2 ∙ group.is) item) in
          let inside : h < at = subst (Below at) is (holder-below (base entry) (bases program) at) in
          ap found_usage
          (item-handed h found.0 found.1 level ∙ ap (λ above. Some (usage_by above (says found.0))) (again h found.0 inside found.1 level) ∙ ap (λ own. Some own) none)

  pub above-none : (at : ℕ) (entry : Entry) → slice_get program.entries at ≡ Some entry → (entry.level == 88) ≡ false → AboveNone at entry
  above-none at entry e other = above-before (suc at) at entry (omega arith) e other

  -- an entry but a level 88 has the usage that it says
  used-at : (at : ℕ) (entry : Entry) → slice_get program.entries at ≡ Some entry → (entry.level == 88) ≡ false → slice_get (usages program) at ≡ Some (says entry)
  used-at at entry e other = item-handed at entry e other ∙ ap (λ above. Some (usage_by above (says entry))) (above-none at entry e other)

  -- each entry has its usage
  pub usage-settled : (at : ℕ) (entry : Entry) → slice_get program.entries at ≡ Some entry → usage_of (bases program) (usages program) at (base entry) ≡ entry.usage
  usage-settled at entry e = go (entry.level == 88) refl (keeps at entry e).kind
    where
      meant : (usage : Usage) → usage_or (said usage) ≡ usage
      meant Display = refl
      meant Binary = refl
      meant Packed = refl

      by : (b : Bool) → is_group (base entry) (behind (bases program) at) ≡ b → ItemKeeps program at entry → (entry.level == 88) ≡ false →
          (if b then Display else usage_or (found_usage (slice_get (usages program) at))) ≡ entry.usage
      by true g K other = sym (group-says program at entry g K)
      by false g K other = ap (λ u. usage_or (found_usage u)) (used-at at entry e other) ∙ meant entry.usage

      -- a level 88 has none
      none : (b : Bool) → (entry.level == 88) ≡ true → (if b then Display else usage_or (found_usage (slice_get (usages program) at))) ≡ Display
      none true is = refl
      none false is =
          ap (λ u. usage_or (found_usage u)) (handed-at at entry e)
          ∙ ap (λ c. usage_or (if c then None else usage_by (usage_above (usages program) (holder_of (base entry) (before (bases program) at))) (says entry))) is

      go : (b : Bool) → (entry.level == 88) ≡ b → KindKeeps b program at entry → usage_of (bases program) (usages program) at (base entry) ≡ entry.usage
      go true is K = none (is_group (base entry) (behind (bases program) at)) is ∙ sym K.no_usage
      go false is K = by (is_group (base entry) (behind (bases program) at)) refl K is
