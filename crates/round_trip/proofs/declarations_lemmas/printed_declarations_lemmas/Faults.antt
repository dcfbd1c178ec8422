-- A printed entry breaks no rule.
use Rattle.std.proofs.Common.{◌≡◌, ℕ, ◌≤◌, Bool, true, false, not, ◌&&◌, ◌||◌, if◌then◌else◌, List, [], ◌∷◌, map, Option, Some, None, refl, ap, sym, ◌∙◌, subst}
use Rattle.std.specs.Prelude.{◌==◌, nat_le, slice_get, decimal}
use Rattle.std.specs.List.{fold}
use Rattle.std.proofs.lemmas.Bool.{le-leb}
use Rattle.cob_tree.specs.declared.entry.Entry.{Entry}
use Rattle.cob_tree.specs.declared.entry.Span.{Span}
use Rattle.cob_tree.specs.declared.picture.Picture.{Picture}
use Rattle.cob_tree.specs.declared.picture.Sign.{Sign}
use Rattle.cob_tree.specs.declared.picture.Sign.TheVariants.{Within, SeparateLeading, SeparateTrailing}
use Rattle.cob_tree.specs.declared.picture.Picture.TheVariants as pictures
use Rattle.cob_tree.specs.declared.picture.Usage.{Usage as ItemUsage}
use Rattle.cob_tree.specs.declared.picture.Usage.TheVariants.{Display, Binary, Packed}
use Rattle.cob_tree.specs.declared.place.Operand.{Operand}
use Rattle.cob_tree.specs.declared.program.Program.{Program}
use Rattle.cobol_grammar.specs.declared.data_forms.draft.Clause.{Clause}
use Rattle.cobol_grammar.specs.declared.data_forms.draft.EntryDraft.{EntryDraft}
use Rattle.cobol_grammar.specs.declared.data_forms.draft.SpanDraft.{SpanDraft}
use Rattle.cobol_grammar.specs.declared.data_forms.draft.ThruDraft.{ThruDraft}
use Rattle.symbol_tables.specs.data_names.Names.{is_group}
use Rattle.parser_combinators.specs.declared.note.NameKind.{NameKind}
use Rattle.parser_combinators.specs.declared.note.NameKind.TheVariants.{Level, Redefines as BadRedefines, Usage, Value}
use Rattle.parser_combinators.specs.declared.note.Note.{Note}
use Rattle.parser_combinators.specs.declared.note.Position.{Position}
use Rattle.parser_combinators.specs.Note.{earliest}
use Rattle.declaration_checks.specs.declared.clause.ClauseKind.TheVariants as kinds
use Rattle.declaration_checks.specs.declared.literal.LiteralTarget.{LiteralTarget}
use Rattle.declaration_checks.specs.Base.{is_count, number_of, spans_of, span_of, to_of}
use Rattle.declaration_checks.specs.Clause.{duplicate_fault, other_fault, clause_of}
use Rattle.declaration_checks.specs.Fault.{fault_at, fault_unless, first_of}
use Rattle.declaration_checks.specs.Item.{picture_by, picture_fault, is_signed, sign_by, sign_fault, may_repeat, occurs_by, occurs_fault}
use Rattle.declaration_checks.specs.Literal.{fits}
use Rattle.declaration_checks.specs.Redefining.{item_fault as redefined_item_fault, redefines_by, redefines_fault, is_short, redefined_by, redefined_in}
use Rattle.declaration_checks.specs.Rule.{target_of, fits_at, fits_fault, condition_fault, clauses_fault, item_fault, kind_fault, entry_fault}
use Rattle.declaration_checks.specs.Standing.{before, behind, holder_of, standing_of}
use Rattle.declaration_checks.specs.Usage.{usage_above, own_usage, is_computational, may_compute, other_usage, usage_place, form_fault, beside_fault, usage_fault, usage_in}
use Rattle.declaration_checks.specs.Value.{missing_by, missing_fault, to_fault, span_fault, and_span, spans_fault, may_have_value, thru_fault, second_fault, literals_fault, value_by, value_fault}
use Rattle.unparser.specs.Place.{item_name}
use Rattle.grammar_laws.specs.whole_counts.entry_bounds.Bounds.{is_within, usage_suits}
use Rattle.round_trip.specs.spelling.data_spelling.Printable.{IfAny}
use Rattle.round_trip.specs.spelling.data_spelling.Drafts.{IsRedefines, IsPicture, IsSign, alone, IsOccurs, IsValue, IsDraft}
use Rattle.round_trip.specs.declarations.printed_declarations.Rules.{base, bases, said, usages, sizes, PictureSuits, SignSuits, Repeats, IsValued, Redefines, ItemKeeps, SpanFits, SpansFit, FitAt, FitHolder, ConditionKeeps, KindKeeps, EntryKeeps}
use Rattle.round_trip.proofs.declarations_lemmas.printed_declarations_lemmas.Numbers.{number-is}
use Rattle.round_trip.proofs.declarations_lemmas.printed_declarations_lemmas.Lookup.{first_in, parts-of, none-again, redefines-found, picture-found, usage-found, sign-found, occurs-found, value-found}
use Rattle.round_trip.proofs.declarations_lemmas.printed_declarations_lemmas.Bases.{condition-spans}
use Rattle.round_trip.proofs.declarations_lemmas.printed_declarations_lemmas.Usages.{usage-said}

-- ---- several faults that are none

abbrev AllNone : List (Option Note) → Type 0
AllNone [] = Unit {0}
AllNone (fault ∷ faults) = (fault ≡ None) × AllNone faults

pub none-first : (faults : List (Option Note)) → AllNone faults → first_of faults ≡ None
none-first [] h = refl
none-first (fault ∷ faults) h = ap (λ f. fold earliest f faults) h.0 ∙ none-first faults h.1

holds : (b : Bool) (kind : NameKind) (at : Position) → b ≡ true → fault_unless b kind at ≡ None
holds b kind at e = ap (λ b. if b then None else fault_at kind at) e

-- ---- an item or a group

picture-none : (group : Bool) (o : Option Picture) (at : Position) (list : List Clause) → PictureSuits group o → IsPicture o list → picture_by o group at (first_in list) ≡ None
picture-none true o at list suits is = subst (λ x. IsPicture x list → picture_by x true at (first_in list) ≡ None) (sym suits) (λ e. ap (λ list. picture_by None true at (first_in list)) e) is
picture-none false None at list suits is = absurd suits
picture-none false (Some picture) at list suits is = ap (λ list. picture_by (Some picture) false at (first_in list)) is.2

signed-item : (group : Bool) (o : Option Picture) → PictureSuits group o → is_signed o ≡ true → (not group && is_signed o) ≡ true
signed-item true o suits e = absurd (no (sym (ap is_signed suits) ∙ e))
  where
    no : false ≡ true → ⊥
    no e = cc
signed-item false o suits e = e

sign-none : (group : Bool) (o : Option Picture) (sign : Sign) (list : List Clause) → PictureSuits group o → SignSuits sign o → IsSign sign list → sign_by o group (first_in list) ≡ None
sign-none group o Within list suits s is = ap (λ list. sign_by o group (first_in list)) is
sign-none group o SeparateLeading list suits s is = ap (λ list. sign_by o group (first_in list)) is.1 ∙ holds (not group && is_signed o) Usage is.0 (signed-item group o suits s)
sign-none group o SeparateTrailing list suits s is = ap (λ list. sign_by o group (first_in list)) is.1 ∙ holds (not group && is_signed o) Usage is.0 (signed-item group o suits s)

-- only a number computes
may-be : (group : Bool) (usage : ItemUsage) (sign : Sign) (o : Option Picture) → usage_suits usage sign o ≡ true → (group || (may_compute o || not (is_computational (said usage)))) ≡ true
may-be true usage sign o e = refl
may-be false Display sign o e = either (may_compute o)
  where
    either : (b : Bool) → (b || true) ≡ true
    either true = refl
    either false = refl
may-be false Binary sign None e = absurd cc
may-be false Binary sign (Some (pictures.Number signed whole part)) e = refl
may-be false Binary sign (Some (pictures.Letters count)) e = absurd cc
may-be false Binary sign (Some (pictures.Any count)) e = absurd cc
may-be false Binary sign (Some (pictures.Edited mask)) e = absurd cc
may-be false Packed sign None e = absurd cc
may-be false Packed sign (Some (pictures.Number signed whole part)) e = refl
may-be false Packed sign (Some (pictures.Letters count)) e = absurd cc
may-be false Packed sign (Some (pictures.Any count)) e = absurd cc
may-be false Packed sign (Some (pictures.Edited mask)) e = absurd cc

-- a separate sign is beside DISPLAY alone
displayed : (usage : ItemUsage) (sign : Sign) (o : Option Picture) → usage_suits usage sign o ≡ true → is_within sign ≡ false → is_computational (said usage) ≡ false
displayed Display sign o e w = refl
displayed Binary sign None e w = absurd cc
displayed Binary sign (Some (pictures.Number signed whole part)) e w = absurd (no (sym w ∙ e))
  where
    no : false ≡ true → ⊥
    no e = cc
displayed Binary sign (Some (pictures.Letters count)) e w = absurd cc
displayed Binary sign (Some (pictures.Any count)) e w = absurd cc
displayed Binary sign (Some (pictures.Edited mask)) e w = absurd cc
displayed Packed sign None e w = absurd cc
displayed Packed sign (Some (pictures.Number signed whole part)) e w = absurd (no (sym w ∙ e))
  where
    no : false ≡ true → ⊥
    no e = cc
displayed Packed sign (Some (pictures.Letters count)) e w = absurd cc
displayed Packed sign (Some (pictures.Any count)) e w = absurd cc
displayed Packed sign (Some (pictures.Edited mask)) e w = absurd cc

beside-none : (usage : ItemUsage) (sign : Sign) (o : Option Picture) (list : List Clause) → usage_suits usage sign o ≡ true → IsSign sign list → beside_fault (said usage) (first_in list) ≡ None
beside-none usage Within o list e is = ap (λ list. beside_fault (said usage) (first_in list)) is
beside-none usage SeparateLeading o list e is =
    ap (λ list. beside_fault (said usage) (first_in list)) is.1 ∙ holds (not (is_computational (said usage))) Usage is.0 (ap not (displayed usage SeparateLeading o e refl))
beside-none usage SeparateTrailing o list e is =
    ap (λ list. beside_fault (said usage) (first_in list)) is.1 ∙ holds (not (is_computational (said usage))) Usage is.0 (ap not (displayed usage SeparateTrailing o e refl))

-- where nothing is handed down
usage-none : (group : Bool) (o : Option Picture) (usage : ItemUsage) (sign : Sign) (at : Position) (list signs : List Clause) → usage_suits usage sign o ≡ true → own_usage list ≡ said usage →
    clause_of kinds.Sign list ≡ first_in signs → IsSign sign signs → usage_fault o group None at list ≡ None
usage-none group o usage sign at list signs suits own found is =
    none-first
    (other_usage None (clause_of kinds.Usage list) ∷ form_fault o group (own_usage list) (usage_place at (clause_of kinds.Usage list))
    ∷ beside_fault (own_usage list) (clause_of kinds.Sign list) ∷ []) (
      refl,
      (
        ap (λ u. form_fault o group u (usage_place at (clause_of kinds.Usage list))) own
            ∙ holds (group || (may_compute o || not (is_computational (said usage)))) Usage (usage_place at (clause_of kinds.Usage list)) (may-be group usage sign o suits),
        (ap (λ u. beside_fault u (clause_of kinds.Sign list)) own ∙ ap (beside_fault (said usage)) found ∙ beside-none usage sign o signs suits is, tt),
      ),
    )

counted : (count : ℕ) → 1 ≤ count → count ≤ 65535 → is_count (number_of (decimal count)) ≡ true
counted count some few = ap is_count (number-is count few) ∙ ap (λ b. b && nat_le count 65535) (le-leb 1 count some) ∙ le-leb count 65535 few

occurs-none : (level dims : ℕ) (o : Option ℕ) (list : List Clause) → IfAny (Repeats level dims) o → IsOccurs o list → occurs_by level dims (first_in list) ≡ None
occurs-none level dims None list h is = ap (λ list. occurs_by level dims (first_in list)) is
occurs-none level dims (Some count) list h is =
    ap (λ list. occurs_by level dims (first_in list)) is.2
    ∙ none-first (fault_unless (may_repeat level dims) Usage is.0 ∷ fault_unless (is_count (number_of (decimal count))) Usage is.1 ∷ [])
    (holds (may_repeat level dims) Usage is.0 h.0, (holds (is_count (number_of (decimal count))) Usage is.1 (counted count h.1 h.2), tt))

-- drafts of one value alone
literals-none : (target : LiteralTarget) (value : Operand) (drafts : List SpanDraft) → fits value target ≡ true → map span_of drafts ≡ alone value ∷ [] → literals_fault target drafts ≡ None
literals-none target value [] fit e = refl
literals-none target value (draft ∷ []) fit e =
    let first : span_of draft ≡ alone value = head-is e in
    none-first (fault_unless (fits draft.from target) Value draft.from_at ∷ thru_fault draft.thru ∷ second_fault [] ∷ [])
    (holds (fits draft.from target) Value draft.from_at (ap (λ (span : Span). fits span.from target) first ∙ fit), (no-thru draft.thru (ap (λ (span : Span). span.to) first), (refl, tt)))
  where
    head-is : {x y : Span} {xs ys : List Span} → x ∷ xs ≡ y ∷ ys → x ≡ y
    head-is e = cc

    no-thru : (thru : Option ThruDraft) → to_of thru ≡ None → thru_fault thru ≡ None
    no-thru None e = refl
    no-thru (Some thru) e = absurd cc
literals-none target value (draft ∷ next ∷ drafts) fit e = absurd (more (tail-is e))
  where
    tail-is : {x y : Span} {xs ys : List Span} → x ∷ xs ≡ y ∷ ys → xs ≡ ys
    tail-is e = cc

    more : {x : Span} {xs : List Span} → x ∷ xs ≡ [] → ⊥
    more e = cc

value-none : (entry : Entry) (target : LiteralTarget) (barred : Bool) (o : Option Operand) (list : List Clause) → IfAny (IsValued entry target barred) o → IsValue o list →
    value_by (base entry) target barred (first_in list) ≡ None
value-none entry target barred None list h is = ap (λ list. value_by (base entry) target barred (first_in list)) is
value-none entry target barred (Some value) list h is =
    ap (λ list. value_by (base entry) target barred (first_in list)) is.3
    ∙ none-first (fault_unless (may_have_value (base entry) target.group barred) Value is.0 ∷ literals_fault target is.1 ∷ [])
    (holds (may_have_value (base entry) target.group barred) Value is.0 h.0, (literals-none target value is.1 h.1 is.2, tt))

redefines-none : (program : Program) (at : ℕ) (entry : Entry) (o : Option ℕ) (list : List Clause) → IfAny (Redefines program at entry) o → IsRedefines program o list →
    redefines_by (bases program) (sizes program) at (base entry) (first_in list) ≡ None
redefines-none program at entry None list h is = ap (λ list. redefines_by (bases program) (sizes program) at (base entry) (first_in list)) is
redefines-none program at entry (Some number) list h is =
    let name = item_name program number in
    ap (λ list. redefines_by (bases program) (sizes program) at (base entry) (first_in list)) is.2
    ∙ ap (redefined_item_fault (bases program) (sizes program) at (base entry) name is.1) h.0
    ∙ holds (is_short (sizes program) at (base entry) number) BadRedefines is.1 h.1

module _ (program : Program) (at : ℕ) (entry : Entry) (draft : EntryDraft) (D : IsDraft program entry draft) where
  abbrev target : LiteralTarget
  target = target_of (bases program) (sizes program) at (base entry)

  abbrev group : Bool
  group = is_group (base entry) (behind (bases program) at)

  abbrev above : Option ItemUsage
  above = usage_above (usages program) (holder_of (base entry) (before (bases program) at))

  item-none : above ≡ None → ItemKeeps program at entry → item_fault (bases program) (sizes program) (usages program) at (base entry) draft ≡ None
  item-none none K =
      let P = parts-of program entry draft.clauses D.clauses K.no_ranges in
      let standing = standing_of (base entry) (before (bases program) at) in
      none-first (clauses_fault (base entry) target standing above draft ∷ redefines_fault (bases program) (sizes program) at (base entry) draft.clauses ∷ []) (
        none-first
            (duplicate_fault draft.clauses
            ∷ picture_fault entry.picture group draft.at draft.clauses
            ∷ usage_fault entry.picture group above draft.at draft.clauses
            ∷ sign_fault entry.picture group draft.clauses
            ∷ occurs_fault entry.level standing.dims draft.clauses
            ∷ value_fault (base entry) target standing.barred draft.clauses ∷ []) (
              none-again P,
              (
                ap (picture_by entry.picture group draft.at) (picture-found P) ∙ picture-none group entry.picture draft.at P.picture K.pictured P.is_picture,
                (
                  ap (λ u. usage_fault entry.picture group u draft.at draft.clauses) none
                      ∙ usage-none group entry.picture entry.usage entry.sign draft.at draft.clauses P.sign K.used (ap usage_in (usage-found P) ∙ usage-said entry.usage P.usage P.is_usage) (sign-found P) P.is_sign,
                  (
                    ap (sign_by entry.picture group) (sign-found P) ∙ sign-none group entry.picture entry.sign P.sign K.pictured K.signed P.is_sign,
                    (
                      ap (occurs_by entry.level standing.dims) (occurs-found P) ∙ occurs-none entry.level standing.dims entry.occurs P.occurs K.repeated P.is_occurs,
                      (
                        ap (value_by (base entry) target standing.barred) (value-found P) ∙ value-none entry target standing.barred entry.value P.value K.valued P.is_value,
                        tt,
                      ),
                    ),
                  ),
                ),
              ),
            ),
        (
          ap (redefines_by (bases program) (sizes program) at (base entry)) (redefines-found P) ∙ redefines-none program at entry entry.redefines P.redefines K.redefines P.is_redefines,
          tt,
        ),
      )

  -- ---- a level 88

  span-none : (target : LiteralTarget) (draft : SpanDraft) (span : Span) → span_of draft ≡ span → SpanFits target span → span_fault target draft ≡ None
  span-none target draft span e fit =
      none-first (fault_unless (fits draft.from target) Value draft.from_at ∷ to_fault target draft.thru ∷ []) (
        holds (fits draft.from target) Value draft.from_at (ap (λ (span : Span). fits span.from target) e ∙ fit.0),
        (to-none draft.thru (subst (IfAny (λ to. fits to target ≡ true)) (sym (ap (λ (span : Span). span.to) e)) fit.1), tt),
      )
    where
      to-none : (thru : Option ThruDraft) → IfAny (λ to. fits to target ≡ true) (to_of thru) → to_fault target thru ≡ None
      to-none None h = refl
      to-none (Some thru) h = holds (fits thru.to target) Value thru.to_at h

  spans-none : (target : LiteralTarget) (drafts : List SpanDraft) (spans : List Span) → map span_of drafts ≡ spans → SpansFit target spans → fold (and_span target) None drafts ≡ None
  spans-none target [] spans e fit = refl
  spans-none target (draft ∷ drafts) [] e fit = absurd cc
  spans-none target (draft ∷ drafts) (span ∷ spans) e fit =
      ap (λ f. fold (and_span target) f drafts) (span-none target draft span (head-is e) fit.0) ∙ spans-none target drafts spans (tail-is e) fit.1
    where
      head-is : {x y : Span} {xs ys : List Span} → x ∷ xs ≡ y ∷ ys → x ≡ y
      head-is e = cc

      tail-is : {x y : Span} {xs ys : List Span} → x ∷ xs ≡ y ∷ ys → xs ≡ ys
      tail-is e = cc

  fits-none : (drafts : List SpanDraft) (spans : List Span) (holder : Option ℕ) → spans_of draft.clauses ≡ drafts → map span_of drafts ≡ spans → FitHolder program spans holder →
      fits_fault (bases program) (sizes program) draft holder ≡ None
  fits-none drafts spans None is e fit = refl
  fits-none drafts spans (Some item) is e fit = go (slice_get (bases program) item) fit
    where
      go : (o : Option Entry) → FitAt program spans item o → fits_at (bases program) (sizes program) draft item o ≡ None
      go None f = refl
      go (Some held) f =
          ap (spans_fault (target_of (bases program) (sizes program) item held)) is
          ∙ spans-none (target_of (bases program) (sizes program) item held) drafts spans e f

  condition-none : ConditionKeeps program at entry → condition_fault (bases program) (sizes program) draft (holder_of (base entry) (before (bases program) at)) ≡ None
  condition-none K =
      let S = condition-spans program at entry draft.clauses K D.clauses in
      let holder = holder_of (base entry) (before (bases program) at) in
      none-first
      (duplicate_fault draft.clauses ∷ other_fault draft.clauses ∷ missing_fault draft.at draft.clauses
      ∷ fits_fault (bases program) (sizes program) draft holder ∷ []) (
        ap duplicate_fault S.3,
        (
          ap other_fault S.3,
          (
            ap (λ list. missing_by draft.at (clause_of kinds.Value list)) S.3,
            (fits-none S.1 entry.ranges holder (ap spans_of S.3) S.2 K.fit, tt),
          ),
        ),
      )

  -- ---- an entry

  pub entry-none : ((entry.level == 88) ≡ false → above ≡ None) → EntryKeeps program at entry → entry_fault (bases program) (sizes program) (usages program) at (base entry) draft ≡ None
  entry-none none E =
      ap (λ b. if b then kind_fault (bases program) (sizes program) (usages program) at (base entry) draft (holder_of (base entry) (before (bases program) at)) else fault_at Level draft.at) E.stands
      ∙ go (entry.level == 88) refl E.kind
    where
      go : (b : Bool) → (entry.level == 88) ≡ b → KindKeeps b program at entry →
          (if b then condition_fault (bases program) (sizes program) draft (holder_of (base entry) (before (bases program) at)) else item_fault (bases program) (sizes program) (usages program) at (base entry) draft) ≡ None
      go true is K = condition-none K
      go false is K = item-none (none is) K

  -- what it redefines
  pub redefined-is : KindKeeps (entry.level == 88) program at entry →
      (if entry.level == 88 then None else redefined_in (bases program) at (base entry) draft.clauses) ≡ entry.redefines
  redefined-is K = go (entry.level == 88) K
    where
      found-is : (o : Option ℕ) (list : List Clause) → IfAny (Redefines program at entry) o → IsRedefines program o list → redefined_by (bases program) at (base entry) (first_in list) ≡ o
      found-is None list h is = ap (λ list. redefined_by (bases program) at (base entry) (first_in list)) is
      found-is (Some number) list h is = ap (λ list. redefined_by (bases program) at (base entry) (first_in list)) is.2 ∙ h.0

      go : (b : Bool) → KindKeeps b program at entry → (if b then None else redefined_in (bases program) at (base entry) draft.clauses) ≡ entry.redefines
      go true K = sym K.no_redefines
      go false K =
          let P = parts-of program entry draft.clauses D.clauses K.no_ranges in
          ap (redefined_by (bases program) at (base entry)) (redefines-found P) ∙ found-is entry.redefines P.redefines K.redefines P.is_redefines

  -- and its picture
  pub picture-kept : KindKeeps (entry.level == 88) program at entry → (if group then None else entry.picture) ≡ entry.picture
  picture-kept K = go (entry.level == 88) K
    where
      by : (b : Bool) (o : Option Picture) → PictureSuits b o → (if b then None else o) ≡ o
      by true o e = sym e
      by false o s = refl

      none : (b : Bool) (o : Option Picture) → o ≡ None → (if b then None else o) ≡ o
      none true o e = sym e
      none false o e = refl

      go : (b : Bool) → KindKeeps b program at entry → (if group then None else entry.picture) ≡ entry.picture
      go true K = none group entry.picture K.no_picture
      go false K = by group entry.picture K.pictured
