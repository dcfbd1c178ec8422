-- Usages as they are handed down from entry to entry.
use Rattle.std.proofs.Common.{◌≡◌, ℕ, zero, suc, ◌+◌, ◌<◌, ◌≤◌, Bool, true, false, not, ◌||◌, if◌then◌else◌, List, [], ◌∷◌, ◌++◌, length, take, reverse, Option, Some, None, refl, ap, sym, ◌∙◌, subst, length-append, arith}
use Rattle.std.specs.Prelude.{slice_get}
use Rattle.std.specs.List.{fold}
use Rattle.std.specs.Option.{is_some}
use Rattle.std.proofs.lemmas.List.{length-reverse, length-take}
use Rattle.cob_tree.specs.declared.entry.Entry.{Entry}
use Rattle.cob_tree.specs.declared.picture.Picture.{Picture}
use Rattle.cob_tree.specs.declared.picture.Picture.TheVariants as pictures
use Rattle.cob_tree.specs.declared.picture.Usage.{Usage}
use Rattle.cob_tree.specs.declared.picture.Usage.TheVariants.{Display, Binary, Packed}
use Rattle.cobol_grammar.specs.declared.data_forms.draft.Clause.{Clause}
use Rattle.cobol_grammar.specs.declared.data_forms.draft.Clause.TheVariants as clauses
use Rattle.parser_combinators.specs.declared.note.NameKind.{NameKind}
use Rattle.parser_combinators.specs.declared.note.NameKind.TheVariants.{Picture as BadPicture, Usage as BadUsage}
use Rattle.parser_combinators.specs.declared.note.Position.{Position}
use Rattle.parser_combinators.specs.Note.{earliest}
use Rattle.symbol_tables.specs.data_names.Grouping.{bound_of, holds, same_file}
use Rattle.symbol_tables.specs.data_names.Nesting.{nearest}
use Rattle.declaration_checks.specs.declared.clause.ClauseKind.TheVariants as kinds
use Rattle.declaration_checks.specs.Base.{sign_in, sign_of}
use Rattle.declaration_checks.specs.Clause.{clause_of}
use Rattle.declaration_checks.specs.Declaring.{usage_or}
use Rattle.declaration_checks.specs.Fault.{fault_unless}
use Rattle.declaration_checks.specs.Item.{picture_by, picture_fault}
use Rattle.declaration_checks.specs.Standing.{before, holder_of}
use Rattle.declaration_checks.specs.Usage.{own_usage, usage_by, entry_usage, found_usage, usage_above, handed_at, handed, usages_of, is_computational, may_compute, other_usage, usage_place, form_fault, beside_fault, usage_fault}
use Rattle.grammar_laws.specs.whole_counts.entry_bounds.Bounds.{usage_suits}
use Rattle.grammar_laws.proofs.whole_counts_lemmas.entry_bounds_lemmas.Selected.{none_of}

-- each entry has the usage that is handed down to it, or else its own
abbrev pub Handed : (bases : List Entry) → (owns usages : List (Option Usage)) → Type 0
Handed bases owns usages =
    (at : ℕ) (entry : Entry) (own : Option Usage) → slice_get bases at ≡ Some entry → slice_get owns at ≡ Some own →
    slice_get usages at ≡ Some (entry_usage entry (usage_above usages (holder_of entry (before bases at))) own)

-- ---- lists

at-behind : {A : Type 0} (list more : List A) (x : A) → slice_get (list ++ x ∷ more) (length list) ≡ Some x
at-behind [] more x = refl
at-behind (y ∷ list) more x = at-behind list more x

at-before : {A : Type 0} (list more : List A) (n : ℕ) → n < length list → slice_get (list ++ more) n ≡ slice_get list n
at-before [] more n h = absurd (omega (arith, h))
at-before (y ∷ list) more zero h = refl
at-before (y ∷ list) more (suc n) h = at-before list more n (omega (arith, h))

-- where one is there, so are those before it
earlier-there : {A : Type 0} (list : List A) (n more : ℕ) (x : A) → slice_get list (n + more) ≡ Some x → (y : A) × (slice_get list n ≡ Some y)
earlier-there [] zero zero x e = absurd cc
earlier-there [] zero (suc more) x e = absurd cc
earlier-there [] (suc n) more x e = absurd cc
earlier-there (y ∷ list) zero more x e = (y, refl)
earlier-there (y ∷ list) (suc n) more x e =
    let one : suc n + more ≡ suc (n + more) = omega arith in earlier-there list n more x (ap (slice_get (y ∷ list)) (sym one) ∙ e)

-- ---- what an entry is in comes before it

abbrev pub Below : ℕ → Option ℕ → Type 0
Below count None = Unit {0}
Below count (Some number) = number < count

more-below : (count other : ℕ) → count ≤ other → (o : Option ℕ) → Below count o → Below other o
more-below count other h None b = tt
more-below count other h (Some number) b = omega (arith, h, b)

nearest-below : (bound : ℕ) (file : Option ℕ) (list : List Entry) → Below (length list) (nearest bound file list)
unfolding nearest
nearest-below bound file [] = tt
nearest-below bound file (other ∷ list) =
    go (same_file file other.file) (holds bound other) (more-below (length list) (length (other ∷ list)) (omega arith) (nearest bound file list) (nearest-below bound file list))
  where
    go : (same held : Bool) → Below (length (other ∷ list)) (nearest bound file list) →
        Below (length (other ∷ list)) (if same then (if held then Some (length list) else nearest bound file list) else None)
    go false held b = tt
    go true true b = omega arith
    go true false b = b

pub holder-below : (entry : Entry) (bases : List Entry) (at : ℕ) → Below at (holder_of entry (before bases at))
holder-below entry bases at =
    more-below (length (reverse (before bases at))) at (omega (arith, length-reverse (take at bases), length-take at bases)) (holder_of entry (before bases at))
    (nearest-below (bound_of entry.level) entry.file (reverse (before bases at)))

-- ---- one behind the other

module _ (bases : List Entry) where
  -- usages that are there stay
  kept-by : (usages : List (Option Usage)) (own : Option Usage) (o : Option Entry) (n : ℕ) → n < length usages → slice_get (handed_at bases usages own o) n ≡ slice_get usages n
  kept-by usages own None n h = refl
  kept-by usages own (Some entry) n h = at-before usages (entry_usage entry (usage_above usages (holder_of entry (before bases (length usages)))) own ∷ []) n h

  longer : (usages : List (Option Usage)) (own : Option Usage) (o : Option Entry) → length usages ≤ length (handed_at bases usages own o)
  longer usages own None = omega arith
  longer usages own (Some entry) =
      let both = length-append usages (entry_usage entry (usage_above usages (holder_of entry (before bases (length usages)))) own ∷ []) in omega (arith, both)

  kept : (owns usages : List (Option Usage)) (n : ℕ) → n < length usages → slice_get (fold (handed bases) usages owns) n ≡ slice_get usages n
  kept [] usages n h = refl
  kept (own ∷ owns) usages n h =
      kept owns (handed bases usages own) n (let more = longer usages own (slice_get bases (length usages)) in omega (arith, h, more))
      ∙ kept-by usages own (slice_get bases (length usages)) n h

  above-kept : (owns usages : List (Option Usage)) (holder : Option ℕ) → Below (length usages) holder →
      usage_above (fold (handed bases) usages owns) holder ≡ usage_above usages holder
  above-kept owns usages None b = refl
  above-kept owns usages (Some item) b = ap found_usage (kept owns usages item b)

  -- those that come so many behind
  handed-behind : (owns usages : List (Option Usage)) (k : ℕ) (entry : Entry) (own : Option Usage) → slice_get bases (length usages + k) ≡ Some entry → slice_get owns k ≡ Some own →
      slice_get (fold (handed bases) usages owns) (length usages + k)
      ≡ Some (entry_usage entry (usage_above (fold (handed bases) usages owns) (holder_of entry (before bases (length usages + k)))) own)
  handed-behind [] usages zero entry own is owned = absurd cc
  handed-behind [] usages (suc k) entry own is owned = absurd cc
  handed-behind (first ∷ owns) usages k entry own is owned =
      let there = earlier-there bases (length usages) k entry is in
      go there.0 there.1 (λ (j : ℕ) i o. handed-behind owns (handed bases usages first) j entry own i o) k is owned
    where
      go : (x : Entry) → slice_get bases (length usages) ≡ Some x →
          ((j : ℕ) → slice_get bases (length (handed bases usages first) + j) ≡ Some entry → slice_get owns j ≡ Some own →
          slice_get (fold (handed bases) (handed bases usages first) owns) (length (handed bases usages first) + j)
          ≡ Some (entry_usage entry (usage_above (fold (handed bases) (handed bases usages first) owns) (holder_of entry (before bases (length (handed bases usages first) + j)))) own)) →
          (k : ℕ) → slice_get bases (length usages + k) ≡ Some entry → slice_get (first ∷ owns) k ≡ Some own →
          slice_get (fold (handed bases) (handed bases usages first) owns) (length usages + k)
          ≡ Some (entry_usage entry (usage_above (fold (handed bases) (handed bases usages first) owns) (holder_of entry (before bases (length usages + k)))) own)
      go x at_x again zero is owned =
          let here : length usages + 0 ≡ length usages = omega arith in
          let same : x ≡ entry = some-same (sym at_x ∙ ap (slice_get bases) (sym here) ∙ is) in
          let its : first ≡ own = some-same owned in
          let holder : Option ℕ = holder_of x (before bases (length usages)) in
          let added : List (Option Usage) = usages ++ entry_usage x (usage_above usages holder) first ∷ [] in
          let next : handed bases usages first ≡ added = ap (handed_at bases usages first) at_x in
          let long : length added ≡ length usages + 1 = length-append usages (entry_usage x (usage_above usages holder) first ∷ []) in
          let below : Below (length usages) holder = holder-below x bases (length usages) in
          let above : usage_above (fold (handed bases) added owns) holder ≡ usage_above usages holder =
          above-kept owns added holder (more-below (length usages) (length added) (omega (arith, long)) holder below) ∙ above-added usages (entry_usage x (usage_above usages holder) first) holder below in
          ap (slice_get (fold (handed bases) (handed bases usages first) owns)) here
          ∙ ap (λ u. slice_get (fold (handed bases) u owns) (length usages)) next
          ∙ kept owns added (length usages) (omega (arith, long))
          ∙ at-behind usages [] (entry_usage x (usage_above usages holder) first)
          ∙ ap (λ a. Some (entry_usage x a first)) (sym above)
          ∙ ap (λ u. Some (entry_usage x (usage_above (fold (handed bases) u owns) holder) first)) (sym next)
          ∙ ap (λ y. Some (entry_usage y (usage_above (fold (handed bases) (handed bases usages first) owns) (holder_of y (before bases (length usages)))) first)) same
          ∙ ap (λ n. Some (entry_usage entry (usage_above (fold (handed bases) (handed bases usages first) owns) (holder_of entry (before bases n))) first)) (sym here)
          ∙ ap (λ o. Some (entry_usage entry (usage_above (fold (handed bases) (handed bases usages first) owns) (holder_of entry (before bases (length usages + 0)))) o)) its
        where
          some-same : {A : Type 0} {a b : A} → Some a ≡ Some b → a ≡ b
          some-same e = cc

          above-added : (usages : List (Option Usage)) (u : Option Usage) (holder : Option ℕ) → Below (length usages) holder → usage_above (usages ++ u ∷ []) holder ≡ usage_above usages holder
          above-added usages u None b = refl
          above-added usages u (Some item) b = ap found_usage (at-before usages (u ∷ []) item b)
      go x at_x again (suc k) is owned =
          let holder : Option ℕ = holder_of x (before bases (length usages)) in
          let added : List (Option Usage) = usages ++ entry_usage x (usage_above usages holder) first ∷ [] in
          let next : handed bases usages first ≡ added = ap (handed_at bases usages first) at_x in
          let long : length (handed bases usages first) ≡ length usages + 1 = ap length next ∙ length-append usages (entry_usage x (usage_above usages holder) first ∷ []) in
          let same : length (handed bases usages first) + k ≡ length usages + suc k = omega (arith, long) in
          subst (λ n. slice_get (fold (handed bases) (handed bases usages first) owns) n
          ≡ Some (entry_usage entry (usage_above (fold (handed bases) (handed bases usages first) owns) (holder_of entry (before bases n))) own)) same
          (again k (ap (slice_get bases) same ∙ is) owned)

pub usages-handed : (bases : List Entry) (owns : List (Option Usage)) → Handed bases owns (usages_of bases owns)
usages-handed bases owns at entry own is owned =
    let none : 0 + at ≡ at = omega arith in
    subst (λ n. slice_get (usages_of bases owns) n ≡ Some (entry_usage entry (usage_above (usages_of bases owns) (holder_of entry (before bases n))) own)) none
    (handed-behind bases owns [] at entry own (ap (slice_get bases) none ∙ is) owned)

-- ---- the rules on a usage

held : (b : Bool) (kind : NameKind) (at : Position) → fault_unless b kind at ≡ None → b ≡ true
held true kind at e = refl
held false kind at e = absurd cc

-- an item has a picture
has-picture : (picture : Option Picture) (at : Position) (clause : Option Clause) → picture_by picture false at clause ≡ None → is_some picture ≡ true
has-picture picture at (Some (clauses.Picture clause_at text text_at)) e = held (is_some picture) BadPicture text_at e
has-picture picture at None e = absurd cc
has-picture picture at (Some (clauses.Redefines clause_at name name_at)) e = absurd cc
has-picture picture at (Some (clauses.Usage clause_at usage)) e = absurd cc
has-picture picture at (Some (clauses.Sign clause_at leading separate)) e = absurd cc
has-picture picture at (Some (clauses.Occurs clause_at count count_at)) e = absurd cc
has-picture picture at (Some (clauses.Value clause_at spans)) e = absurd cc

apart : {A : Type 0} → false ≡ true → A
apart e = absurd cc

-- a usage other than DISPLAY is on a number without a SIGN clause
computes : (usage : Usage) (picture : Option Picture) (sign : Option Clause) → is_computational (Some usage) ≡ true → is_some picture ≡ true → (may_compute picture || not (is_computational (Some usage))) ≡ true →
    beside_fault (Some usage) sign ≡ None → usage_suits usage (sign_in sign) picture ≡ true
computes Display picture sign c s f b = apart c
computes Binary None sign c s f b = apart s
computes Binary (Some (pictures.Number signed whole part)) None c s f b = refl
computes Binary (Some (pictures.Number signed whole part)) (Some clause) c s f b = absurd cc
computes Binary (Some (pictures.Letters count)) sign c s f b = apart f
computes Binary (Some (pictures.Any count)) sign c s f b = apart f
computes Binary (Some (pictures.Edited mask)) sign c s f b = apart f
computes Packed None sign c s f b = apart s
computes Packed (Some (pictures.Number signed whole part)) None c s f b = refl
computes Packed (Some (pictures.Number signed whole part)) (Some clause) c s f b = absurd cc
computes Packed (Some (pictures.Letters count)) sign c s f b = apart f
computes Packed (Some (pictures.Any count)) sign c s f b = apart f
computes Packed (Some (pictures.Edited mask)) sign c s f b = apart f

item-suits : (usage : Option Usage) (picture : Option Picture) (sign : Option Clause) → is_some picture ≡ true → (may_compute picture || not (is_computational usage)) ≡ true → beside_fault usage sign ≡ None →
    usage_suits (usage_or usage) (sign_in sign) picture ≡ true
item-suits None picture sign s f b = refl
item-suits (Some Display) picture sign s f b = refl
item-suits (Some Binary) picture sign s f b = computes Binary picture sign refl s f b
item-suits (Some Packed) picture sign s f b = computes Packed picture sign refl s f b

pub usage-suits : (group : Bool) (picture : Option Picture) (above : Option Usage) (at : Position) (list : List Clause) → picture_fault picture group at list ≡ None → usage_fault picture group above at list ≡ None →
    usage_suits (if group then Display else usage_or (usage_by above (own_usage list))) (sign_of list) (if group then None else picture) ≡ true
usage-suits true picture above at list p u = refl
usage-suits false picture above at list p u =
    let usage = usage_by above (own_usage list) in
    let other = other_usage above (clause_of kinds.Usage list) in
    let form = form_fault picture false usage (usage_place at (clause_of kinds.Usage list)) in
    let h = none_of (earliest other form) (beside_fault usage (clause_of kinds.Sign list)) u in
    let k = none_of other form h.0 in
    item-suits usage picture (clause_of kinds.Sign list) (has-picture picture at (clause_of kinds.Picture list) p)
    (held (may_compute picture || not (is_computational usage)) BadUsage (usage_place at (clause_of kinds.Usage list)) k.1) h.1
