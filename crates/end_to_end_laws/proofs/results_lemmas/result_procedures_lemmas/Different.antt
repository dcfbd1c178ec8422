-- The names that procedures are given are labels and numbered words, all different.
use Rattle.std.proofs.Common.{◌≡◌, ℕ, ◌+◌, ◌<◌, ◌≤◌, ◌^◌, ◌⊎◌, inl, inr, Bool, true, false, if◌then◌else◌, ◌==◌, List, [], ◌∷◌, ◌++◌, length, Option, Some, None, refl, ap, sym, ◌∙◌, subst, arith, eq-eqb}
use Rattle.std.specs.List.{list_any}
use Rattle.std.specs.Str.{bytes_eq}
use Rattle.std.specs.Fmt.{decimal}
use Rattle.std.proofs.lemmas.Bool.{both_ways, false_from_ne_true, or_from}
use Rattle.std.proofs.lemmas.Fmt.{decimal_injective}
use Rattle.std.proofs.lemmas.List.{append_cancel_left}
use Rattle.std.proofs.lemmas.Slice.Eq.{bytes_eq-Decides}
use Rattle.cob_tree.specs.declared.program.Paragraph.{Paragraph}
use Rattle.cob_tree.specs.declared.program.Range.{Range}
use Rattle.grammar_laws.specs.form_results.Giving.{Each}
use Rattle.out_names.specs.FreshWords.{is_taken, fresh_number, IsFresh}
use Rattle.out_names.specs.Naming.{procedure_stem, paragraph_label, has_entry, own_label, named, names_behind}
use Rattle.out_names.proofs.FreshLemmas.{IsBehind, named_is_behind, fresh_is_fresh}
use Rattle.round_trip.specs.procedures.Names.{AreDifferent}
use Rattle.end_to_end_laws.proofs.results_lemmas.result_procedures_lemmas.Stem.{numbered}

-- ---- entries

has-more : (before more : List Range) (entry : ℕ) → has_entry before entry ≡ true → has_entry (before ++ more) entry ≡ true
has-more [] more entry h = absurd cc
has-more (range ∷ before) more entry h = go (range.entry == entry) h (has-more before more entry)
  where
    go : (b : Bool) → (if b then true else has_entry before entry) ≡ true → (has_entry before entry ≡ true → has_entry (before ++ more) entry ≡ true) →
        (if b then true else has_entry (before ++ more) entry) ≡ true
    go true h later = refl
    go false h later = later h

has-last : (before : List Range) (range : Range) → has_entry (before ++ range ∷ []) range.entry ≡ true
has-last [] range = ap (λ b. if b then true else has_entry [] range.entry) (eq-eqb range.entry range.entry refl)
has-last (first ∷ before) range = go (first.entry == range.entry) (has-last before range)
  where
    go : (b : Bool) → has_entry (before ++ range ∷ []) range.entry ≡ true → (if b then true else has_entry (before ++ range ∷ []) range.entry) ≡ true
    go true later = refl
    go false later = later

module _ (words : List (List ℕ)) (paragraphs : List Paragraph) where
  -- ---- one name

  abbrev next_name : List Range → ℕ → Range → List ℕ
  next_name before from range = (named words (own_label paragraphs before range.entry) from).name

  -- and from where the next number is looked for
  abbrev next_from : List Range → ℕ → Range → ℕ
  next_from before from range = (named words (own_label paragraphs before range.entry) from).next

  record Labelled (before : List Range) (entry : ℕ) (label : List ℕ) : Type 0 where
    fresh : has_entry before entry ≡ false
    is : paragraph_label paragraphs entry ≡ Some label

  own-labelled : (before : List Range) (entry : ℕ) (label : List ℕ) → own_label paragraphs before entry ≡ Some label → Labelled before entry label
  own-labelled before entry label e = go (has_entry before entry) refl e
    where
      go : (b : Bool) → has_entry before entry ≡ b → (if b then None else paragraph_label paragraphs entry) ≡ Some label → Labelled before entry label
      go true h e = absurd cc
      go false h e = record { fresh = h; is = e }

  -- so many were given, and so many are to come
  abbrev pub Few : (given : ℕ) → List Range → Type 0
  Few given ranges = length words + (given + length ranges) < 2 ^ 31

  fewer : (given : ℕ) (range : Range) (ranges : List Range) → Few given (range ∷ ranges) → Few (given + 1) ranges
  fewer given range ranges few = omega (arith, few)

  behind : (given from : ℕ) (before : List Range) (range : Range) (ranges : List Range) → Few given (range ∷ ranges) → IsBehind words given from → IsBehind words (given + 1) (next_from before from range)
  behind given from before range ranges few b = named_is_behind words (own_label paragraphs before range.entry) given from (omega (arith, few)) b

  number-is : (given from : ℕ) (range : Range) (ranges : List Range) → Few given (range ∷ ranges) → IsBehind words given from → IsFresh words procedure_stem from (fresh_number words procedure_stem from)
  number-is given from range ranges few b = fresh_is_fresh words procedure_stem from (omega (arith, few, b.small))

  number-small : (given from : ℕ) (range : Range) (ranges : List Range) → Few given (range ∷ ranges) → IsBehind words given from → fresh_number words procedure_stem from < 2 ^ 32
  number-small given from range ranges few b =
      let after = named_is_behind words None given from (omega (arith, few)) b in
      omega (arith, few, after.small)

  -- ---- what each of them is

  module _ (P : List ℕ → Type 0) (of_label : (entry : ℕ) (label : List ℕ) → paragraph_label paragraphs entry ≡ Some label → P label) (of_number : (number : ℕ) → number < 2 ^ 32 → P (numbered number)) where
    one-is : (given from : ℕ) (before : List Range) (range : Range) (ranges : List Range) → Few given (range ∷ ranges) → IsBehind words given from → P (next_name before from range)
    one-is given from before range ranges few b = go (own_label paragraphs before range.entry) refl
      where
        go : (o : Option (List ℕ)) → own_label paragraphs before range.entry ≡ o → P (named words o from).name
        go None e = of_number (fresh_number words procedure_stem from) (number-small given from range ranges few b)
        go (Some label) e = of_label range.entry label (own-labelled before range.entry label e).is

    pub each-is : (given from : ℕ) (before ranges : List Range) → Few given ranges → IsBehind words given from → Each P (names_behind words paragraphs before from ranges)
    each-is given from before [] few b = tt
    each-is given from before (range ∷ ranges) few b = (
      one-is given from before range ranges few b,
      each-is (given + 1) (next_from before from range) (before ++ range ∷ []) ranges (fewer given range ranges few) (behind given from before range ranges few b),
    )

  -- ---- a name that isn't given again

  -- the label of a range before
  record ByLabel (before : List Range) (name : List ℕ) : Type 0 where
    entry : ℕ
    is : paragraph_label paragraphs entry ≡ Some name
    has : has_entry before entry ≡ true

  -- a number that was passed
  record ByNumber (from : ℕ) (name : List ℕ) : Type 0 where
    number : ℕ
    is : name ≡ numbered number
    free : is_taken words procedure_stem number ≡ false
    below : number < from

  abbrev Spent : List Range → ℕ → List ℕ → Type 0
  Spent before from name = ByLabel before name ⊎ ByNumber from name

  spent-next : (given from : ℕ) (before : List Range) (range : Range) (ranges : List Range) → Few given (range ∷ ranges) → IsBehind words given from →
      Spent (before ++ range ∷ []) (next_from before from range) (next_name before from range)
  spent-next given from before range ranges few b = go (own_label paragraphs before range.entry) refl
    where
      go : (o : Option (List ℕ)) → own_label paragraphs before range.entry ≡ o → Spent (before ++ range ∷ []) (named words o from).next (named words o from).name
      go None e = inr (record {
        number = fresh_number words procedure_stem from;
        is = refl;
        free = (number-is given from range ranges few b).free;
        below = omega arith;
      })
      go (Some label) e = inl (record { entry = range.entry; is = (own-labelled before range.entry label e).is; has = has-last before range })

  grows : (given from : ℕ) (before : List Range) (range : Range) (ranges : List Range) → Few given (range ∷ ranges) → IsBehind words given from → from ≤ (next_from before from range)
  grows given from before range ranges few b = go (own_label paragraphs before range.entry)
    where
      go : (o : Option (List ℕ)) → from ≤ (named words o from).next
      go None = let least = (number-is given from range ranges few b).least in omega (arith, least)
      go (Some label) = omega arith

  still : (given from : ℕ) (before : List Range) (range : Range) (ranges : List Range) (name : List ℕ) → Few given (range ∷ ranges) → IsBehind words given from →
      Spent before from name → Spent (before ++ range ∷ []) (next_from before from range) name
  still given from before range ranges name few b (inl l) = inl (record { entry = l.entry; is = l.is; has = has-more before (range ∷ []) l.entry l.has })
  still given from before range ranges name few b (inr n) =
      let more = grows given from before range ranges few b in
      inr (record { number = n.number; is = n.is; free = n.free; below = omega (arith, n.below, more) })

  module _ (same-entry : (one other : ℕ) (label : List ℕ) → paragraph_label paragraphs one ≡ Some label → paragraph_label paragraphs other ≡ Some label → one ≡ other) (there : (entry : ℕ) (label : List ℕ) → paragraph_label paragraphs entry ≡ Some label → list_any (bytes_eq label) words ≡ true) where
    -- a word of the table is no numbered one that is free
    label-numbered : (entry number : ℕ) (label : List ℕ) → paragraph_label paragraphs entry ≡ Some label → is_taken words procedure_stem number ≡ false → label ≡ numbered number → ⊥
    label-numbered entry number label is free e =
        both_ways (is_taken words procedure_stem number) free (subst (λ w. list_any (bytes_eq w) words ≡ true) e (there entry label is))

    other : (given from : ℕ) (before : List Range) (range : Range) (ranges : List Range) (name : List ℕ) → Few given (range ∷ ranges) → IsBehind words given from →
        Spent before from name → name ≡ (next_name before from range) → ⊥
    other given from before range ranges name few b spent = go (own_label paragraphs before range.entry) refl spent
      where
        number : ℕ
        number = fresh_number words procedure_stem from

        fresh : IsFresh words procedure_stem from number
        fresh = number-is given from range ranges few b

        go : (o : Option (List ℕ)) → own_label paragraphs before range.entry ≡ o → Spent before from name → name ≡ (named words o from).name → ⊥
        go None e (inl l) same = label-numbered l.entry number name l.is fresh.free same
        go None e (inr n) same =
            let equal = decimal_injective n.number number (omega (arith, n.below, few, b.small)) (let small = number-small given from range ranges few b in omega (arith, small))
            (append_cancel_left procedure_stem (decimal n.number) (decimal number) (sym n.is ∙ same)) in
            let least = fresh.least in
            omega (arith, equal, n.below, least)
        go (Some label) e (inl l) same =
            let own = own-labelled before range.entry label e in
            let at = same-entry l.entry range.entry label (l.is ∙ ap Some same) own.is in
            both_ways (has_entry before range.entry) own.fresh (subst (λ k. has_entry before k ≡ true) at l.has)
        go (Some label) e (inr n) same =
            label-numbered range.entry n.number label (own-labelled before range.entry label e).is n.free (sym same ∙ n.is)

    not-given : (given from : ℕ) (before ranges : List Range) (name : List ℕ) → Few given ranges → IsBehind words given from → Spent before from name →
        list_any (bytes_eq name) (names_behind words paragraphs before from ranges) ≡ false
    not-given given from before [] name few b spent = refl
    not-given given from before (range ∷ ranges) name few b spent =
        or_from (bytes_eq name (next_name before from range)) (list_any (bytes_eq name) (names_behind words paragraphs (before ++ range ∷ []) (next_from before from range) ranges))
        (false_from_ne_true (bytes_eq name (next_name before from range)) (λ e. other given from before range ranges name few b spent ((bytes_eq-Decides name (next_name before from range)).0 e)))
        (not-given (given + 1) (next_from before from range) (before ++ range ∷ []) ranges name (fewer given range ranges few) (behind given from before range ranges few b) (still given from before range ranges name few b spent))

    pub all-different : (given from : ℕ) (before ranges : List Range) → Few given ranges → IsBehind words given from → AreDifferent (names_behind words paragraphs before from ranges)
    all-different given from before [] few b = tt
    all-different given from before (range ∷ ranges) few b = (
      not-given (given + 1) (next_from before from range) (before ++ range ∷ []) ranges (next_name before from range) (fewer given range ranges few) (behind given from before range ranges few b) (spent-next given from before range ranges few b),
      all-different (given + 1) (next_from before from range) (before ++ range ∷ []) ranges (fewer given range ranges few) (behind given from before range ranges few b),
    )
