-- Own usages of the entries of FDs, one FD on, and where the usages of entries are their own.
use Rattle.std.proofs.Common.{◌≡◌, ◌⊎◌, ℕ, zero, suc, ◌+◌, ◌<◌, ◌≤◌, List, [], ◌∷◌, ◌++◌, length, get_or, take, drop, Option, Some, None, inl, inr, refl, sym, subst, ap, ◌∙◌, add-one, arith}
use Rattle.std.proofs.lemmas.List.{append_assoc, get_or-take, length-take-le}
use Rattle.std.proofs.lemmas.Option.{get_or_from_slice_get, slice_get-get_or, slice_get_cases}
use Rattle.std.proofs.Math.Seq.{take-length}
use Rattle.std.specs.List.{fold, slice_get}
use Rattle.cob_tree.specs.declared.entry.Entry.{Entry}
use Rattle.cob_tree.specs.declared.picture.Usage.{Usage}
use Rattle.cobol_grammar.specs.declared.data_forms.draft.FdDraft.{FdDraft}
use Rattle.symbol_tables.specs.data_names.Grouping.{bound_of}
use Rattle.symbol_tables.specs.data_names.Nesting.{count_to}
use Rattle.symbol_tables.proofs.data_names_lemmas.NestingLemmas.{nearest_within}
use Rattle.declaration_checks.specs.Standing.{before, holder_of}
use Rattle.declaration_checks.specs.Usage.{entry_usage, found_usage, handed, handed_at, record_usages, section_usages, usage_above, usages_of}
use Rattle.declaration_checks.proofs.StepLemmas.{drop_step, fold_step, take_step}

-- a fold, one element on, as it is read from its list
pub fold_read : {A B : Type 0} (f : B → A → B) (a : B) (xs : List A) (at : ℕ) (d : A) (now next : B) → at < length xs → now ≡ fold f a (take at xs) → next ≡ f now (get_or xs at d) → next ≡ fold f a (take (at + 1) xs)
fold_read f a xs at d now next h e n =
    n ∙ ap (λ b. f b (get_or xs at d)) e
    ∙ sym (fold_step f a xs at (get_or xs at d) h (sym (get_or_from_slice_get xs at (get_or xs at d) (get_or xs at d) (slice_get-get_or xs at d h))))

-- ---- own usages

pub record_usages_step : (owns : List (Option Usage)) (fds : List FdDraft) (at : ℕ) (x : FdDraft) → at < length fds → x ≡ get_or fds at x → owns ++ record_usages (drop at fds) ≡ (owns ++ section_usages x.entries) ++ record_usages (drop (at + 1) fds)
record_usages_step owns fds at x h e =
    rw (drop_step fds at x h e) (sym (append_assoc owns (section_usages x.entries) (record_usages (drop (at + 1) fds))))

-- ---- where they are the usages

slice_get_taken : {X : Type 0} (xs : List X) (n k : ℕ) → k < n → n ≤ length xs → slice_get (take n xs) k ≡ slice_get xs k
slice_get_taken {X = X} xs n k h l = go (slice_get_cases xs k).1
  where
    go : ((x : X) × (k < length xs) × (slice_get xs k ≡ Some x) × (get_or xs k x ≡ x)) ⊎ ((length xs ≤ k) × (slice_get xs k ≡ None)) → slice_get (take n xs) k ≡ slice_get xs k
    go (inl (x, inside, found, is)) =
        slice_get-get_or (take n xs) k x (rw (length-take-le n xs l) h)
        ∙ ap (λ y. Some y) (get_or-take n xs k x h ∙ is)
        ∙ sym found
    go (inr (past, found)) = absurd (omega (arith, past, h, l))

above_taken : (owns : List (Option Usage)) (n : ℕ) (holder : Option ℕ) → count_to holder ≤ n → n ≤ length owns → usage_above (take n owns) holder ≡ usage_above owns holder
above_taken owns n None h l = refl
above_taken owns n (Some k) h l = ap found_usage (slice_get_taken owns n k (omega (arith, h)) l)

module _ (bases : List Entry) (owns : List (Option Usage)) where
  -- an entry has the usage of its clause, whatever is handed down to it
  abbrev pub Stays : ℕ → Entry → Type 0
  Stays n x = entry_usage x (usage_above owns (holder_of x (before bases n))) (found_usage (slice_get owns n)) ≡ found_usage (slice_get owns n)

  handed_is : (front : List (Option Usage)) (own : Option Usage) (x : Entry) → slice_get bases (length front) ≡ Some x → handed bases front own ≡ front ++ entry_usage x (usage_above front (holder_of x (before bases (length front)))) own ∷ []
  handed_is front own x found = ap (handed_at bases front own) found

  stays_by : (n : ℕ) (own : Option Usage) (x : Entry) → slice_get owns n ≡ Some own → Stays n x → entry_usage x (usage_above owns (holder_of x (before bases n))) own ≡ own
  stays_by n own x is stays =
      subst (λ o. entry_usage x (usage_above owns (holder_of x (before bases n))) (found_usage o) ≡ found_usage o) is stays

  step : (n : ℕ) (own : Option Usage) (x : Entry) → n < length owns → n < length bases → slice_get owns n ≡ Some own → slice_get bases n ≡ Some x → Stays n x → handed bases (take n owns) own ≡ take n owns ++ own ∷ []
  step n own x inside within is found stays =
      let front = take n owns in
      let count : length front ≡ n = length-take-le n owns (omega (arith, inside)) in
      let holder = holder_of x (before bases n) in
      let low : count_to holder ≤ n = nearest_within (bound_of x.level) x.file bases n x (omega (arith, within)) in
      handed_is front own x (ap (slice_get bases) count ∙ found)
      ∙ ap (λ k. front ++ entry_usage x (usage_above front (holder_of x (before bases k))) own ∷ []) count
      ∙ ap (λ above. front ++ entry_usage x above own ∷ []) (above_taken owns n holder low (omega (arith, inside)))
      ∙ ap (λ usage. front ++ usage ∷ []) (stays_by n own x is stays)

  -- entries that have the usages of their clauses
  pub usages_stay : length owns ≡ length bases → ((n : ℕ) (x : Entry) → slice_get bases n ≡ Some x → Stays n x) → usages_of bases owns ≡ owns
  usages_stay same stays =
      ap (fold (handed bases) []) (sym (take-length owns)) ∙ until (length owns) (omega arith) ∙ take-length owns
    where
      next : (n : ℕ) → n < length owns → fold (handed bases) [] (take n owns) ≡ take n owns → fold (handed bases) [] (take (n + 1) owns) ≡ take (n + 1) owns
      next n inside e = go (slice_get_cases owns n).1 (slice_get_cases bases n).1
        where
          go : ((own : Option Usage) × (n < length owns) × (slice_get owns n ≡ Some own) × (get_or owns n own ≡ own)) ⊎ ((length owns ≤ n) × (slice_get owns n ≡ None)) → ((x : Entry) × (n < length bases) × (slice_get bases n ≡ Some x) × (get_or bases n x ≡ x)) ⊎ ((length bases ≤ n) × (slice_get bases n ≡ None)) → fold (handed bases) [] (take (n + 1) owns) ≡ take (n + 1) owns
          go (inl f) (inl g) =
              let own = f.0 in
              let o : own ≡ get_or owns n own = sym f.3 in
              fold_step (handed bases) [] owns n own inside o
              ∙ ap (λ front. handed bases front own) e
              ∙ step n own g.0 inside g.1 f.2 g.2 (stays n g.0 g.2)
              ∙ sym (take_step owns n own inside o)
          go (inl f) (inr g) = let past = g.0 in absurd (omega (arith, past, inside, same))
          go (inr f) g = let past = f.0 in absurd (omega (arith, past, inside))

      until : (n : ℕ) → n ≤ length owns → fold (handed bases) [] (take n owns) ≡ take n owns
      until zero h = refl
      until (suc n) h = rw add-one at (next n (omega (arith, h)) (until n (omega (arith, h))))
