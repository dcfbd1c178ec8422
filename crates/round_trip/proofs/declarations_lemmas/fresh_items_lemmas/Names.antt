-- Names with fresh numbers.
use Rattle.std.proofs.Common.{◌≡◌, ℕ, suc, ◌+◌, ◌<◌, ◌≤◌, ◌^◌, Bool, true, false, if◌then◌else◌, List, [], ◌∷◌, ◌++◌, length, map, refl, sym, ◌∙◌, subst, arith}
use Rattle.std.specs.List.{list_any}
use Rattle.std.specs.Str.{bytes_eq}
use Rattle.std.specs.Fmt.{decimal}
use Rattle.std.proofs.lemmas.Bool.{and_from, both_ways, false_from_ne_true, or_from}
use Rattle.std.proofs.lemmas.Fmt.{decimal_injective}
use Rattle.std.proofs.lemmas.List.{append_cancel_left}
use Rattle.std.proofs.lemmas.Slice.Eq.{bytes_eq-Decides}
use Rattle.control_flow_theory.specs.language.All.{all}
use Rattle.control_flow_theory.specs.graph_rules.Families.{Added, Never, Flag, Count, State, Exit}
use Rattle.parser_combinators.specs.words.Word.{is_data_word}
use Rattle.out_names.specs.FreshWords.{is_taken, fresh_number}
use Rattle.round_trip.specs.declarations.added_entries.Items.{AreSized, AreTitled, AreDifferent, has_title, is_one_of}
use Rattle.round_trip.specs.declarations.fresh_items.Fresh.{NextOf, AreShort, stem_of, digits_of, same_kind, with_next, items_from}
use Rattle.round_trip.proofs.declarations_lemmas.fresh_items_lemmas.Stems.{is-title, is-short, same-stem, kind-same, same-kinds}
use Rattle.round_trip.proofs.declarations_lemmas.fresh_items_lemmas.Numbers.{IsBehind, IsNext, next-is, behind-more}

pub are-sized : (words : List (List ℕ)) (next : NextOf) (kinds : List Added) → AreSized (items_from words next kinds)
are-sized words next [] = tt
are-sized words next (kind ∷ kinds) = (some kind, few kind, are-sized words (with_next next kind (suc (fresh_number words (stem_of kind) (next kind)))) kinds)
  where
    some : (kind : Added) → 1 ≤ digits_of kind
    some Never = omega arith
    some Flag = omega arith
    some Count = omega arith
    some State = omega arith
    some Exit = omega arith

    few : (kind : Added) → digits_of kind ≤ 18
    few Never = omega arith
    few Flag = omega arith
    few Count = omega arith
    few State = omega arith
    few Exit = omega arith

pub are-titled : (words : List (List ℕ)) (next : NextOf) (kinds : List Added) → AreTitled (items_from words next kinds)
are-titled words next [] = refl
are-titled words next (kind ∷ kinds) =
    let number = fresh_number words (stem_of kind) (next kind) in
    and_from (is_data_word (stem_of kind ++ decimal number)) (all (map has_title (items_from words (with_next next kind (suc number)) kinds)))
    (is-title kind (decimal number)) (are-titled words (with_next next kind (suc number)) kinds)

-- ---- by the numbers that were given

abbrev pub AreBehind : List (List ℕ) → (given : ℕ) → NextOf → Type 0
AreBehind words given next = (kind : Added) → IsBehind words (stem_of kind) given (next kind)

module _ (words : List (List ℕ)) where
  abbrev Few : (given : ℕ) → List Added → Type 0
  Few given kinds = length words + (given + length kinds) < 2 ^ 58

  abbrev number-of : (next : NextOf) → Added → ℕ
  number-of next kind = fresh_number words (stem_of kind) (next kind)

  numbered : (given : ℕ) (next : NextOf) (kind : Added) (kinds : List Added) → Few given (kind ∷ kinds) → AreBehind words given next → IsNext words (stem_of kind) given (next kind) (number-of next kind)
  numbered given next kind kinds few b = next-is words (stem_of kind) given (next kind) (omega (arith, few)) (b kind)

  later : (given : ℕ) (next : NextOf) (kind : Added) (kinds : List Added) → Few given (kind ∷ kinds) → AreBehind words given next → AreBehind words (given + 1) (with_next next kind (suc (number-of next kind)))
  later given next kind kinds few b other = go (same_kind kind other) refl
    where
      go : (s : Bool) → same_kind kind other ≡ s → IsBehind words (stem_of other) (given + 1) (if s then suc (number-of next kind) else next other)
      go true e = subst (λ k. IsBehind words (stem_of k) (given + 1) (suc (number-of next kind))) (same-kinds kind other e) (numbered given next kind kinds few b).behind
      go false e = behind-more words (stem_of other) given (next other) (b other)

  fewer : (given : ℕ) (kind : Added) (kinds : List Added) → Few given (kind ∷ kinds) → Few (given + 1) kinds
  fewer given kind kinds few = omega (arith, few)

  pub are-short : (given : ℕ) (next : NextOf) (kinds : List Added) → Few given kinds → AreBehind words given next → AreShort (items_from words next kinds)
  are-short given next [] few b = tt
  are-short given next (kind ∷ kinds) few b = (
    is-short kind (number-of next kind) (numbered given next kind kinds few b).small,
    are-short (given + 1) (with_next next kind (suc (number-of next kind))) kinds (fewer given kind kinds few) (later given next kind kinds few b),
  )

  -- a number that was passed makes none of the names to come
  passed : (given : ℕ) (next : NextOf) (kinds : List Added) (kind : Added) (number : ℕ) → Few given kinds → AreBehind words given next → number < next kind → number < 2 ^ 59 →
      is_one_of (stem_of kind ++ decimal number) (items_from words next kinds) ≡ false
  passed given next [] kind number few b h s = refl
  passed given next (first ∷ kinds) kind number few b h s =
      or_from (bytes_eq (stem_of kind ++ decimal number) (stem_of first ++ decimal (number-of next first))) (is_one_of (stem_of kind ++ decimal number) (items_from words further kinds))
      (false_from_ne_true (bytes_eq (stem_of kind ++ decimal number) (stem_of first ++ decimal (number-of next first))) other)
      (passed (given + 1) further kinds kind number (fewer given first kinds few) (later given next first kinds few b) (still (same_kind first kind) refl) s)
    where
      further : NextOf
      further = with_next next first (suc (number-of next first))

      is : IsNext words (stem_of first) given (next first) (number-of next first)
      is = numbered given next first kinds few b

      different : (k : Added) → kind ≡ k → stem_of k ++ decimal number ≡ stem_of first ++ decimal (number-of next first) → kind ≡ first → ⊥
      different k e same kinds-same =
          let words-same : stem_of first ++ decimal number ≡ stem_of first ++ decimal (number-of next first) = subst (λ k. stem_of k ++ decimal number ≡ stem_of first ++ decimal (number-of next first)) (sym e ∙ kinds-same) same in
          let equal = decimal_injective number (number-of next first) (omega (arith, s)) (omega (arith, is.small)) (append_cancel_left (stem_of first) (decimal number) (decimal (number-of next first)) words-same) in
          let lower : number < next first = subst (λ k. number < next k) kinds-same h in
          absurd (omega (arith, equal, lower, is.least))

      other : bytes_eq (stem_of kind ++ decimal number) (stem_of first ++ decimal (number-of next first)) ≡ true → ⊥
      other e =
          let same = (bytes_eq-Decides (stem_of kind ++ decimal number) (stem_of first ++ decimal (number-of next first))).0 e in
          different kind refl same (same-stem kind first (decimal number) (decimal (number-of next first)) same)

      still : (t : Bool) → same_kind first kind ≡ t → number < (if t then suc (number-of next first) else next kind)
      still true e = grown
        where
          grown : number < suc (number-of next first)
          grown = let lower : number < next first = subst (λ k. number < next k) (sym (same-kinds first kind e)) h in omega (arith, lower, is.least)
      still false e = h

  pub are-different : (given : ℕ) (next : NextOf) (kinds : List Added) → Few given kinds → AreBehind words given next → AreDifferent (items_from words next kinds)
  are-different given next [] few b = tt
  are-different given next (kind ∷ kinds) few b = (
    passed (given + 1) further kinds kind (number-of next kind) (fewer given kind kinds few) (later given next kind kinds few b) grown (numbered given next kind kinds few b).small,
    are-different (given + 1) further kinds (fewer given kind kinds few) (later given next kind kinds few b),
  )
    where
      further : NextOf
      further = with_next next kind (suc (number-of next kind))

      grown : number-of next kind < further kind
      grown = subst (λ t. number-of next kind < (if t then suc (number-of next kind) else next kind)) (sym (kind-same kind)) (omega arith)

  -- a word of the table is none of them
  pub are-new : (given : ℕ) (next : NextOf) (kinds : List Added) (word : List ℕ) → Few given kinds → AreBehind words given next → list_any (bytes_eq word) words ≡ true → is_one_of word (items_from words next kinds) ≡ false
  are-new given next [] word few b there = refl
  are-new given next (kind ∷ kinds) word few b there =
      or_from (bytes_eq word (stem_of kind ++ decimal (number-of next kind))) (is_one_of word (items_from words (with_next next kind (suc (number-of next kind))) kinds))
      (false_from_ne_true (bytes_eq word (stem_of kind ++ decimal (number-of next kind)))
      (λ e. both_ways (is_taken words (stem_of kind) (number-of next kind)) (numbered given next kind kinds few b).free
      (subst (λ w. list_any (bytes_eq w) words ≡ true) ((bytes_eq-Decides word (stem_of kind ++ decimal (number-of next kind))).0 e) there)))
      (are-new (given + 1) (with_next next kind (suc (number-of next kind))) kinds word (fewer given kind kinds few) (later given next kind kinds few b) there)
