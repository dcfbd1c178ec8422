-- Where a line ends.
use Rattle.std.proofs.Common.{◌≡◌, ℕ, ◌+◌, ◌<◌, ◌≤◌, ◌==◌, Bool, true, false, List, [], ◌∷◌, ◌++◌, length, take, drop, get_or, sym, ap, refl, ◌∙◌, arith, cond}
use Rattle.std.specs.List.{slice_split, onto_first, All}
use Rattle.std.specs.Str.Lines.{lines, lines_of_parts, strip_carriage_return}
use Rattle.std.proofs.Math.ListN.{take-append-drop}
use Rattle.std.proofs.lemmas.List.{length-take-le, get_or-take, drop_more, take_all}
use Rattle.std.proofs.lemmas.Grind.{get_or_default_zero}
use Rattle.std.proofs.lemmas.List.Splits.{slice_split_at, slice_split_none}
use Rattle.std.proofs.lemmas.Bool.Decides.{nat_tests}

abbrev pub ends : ℕ → Bool
ends b = b == 10

-- parts never run out
onto_some : (b : ℕ) (parts : List (List ℕ)) → (x : List ℕ) × (xs : List (List ℕ)) × (onto_first b parts ≡ x ∷ xs)
onto_some b [] = (b ∷ [], [], refl)
onto_some b (part ∷ parts) = (b ∷ part, parts, refl)

split_some : (bs : List ℕ) → (x : List ℕ) × (xs : List (List ℕ)) × (slice_split ends bs ≡ x ∷ xs)
split_some [] = ([], [], refl)
split_some (b ∷ bs) = elim (ends b) as (λ t. (x : List ℕ) × (xs : List (List ℕ)) × (cond t ([] ∷ slice_split ends bs) (onto_first b (slice_split ends bs)) ≡ x ∷ xs)) [ true ↦ ([], slice_split ends bs, refl) | false ↦ onto_some b (slice_split ends bs) ]

pub lines_split : (bs front rest : List ℕ) → slice_split ends bs ≡ front ∷ slice_split ends rest → lines bs ≡ strip_carriage_return front ∷ lines rest
lines_split bs front rest e =
    let some = split_some rest in
    ap lines_of_parts (e ∙ ap (λ parts. front ∷ parts) some.2) ∙ ap (λ parts. strip_carriage_return front ∷ lines_of_parts parts) (sym some.2)

module _ (bs : List ℕ) (at : ℕ) (none : (k : ℕ) → k < at → get_or bs k 0 ≡ 10 → ⊥) where
  no_end : at ≤ length bs → All (λ x. ends x ≡ false) (take at bs)
  no_end h k d l =
      let near : k < at = rw length-take-le at l in
      let same : get_or (take at bs) k d ≡ get_or bs k 0 = get_or-take at bs k d near ∙ get_or_default_zero bs k d (omega arith) in
      let other : get_or bs k 0 ≡ 10 → ⊥ = none k near in
      rw same (grind (arith, nat_tests, other))

  pub lines-first : at < length bs → get_or bs at 0 ≡ 10 → lines bs ≡ strip_carriage_return (take at bs) ∷ lines (drop (at + 1) bs)
  lines-first h e =
      let whole : bs ≡ take at bs ++ 10 ∷ drop (at + 1) bs = sym (take-append-drop at bs) ∙ ap (λ xs. take at bs ++ xs) (drop_more bs at 0 h ∙ ap (λ b. b ∷ drop (at + 1) bs) e) in
      lines_split bs (take at bs) (drop (at + 1) bs) (ap (slice_split ends) whole ∙ slice_split_at ends (take at bs) 10 (drop (at + 1) bs) (no_end (omega arith)) refl)

  pub lines-last : 0 < length bs → at ≡ length bs → lines bs ≡ bs ∷ []
  lines-last some e =
      let whole : take at bs ≡ bs = take_all at bs (omega arith) in
      let one : slice_split ends bs ≡ bs ∷ [] = slice_split_none ends bs (rw whole at (no_end (omega arith))) in
      let long : (length bs == 0) ≡ false = grind (arith, nat_tests, some) in
      ap lines_of_parts one ∙ rw long refl
