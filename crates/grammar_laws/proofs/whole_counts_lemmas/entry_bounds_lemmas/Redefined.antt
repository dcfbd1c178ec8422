-- What an entry redefines stands before it.
use Rattle.std.proofs.Common.{◌≡◌, ℕ, ◌<◌, ◌≤◌, Bool, true, false, if◌then◌else◌, List, [], ◌∷◌, length, reverse, take, Option, Some, None, refl, arith}
use Rattle.std.specs.Prelude.{◌==◌, slice_get}
use Rattle.std.proofs.lemmas.Bool.{lt-ltb}
use Rattle.std.proofs.lemmas.List.{length-reverse, length-take}
use Rattle.cob_tree.specs.declared.entry.Entry.{Entry}
use Rattle.cobol_grammar.specs.declared.data_forms.draft.Clause.{Clause}
use Rattle.cobol_grammar.specs.declared.data_forms.draft.Clause.TheVariants as clauses
use Rattle.cobol_grammar.specs.declared.data_forms.draft.EntryDraft.{EntryDraft}
use Rattle.symbol_tables.specs.data_names.Grouping.{bound_of, holds, same_file}
use Rattle.declaration_checks.specs.declared.clause.ClauseKind.TheVariants as kinds
use Rattle.declaration_checks.specs.Clause.{clause_of}
use Rattle.declaration_checks.specs.Declaring.{redefines_of}
use Rattle.declaration_checks.specs.Redefining.{last_alike, is_alike, is_meant, if_meant, meant_at, redefined, redefined_by}
use Rattle.declaration_checks.specs.Standing.{before}
use Rattle.grammar_laws.specs.whole_counts.entry_bounds.Bounds.{is_below}

-- less than so many, if there is one
abbrev Below : ℕ → Option ℕ → Type 0
Below count None = Unit {0}
Below count (Some number) = number < count

more : (count other : ℕ) → count ≤ other → (o : Option ℕ) → Below count o → Below other o
more count other h None b = tt
more count other h (Some number) b = omega (arith, h, b)

tested : (count : ℕ) (o : Option ℕ) → Below count o → is_below count o ≡ true
tested count None b = refl
tested count (Some number) b = lt-ltb number count b

alike-below : (entry : Entry) (list : List Entry) → Below (length list) (last_alike entry list)
unfolding last_alike
alike-below entry [] = tt
alike-below entry (other ∷ list) = go (same_file entry.file other.file) (holds (bound_of entry.level) other) (is_alike entry other) (more (length list) (length (other ∷ list)) (omega arith) (last_alike entry list) (alike-below entry list))
  where
    go : (same held alike : Bool) → Below (length (other ∷ list)) (last_alike entry list) →
        Below (length (other ∷ list)) (if same then (if held then None else (if alike then Some (length list) else last_alike entry list)) else None)
    go false held alike b = tt
    go true true alike b = tt
    go true false true b = omega arith
    go true false false b = b

meant-below : (bases : List Entry) (name : List ℕ) (entry : Entry) (count : ℕ) (o : Option ℕ) → Below count o → Below count (meant_at bases name entry o)
meant-below bases name entry count None b = tt
meant-below bases name entry count (Some number) b = go (slice_get bases number)
  where
    by : (other : Entry) (c : Bool) → Below count (if c then Some number else None)
    by other true = b
    by other false = tt

    go : (found : Option Entry) → Below count (if_meant name entry number found)
    go None = tt
    go (Some other) = by other (is_meant name entry other)

few-before : (bases : List Entry) (at : ℕ) → length (reverse (before bases at)) ≤ at
few-before bases at = omega (arith, length-reverse (take at bases), length-take at bases)

redefined-below : (bases : List Entry) (at : ℕ) (entry : Entry) (name : List ℕ) → Below at (redefined bases at entry name)
redefined-below bases at entry name =
    meant-below bases name entry at (last_alike entry (reverse (before bases at)))
    (more (length (reverse (before bases at))) at (few-before bases at) (last_alike entry (reverse (before bases at))) (alike-below entry (reverse (before bases at))))

by-clause : (bases : List Entry) (at : ℕ) (entry : Entry) (clause : Option Clause) → Below at (redefined_by bases at entry clause)
by-clause bases at entry None = tt
by-clause bases at entry (Some (clauses.Redefines clause_at name name_at)) = redefined-below bases at entry name
by-clause bases at entry (Some _) = tt

pub redefines-earlier : (bases : List Entry) (at : ℕ) (entry : Entry) (draft : EntryDraft) → is_below at (redefines_of bases at entry draft) ≡ true
redefines-earlier bases at entry draft = tested at (redefines_of bases at entry draft) (go (entry.level == 88))
  where
    go : (b : Bool) → Below at (if b then None else redefined_by bases at entry (clause_of kinds.Redefines draft.clauses))
    go true = tt
    go false = by-clause bases at entry (clause_of kinds.Redefines draft.clauses)
