-- A trail with fewer lemmas.
use Rattle.std.specs.Prelude.{ℕ, ◌≡◌, ◌<◌, ◌≤◌, Bool, true, false, List, [], ◌∷◌, ◌++◌, map, length, Option, Some, None, slice_get}
use Rattle.cob_tree.specs.declared.program.Range.{Range}
use Rattle.control_flow_theory.specs.language.Language.{Chooser, Program}
use Rattle.program_points.specs.declared.paths.trail.Move.{Move}
use Rattle.program_points.specs.declared.paths.trail.Move.TheVariants.{Arm, Over, Into}
use Rattle.program_points.specs.declared.paths.trail.Lemma.{Lemma}
use Rattle.program_points.specs.declared.paths.trail.Hop.{Hop}
use Rattle.program_points.specs.paths.Accepted.{LemmasHold, NoneTwice, lemma_ranges}

-- the lemmas below this number over which the moves step have flags
abbrev pub Flags : List Bool → ℕ → List Move → Type 0
Flags needed until moves = (at lemma : ℕ) → slice_get moves at ≡ Some (Over lemma) →
    lemma < until → slice_get needed lemma ≡ Some true

-- if the move steps over a lemma below this number, that has a flag
abbrev pub FlagsOver : List Bool → ℕ → Move → Type 0
FlagsOver needed until moved = (lemma : ℕ) → moved ≡ Over lemma → lemma < until →
    slice_get needed lemma ≡ Some true

-- flags on stay on, and only those below this number change
pub record Adds (until : ℕ) (old new : List Bool) : Type 0 where
  pub size : length new ≡ length old
  -- a flag that was on is on
  pub kept : (at : ℕ) → slice_get old at ≡ Some true → slice_get new at ≡ Some true
  -- the flags from this number on are the same
  pub above : (at : ℕ) → until ≤ at → slice_get new at ≡ slice_get old at

-- the lemmas that the hops need have flags
abbrev pub FlagHops : List Bool → ℕ → List Hop → Type 0
FlagHops needed until hops = (at : ℕ) (hop : Hop) → slice_get hops at ≡ Some hop →
    Flags needed until hop.moves

-- the flags are on for each lemma that a lemma with a flag needs
abbrev pub FlagLemmas : List Bool → List Lemma → Type 0
FlagLemmas needed lemmas = (at : ℕ) (lemma : Lemma) → slice_get lemmas at ≡ Some lemma →
    slice_get needed at ≡ Some true → Flags needed at lemma.moves

-- the move over a lemma, by its new number if it has one
abbrev pub over_by : Option (Option ℕ) → ℕ → Move
over_by None lemma = Over lemma
over_by (Some None) lemma = Over lemma
over_by (Some (Some rank)) lemma = Over rank

-- the move with the new number of its lemma
abbrev pub renamed : List (Option ℕ) → Move → Move
renamed ranks (Arm number) = Arm number
renamed ranks (Over lemma) = over_by (slice_get ranks lemma) lemma
renamed ranks Into = Into

-- the moves with the new numbers of their lemmas
abbrev pub renumber : List (Option ℕ) → List Move → List Move
renumber ranks moves = map (λ (moved : Move). renamed ranks moved) moves

-- the lemma is kept, with the new numbers of those over which it steps; or not
abbrev pub KeepsOne : Lemma → Bool → (kept : List Lemma) → (ranks : List (Option ℕ)) → (more : List
    Lemma) → (later : List (Option ℕ)) → Type 0
KeepsOne lemma true kept ranks more later = (more ≡ kept
    ++ record { range = lemma.range; moves = renumber ranks lemma.moves } ∷ [])
    × (later ≡ ranks ++ Some (length kept) ∷ [])
KeepsOne lemma false kept ranks more later = (more ≡ kept) × (later ≡ ranks ++ None ∷ [])

-- the lemmas that have flags are kept, in their order, each with its number among them
pub record Keeps (lemmas : List Lemma) (needed : List Bool) (kept : List Lemma) (ranks : List
    (Option ℕ)) : Type 0 where
  -- a lemma that is kept has its range
  pub ranked : (at rank : ℕ) → slice_get ranks at ≡ Some (Some rank) → (range : Range)
      × (slice_get (lemma_ranges lemmas) at ≡ Some range)
      × (slice_get (lemma_ranges kept) rank ≡ Some range)
  -- each lemma with a flag is kept
  pub all : (at : ℕ) → slice_get needed at ≡ Some true → at < length lemmas → (rank : ℕ)
      × (slice_get ranks at ≡ Some (Some rank))
  -- where no range came twice, none does
  pub once : NoneTwice (lemma_ranges lemmas) → NoneTwice (lemma_ranges kept)
  -- where the lemmas held, they hold
  pub hold : (never_first : Chooser → Bool) (program : Program) →
      LemmasHold never_first program [] lemmas → LemmasHold never_first program [] kept

-- the hops with the new numbers
pub record Renumbers (ranks : List (Option ℕ)) (hops made : List Hop) : Type 0 where
  pub size : length made ≡ length hops
  -- each hop has its range, and its moves with the new numbers
  pub each : (at : ℕ) (hop new : Hop) → slice_get hops at ≡ Some hop →
      slice_get made at ≡ Some new → (new.range ≡ hop.range)
      × (new.moves ≡ renumber ranks hop.moves)
