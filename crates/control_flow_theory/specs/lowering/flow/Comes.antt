-- The rests that a level of a range can come to, and the family that is lowered.
use Rattle.std.specs.Prelude.{ℕ, suc, ◌≡◌, ◌+◌, ◌<◌, ◌==◌, Bool, true, false, List, [], ◌∷◌, Some, slice_get, length}
use Rattle.control_flow_theory.specs.semantics.Outcome.{Trace}
use Rattle.control_flow_theory.specs.language.Language.{Paragraph, Program, paragraph_at, Range, Main, Part}
use Rattle.control_flow_theory.specs.semantics.Doing.{Doing}
use Rattle.control_flow_theory.specs.language.Items.{Item}
use Rattle.control_flow_theory.specs.semantics.Items.{On, To, ToEnd, Into, item_way}
use Rattle.control_flow_theory.specs.semantics.Source.{rest_of}
use Rattle.control_flow_theory.specs.semantics.Graph.{Family}
use Rattle.control_flow_theory.specs.lowering.FlowFacts.{FlowFacts}
use Rattle.control_flow_theory.specs.lowering.Lower.{point, leaving_at}
use Rattle.control_flow_theory.specs.lowering.Rests.{rest_from, tree_of, HasRest}

-- the paragraph with this number isn't the exit of the range
abbrev pub IsNoExit : Range → ℕ → Type 0
IsNoExit Main number = Unit {0}
IsNoExit (Part entry exit) number = (exit == number) ≡ false

-- Control comes to this paragraph and rest in this range's level, in some memories; the level of
-- main begins at the first ones. A PERFORM is stepped over where its range's level comes to its
-- end.
pub data Comes {Memory : Type 0} (doing : Doing Memory) (program : Program) (first : ℕ)
    (first_rest : List Item) : Range → ℕ → List Item → Type 0 where
  begins : Comes doing program first first_rest Main first first_rest
  enters : (entry exit : ℕ) →
      Comes doing program first first_rest (Part entry exit) entry (rest_of program entry)
  goes_on : (range : Range) (number : ℕ) (item : Item) (rest : List Item) (memory : Memory)
      (trace : Trace) (after : Memory) (items : List Item) →
      Comes doing program first first_rest range number (item ∷ rest) →
      item_way doing item rest memory ≡ On trace after items →
      Comes doing program first first_rest range number items
  goes_to : (range : Range) (number : ℕ) (item : Item) (rest : List Item) (memory : Memory)
      (trace : Trace) (after : Memory) (to : ℕ) →
      Comes doing program first first_rest range number (item ∷ rest) →
      item_way doing item rest memory ≡ To trace after to →
      Comes doing program first first_rest range to (rest_of program to)
  goes_to_end : (range : Range) (number : ℕ) (item : Item) (rest : List Item) (memory : Memory)
      (trace : Trace) (after : Memory) (to : ℕ) →
      Comes doing program first first_rest range number (item ∷ rest) →
      item_way doing item rest memory ≡ ToEnd trace after to →
      Comes doing program first first_rest range to []
  over : (range : Range) (number : ℕ) (item : Item) (rest : List Item) (memory : Memory)
      (entry exit : ℕ) (items : List Item) →
      Comes doing program first first_rest range number (item ∷ rest) →
      item_way doing item rest memory ≡ Into entry exit items →
      Comes doing program first first_rest (Part entry exit) exit [] →
      Comes doing program first first_rest range number items
  falls : (range : Range) (number : ℕ) (next : Paragraph) →
      slice_get program.paragraphs (suc number) ≡ Some next → IsNoExit range number →
      Comes doing program first first_rest range number [] →
      Comes doing program first first_rest range (suc number) (rest_of program (suc number))

-- these are the ranges whose level comes to its end, and maybe more
abbrev pub AreReturning : {Memory : Type 0} → Doing Memory → Program → ℕ → List Item →
    (ℕ → ℕ → Bool) → Type 0
AreReturning doing program first first_rest returning = (entry exit : ℕ) →
    Comes doing program first first_rest (Part entry exit) exit [] → returning entry exit ≡ true

-- the number of the paragraph at which a range begins
abbrev pub entry_of : Range → ℕ
entry_of Main = 0
entry_of (Part entry exit) = entry

-- the family has the trees of all places of a program, whose paragraphs have these places
pub record IsLowered (told : FlowFacts) (program : Program) (place_of : ℕ → ℕ) (family : Family)
    : Type 0 where
  -- each range begins at the place of its first paragraph
  pub entry : (range : Range) → family.entry range ≡ point (place_of (entry_of range))
  -- the tree at the beginning of a paragraph
  pub at : (range : Range) (number : ℕ) → number < length program.paragraphs →
      family.node range (point (place_of number))
      ≡ tree_of told place_of (leaving_at place_of program range number)
      (rest_from told (place_of number + 1) (paragraph_at program number))
  -- and those of all places in it
  pub has : (range : Range) (number : ℕ) → number < length program.paragraphs →
      HasRest told place_of (family.node range) (leaving_at place_of program range number)
      (rest_from told (place_of number + 1) (paragraph_at program number))
