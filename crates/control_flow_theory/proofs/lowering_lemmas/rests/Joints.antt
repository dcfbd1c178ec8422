-- A source state and a walk that stand at the same point.
use Rattle.std.proofs.Common.{◌≡◌, ◌≢◌, ℕ, ◌+◌, ◌<◌, ◌≤◌, true, false, List, [], ◌∷◌, ◌++◌, ◌⊎◌}
use Rattle.control_flow_theory.specs.runs.Run.{Going, Over, IsOver}
use Rattle.control_flow_theory.specs.runs.Machine.{iterate}
use Rattle.control_flow_theory.specs.semantics.Outcome.{Trace, Faulted, FlowFault}
use Rattle.control_flow_theory.specs.language.Language.{Control, Times, Until, Varying, Program, paragraph_at, Range, Main, Part, same_range}
use Rattle.control_flow_theory.specs.semantics.Doing.{Acting, alone}
use Rattle.control_flow_theory.specs.language.Items.{Item}
use Rattle.control_flow_theory.specs.language.Items.{Pending}
use Rattle.control_flow_theory.specs.semantics.Items.{Into, item_way}
use Rattle.control_flow_theory.specs.semantics.Source.{SourceState}
use Rattle.control_flow_theory.specs.semantics.Graph.{Tree, End, Family}
use Rattle.control_flow_theory.specs.semantics.Walk.{Level, Walk, walk_step}
use Rattle.control_flow_theory.specs.lowering.FlowFacts.{FlowFacts}
use Rattle.control_flow_theory.specs.lowering.Lower.{EscapeTargets, leaving_at}
use Rattle.control_flow_theory.specs.lowering.Rests.{Rest, From, Sent, Turns, Cut, items_in, rest_from, tree_of, HasRest}
use Rattle.control_flow_theory.specs.lowering.Rests as rests
use Rattle.control_flow_theory.specs.lowering.flow.Comes.{Comes}
use Rattle.control_flow_theory.proofs.lowering_lemmas.rests.Stands.{Stands}
use Rattle.control_flow_theory.proofs.lowering_lemmas.rests.Fits.{weight}

-- a level: items that came out of statements without an escape, and then a rest of a paragraph; and what the walk has there
pub record Joint : Type 0 where
  pub range : Range
  pub paragraph : ℕ
  pub items : List Item
  pub rest : Rest
  pub walk_items : List Item
  pub walk_end : End

abbrev pub joint : Range → ℕ → List Item → Rest → List Item → End → Joint
joint range number items rest walk_items walk_end = record { range = range; paragraph = number; items = items; rest = rest; walk_items = walk_items; walk_end = walk_end }

-- the level that runs, and those that wait
pub record Both (Memory : Type 0) : Type 0 where
  pub level : Joint
  pub waiting : List Joint
  pub memory : Memory
  pub cells : Range → ℕ → ℕ
  pub trace : Trace

abbrev pub both : {Memory : Type 0} → Joint → List Joint → Memory → (Range → ℕ → ℕ) → Trace → Both Memory
both level waiting memory cells trace = record { level = level; waiting = waiting; memory = memory; cells = cells; trace = trace }

abbrev pub rest_at : Joint → List Item
rest_at j = j.items ++ items_in j.rest

abbrev pub pending_of : Range → List Joint → List Pending
pending_of Main waiting = []
pending_of (Part entry exit) [] = []
pending_of (Part entry exit) (j ∷ js) = record { end = exit; paragraph = j.paragraph; rest = rest_at j } ∷ pending_of j.range js

abbrev pub level_in : Joint → Level
level_in j = record { range = j.range; items = j.walk_items; end = j.walk_end }

abbrev pub callers_of : List Joint → List Level
callers_of [] = []
callers_of (j ∷ js) = level_in j ∷ callers_of js

abbrev pub source_at : {Memory Left : Type 0} → ℕ → List Item → List Pending → Memory → Trace → SourceState Memory Left
source_at number rest pending memory trace = record { paragraph = number; rest = rest; pending = pending; memory = memory; run = record { trace = trace; standing = Going } }

abbrev pub walk_at : {Memory Left : Type 0} → Range → List Item → End → List Level → Memory → (Range → ℕ → ℕ) → Trace → Walk Memory Left
walk_at range items end callers memory cells trace = record {
  level = record { range = range; items = items; end = end };
  callers = callers;
  memory = record { own = memory; cells = cells };
  run = record { trace = trace; standing = Going };
}

abbrev pub source_of : {Memory Left : Type 0} → Both Memory → SourceState Memory Left
source_of b = source_at b.level.paragraph (rest_at b.level) (pending_of b.level.range b.waiting) b.memory b.trace

abbrev pub walk_of : {Memory Left : Type 0} → Both Memory → Walk Memory Left
walk_of b = walk_at b.level.range b.level.walk_items b.level.walk_end (callers_of b.waiting) b.memory b.cells b.trace

-- the loop's cell holds the turns that are left
abbrev pub CellHolds : (ℕ → ℕ) → ℕ → Control → ℕ → Type 0
CellHolds cells place (Times amount) left = cells place ≡ left
CellHolds cells place (Until after test) left = Unit {0}
CellHolds cells place (Varying after set step test) left = Unit {0}

-- for each remainder of a counted loop with an escape, its cell holds what is left
abbrev pub CellsHold : (ℕ → ℕ) → Rest → Type 0
CellsHold cells rests.Over = Unit {0}
CellsHold cells (From place stmts others) = CellsHold cells others
CellsHold cells (Sent holds others) = CellsHold cells others
CellsHold cells (Turns place control left reached body others) = CellHolds cells place control left × CellsHold cells others
CellsHold cells (Cut others) = CellsHold cells others

-- the loops to which these remainders belong stand before this place
abbrev pub Outside : ℕ → Rest → Type 0
Outside bound rests.Over = Unit {0}
Outside bound (From place stmts others) = Outside bound others
Outside bound (Sent holds others) = Outside bound others
Outside bound (Turns place control left reached body others) = (place < bound) × Outside bound others
Outside bound (Cut others) = Outside bound others

-- no loop has two remainders, since each remainder's loop stands before what is left in front of it
abbrev pub Apart : Rest → Type 0
Apart rests.Over = Unit {0}
Apart (From place stmts others) = Outside place others × Apart others
Apart (Sent holds others) = Apart others
Apart (Turns place control left reached body others) = Outside place others × Apart others
Apart (Cut others) = Apart others

-- none of these levels is of the range
abbrev pub Fresh : Range → List Joint → Type 0
Fresh range [] = Unit {0}
Fresh range (j ∷ js) = (same_range j.range range ≡ false) × Fresh range js

module _ {Memory : Type 0} (acting : Acting Memory) (told : FlowFacts) (program : Program) (place_of : ℕ → ℕ) (family : Family) (first : ℕ) (first_rest : List Item) (Named : ℕ → ℕ → Type 0) where
  abbrev pub ComesTo : Range → ℕ → List Item → Type 0
  ComesTo range number rest = Comes (alone acting) program first first_rest range number rest

  abbrev pub end_at : Range → ℕ → EscapeTargets
  end_at range number = leaving_at place_of program range number

  abbrev pub tree_in : Range → ℕ → Rest → Tree
  tree_in range number rest = tree_of told place_of (end_at range number) rest

  -- all that is left of the paragraph
  abbrev pub whole_rest : ℕ → Rest
  whole_rest number = rest_from told (place_of number + 1) (paragraph_at program number)

  abbrev pub RestOk : (Range → ℕ → ℕ) → Range → ℕ → Rest → Type 0
  RestOk cells range number rest = HasRest told place_of (family.node range) (end_at range number) rest × CellsHold (cells range) rest × Apart rest

  abbrev pub StandsAt : Joint → Type 0
  StandsAt j = Stands told (tree_in j.range j.paragraph j.rest) j.walk_end j.items j.walk_items

  abbrev pub HasName : Range → Type 0
  HasName Main = Unit {0}
  HasName (Part entry exit) = Named entry exit

  -- what a named range's level performs is named too
  abbrev pub CallsNamed : Type 0
  CallsNamed = (range : Range) (number : ℕ) (item : Item) (rest : List Item) (memory : Memory) (entry exit : ℕ) (items : List Item) → HasName range → ComesTo range number (item ∷ rest) →
      item_way (alone acting) item rest memory ≡ Into entry exit items → Named entry exit

  -- the table has each named range whose level comes to its end
  abbrev pub NamedReturn : Type 0
  NamedReturn = (entry exit : ℕ) → Named entry exit → ComesTo (Part entry exit) exit [] → told.returning entry exit ≡ true

  -- main alone waits for nobody; no range waits twice; who waits goes on where the performed range returns; each range that is performed is named
  abbrev pub Waits : (Range → ℕ → ℕ) → Range → List Joint → Type 0
  Waits cells Main [] = Unit {0}
  Waits cells Main (j ∷ js) = ⊥
  Waits cells (Part entry exit) [] = ⊥
  Waits cells (Part entry exit) (j ∷ js) =
      (told.returning entry exit ≡ true → StandsAt j)
      × RestOk cells j.range j.paragraph j.rest
      × (ComesTo (Part entry exit) exit [] → ComesTo j.range j.paragraph (rest_at j))
      × Fresh (Part entry exit) (j ∷ js)
      × Named entry exit
      × Waits cells j.range js

  abbrev pub Ok : Both Memory → Type 0
  Ok b = StandsAt b.level × RestOk b.cells b.level.range b.level.paragraph b.level.rest × Waits b.cells b.level.range b.waiting

abbrev pub waiting_heft : List Pending → ℕ
waiting_heft [] = 0
waiting_heft (x ∷ xs) = weight x.rest + waiting_heft xs

-- what a state has still to do, its returns taken in
abbrev pub heft : {Memory Left : Type 0} → SourceState Memory Left → ℕ
heft s = weight s.rest + waiting_heft s.pending

-- the state isn't at a fault of flow
abbrev pub IsFine : {Memory Left : Type 0} → SourceState Memory Left → Type 0
IsFine s = (fault : FlowFault) → s.run.standing ≢ Over (Faulted fault)

module _ {Memory Left : Type 0} (acting : Acting Memory) (left : Memory → Left) (told : FlowFacts) (program : Program) (place_of : ℕ → ℕ) (family : Family) (first : ℕ) (first_rest : List Item) (Named : ℕ → ℕ → Type 0) where
  pub record Met (s : SourceState Memory Left) (w : Walk Memory Left) : Type 0 where
    pub to : Both Memory
    pub sourced : s ≡ source_of to
    pub walked : w ≡ walk_of to
    pub ok : Ok acting told program place_of family first first_rest Named to
    pub comes : ComesTo acting told program place_of family first first_rest Named to.level.range to.level.paragraph (rest_at to.level)

  -- both runs are over, and are the same
  abbrev pub Ended : SourceState Memory Left → Walk Memory Left → Type 0
  Ended s w = (s.run ≡ w.run) × IsOver s.run

  abbrev pub Together : SourceState Memory Left → Walk Memory Left → Type 0
  Together s w = Met s w ⊎ Ended s w

  -- in some steps of the walk they are together
  pub record Reached (most : ℕ) (s : SourceState Memory Left) (w : Walk Memory Left) : Type 0 where
    pub steps : ℕ
    pub few : steps ≤ most
    pub together : Together s (iterate (walk_step acting left family) steps w)

  -- the same, and where it is none, the state has less to do
  pub record Moved (most heavy : ℕ) (s : SourceState Memory Left) (w : Walk Memory Left) : Type 0 where
    pub steps : ℕ
    pub few : steps ≤ most
    pub together : Together s (iterate (walk_step acting left family) steps w)
    pub light : steps ≡ 0 → heft s + 1 ≤ heavy
