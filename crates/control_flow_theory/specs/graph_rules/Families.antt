-- Families with their added cells: which memories are ready, and which families are sound.
use Rattle.std.specs.Prelude.{ℕ, ◌≡◌, ◌≢◌, Option, Some, List}
use Rattle.control_flow_theory.specs.runs.Run.{Over}
use Rattle.control_flow_theory.specs.semantics.Outcome.{Lost}
use Rattle.control_flow_theory.specs.language.Language.{Range}
use Rattle.control_flow_theory.specs.semantics.Doing.{Acting, Celled}
use Rattle.control_flow_theory.specs.semantics.Graph.{Family}
use Rattle.control_flow_theory.specs.graph_rules.Walked.{walked, In, Ordered}

-- what an added cell is for: it never changes, it is a loop's flag, the count of TIMES, the state
-- of a dispatch, or a loop's exit
pub data Added : Type 0 where
  Never : Added
  Flag : Added
  Count : Added
  State : Added
  Exit : Added

-- the added cells of each range
abbrev pub Kinds : Type 0
Kinds = Range → ℕ → Option Added

-- the range has the cell as one that is added
abbrev pub Has : Kinds → Range → ℕ → Type 0
Has kinds range cell = (kind : Added) × (kinds range cell ≡ Some kind)

-- a cell that statements may set
abbrev pub MaySet : Kinds → Range → ℕ → Type 0
MaySet kinds range cell = Has kinds range cell × (kinds range cell ≢ Some Never)

-- no range comes twice in the order, each performs only ranges after it and names only its cells,
-- and no body holds an escape
abbrev pub IsFamily : Kinds → Family → List Range → Type 0
IsFamily kinds = Ordered (Has kinds) (MaySet kinds)

-- each cell that never changes holds 0
abbrev pub IsReady : {Memory : Type 0} → Kinds → Celled Memory → Type 0
IsReady kinds memory =
    (range : Range) (cell : ℕ) → kinds range cell ≡ Some Never → memory.cells range cell ≡ 0

-- a memory in which each cell that never changes holds 0
pub record Ready (Memory : Type 0) (kinds : Kinds) : Type 0 where
  pub memory : Celled Memory
  pub ready : IsReady kinds memory

-- the second has all cells of the first
abbrev pub Extends : Kinds → Kinds → Type 0
Extends kinds more = (range : Range) (cell : ℕ) (kind : Added) → kinds range cell ≡ Some kind →
    more range cell ≡ Some kind

-- no walk of any of its ranges is ever lost
abbrev pub IsSound : {Memory Left : Type 0} → Acting Memory → (Memory → Left) → Kinds → Family →
    List Range → Type 0
IsSound {Memory} acting left kinds family order = (range : Range) → In range order →
    (start : Ready Memory kinds) (units : ℕ) →
    (walked acting left family order range start.memory units).standing ≢ Over Lost
