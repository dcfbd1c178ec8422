-- Where an aim is met.
use Rattle.std.proofs.Common.{◌≡◌, ◌+◌, ◌<◌, ◌≤◌, ℕ, List, Option, length, Some, slice_get, ap, sym, ◌∙◌, subst, inl, inr, arith}
use Rattle.std.proofs.lemmas.Option.{slice_get_within}
use Rattle.cob_tree.specs.declared.program.Range.{Range}
use Rattle.program_points.specs.declared.paths.trail.Move.{Move}
use Rattle.program_points.specs.declared.point_table.table.ProgramPoint.{ProgramPoint}
use Rattle.program_points.specs.declared.point_table.table.Table.{Table}
use Rattle.program_points.specs.point_table.Table.{IsTidy}
use Rattle.pending_returns.specs.levels.Reach.{IsReach, AllPlaces}
use Rattle.pending_returns.proofs.levels_lemmas.Searching.{before-or-now, comes-below}
use Rattle.overlap_trail.specs.declared.finding.goal.SearchGoal.{SearchGoal}
use Rattle.overlap_trail.specs.declared.finding.search.Predecessor.{Predecessor}
use Rattle.overlap_trail.specs.finding.Search.{flags_of, GoesBy, ComesBy, begins, goes_on, TracesLevel, StepsLevel, TakenTo}
use Rattle.overlap_trail.specs.finding.Search as routes
use Rattle.overlap_trail.specs.finding.Goal.{IsAimed, NoneMeets, MeetsAt, IsMetNowhere, IsMetBy}
use Rattle.overlap_trail.proofs.finding_lemmas.Tracing.{traces-back}

module _ (table : Table) (aim : SearchGoal) (places : List ℕ) where
  -- it is met at none of the first of these
  abbrev pub NoneMetBefore : ℕ → Type 0
  NoneMetBefore index = (at place : ℕ) (here : ProgramPoint) → at < index → slice_get places at ≡ Some place → slice_get table.places place ≡ Some here → IsAimed table aim here → ⊥

  pub none-met-first : NoneMetBefore 0
  none-met-first = λ at place here lt e f met. absurd (omega arith)

  pub none-met-more : (index number : ℕ) (place : ProgramPoint) → slice_get places index ≡ Some number → slice_get table.places number ≡ Some place → (IsAimed table aim place → ⊥) → NoneMetBefore index → NoneMetBefore (index + 1)
  none-met-more index number place is there not none = λ at other here lt e f met. elim (before-or-now at index lt) [
    | inl before ↦ none at other here before e f met
    | inr now ↦
        let first : Some number ≡ Some other = sym is ∙ ap (λ (n : ℕ). slice_get places n) (sym now) ∙ e in
        let same : number ≡ other = cc in
        let second : Some place ≡ Some here = sym there ∙ ap (λ (n : ℕ). slice_get table.places n) same ∙ f in
        let k : here ≡ place = cc in
        not (subst (λ (p : ProgramPoint). IsAimed table aim p) k met)
  ]

  pub none-met-all : (index : ℕ) → length places ≤ index → NoneMetBefore index → NoneMeets table aim places
  none-met-all index le none = λ place here h f met.
      none h.0 place here (let lt : h.0 < length places = slice_get_within places h.0 place h.1 in omega arith) h.1 f met

module _ (table : Table) (numbers : List (Option ℕ)) (range : Range) (aim : SearchGoal) (places : List ℕ) where
  pub reach-below : IsTidy table → IsReach table (flags_of numbers) range places → AllPlaces (length table.places) places
  reach-below tidy reach = λ place h. comes-below table (flags_of numbers) range tidy place (reach.0 place h)

  pub nowhere : IsReach table (flags_of numbers) range places → NoneMeets table aim places → IsMetNowhere table (flags_of numbers) range aim
  nowhere reach none = λ place here comes e met. none place here (reach.1 place comes) e met

  -- the moves that were taken lead there
  pub taken-comes : (came : List Predecessor) → TracesLevel table numbers range places came → (at : ℕ) (moves : List Move) → TakenTo came at moves → (place : ℕ) → slice_get places at ≡ Some place → ComesBy table numbers range place moves
  taken-comes came traces at moves (routes.none) place e = begins place (traces.first place e)
  taken-comes came traces at moves (routes.more index how before lt f rest) place e =
      let from = traces.later index place how lt e f in
      let step : StepsLevel table numbers range from.0 how.moved place = from.3 in
      goes_on from.0 place step.0 before how.moved (taken-comes came traces how.before before rest from.0 from.2) step.1 step.2

  pub met-by : (came : List Predecessor) (at : ℕ) (moves : List Move) → TracesLevel table numbers range places came → MeetsAt table aim places at → TakenTo came at moves → IsMetBy table numbers range aim moves
  met-by came at moves traces meets taken = (meets.0, meets.1, taken-comes came traces at moves taken meets.0 meets.2, meets.3, meets.4)

  pub level-back : (came : List Predecessor) → TracesLevel table numbers range places came → (at : ℕ) (how : Predecessor) → 0 < at → slice_get came at ≡ Some how → how.before < at
  level-back came traces = traces-back (λ place. slice_get table.starts range.entry ≡ Some place) (λ from moved to. (here : ProgramPoint) × (slice_get table.places from ≡ Some here) × GoesBy table numbers range here moved to) places came traces
