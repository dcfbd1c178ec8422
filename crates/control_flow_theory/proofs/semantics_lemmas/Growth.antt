-- A step of a source, and of a walk, shows more, and a state that is over stays.
use Rattle.std.proofs.Common.{◌≡◌, ◌≢◌, ℕ, suc, Bool, true, false, if◌then◌else◌, ◌==◌, List, [], ◌∷◌, ◌++◌, Option, Some, None, slice_get, refl, sym, append-nil}
use Rattle.control_flow_theory.specs.runs.Run.{Going, Over, Begins, Covers}
use Rattle.control_flow_theory.specs.runs.Machine.{Grows}
use Rattle.control_flow_theory.proofs.runs_lemmas.Ties.{covers-refl}
use Rattle.control_flow_theory.specs.semantics.Outcome.{Trace, Faulted, Overlap, Reentry, Standing, Tried, Got, Ends}
use Rattle.control_flow_theory.specs.language.Language.{Range, Paragraph, Program}
use Rattle.control_flow_theory.specs.semantics.Doing.{Acting, Doing, Celled, celled}
use Rattle.control_flow_theory.specs.language.Items.{Item}
use Rattle.control_flow_theory.specs.semantics.Items.{Way, On, Halts, Into, To, ToEnd, item_way}
use Rattle.control_flow_theory.specs.language.Items.{Pending, ends_at}
use Rattle.control_flow_theory.specs.semantics.Source.{SourceState, comes_to, goes, goes_to, falls, end_step, rest_step, step_by, source_machine}
use Rattle.control_flow_theory.specs.semantics.Graph.{Tree, End, Pick, Jump, Return, Stop, Dead, Trees, Family}
use Rattle.control_flow_theory.specs.semantics.Walk.{Level, Walk, tree_at, walk_goes, picked, picks, returns, walk_end, walk_items, walk_by, walk_machine, main_machine}

begins-itself : (trace : Trace) → Begins trace trace
begins-itself trace = ([], sym (append-nil trace))

module _ {Memory Left : Type 0} (doing : Doing Memory) (left : Memory → Left) (program : Program) (state : SourceState Memory Left) where
  -- the next state shows more
  abbrev ShowsMore : SourceState Memory Left → Type 0
  ShowsMore next = Begins state.run.trace next.run.trace

  falls-shows : (next : Option Paragraph) → ShowsMore (falls doing left program next state)
  falls-shows None = begins-itself state.run.trace
  falls-shows (Some next) = begins-itself state.run.trace

  behind-shows : (t : Bool) → ShowsMore (if t then comes_to doing left program (Faulted (Overlap state.paragraph)) state else falls doing left program (slice_get program.paragraphs (suc state.paragraph)) state)
  behind-shows true = begins-itself state.run.trace
  behind-shows false = falls-shows (slice_get program.paragraphs (suc state.paragraph))

  end-shows : (returns : List Pending) → ShowsMore (end_step doing left program returns state)
  end-shows [] = falls-shows (slice_get program.paragraphs (suc state.paragraph))
  end-shows (top ∷ others) =
      elim (top.end == state.paragraph) as (λ t. ShowsMore (if t
      then record state { paragraph = top.paragraph; rest = top.rest; pending = others }
      else (if ends_at state.paragraph others then comes_to doing left program (Faulted (Overlap state.paragraph)) state else falls doing left program (slice_get program.paragraphs (suc state.paragraph)) state))) [
        | true ↦ begins-itself state.run.trace
        | false ↦ behind-shows (ends_at state.paragraph others)
      ]

  performs-shows : (entry exit : ℕ) (rest : List Item) (t : Bool) → ShowsMore (if t
      then comes_to doing left program (Faulted (Reentry exit)) state
      else goes_to doing left program entry (record state { pending = record { end = exit; paragraph = state.paragraph; rest = rest } ∷ state.pending }))
  performs-shows entry exit rest true = begins-itself state.run.trace
  performs-shows entry exit rest false = begins-itself state.run.trace

  goes-shows : (way : Way Memory) → ShowsMore (goes doing left program way state)
  goes-shows (On trace memory items) = (trace, refl)
  goes-shows (Halts trace how memory) = (trace, refl)
  goes-shows (Into entry exit items) = performs-shows entry exit items (ends_at exit state.pending)
  goes-shows (To trace memory paragraph) = (trace, refl)
  goes-shows (ToEnd trace memory paragraph) = (trace, refl)

  rest-shows : (rest : List Item) → ShowsMore (rest_step doing left program rest state)
  rest-shows [] = end-shows state.pending
  rest-shows (item ∷ rest) = goes-shows (item_way doing item rest state.memory)

  step-covers : (standing : Standing Left) → state.run.standing ≡ standing → Covers state.run (step_by doing left program standing state).run
  step-covers Going is = record { shows = rest-shows state.rest; ends = λ over. absurd (over is) }
  step-covers (Over ending) is = covers-refl state.run

  step-stays : (standing : Standing Left) → standing ≢ Going → step_by doing left program standing state ≡ state
  step-stays Going over = absurd (over refl)
  step-stays (Over ending) over = refl

pub source-grows : {Memory Left : Type 0} (doing : Doing Memory) (left : Memory → Left) (program : Program) → Grows (source_machine doing left program)
source-grows doing left program = record {
  more = λ state. step-covers doing left program state state.run.standing refl;
  stays = λ state. step-stays doing left program state state.run.standing;
}

module _ {Memory Left : Type 0} (acting : Acting Memory) (left : Memory → Left) (family : Family) (walk : Walk Memory Left) where
  abbrev WalksOn : Walk Memory Left → Type 0
  WalksOn next = Begins walk.run.trace next.run.trace

  way-walks : (way : Way (Celled Memory)) → WalksOn (walk_goes acting left family way walk)
  way-walks (On trace memory items) = (trace, refl)
  way-walks (Halts trace how memory) = (trace, refl)
  way-walks (Into entry exit items) = begins-itself walk.run.trace
  way-walks (To trace memory paragraph) = begins-itself walk.run.trace
  way-walks (ToEnd trace memory paragraph) = begins-itself walk.run.trace

  picked-walks : (shown : Trace) (memory : Celled Memory) (t : Option Tree) → WalksOn (picked acting left family t (record walk { memory = memory; run = record { trace = walk.run.trace ++ shown; standing = walk.run.standing } }))
  picked-walks shown memory None = (shown, refl)
  picked-walks shown memory (Some t) = (shown, refl)

  picks-walks : (arms : Trees) (choice : Tried (Celled Memory) ℕ) → WalksOn (picks acting left family arms choice walk)
  picks-walks arms (Got trace k memory) = picked-walks trace memory (tree_at arms k)
  picks-walks arms (Ends trace kind memory) = (trace, refl)

  returns-walks : (callers : List Level) → WalksOn (returns acting left family callers walk)
  returns-walks [] = begins-itself walk.run.trace
  returns-walks (top ∷ others) = begins-itself walk.run.trace

  end-walks : (end : End) → WalksOn (walk_end acting left family end walk)
  end-walks (Pick picker arms) = picks-walks arms ((celled acting walk.level.range).pick picker walk.memory)
  end-walks (Jump to) = begins-itself walk.run.trace
  end-walks Return = returns-walks walk.callers
  end-walks Stop = begins-itself walk.run.trace
  end-walks Dead = begins-itself walk.run.trace

  items-walk : (items : List Item) → WalksOn (walk_items acting left family items walk)
  items-walk [] = end-walks walk.level.end
  items-walk (item ∷ rest) = way-walks (item_way (celled acting walk.level.range) item rest walk.memory)

  walk-covers : (standing : Standing Left) → walk.run.standing ≡ standing → Covers walk.run (walk_by acting left family standing walk).run
  walk-covers Going is = record { shows = items-walk walk.level.items; ends = λ over. absurd (over is) }
  walk-covers (Over ending) is = covers-refl walk.run

  walk-stays : (standing : Standing Left) → standing ≢ Going → walk_by acting left family standing walk ≡ walk
  walk-stays Going over = absurd (over refl)
  walk-stays (Over ending) over = refl

pub walk-grows : {Memory Left : Type 0} (acting : Acting Memory) (left : Memory → Left) (family : Family) (range : Range) → Grows (walk_machine acting left family range)
walk-grows acting left family range = record {
  more = λ walk. walk-covers acting left family walk walk.run.standing refl;
  stays = λ walk. walk-stays acting left family walk walk.run.standing;
}

pub main-grows : {Memory Left : Type 0} (acting : Acting Memory) (left : Memory → Left) (family : Family) → Grows (main_machine acting left family)
main-grows acting left family = record {
  more = λ walk. walk-covers acting left family walk walk.run.standing refl;
  stays = λ walk. walk-stays acting left family walk walk.run.standing;
}
