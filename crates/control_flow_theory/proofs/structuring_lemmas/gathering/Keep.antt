-- A family whose nodes were gathered into a loop keeps what a walk does, its units within a factor, and never being lost.
use Rattle.std.proofs.Common.{◌≡◌, ◌≢◌, ℕ, ◌+◌, ◌*◌, List, None, refl, ap, sym, ◌∙◌}
use Rattle.control_flow_theory.specs.runs.Run.{Going, Over}
use Rattle.control_flow_theory.specs.runs.Tied.{Tied}
use Rattle.control_flow_theory.specs.runs.Machine.{iterate, Machine, meaning}
use Rattle.control_flow_theory.specs.semantics.Outcome.{Event, Ending, Lost}
use Rattle.control_flow_theory.specs.language.Language.{Test, Stmts, Range}
use Rattle.control_flow_theory.specs.semantics.Doing.{Acting}
use Rattle.control_flow_theory.specs.semantics.Graph.{Label, End, Family}
use Rattle.control_flow_theory.specs.semantics.Walk.{Walk, walk_begun, walk_step}
use Rattle.control_flow_theory.specs.graph_rules.Walked.{walked, walked_from, In}
use Rattle.control_flow_theory.specs.graph_rules.Charged.{Paid, Matched}
use Rattle.control_flow_theory.specs.graph_rules.Costs.{cost, parted}
use Rattle.control_flow_theory.specs.graph_rules.Families.{Never, Kinds, Has, MaySet, IsFamily, IsReady, IsSound}
use Rattle.control_flow_theory.specs.structuring.Gathers.{Gathered}
use Rattle.control_flow_theory.specs.structuring.Keeps.{Gains, Twins, Kept}
use Rattle.control_flow_theory.proofs.structuring_lemmas.gathering.Spends.{units-matched}
use Rattle.control_flow_theory.proofs.semantics_lemmas.Grown.{walks-grow}
use Rattle.control_flow_theory.proofs.graph_rules_lemmas.walks.Walks.{walked-pays}
use Rattle.control_flow_theory.proofs.graph_rules_lemmas.rules.Sounds.{steps-sound}
use Rattle.control_flow_theory.proofs.structuring_lemmas.gathering.Agrees.{Agree}
use Rattle.control_flow_theory.proofs.structuring_lemmas.gathering.GatherTied.{first_machine, second_machine, gather-spends, gather-tied, Both}

-- a cell that a family doesn't have is none of its cells
pub no-cell : (kinds : Kinds) (range : Range) (cell : ℕ) → kinds range cell ≡ None → Has kinds range cell → ⊥
no-cell kinds range cell none_there has = let e = sym has.1 ∙ none_there in cc

module _ {Memory Left : Type 0} (acting : Acting Memory) (left : Memory → Left) (kinds kinds2 : Kinds) (reached : Range → Label → Type 0) (inside : ℕ → Label → Type 0)
    (range : Range) (cell : ℕ) (test : Test) (body : Stmts) (out : End) (g h : Family) (order : List Range)
    (gains : Gains kinds kinds2 range cell) (family : IsFamily kinds g order) (sound : IsSound acting left kinds g order) (gathered : Gathered reached inside range cell test body out g h) (family_too : IsFamily kinds2 h order) where
  abbrev World : Type 0
  World = Twins Memory kinds kinds2

  abbrev State : Type 0
  State = Walk Memory Left

  fresh : Has kinds range cell → ⊥
  fresh = no-cell kinds range cell gains.fresh

  unwritten : MaySet kinds range cell → ⊥
  unwritten may = fresh may.0

  reads : (r : Range) (c : ℕ) → Has kinds r c → Has kinds r c
  reads r c has = has

  agreeing : (w : World) → (now : ℕ) × Agree acting range cell (Has kinds) fresh now w.first w.second
  agreeing w = (w.second.cells range cell, record { own = w.own; cells = w.cells; holds = refl })

  module _ (start : Range) (at_it : In start order) where
    sound-from : (w : World) (n : ℕ) → (iterate (walk_step acting left g) n (walk_begun acting left g start w.first)).run.standing ≢ Over Lost
    sound-from w n = steps-sound acting left kinds g order family sound start at_it (record { memory = w.first; ready = w.first_ready }) n

    abbrev one : Machine World Event (Ending Left) State
    one = first_machine acting left (Has kinds) (MaySet kinds) reached inside range cell test body out g h order family (Has kinds) fresh reads unwritten gathered start at_it World (λ w. w.first) (λ w. w.second) agreeing sound-from

    abbrev two : Machine World Event (Ending Left) State
    two = second_machine acting left (Has kinds) (MaySet kinds) reached inside range cell test body out g h order family (Has kinds) fresh reads unwritten gathered start at_it World (λ w. w.first) (λ w. w.second) agreeing sound-from

    kept-tied : Tied (meaning one) (meaning two)
    kept-tied = gather-tied acting left (Has kinds) (MaySet kinds) reached inside range cell test body out g h order family (Has kinds) fresh reads unwritten gathered start at_it World (λ w. w.first) (λ w. w.second) agreeing sound-from

    first-paid : Paid {World = World} (walked_from acting left (λ w. w.first) g order start) one (cost acting) parted
    first-paid = λ w m. (walked-pays acting left g (Has kinds) (MaySet kinds) order family start at_it w.first m).0

    second-paid : Paid {World = World} (walked_from acting left (λ w. w.second) h order start) two (cost acting) parted
    second-paid = λ w m. (walked-pays acting left h (Has kinds2) (MaySet kinds2) order family_too start at_it w.second m).0

    kept-matched : Matched {World = World} 8 (walked_from acting left (λ w. w.first) g order start) (walked_from acting left (λ w. w.second) h order start)
    kept-matched =
        let grows_g = walks-grow acting left g start in
        let grows_h = walks-grow acting left h start in
        units-matched one two (cost acting) (cost acting) parted parted 8
        (Both acting left (Has kinds) (MaySet kinds) reached inside range cell test body out g h order family (Has kinds) fresh reads unwritten gathered)
        (record { more = grows_g.more; stays = grows_g.stays }) (record { more = grows_h.more; stays = grows_h.stays })
        (gather-spends acting left (Has kinds) (MaySet kinds) reached inside range cell test body out g h order family (Has kinds) fresh reads unwritten gathered start at_it World (λ w. w.first) (λ w. w.second) agreeing sound-from)
        (walked_from acting left (λ w. w.first) g order start) (walked_from acting left (λ w. w.second) h order start) first-paid second-paid

  pub gather-kept : Kept acting left kinds kinds2 g h order
  gather-kept = record {
    family = family_too;
    sound = λ start at_it ready units lost.
        let less : IsReady kinds ready.memory = λ r c is. ready.ready r c (gains.extends r c Never is) in
        let w : World = record { first = ready.memory; second = ready.memory; first_ready = less; second_ready = ready.ready; own = refl; cells = λ r c has. refl } in
        let covers = (kept-matched start at_it w units).1 in
        let over : (walked acting left h order start ready.memory units).standing ≢ Going = λ is. (let e = sym is ∙ lost in cc) in
        sound start at_it (record { memory = ready.memory; ready = less }) (8 * (units + 1)) (ap (λ r. r.standing) (covers.ends over) ∙ lost);
    tied = kept-tied;
    matched = kept-matched;
  }
