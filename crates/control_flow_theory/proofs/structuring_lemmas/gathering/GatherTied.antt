-- From two memories that agree, a family and the one that was gathered are tied, and their units match.
use Rattle.std.proofs.Common.{◌≡◌, ◌≢◌, ℕ, suc, ◌≤◌, true, false, List, [], sym, subst, arith}
use Rattle.control_flow_theory.specs.runs.Run.{Going, Over}
use Rattle.control_flow_theory.specs.runs.Tied.{Tied}
use Rattle.control_flow_theory.specs.runs.Machine.{iterate, Machine, meaning}
use Rattle.control_flow_theory.specs.semantics.Outcome.{Event, Ending, Lost}
use Rattle.control_flow_theory.specs.language.Language.{Test, Stmts, Range}
use Rattle.control_flow_theory.specs.semantics.Doing.{Acting, Celled}
use Rattle.control_flow_theory.specs.semantics.Graph.{Label, End, Family}
use Rattle.control_flow_theory.specs.semantics.Walk.{Walk, level_at, walk_step, walk_begun}
use Rattle.control_flow_theory.specs.graph_rules.Charged.{spent}
use Rattle.control_flow_theory.specs.graph_rules.Costs.{cost, parted}
use Rattle.control_flow_theory.specs.graph_rules.Walked.{In, Ordered}
use Rattle.control_flow_theory.specs.structuring.Gathers.{Gathered}
use Rattle.control_flow_theory.specs.structuring.Spends.{Spends}
use Rattle.control_flow_theory.proofs.structuring_lemmas.gathering.Spends.{spent-one, one, whole, spends-tied}
use Rattle.control_flow_theory.proofs.semantics_lemmas.Grown.{walks-grow}
use Rattle.control_flow_theory.proofs.graph_rules_lemmas.walks.Walks.{cost-most}
use Rattle.control_flow_theory.proofs.structuring_lemmas.gathering.Agrees.{Agree}
use Rattle.control_flow_theory.proofs.structuring_lemmas.gathering.Gather as gather

module _ {Memory Left : Type 0} (acting : Acting Memory) (left : Memory → Left) (Reads Writes : Range → ℕ → Type 0) (reached : Range → Label → Type 0) (inside : ℕ → Label → Type 0)
    (range : Range) (cell : ℕ) (test : Test) (body : Stmts) (out : End) (g h : Family) (order : List Range)
    (ordered : Ordered Reads Writes g order) (Common : Range → ℕ → Type 0) (fresh : Common range cell → ⊥) (reads : (r : Range) (c : ℕ) → Reads r c → Common r c) (unwritten : Writes range cell → ⊥) (gathered : Gathered reached inside range cell test body out g h) where
  abbrev pub State : Type 0
  State = Walk Memory Left

  abbrev step_g : State → State
  step_g = walk_step acting left g

  abbrev step_h : State → State
  step_h = walk_step acting left h

  abbrev Agrees : ℕ → Celled Memory → Celled Memory → Type 0
  Agrees = Agree acting range cell Common fresh

  abbrev Settled : State → State → Type 0
  Settled = gather.Settled acting left Reads Writes reached inside range cell test body out g h order ordered Common fresh reads unwritten gathered

  abbrev owes : State → ℕ
  owes = gather.owes acting left Reads Writes reached inside range cell test body out g h order ordered Common fresh reads unwritten gathered

  -- never lost
  abbrev pub Sound : State → Type 0
  Sound w = (n : ℕ) → (iterate step_g n w).run.standing ≢ Over Lost

  pub record Both (w v : State) : Type 0 where
    pub settled : Settled w v
    pub sound : Sound w

  -- both walks begin, from memories that agree
  pub record Begun (start : Range) (s t : Celled Memory) : Type 0 where
    pub steps : ℕ
    pub few : steps ≤ 4
    pub dear : spent step_h (cost acting) steps (walk_begun acting left h start t) ≤ 4
    pub settled : Settled (walk_begun acting left g start s) (iterate step_h steps (walk_begun acting left h start t))
    pub owing : owes (walk_begun acting left g start s) ≤ 2

  begins : (start : Range) (s t : Celled Memory) (now : ℕ) → In start order → Agrees now s t → Begun start s t
  begins start s t now at_it a =
      let e = subst (λ l. gather.Entered acting left Reads Writes reached inside range cell test body out g h order ordered Common fresh reads unwritten gathered (walk_begun acting left g start s) (record { level = level_at start (h.node start l); callers = []; memory = t; run = record { trace = []; standing = Going } })) (sym (gathered.entries start))
      (gather.enter acting left Reads Writes reached inside range cell test body out g h order ordered Common fresh reads unwritten gathered start (g.entry start) [] [] s t [] now (gathered.enters start) at_it tt tt a) in
      record { steps = e.steps; few = e.few; dear = e.dear; settled = e.settled; owing = (let q = gather.root-owes acting left Reads Writes reached inside range cell test body out g h order ordered Common fresh reads unwritten gathered start (g.node start (g.entry start)) in let b = gather.back-most acting left Reads Writes reached inside range cell test body out g h order ordered Common fresh reads unwritten gathered start in omega (arith, q, b)) }

  -- Two memories that agree but for the cell, as a world.
  module _ (start : Range) (at_it : In start order) (Twin : Type 0) (first second : Twin → Celled Memory) (twins : (w : Twin) → (now : ℕ) × Agrees now (first w) (second w))
      (sound : (w : Twin) → Sound (walk_begun acting left g start (first w))) where
    abbrev pub first_machine : Machine Twin Event (Ending Left) State
    first_machine = record { step = step_g; run = λ w. w.run; begun = λ w. walk_begun acting left g start (first w) }

    abbrev pub second_machine : Machine Twin Event (Ending Left) State
    second_machine = record { step = step_h; run = λ w. w.run; begun = λ w. walk_begun acting left h start (second w) }

    abbrev begun : (w : Twin) → Begun start (first w) (second w)
    begun w = begins start (first w) (second w) (twins w).0 at_it (twins w).1

    pub gather-spends : Spends first_machine second_machine (cost acting) (cost acting) parted 8 Both
    gather-spends = record {
      owed = gather.owed acting left Reads Writes reached inside range cell test body out g h order ordered Common fresh reads unwritten gathered;
      starts = λ w. let b = begun w in (b.steps, record { settled = b.settled; sound = sound w }, (let p = b.dear in let q = b.owing in omega (arith, p, q)));
      cheap = cost-most acting;
      agree = λ w v r. r.settled.run;
      moves = λ w v r is.
          let k = gather.goes-of acting left Reads Writes reached inside range cell test body out g h order ordered Common fresh reads unwritten gathered w v r.settled (r.sound 1) is in
          (k.steps, record { settled = k.settled; sound = λ n. r.sound (suc n) }, k.dear, k.least, k.first);
    }

    -- the same by steps
    pub gather-steps : Spends first_machine second_machine (one first_machine) (one second_machine) (whole first_machine) 8 Both
    gather-steps = record {
      owed = λ w v. 0;
      starts = λ w.
          let b = begun w in
          (b.steps, record { settled = b.settled; sound = sound w }, (let p = b.few in let e = spent-one second_machine b.steps (second_machine.begun w) in omega (arith, p, e)));
      cheap = λ s. omega arith;
      agree = λ w v r. r.settled.run;
      moves = λ w v r is.
          let k = gather.goes-of acting left Reads Writes reached inside range cell test body out g h order ordered Common fresh reads unwritten gathered w v r.settled (r.sound 1) is in
          let e = spent-one second_machine k.steps v in
          (k.steps, record { settled = k.settled; sound = λ n. r.sound (suc n) }, (let f = k.few in omega (arith, e, f)), (let s = k.some in omega (arith, e, s)), (λ part. absurd (let f : false ≡ true = part in cc)));
    }

    -- the walks step by step are tied
    pub gather-tied : Tied (meaning first_machine) (meaning second_machine)
    gather-tied =
        let grows_g = walks-grow acting left g start in
        let grows_h = walks-grow acting left h start in
        spends-tied first_machine second_machine 8 Both (record { more = grows_g.more; stays = grows_g.stays }) (record { more = grows_h.more; stays = grows_h.stays }) gather-steps
