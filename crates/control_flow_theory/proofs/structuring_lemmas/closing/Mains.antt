-- What a rule keeps of every walk it keeps of the walk of the whole program.
use Rattle.std.proofs.Common.{refl}
use Rattle.control_flow_theory.specs.runs.Tied.{Meaning, Tied}
use Rattle.control_flow_theory.specs.runs.Machine.{meaning}
use Rattle.control_flow_theory.proofs.runs_lemmas.Ties.{tied-sym, tied-trans, tied-at}
use Rattle.control_flow_theory.specs.semantics.Outcome.{Event, Ending}
use Rattle.control_flow_theory.specs.language.Language.{Main}
use Rattle.control_flow_theory.specs.semantics.Doing.{Celled}
use Rattle.control_flow_theory.specs.semantics.Walk.{walk_machine, main_machine}
use Rattle.control_flow_theory.specs.graph_rules.Walked.{walked}
use Rattle.control_flow_theory.specs.graph_rules.Families.{Has, MaySet, Ready}
use Rattle.control_flow_theory.specs.structuring.Keeps.{Twins, steps_from}
use Rattle.control_flow_theory.specs.structuring.Laws.{KeptMainsAreTied, SameMainsAreTied}
use Rattle.control_flow_theory.proofs.graph_rules_lemmas.walks.Charges.{matched-tied}
use Rattle.control_flow_theory.proofs.graph_rules_lemmas.walks.Walks.{walked-tied, walked-steady}

-- no cell is set
abbrev unset : {Memory : Type 0} → Memory → Celled Memory
unset memory = record { own = memory; cells = λ range cell. 0 }

module _ {Memory Left : Type 0} where
  pub kept-mains : KeptMainsAreTied Memory Left
  kept-mains = λ acting left kinds kinds2 g h order kept here.
      let twin = λ (memory : Memory). (let w : Twins Memory kinds kinds2 = record { first = unset memory; second = unset memory; first_ready = λ r c is. refl; second_ready = λ r c is. refl; own = refl; cells = λ r c has. refl } in w) in
      tied-at twin (steps_from acting left {World = Twins Memory kinds kinds2} (λ w. w.first) g Main) (steps_from acting left (λ w. w.second) h Main) (kept.tied Main here)

  pub same-mains : SameMainsAreTied Memory Left
  same-mains = λ acting left kinds kinds2 g h order family family2 same here.
      let ready = λ (memory : Memory). (let w : Ready Memory kinds2 = record { memory = unset memory; ready = λ r c is. refl } in w) in
      let first : Meaning Memory Event (Ending Left) = λ memory n. walked acting left g order Main (unset memory) n in
      let second : Meaning Memory Event (Ending Left) = λ memory n. walked acting left h order Main (unset memory) n in
      let middle : Tied first second = matched-tied 8 first second
      (λ memory. walked-steady acting left g (Has kinds) (MaySet kinds) order family Main here (unset memory)) (λ memory. walked-steady acting left h (Has kinds2) (MaySet kinds2) order family2 Main here (unset memory))
      (λ memory m. same.1 Main here (ready memory) m) in
      let a : Tied first (meaning (main_machine acting left g)) = tied-at unset (walked acting left g order Main) (meaning (walk_machine acting left g Main)) (walked-tied acting left g (Has kinds) (MaySet kinds) order family Main here) in
      let b : Tied second (meaning (main_machine acting left h)) = tied-at unset (walked acting left h order Main) (meaning (walk_machine acting left h Main)) (walked-tied acting left h (Has kinds2) (MaySet kinds2) order family2 Main here) in
      tied-trans (meaning (main_machine acting left g)) first (meaning (main_machine acting left h)) (tied-sym first (meaning (main_machine acting left g)) a)
      (tied-trans first second (meaning (main_machine acting left h)) middle b)
