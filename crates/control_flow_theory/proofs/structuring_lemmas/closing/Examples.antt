-- The premises of the rules' laws hold of a worked program.
use Rattle.std.proofs.Common.{ℕ, true, false, if◌then◌else◌, ◌==◌, [], ◌∷◌, refl, arith}
use Rattle.control_flow_theory.specs.language.Language.{Own, Holds, If, Stmt, Choose, StopRun, Stmts, none, also, given, missing, done, Main}
use Rattle.control_flow_theory.specs.language.Language as language
use Rattle.control_flow_theory.specs.semantics.Parts.{says, is}
use Rattle.control_flow_theory.specs.semantics.Graph.{tree, Pick, Jump, Dead}
use Rattle.control_flow_theory.specs.graph_rules.Walked.{In}
use Rattle.control_flow_theory.specs.graph_rules.Fits.{TreeFits}
use Rattle.control_flow_theory.specs.graph_rules.Families.{Has, MaySet, IsFamily}
use Rattle.control_flow_theory.specs.graph_rules.Reduced.{tree_in, family_of, kinds_of}
use Rattle.control_flow_theory.specs.structuring.Closes.{IsClosed}
use Rattle.control_flow_theory.specs.structuring.Examples.{one, two, go, last_nodes, tail_nodes, state_nodes, graphs}

pub closed-before : IsClosed (graphs Main)
closed-before = record { rising = (omega arith, (omega arith, tt)); entry = (0, refl); jumps = (((2, refl), ((1, refl), tt)), ((2, refl), ((1, refl), tt))) }

pub family-before : IsFamily (kinds_of graphs) (family_of graphs) (Main ∷ [])
family-before = (refl, fits, tt)
  where
    fits : (label : ℕ) → TreeFits (λ to. In to []) (Has (kinds_of graphs) Main) (MaySet (kinds_of graphs) Main) (tree_in state_nodes label)
    fits label =
        elim (0 == label) as (λ b. TreeFits (λ to. In to []) (Has (kinds_of graphs) Main) (MaySet (kinds_of graphs) Main) (if b then tree none (Pick (If (Holds (is 1))) (two (go 6) (go 3))) else tree_in (tail_nodes) label)) [
          | true ↦ (tt, (tt, ((tt, tt), ((tt, tt), tt))))
          | false ↦ elim (3 == label) as (λ b. TreeFits (λ to. In to []) (Has (kinds_of graphs) Main) (MaySet (kinds_of graphs) Main) (if b then tree (one (language.Do (Own (says 1)))) (Jump 6) else tree_in last_nodes label)) [
            | true ↦ ((tt, tt), tt)
            | false ↦ elim (6 == label) as (λ b. TreeFits (λ to. In to []) (Has (kinds_of graphs) Main) (MaySet (kinds_of graphs) Main) (if b then tree (also (language.Do (Own (says 2))) (one (Choose (If (Holds (is 2))) (given (one StopRun) (missing done))))) (Jump 3) else tree none Dead)) [
              | true ↦ ((tt, ((tt, ((tt, tt), tt)), tt)), tt)
              | false ↦ (tt, tt)
            ]
          ]
        ]
