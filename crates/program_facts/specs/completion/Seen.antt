-- The facts of what the tree's statements are seen as, in whatever section they are.
use Rattle.std.specs.Prelude.{ℕ, ◌≡◌, Bool, false, List, map, Option, Some, None}
use Rattle.cob_tree.specs.declared.stmt.Stmt.{Stmt}
use Rattle.cob_tree.specs.declared.stmt.Arms.{Arms}
use Rattle.cob_tree.specs.declared.stmt.When.{When}
use Rattle.control_flow_theory.specs.language.Language as language
use Rattle.control_flow_theory.specs.language.Control.{seen, seen_stmts, seen_both, seen_when, both_arms, branches_before, arm_before, else_of}
use Rattle.control_flow_theory.specs.lowering.FlowFacts.{FlowFacts}
use Rattle.control_flow_theory.specs.lowering.Completes.{is_after}
use Rattle.program_facts.specs.completion.Facts.{facts_of, facts_of_all, facts_of_arms, looped, performing}
use Rattle.program_facts.specs.declared.completion.facts.Facts.{Facts}

-- the loop is tested after its body
abbrev pub is_after_seen : Option language.Control → Bool
is_after_seen None = false
is_after_seen (Some control) = is_after control

-- the facts of a loop over a body; without a control it is a choice of one arm
abbrev pub loop_facts : Option language.Control → Facts → Facts
loop_facts None body = body
loop_facts (Some control) body = looped (is_after control) body

-- the facts of a PERFORM of a range, once or in a loop
abbrev pub perform_facts : Option language.Control → Bool → Facts
perform_facts None returns = performing returns
perform_facts (Some control) returns = looped (is_after control) (performing returns)

module _ (told : FlowFacts) where
  -- these are the facts of a statement
  abbrev pub AreFacts : Stmt → Facts → Type 0
  AreFacts stmt facts = (last : ℕ) → facts ≡ facts_of told (seen last stmt)

  -- these are the facts of statements in order
  abbrev pub AreFactsOfAll : List Stmt → Facts → Type 0
  AreFactsOfAll stmts facts = (last : ℕ) → facts ≡ facts_of_all told (seen_stmts last stmts)

  -- these are the facts of the arms of READ or of arithmetic
  abbrev pub AreFactsOfBoth : Bool → Arms → Facts → Type 0
  AreFactsOfBoth first_is_dead arms facts =
      (last : ℕ) → facts ≡ facts_of_arms told first_is_dead (both_arms (seen_both last arms))

  -- these are the facts of an ELSE
  abbrev pub AreFactsOfElse : List Stmt → Facts → Type 0
  AreFactsOfElse stmts facts =
      (last : ℕ) →
      facts
      ≡ facts_of_arms told false (arm_before (else_of (map (seen last) stmts)) language.done)

  -- these are the facts of the phrases WHEN, without WHEN OTHER
  abbrev pub AreFactsOfWhens : List When → Facts → Type 0
  AreFactsOfWhens whens facts =
      (last : ℕ) →
      facts ≡ facts_of_arms told false (branches_before (map (seen_when last) whens) language.done)
