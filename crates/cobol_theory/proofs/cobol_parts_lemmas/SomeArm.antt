-- No choice is without an arm that it may give.
use Rattle.std.proofs.Common.{ℕ, List, arith}
use Rattle.std.proofs.lemmas.Bool.{false≢true}
use Rattle.program_facts.specs.completion.FlowFacts.{flow_facts_of}
use Rattle.control_flow_theory.specs.main_theorem.CallsReached.{GivesSome}
use Rattle.control_flow_theory.specs.language.Language.{Evaluate, Read, Arith, Depending}
use Rattle.meanings.specs.statements.Filing.{Declared}

pub gives-some : (declared : Declared) (returning : List (List ℕ)) → GivesSome (flow_facts_of declared.files returning)
gives-some declared returning (Evaluate subject tests has_other) =
    (0, (omega arith, λ never. absurd (false≢true never)))
gives-some declared returning (Read file into has_end) =
    (1, (omega arith, λ never none. absurd (omega (arith, none))))
gives-some declared returning (Arith calc into) =
    (0, (omega arith, λ never. absurd (false≢true never)))
gives-some declared returning (Depending on names) =
    (0, (omega arith, λ never. absurd (false≢true never)))
