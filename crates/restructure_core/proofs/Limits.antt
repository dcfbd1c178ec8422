-- The first limit that a result passes.
use Rattle.std.proofs.Common.{◌≡◌, ℕ, List, Some, None, Result, Ok, Err, ap, sym, ◌∙◌}
use Rattle.cob_base.specs.declared.limit.Limit.{Limit}
use Rattle.cob_tree.specs.declared.program.Program.{Program}
use Rattle.restructure_core.specs.declared.fault.Refused.{Refused}
use Rattle.restructure_core.specs.declared.fault.Refused.TheVariants as refused
use Rattle.restructure_core.specs.Pipeline.{IsPrinted, IsText}
use Rattle.restructure_core.specs.Limit.{else_limit, part_limit, text_limit}

pub first_limits : (program : Program) (limit : Limit) → Some limit ≡ part_limit program →
    IsPrinted program (Err (refused.Limit limit))
first_limits program limit e = ap (λ first. else_limit first (text_limit program)) (sym e)

pub text_printed : (program : Program) (result : Result (List ℕ) Refused) →
    None ≡ part_limit program → IsText program result → IsPrinted program result
text_printed program (Ok text) e h =
    (h.0, ap (λ first. else_limit first (text_limit program)) (sym e) ∙ h.1)
text_printed program (Err (refused.Limit limit)) e h =
    ap (λ first. else_limit first (text_limit program)) (sym e) ∙ h
text_printed program (Err (refused.NotSubset why)) e h = absurd h
text_printed program (Err (refused.Flow other trail)) e h = absurd h
text_printed program (Err refused.NoMemory) e h = tt
