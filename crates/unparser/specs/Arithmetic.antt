-- Arithmetic statements as tokens.
use Rattle.std.specs.Prelude.{ℕ, false, List, [], ◌∷◌, ◌++◌, map, codes, if◌then◌else◌}
use Rattle.cob_base.specs.Bytes.{equal_sign}
use Rattle.cob_tree.specs.declared.calc.Calc.{Calc}
use Rattle.cob_tree.specs.declared.calc.Calc.TheVariants as calc
use Rattle.cob_tree.specs.declared.calc.Target.{Target}
use Rattle.cob_tree.specs.declared.program.Program.{Program}
use Rattle.cobol_lex.specs.declared.token.TokenKind.TheVariants as kind
use Rattle.unparser.specs.Token.{Tokens, joined}
use Rattle.unparser.specs.Place.{place_tokens, operand_tokens, operands_tokens, expr_tokens}

-- a target, which may be rounded
abbrev pub target_tokens : Program → Target → Tokens
target_tokens program target =
    place_tokens program target.place
    ++ (if target.rounded then kind.Word (codes "ROUNDED") ∷ [] else [])

-- the targets
abbrev pub targets_tokens : Program → List Target → Tokens
targets_tokens program targets = joined (map (target_tokens program) targets)

-- what comes before the targets
abbrev pub product_front : Program → Calc → Tokens
product_front program (calc.Multiply by) =
    kind.Word (codes "MULTIPLY") ∷ operand_tokens program by ++ kind.Word (codes "BY") ∷ []
product_front program (calc.MultiplyGiving one by) =
    kind.Word (codes "MULTIPLY") ∷ operand_tokens program one
    ++ kind.Word (codes "BY") ∷ operand_tokens program by ++ kind.Word (codes "GIVING") ∷ []
product_front program (calc.Divide by) =
    kind.Word (codes "DIVIDE") ∷ operand_tokens program by ++ kind.Word (codes "INTO") ∷ []
product_front program (calc.DivideGiving by into) =
    kind.Word (codes "DIVIDE") ∷ operand_tokens program by
    ++ kind.Word (codes "INTO") ∷ operand_tokens program into ++ kind.Word (codes "GIVING") ∷ []
product_front program _ = kind.Word (codes "COMPUTE") ∷ []

-- the tokens before the targets
abbrev pub calc_front : Program → Calc → Tokens
calc_front program (calc.Add parts) =
    kind.Word (codes "ADD") ∷ operands_tokens program parts ++ kind.Word (codes "TO") ∷ []
calc_front program (calc.AddGiving parts) =
    kind.Word (codes "ADD") ∷ operands_tokens program parts ++ kind.Word (codes "GIVING") ∷ []
calc_front program (calc.Subtract parts) =
    kind.Word (codes "SUBTRACT") ∷ operands_tokens program parts ++ kind.Word (codes "FROM") ∷ []
calc_front program (calc.SubtractGiving parts from) =
    kind.Word (codes "SUBTRACT") ∷ operands_tokens program parts
    ++ kind.Word (codes "FROM") ∷ operand_tokens program from ++ kind.Word (codes "GIVING") ∷ []
calc_front program calc = product_front program calc

-- the tokens after the targets
abbrev pub calc_back : Program → Calc → Tokens
calc_back program (calc.Compute expr) = kind.Mark equal_sign ∷ expr_tokens program expr false
calc_back program _ = []

-- arithmetic without its phrases
abbrev pub arithmetic_tokens : Program → Calc → List Target → Tokens
arithmetic_tokens program calc targets =
    calc_front program calc ++ targets_tokens program targets ++ calc_back program calc

-- the word that ends the statement
abbrev pub end_word : Calc → List ℕ
end_word (calc.Add parts) = codes "END-ADD"
end_word (calc.AddGiving parts) = codes "END-ADD"
end_word (calc.Subtract parts) = codes "END-SUBTRACT"
end_word (calc.SubtractGiving parts from) = codes "END-SUBTRACT"
end_word (calc.Multiply by) = codes "END-MULTIPLY"
end_word (calc.MultiplyGiving one by) = codes "END-MULTIPLY"
end_word (calc.Divide by) = codes "END-DIVIDE"
end_word (calc.DivideGiving by into) = codes "END-DIVIDE"
end_word (calc.Compute expr) = codes "END-COMPUTE"
