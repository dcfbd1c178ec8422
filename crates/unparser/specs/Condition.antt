-- Conditions as tokens.
use Rattle.std.specs.Prelude.{Bool, true, false, ℕ, List, [], ◌∷◌, ◌++◌, codes, if◌then◌else◌}
use Rattle.cob_base.specs.Bytes.{equal_sign, less_sign, greater_sign}
use Rattle.cob_tree.specs.declared.cond.Cond.{Cond, fold-Cond}
use Rattle.cob_tree.specs.declared.cond.Cond.TheOpen.{Cond-F}
use Rattle.cob_tree.specs.declared.cond.Rel.{Rel}
use Rattle.cob_tree.specs.declared.cond.Rel.TheVariants as rel
use Rattle.cob_tree.specs.declared.cond.ClassKind.{ClassKind}
use Rattle.cob_tree.specs.declared.cond.ClassKind.TheVariants.{Numeric, Alphabetic}
use Rattle.cob_tree.specs.declared.cond.SignKind.{SignKind}
use Rattle.cob_tree.specs.declared.cond.SignKind.TheVariants.{Positive, Negative, Zero}
use Rattle.cob_tree.specs.declared.program.Program.{Program}
use Rattle.cobol_lex.specs.declared.token.TokenKind.TheVariants as kind
use Rattle.unparser.specs.Token.{Tokens, in_parentheses, enclosed}
use Rattle.unparser.specs.Place.{place_tokens, expr_tokens}

-- a relation
abbrev pub rel_tokens : Rel → Tokens
rel_tokens rel.Equal = kind.Mark equal_sign ∷ []
rel_tokens rel.NotEqual = kind.Word (codes "NOT") ∷ kind.Mark equal_sign ∷ []
rel_tokens rel.Less = kind.Mark less_sign ∷ []
rel_tokens rel.Greater = kind.Mark greater_sign ∷ []
rel_tokens rel.LessEqual = kind.LessEqual ∷ []
rel_tokens rel.GreaterEqual = kind.GreaterEqual ∷ []

-- NOT, where it is asked for
abbrev pub not_tokens : (said : Bool) → Tokens
not_tokens said = if said then kind.Word (codes "NOT") ∷ [] else []

-- the word of a class
abbrev pub class_word : ClassKind → List ℕ
class_word Numeric = codes "NUMERIC"
class_word Alphabetic = codes "ALPHABETIC"

-- the word of a sign
abbrev pub sign_word : SignKind → List ℕ
sign_word Positive = codes "POSITIVE"
sign_word Negative = codes "NEGATIVE"
sign_word Zero = codes "ZERO"

-- AND and OR are in parentheses under AND and OR, and so is always what follows NOT
abbrev pub cond_step : Program → Cond-F (Bool → Tokens) → (within : Bool) → Tokens
cond_step program (Cond-F.Relation left rel right) within =
    expr_tokens program left false ++ rel_tokens rel ++ expr_tokens program right false
cond_step program (Cond-F.Class place class not) within =
    place_tokens program place ++ not_tokens not ++ kind.Word (class_word class) ∷ []
cond_step program (Cond-F.SignIs expr sign not) within =
    expr_tokens program expr false ++ not_tokens not ++ kind.Word (sign_word sign) ∷ []
cond_step program (Cond-F.Named place) within = place_tokens program place
cond_step program (Cond-F.Not part) within =
    kind.Word (codes "NOT") ∷ in_parentheses (part false)
cond_step program (Cond-F.And left right) within =
    enclosed within (left true ++ kind.Word (codes "AND") ∷ right true)
cond_step program (Cond-F.Or left right) within =
    enclosed within (left true ++ kind.Word (codes "OR") ∷ right true)

-- a condition, under AND or OR or not
abbrev pub cond_tokens : Program → Cond → (within : Bool) → Tokens
cond_tokens program = fold-Cond (Bool → Tokens) (cond_step program)
