-- What EVALUATE compares, as tokens.
use Rattle.std.specs.Prelude.{false, [], ◌∷◌, ◌++◌, codes, Option, Some, None}
use Rattle.cob_tree.specs.declared.choice.Subject.{Subject}
use Rattle.cob_tree.specs.declared.choice.Subject.TheVariants as subject
use Rattle.cob_tree.specs.declared.choice.Test.{Test}
use Rattle.cob_tree.specs.declared.choice.Test.TheVariants as test
use Rattle.cob_tree.specs.declared.place.Expr.{Expr}
use Rattle.cob_tree.specs.declared.program.Program.{Program}
use Rattle.cobol_lex.specs.declared.token.TokenKind.TheVariants as kind
use Rattle.unparser.specs.Token.{Tokens}
use Rattle.unparser.specs.Place.{expr_tokens}
use Rattle.unparser.specs.Condition.{not_tokens, cond_tokens}

-- the subject of EVALUATE
abbrev pub subject_tokens : Program → Subject → Tokens
subject_tokens program subject.True = kind.Word (codes "TRUE") ∷ []
subject_tokens program subject.False = kind.Word (codes "FALSE") ∷ []
subject_tokens program (subject.Value expr) = expr_tokens program expr false

-- the end of a range of values, if it is one
abbrev pub thru_tokens : Program → Option Expr → Tokens
thru_tokens program None = []
thru_tokens program (Some to) = kind.Word (codes "THRU") ∷ expr_tokens program to false

-- a test of WHEN
abbrev pub test_tokens : Program → Test → Tokens
test_tokens program test.Any = kind.Word (codes "ANY") ∷ []
test_tokens program (test.Holds cond) = cond_tokens program cond false
test_tokens program (test.Value not from to) =
    not_tokens not ++ expr_tokens program from false ++ thru_tokens program to
