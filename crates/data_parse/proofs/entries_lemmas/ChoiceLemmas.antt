-- What a choice reads, and what stops where the first of two forms stops.
use Rattle.std.proofs.Common.{◌≡◌, Bool, true, false, Result, Err, sym, ap, subst, ◌∙◌}
use Rattle.cobol_lex.specs.declared.token.TokenKind.{TokenKind}
use Rattle.parser_combinators.specs.declared.why.Unread.{Unread}
use Rattle.parser_combinators.specs.declared.why.Unread.TheVariants as unread
use Rattle.parser_combinators.specs.Form.{Input, then_read, Form, ◌>>=◌, is_next, chosen, where_next}
use Rattle.parser_combinators.specs.Reading.{Reads}

module _ {A : Type 0} (begin : TokenKind → Bool) (there other : Form A) where
  pub chosen_there : (b : Bool) (p q : Input) (r : Result A Unread) → b ≡ true → b ≡ is_next begin p → Reads (there.reads p) r q → Reads ((where_next begin there other).reads p) r q
  chosen_there b p q r e n h = subst (λ c. Reads ((chosen c there other).reads p) r q) (sym e ∙ n) h

  pub chosen_other : (b : Bool) (p q : Input) (r : Result A Unread) → b ≡ false → b ≡ is_next begin p → Reads (other.reads p) r q → Reads ((where_next begin there other).reads p) r q
  chosen_other b p q r e n h = subst (λ c. Reads ((chosen c there other).reads p) r q) (sym e ∙ n) h

pub then_err : {A B : Type 0} (f : Form A) (g : A → Form B) (e : Unread) (p q : Input) → Reads {A = A} (f.reads p) (Err e) q → Reads {A = B} ((f >>= g).reads p) (Err e) q
then_err f g (unread.Stop why) p q h = ap (λ o. then_read o (λ x r. (g x).reads r)) h
then_err f g unread.NoMemory p q h = tt
