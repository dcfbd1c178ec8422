-- The position of the next token.
use Rattle.std.proofs.Common.{◌≡◌, List, [], ◌∷◌, ◌++◌, Option, refl, sym, ap}
use Rattle.cobol_lex.specs.declared.token.Token.{Token}
use Rattle.parser_combinators.specs.declared.note.Note.{Note}
use Rattle.parser_combinators.specs.Form.{Input, at, behind_fault, Got, here, next_position}
use Rattle.parser_combinators.proofs.Lawful.{Lawful, Extends, total, end_all, got_is}

extended : (p : Input) (ts more : List Token) → Extends (here.reads (at ts p)) (here.reads (at (ts ++ more) p)) more ts
extended p [] more = end_all more
extended p (t ∷ ts) more = refl

same_position : (p : Input) (ts : List Token) (earlier : Option Note) → next_position ts (behind_fault earlier p) ≡ next_position ts p
same_position p [] earlier = refl
same_position p (t ∷ ts) earlier = refl

pub here-lawful : Lawful here
here-lawful = record {
  sound = λ p a q e. got_is (next_position p.rest p) a p q e;
  complete = λ p a q h. cc;
  whole = λ p h. h;
  part = λ p h. h;
  within = λ p. end_all p.rest;
  extends = λ p more. extended p p.rest more;
  noted = λ p earlier. ap (λ s. Got s (behind_fault earlier p)) (same_position p p.rest earlier);
  counted = λ p a q e. ap total (sym (got_is (next_position p.rest p) a p q e).1);
}
