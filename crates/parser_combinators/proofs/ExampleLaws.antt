-- Each form of the small grammar is lawful.
use Rattle.std.proofs.Common.{◌≡◌, ℕ, zero, suc, true, false, List, [], sym, ap, ◌∙◌}
use Rattle.std.specs.Prelude.{codes}
use Rattle.parser_combinators.specs.declared.example.Step.{Step}
use Rattle.parser_combinators.specs.Form.{Form, Input, Got}
use Rattle.parser_combinators.specs.Part.{period, ended}
use Rattle.parser_combinators.specs.Example as example
use Rattle.parser_combinators.proofs.MakerLaws as laws
use Rattle.parser_combinators.proofs.MakerLaws.{Law, pure, note, one, key, mark, word, where_next, loop, many, some, maybe, too_deep, ◌>>=◌, ◌>>◌, ◌<$>◌}
use Rattle.parser_combinators.proofs.Reader.{ended_rest}
use Rattle.parser_combinators.proofs.Lawful.{then_got, got_is}

pub digit : Law true example.digit
digit = one (λ position kind. example.digit_of kind)

term_with : {inner : Form ℕ} → Law true inner → Law true (example.term_with inner)
term_with I = where_next I digit

pub less : {term : Form ℕ} → Law true term → (left : ℕ) → Law true (example.less term left)
less T left = do
  mark example.minus
  right ← T
  pure

sum_with : {term : Form ℕ} → Law true term → Law true (example.sum_with term)
sum_with T = T >>= (λ value. loop (less T))

in_parens_with : {inner : Form ℕ} → Law true inner → Law true (example.in_parens_with inner)
in_parens_with I = do
  mark example.opening
  value ← sum_with (term_with I)
  mark example.closing
  pure

pub inner : (levels : ℕ) → Law true (example.inner levels)
unfolding example.inner
inner zero = too_deep
inner (suc n) = in_parens_with (inner n)

pub term : (levels : ℕ) → Law true (example.term levels)
term levels = term_with (inner levels)

pub sum : (levels : ℕ) → Law true (example.sum levels)
sum levels = sum_with (term levels)

pub any_sums : (levels : ℕ) → Law false (example.any_sums levels)
any_sums levels = many (sum levels)

pub shown : (levels : ℕ) → Law true (example.shown levels)
shown levels = _ <$> sum levels

pub show : (before : List Step) → Law true (example.show before)
unfolding example.show
show before = do
  key (codes "SHOW")
  values ← some (sum example.max_parens)
  pure

name : (known : List (List ℕ)) → Law true (example.name known)
unfolding example.name
name known = do
  found ← word
  note
  pure

pub go : (known : List (List ℕ)) (before : List Step) → Law true (example.go known before)
unfolding example.go
go known before = do
  key (codes "GO")
  maybe (codes "TO")
  index ← name known
  pure

order_with : (known : List (List ℕ)) {repeat : List Step → Form (List Step)} → ((before : List Step) → Law true (repeat before)) → (before : List Step) → Law true (example.order_with known repeat before)
order_with known R before = where_next (show before) (where_next (R before) (go known before))

orders_with : (known : List (List ℕ)) {repeat : List Step → Form (List Step)} → ((before : List Step) → Law true (repeat before)) → (before : List Step) → Law true (example.orders_with known repeat before)
orders_with known R before = order_with known R before >>= (λ found. loop (order_with known R))

repeated_with : (known : List (List ℕ)) {repeat : List Step → Form (List Step)} → ((before : List Step) → Law true (repeat before)) → (before : List Step) → Law true (example.repeated_with known repeat before)
repeated_with known R before = do
  key (codes "REPEAT")
  body ← orders_with known R _
  maybe (codes "END-REPEAT")
  pure

pub repeat : (known : List (List ℕ)) (levels : ℕ) (before : List Step) → Law true (example.repeat known levels before)
unfolding example.repeat
repeat known zero before = too_deep
repeat known (suc n) before = repeated_with known (repeat known n) before

pub order : (known : List (List ℕ)) (levels : ℕ) (before : List Step) → Law true (example.order known levels before)
order known levels = order_with known (repeat known levels)

pub orders : (known : List (List ℕ)) (levels : ℕ) (before : List Step) → Law true (example.orders known levels before)
orders known levels = orders_with known (repeat known levels)

pub text : (known : List (List ℕ)) → Law true (example.text known)
unfolding example.text
text known = do
  found ← orders known example.max_nesting _
  laws.period
  laws.ended
  pure

-- no token is left behind a text
pub text_ends : (known : List (List ℕ)) (p : Input) (found : List Step) (q : Input) → (example.text known).reads p ≡ Got found q → q.rest ≡ []
unfolding example.text
text_ends known p found q e =
    let a = then_got ((example.orders known example.max_nesting []).reads p) _ found q e in
    let b = then_got (period.reads a.1) _ found q a.3 in
    let c = then_got (ended.reads b.1) _ found q b.3 in
    ap (λ r. r.rest) (sym (got_is a.0 found c.1 q c.3).1) ∙ (ended_rest b.1 c.0 c.1 c.2).1
