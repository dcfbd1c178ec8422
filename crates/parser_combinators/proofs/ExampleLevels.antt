-- More levels only add to what the small grammar reads.
use Rattle.std.proofs.Common.{ℕ, zero, suc, ◌≤◌, true, List, arith}
use Rattle.std.specs.Prelude.{codes}
use Rattle.parser_combinators.specs.declared.why.Why.TheVariants.{Parens, Nesting}
use Rattle.parser_combinators.specs.declared.example.Step.{Step}
use Rattle.parser_combinators.specs.Form.{Form}
use Rattle.parser_combinators.specs.Part.{is_key, is_mark}
use Rattle.parser_combinators.specs.Reading.{Bound, levels_of}
use Rattle.parser_combinators.specs.Example as example
use Rattle.parser_combinators.proofs.MakerLaws.{Law, pure, key, mark, too_deep, maybe}
use Rattle.parser_combinators.proofs.MakerLaws as laws
use Rattle.parser_combinators.proofs.Deeper.{Deepens, same, where_next, loop, one_more, ◌>>=◌, ◌>>◌}
use Rattle.parser_combinators.proofs.ExampleLaws as law

-- ---- parentheses

term_with : {bound : Bound} {f g : Form ℕ} → Deepens bound true f g → Deepens bound true (example.term_with f) (example.term_with g)
term_with I = where_next I (same law.digit)

less : {bound : Bound} {f g : Form ℕ} → Deepens bound true f g → (left : ℕ) → Deepens bound true (example.less f left) (example.less g left)
less T left = do
  same (mark example.minus)
  right ← T
  same pure

sum_with : {bound : Bound} {f g : Form ℕ} → Deepens bound true f g → Deepens bound true (example.sum_with f) (example.sum_with g)
sum_with T = T >>= (λ value. loop (less T))

in_parens_with : {bound : Bound} {f g : Form ℕ} → Deepens bound true f g → Deepens bound true (example.in_parens_with f) (example.in_parens_with g)
in_parens_with I = do
  same (mark example.opening)
  value ← sum_with (term_with I)
  same (mark example.closing)
  same pure

inner : (m n : ℕ) → m ≤ n → Deepens (levels_of Parens) true (example.inner m) (example.inner n)
unfolding example.inner
inner zero zero h = same too_deep
inner zero (suc n) h = one_more Parens (is_mark example.opening) (laws.◌>>=◌ (law.sum n) (λ value. laws.◌>>◌ (mark example.closing) pure))
inner (suc m) zero h = absurd (omega (arith, h))
inner (suc m) (suc n) h = in_parens_with (inner m n (omega (arith, h)))

pub sum : (m n : ℕ) → m ≤ n → Deepens (levels_of Parens) true (example.sum m) (example.sum n)
sum m n h = sum_with (term_with (inner m n h))

-- ---- orders that repeat others

order_with : {bound : Bound} (known : List (List ℕ)) {f g : List Step → Form (List Step)} → ((before : List Step) → Deepens bound true (f before) (g before))
    → (before : List Step) → Deepens bound true (example.order_with known f before) (example.order_with known g before)
order_with known R before = where_next (same (law.show before)) (where_next (R before) (same (law.go known before)))

orders_with : {bound : Bound} (known : List (List ℕ)) {f g : List Step → Form (List Step)} → ((before : List Step) → Deepens bound true (f before) (g before))
    → (before : List Step) → Deepens bound true (example.orders_with known f before) (example.orders_with known g before)
orders_with known R before = order_with known R before >>= (λ found. loop (order_with known R))

repeated_with : {bound : Bound} (known : List (List ℕ)) {f g : List Step → Form (List Step)} → ((before : List Step) → Deepens bound true (f before) (g before))
    → (before : List Step) → Deepens bound true (example.repeated_with known f before) (example.repeated_with known g before)
repeated_with known R before = do
  same (key (codes "REPEAT"))
  body ← orders_with known R _
  same (maybe (codes "END-REPEAT"))
  same pure

repeat : (known : List (List ℕ)) (m n : ℕ) → m ≤ n → (before : List Step) → Deepens (levels_of Nesting) true (example.repeat known m before) (example.repeat known n before)
unfolding example.repeat
repeat known zero zero h before = same too_deep
repeat known zero (suc n) h before = one_more Nesting (is_key (codes "REPEAT")) (laws.◌>>=◌ (law.orders known n _) (λ body. laws.◌>>◌ (maybe (codes "END-REPEAT")) pure))
repeat known (suc m) zero h before = absurd (omega (arith, h))
repeat known (suc m) (suc n) h before = repeated_with known (repeat known m n (omega (arith, h))) before

pub orders : (known : List (List ℕ)) (m n : ℕ) → m ≤ n → (before : List Step) → Deepens (levels_of Nesting) true (example.orders known m before) (example.orders known n before)
orders known m n h = orders_with known (repeat known m n h)
