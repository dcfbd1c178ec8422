-- What a test of one word tells of the words.
use Rattle.std.proofs.Common.{◌≡◌, ℕ, ◌<◌, ◌≤◌, List, [], ◌∷◌, length, get_or, Option, ap, arith, ◌∙◌}
use Rattle.std.specs.Prelude.{map}
use Rattle.restructure_asks.specs.declared.ask.Ask.{Ask}
use Rattle.restructure_asks.specs.Ask.{ask_of, ask_of_word, ask_of_two, steps_of}

module _ {Word : Type 0} (bytes_of : Word → List ℕ) where
  pub one-asked : (words : List Word) (word : Word) (shown : List ℕ) (asked : Option Ask) → 1 ≤ length words → length words < 2 → word ≡ get_or words 0 word → shown ≡ bytes_of word → asked ≡ ask_of_word shown → asked ≡ ask_of (map bytes_of words)
  one-asked [] word shown asked some few is same answer = absurd (omega (arith, some))
  one-asked (x ∷ []) word shown asked some few is same answer = answer ∙ ap ask_of_word (same ∙ ap bytes_of is)
  one-asked (x ∷ y ∷ ys) word shown asked some few is same answer = absurd (let long : length (x ∷ y ∷ ys) < 2 = few in omega (arith, long))

  pub two-asked : (words : List Word) (first second : Word) (word other : List ℕ) (asked : Option Ask) → 2 ≤ length words → length words < 3 → first ≡ get_or words 0 first → second ≡ get_or words 1 second → word ≡ bytes_of first → other ≡ bytes_of second → asked ≡ ask_of_two word other → asked ≡ ask_of (map bytes_of words)
  two-asked [] first second word other asked some few a b p q answer = absurd (omega (arith, some))
  two-asked (x ∷ []) first second word other asked some few a b p q answer = absurd (let long : 2 ≤ length (x ∷ []) = some in omega (arith, long))
  two-asked (x ∷ y ∷ []) first second word other asked some few a b p q answer =
      answer ∙ ap (λ w. ask_of_two w other) (p ∙ ap bytes_of a) ∙ ap (λ w. ask_of_two (bytes_of x) w) (q ∙ ap bytes_of b)
  two-asked (x ∷ y ∷ z ∷ zs) first second word other asked some few a b p q answer = absurd (let long : length (x ∷ y ∷ z ∷ zs) < 3 = few in omega (arith, long))

  pub three-asked : (words : List Word) (first second third : Word) (word option number : List ℕ) (asked : Option Ask) → 3 ≤ length words → length words < 4 → first ≡ get_or words 0 first → second ≡ get_or words 1 second → third ≡ get_or words 2 third → word ≡ bytes_of first → option ≡ bytes_of second → number ≡ bytes_of third → asked ≡ steps_of word option number → asked ≡ ask_of (map bytes_of words)
  three-asked [] first second third word option number asked some few a b c p q r answer = absurd (omega (arith, some))
  three-asked (x ∷ []) first second third word option number asked some few a b c p q r answer = absurd (let long : 3 ≤ length (x ∷ []) = some in omega (arith, long))
  three-asked (x ∷ y ∷ []) first second third word option number asked some few a b c p q r answer = absurd (let long : 3 ≤ length (x ∷ y ∷ []) = some in omega (arith, long))
  three-asked (x ∷ y ∷ z ∷ []) first second third word option number asked some few a b c p q r answer =
      answer ∙ ap (λ w. steps_of w option number) (p ∙ ap bytes_of a) ∙ ap (λ w. steps_of (bytes_of x) w number) (q ∙ ap bytes_of b) ∙ ap (λ w. steps_of (bytes_of x) (bytes_of y) w) (r ∙ ap bytes_of c)
  three-asked (x ∷ y ∷ z ∷ w ∷ ws) first second third word option number asked some few a b c p q r answer = absurd (let long : length (x ∷ y ∷ z ∷ w ∷ ws) < 4 = few in omega (arith, long))
