-- Words are an ask exactly where they are its own.
use Rattle.std.proofs.Common.{◌≡◌, ℕ, List, [], ◌∷◌, Option, Some, None, refl, ap, ◌∙◌, subst, Bool, true, false}
use Rattle.std.specs.Prelude.{codes, if◌then◌else◌, option_map}
use Rattle.std.specs.Str.{bytes_eq}
use Rattle.std.proofs.lemmas.Slice.Eq.{bytes_eq-Decides}
use Rattle.restructure_asks.specs.declared.ask.Ask.{Ask}
use Rattle.restructure_asks.specs.declared.ask.Ask.TheVariants.{Restructure, Report, Check, Run, Compare, Generate, Trial}
use Rattle.restructure_asks.specs.Ask.{ask_of, ask_of_word, ask_of_two, report_of, generate_of, trial_of, steps_of, run_of, compare_of, number_of, program_number}
use Rattle.restructure_asks.specs.Laws.{AreWordsOf, WordsAreOfTheirAsk}

-- ---- which words an ask was found for

abbrev Found : Option Ask → List (List ℕ) → Type 0
Found None words = Unit {0}
Found (Some ask) words = AreWordsOf ask words

is-word : (word other : List ℕ) → bytes_eq word other ≡ true → word ≡ other
is-word word other h = (bytes_eq-Decides word other).0 h

found-word : (word : List ℕ) → Found (ask_of_word word) (word ∷ [])
found-word word = by-tests (bytes_eq word (codes "restructure")) (bytes_eq word (codes "check")) (is-word word _) (is-word word _) where
  by-tests : (a b : Bool) → (a ≡ true → word ≡ codes "restructure") → (b ≡ true → word ≡ codes "check") → Found (if a then Some Restructure else if b then Some Check else None) (word ∷ [])
  by-tests true b first second = ap (λ w. w ∷ []) (first refl)
  by-tests false true first second = ap (λ w. w ∷ []) (second refl)
  by-tests false false first second = tt

found-report : (word option : List ℕ) → word ≡ codes "restructure" → Found (report_of option) (word ∷ option ∷ [])
found-report word option is = by-test (bytes_eq option (codes "--report")) (is-word option _) where
  by-test : (a : Bool) → (a ≡ true → option ≡ codes "--report") → Found (if a then Some Report else None) (word ∷ option ∷ [])
  by-test true first = ap (λ w. w ∷ option ∷ []) is ∙ ap (λ o. codes "restructure" ∷ o ∷ []) (first refl)
  by-test false first = tt

found-generate : (word number : List ℕ) → word ≡ codes "generate" → Found (generate_of number) (word ∷ number ∷ [])
found-generate word number is = by-number (program_number number) refl where
  by-number : (found : Option ℕ) → program_number number ≡ found → Found (option_map (λ n. Generate n) found) (word ∷ number ∷ [])
  by-number None e = tt
  by-number (Some n) e = (number, ap (λ w. w ∷ number ∷ []) is, e)

found-trial : (word number : List ℕ) → word ≡ codes "trial" → Found (trial_of number) (word ∷ number ∷ [])
found-trial word number is = by-number (program_number number) refl where
  by-number : (found : Option ℕ) → program_number number ≡ found → Found (option_map (λ n. Trial n) found) (word ∷ number ∷ [])
  by-number None e = tt
  by-number (Some n) e = (number, ap (λ w. w ∷ number ∷ []) is, e)

found-two : (word other : List ℕ) → Found (ask_of_two word other) (word ∷ other ∷ [])
found-two word other = by-tests (bytes_eq word (codes "restructure")) (bytes_eq word (codes "generate")) (bytes_eq word (codes "trial")) (is-word word _) (is-word word _) (is-word word _) where
  by-tests : (a b c : Bool) → (a ≡ true → word ≡ codes "restructure") → (b ≡ true → word ≡ codes "generate") → (c ≡ true → word ≡ codes "trial") → Found (if a then report_of other else if b then generate_of other else if c then trial_of other else None) (word ∷ other ∷ [])
  by-tests true b c first second third = found-report word other (first refl)
  by-tests false true c first second third = found-generate word other (second refl)
  by-tests false false true first second third = found-trial word other (third refl)
  by-tests false false false first second third = tt

-- an ask of three words, whose first two are these and whose third is its number
found-number : (first word option number : List ℕ) (ask : ℕ → Ask) →
    ((n : ℕ) → number_of number ≡ Some n → (words : List (List ℕ)) → words ≡ first ∷ codes "--steps" ∷ number ∷ [] → AreWordsOf (ask n) words) →
    word ≡ first → option ≡ codes "--steps" → Found (option_map ask (number_of number)) (word ∷ option ∷ number ∷ [])
found-number first word option number ask are is was = by-number (number_of number) refl where
  by-number : (found : Option ℕ) → number_of number ≡ found → Found (option_map ask found) (word ∷ option ∷ number ∷ [])
  by-number None e = tt
  by-number (Some n) e = are n e (word ∷ option ∷ number ∷ []) (ap (λ w. w ∷ option ∷ number ∷ []) is ∙ ap (λ o. first ∷ o ∷ number ∷ []) was)

found-three : (word option number : List ℕ) → Found (steps_of word option number) (word ∷ option ∷ number ∷ [])
found-three word option number = by-tests (bytes_eq option (codes "--steps")) (bytes_eq word (codes "run")) (bytes_eq word (codes "compare")) (is-word option _) (is-word word _) (is-word word _) where
  by-tests : (a b c : Bool) → (a ≡ true → option ≡ codes "--steps") → (b ≡ true → word ≡ codes "run") → (c ≡ true → word ≡ codes "compare") → Found (if a then (if b then run_of number else if c then compare_of number else None) else None) (word ∷ option ∷ number ∷ [])
  by-tests true true c first second third = found-number (codes "run") word option number (λ n. Run n) (λ n e words is. (number, is, e)) (second refl) (first refl)
  by-tests true false true first second third = found-number (codes "compare") word option number (λ n. Compare n) (λ n e words is. (number, is, e)) (third refl) (first refl)
  by-tests true false false first second third = tt
  by-tests false b c first second third = tt

found : (words : List (List ℕ)) → Found (ask_of words) words
found [] = tt
found (word ∷ []) = found-word word
found (word ∷ other ∷ []) = found-two word other
found (word ∷ option ∷ number ∷ []) = found-three word option number
found (first ∷ second ∷ third ∷ fourth ∷ others) = tt

-- ---- and for which words it is found

same-word : (word : List ℕ) → bytes_eq word word ≡ true
same-word word = (bytes_eq-Decides word word).1 refl

asked : (ask : Ask) (words : List (List ℕ)) → AreWordsOf ask words → ask_of words ≡ Some ask
asked Restructure words h = ap ask_of h
asked Report words h = ap ask_of h
asked Check words h = ap ask_of h
asked (Run steps) words h = ap ask_of h.1 ∙ ap (option_map (λ n. Run n)) h.2
asked (Compare steps) words h = ap ask_of h.1 ∙ ap (option_map (λ n. Compare n)) h.2
asked (Generate n) words h = ap ask_of h.1 ∙ ap (option_map (λ m. Generate m)) h.2
asked (Trial n) words h = ap ask_of h.1 ∙ ap (option_map (λ m. Trial m)) h.2

pub words-of-ask : WordsAreOfTheirAsk
words-of-ask words ask = ((λ h. subst (λ a. Found a words) h (found words)), (λ h. asked ask words h))
