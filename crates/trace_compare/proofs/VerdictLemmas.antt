-- What is known of two runs, by what they have shown so far.
use Rattle.std.proofs.Common.{◌≡◌, ◌∙◌, ℕ, suc, [], ◌++◌, length, Option, None, ap, append-nil, append_assoc, subst, sym}
use Rattle.control_flow_theory.specs.runs.Run.{Covers}
use Rattle.control_flow_theory.specs.semantics.Outcome.{Run, Trace}
use Rattle.trace_compare.specs.declared.compared.Compared.TheVariants as compared
use Rattle.trace_compare.specs.Differing.{Course, DifferAt, IsAnswer, SameWith, Undecided, Way, answer_from, course_of}
use Rattle.trace_compare.proofs.DifferingLemmas.{answers_from, behind, differ_still, same_still, still_open, turned_open}

-- two runs so far, and what they come to with more steps
module _ {Left : Type 0} (a a_later b b_later : Run Left) (here : Covers a a_later) (there : Covers b b_later)
    (shown first second : Trace) (one other : Option Way) (is : course_of a ≡ behind shown first one) (is_too : course_of b ≡ behind shown second other) where
  pub known_same : ((count : ℕ) → answer_from count first one second other ≡ compared.Same count) → SameWith (length shown) (course_of a_later) (course_of b_later)
  known_same answer =
      let so = subst (λ r. IsAnswer r (behind shown first one) (behind shown second other)) (answer (length shown)) (answers_from shown first one second other) in
      let first_so = subst (λ course. SameWith (length shown) course (behind shown second other)) (sym is) so in
      same_still a b a_later b_later here there (length shown)
      (subst (λ course. SameWith (length shown) (course_of a) course) (sym is_too) first_so)

  pub known_differ : ((count : ℕ) → answer_from count first one second other ≡ compared.Differ (suc count)) → DifferAt (suc (length shown)) (course_of a_later) (course_of b_later)
  known_differ answer =
      let so = subst (λ r. IsAnswer r (behind shown first one) (behind shown second other)) (answer (length shown)) (answers_from shown first one second other) in
      let first_so = subst (λ course. DifferAt (suc (length shown)) course (behind shown second other)) (sym is) so in
      differ_still a b a_later b_later here there (suc (length shown))
      (subst (λ course. DifferAt (suc (length shown)) (course_of a) course) (sym is_too) first_so)

-- one is known to its last step, and goes on; the other one showed at least as much
module _ {Left : Type 0} (a b b_later : Run Left) (there : Covers b b_later)
    (shown second : Trace) (other : Option Way) (is : course_of a ≡ behind shown [] None) (is_too : course_of b ≡ behind shown second other) where
  more_shown : b_later.trace ≡ a.trace ++ (second ++ there.shows.0)
  more_shown =
      let first : a.trace ≡ shown = ap (λ (c : Course). c.events) is ∙ append-nil shown in
      let so_far : b.trace ≡ shown ++ second = ap (λ (c : Course). c.events) is_too in
      there.shows.1 ∙ ap (λ t. t ++ there.shows.0) so_far ∙ append_assoc shown second there.shows.0 ∙ ap (λ t. t ++ (second ++ there.shows.0)) (sym first)

  pub known_open : Undecided (course_of b_later) (course_of a)
  known_open =
      still_open (course_of b_later) (course_of a) (second ++ there.shows.0) (ap (λ (c : Course). c.ended) is) more_shown

  pub known_open_too : Undecided (course_of a) (course_of b_later)
  known_open_too = turned_open (course_of b_later) (course_of a) known_open
