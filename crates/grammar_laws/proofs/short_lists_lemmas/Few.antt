-- That each GO TO DEPENDING names few paragraphs is tested by parts.
use Rattle.std.proofs.Common.{◌<◌, ◌^◌, ℕ, length, refl, arith}
use Rattle.std.proofs.lemmas.Bool.{lt-ltb}
use Rattle.cobol_theory.specs.fit_programs.Fit.{few_step, few_arms, few_when}
use Rattle.grammar_laws.proofs.short_lists_lemmas.Passing.{Fold, IsByParts}

abbrev pub few_fold : Fold
few_fold = record { stmt = few_step; arms = few_arms; when = few_when }

-- one name more than there are tokens is few
pub few-by-parts : (bound : ℕ) → bound < 10 ^ 18 → IsByParts bound few_fold
few-by-parts bound small =
    record {
      display = λ items advance. refl;
      move = λ from to. refl;
      set_true = λ place. refl;
      opens = λ openings. refl;
      closes = λ files. refl;
      write = λ entry from. refl;
      rewrite = λ entry from. refl;
      go = λ to. refl;
      go_depending = λ to on few. lt-ltb (length to) (10 ^ 18) (omega (arith, few, small));
      next_sentence = refl;
      stop_run = refl;
      exit_paragraph = refl;
      exit_section = refl;
      exit_perform = λ cycle. refl;
      continues = refl;
      perform = λ entry exit control. refl;
      arith = λ calc into arms. refl;
      read = λ file into arms. refl;
      if_else = λ cond met unmet. refl;
      loop = λ control body. refl;
      evaluate = λ subject whens other. refl;
      both_arms = λ first second. refl;
      one_when = λ tests held. refl;
    }
