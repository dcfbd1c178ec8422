-- That no EXIT is among statements is tested by parts.
use Rattle.std.proofs.Common.{ℕ, refl}
use Rattle.struct_form.specs.Structured.{exitless_step, exitless_arms, exitless_when}
use Rattle.grammar_laws.proofs.short_lists_lemmas.Passing.{Fold, IsByParts}

abbrev pub exitless_fold : Fold
exitless_fold = record { stmt = exitless_step; arms = exitless_arms; when = exitless_when }

pub exitless-by-parts : (bound : ℕ) → IsByParts bound exitless_fold
exitless-by-parts bound =
    record {
      display = λ items advance. refl;
      move = λ from to. refl;
      set_true = λ place. refl;
      opens = λ openings. refl;
      closes = λ files. refl;
      write = λ entry from. refl;
      rewrite = λ entry from. refl;
      go = λ to. refl;
      go_depending = λ to on few. refl;
      next_sentence = refl;
      stop_run = refl;
      exit_paragraph = refl;
      exit_section = refl;
      exit_perform = λ cycle. refl;
      continues = refl;
      perform = λ entry exit control. refl;
      arith = λ calc into arms. refl;
      read = λ file into arms. refl;
      if_else = λ cond met unmet. refl;
      loop = λ control body. refl;
      evaluate = λ subject whens other. refl;
      both_arms = λ first second. refl;
      one_when = λ tests held. refl;
    }
