-- What lowering asks of a statement. What is in it is asked of what cutting leaves of it.
use Rattle.std.specs.Prelude.{Bool, true, false, if◌then◌else◌}
use Rattle.control_flow_theory.specs.language.Language.{Stmt, Stmts, Arms}
use Rattle.control_flow_theory.specs.lowering.FlowFacts.{FlowFacts}
use Rattle.control_flow_theory.specs.lowering.Completes.{completes, complete, choice_completes, leaves_loop, leave_loop, arms_leave_loop, cut, cuts, cut_arms, whole, wholes, whole_arms, leaves_sentence, leave_sentence, arms_leave_sentence}
use Rattle.program_facts.specs.declared.completion.facts.Facts.{Facts}

module _ (told : FlowFacts) where
  -- what is asked of a statement: whether control comes to what follows it, whether it leaves its
  -- loop, whether it is without an escape, and whether it leaves its sentence
  abbrev pub facts_of : Stmt → Facts
  facts_of stmt = record {
    completes = completes told stmt;
    leaves_loop = leaves_loop told stmt;
    whole = whole (cut told stmt);
    leaves_sentence = leaves_sentence (cut told stmt);
  }

  -- the same of statements in order
  abbrev pub facts_of_all : Stmts → Facts
  facts_of_all stmts = record {
    completes = complete told stmts;
    leaves_loop = leave_loop told stmts;
    whole = wholes (cuts told stmts);
    leaves_sentence = leave_sentence (cuts told stmts);
  }

  -- the facts of the arms of a choice; where the first is dead, that it is missing lets nothing
  -- through
  abbrev pub facts_of_arms : Bool → Arms → Facts
  facts_of_arms first_is_dead arms = record {
    completes = choice_completes told first_is_dead arms;
    leaves_loop = arms_leave_loop told arms;
    whole = whole_arms (cut_arms told arms);
    leaves_sentence = arms_leave_sentence (cut_arms told arms);
  }

-- How they are put together.

-- the facts of no statement, and of one that acts
abbrev pub acting : Facts
acting = record { completes = true; leaves_loop = false; whole = true; leaves_sentence = false }

-- the facts of no arm
abbrev pub no_arms : Facts
no_arms = record { completes = false; leaves_loop = false; whole = true; leaves_sentence = false }

-- the facts of a PERFORM without a loop, whose range returns or doesn't, and of STOP RUN
abbrev pub performing : Bool → Facts
performing returns =
    record { completes = returns; leaves_loop = false; whole = true; leaves_sentence = false }

-- the facts of an escape that leaves no sentence and no loop
abbrev pub escaping : Bool → Facts
escaping completes =
    record { completes = completes; leaves_loop = false; whole = false; leaves_sentence = false }

-- the facts of NEXT SENTENCE
abbrev pub leaving_sentence : Facts
leaving_sentence =
    record { completes = false; leaves_loop = false; whole = false; leaves_sentence = true }

-- the facts of EXIT PERFORM
abbrev pub leaving_loop : Facts
leaving_loop =
    record { completes = false; leaves_loop = true; whole = false; leaves_sentence = false }

-- one of them, or both
abbrev pub beside : Facts → Facts → Facts
beside arm others = record {
  completes = if arm.completes then true else others.completes;
  leaves_loop = if arm.leaves_loop then true else others.leaves_loop;
  whole = if arm.whole then others.whole else false;
  leaves_sentence = if arm.leaves_sentence then true else others.leaves_sentence;
}

-- one after the other
abbrev pub both : Facts → Facts → Facts
both first next = record (beside first next) { completes = next.completes }

-- the facts of one thing after another; after what can't complete there is nothing
abbrev pub behind : Facts → Facts → Facts
behind first next = if first.completes then both first next else first

-- a missing arm before others
abbrev pub missing_arm : Bool → Facts → Facts
missing_arm is_dead others =
    if is_dead then others else record others { completes = true }

-- a loop over a body
abbrev pub looped : Bool → Facts → Facts
looped after body = record {
  completes = if after then (if body.completes then true else body.leaves_loop) else true;
  leaves_loop = false;
  whole = body.whole;
  leaves_sentence = body.leaves_sentence;
}
