use Rattle.control_flow_theory.specs.language.Language.{Main, Part}
use Rattle.control_flow_theory.proofs.lowering_lemmas.flow.Linked.{family-keeps, family-main-sound, family-part-sound, numbered-keeps, numbered-sound}
use Rattle.control_flow_theory.proofs.lowering.lowered_family_keeps_meaning.Goals as goal

pub returns-clause-meaning : goal.returns-clause-meaning
returns-clause-meaning g c = family-keeps

pub returns-clause-sound : goal.returns-clause-sound
returns-clause-sound g c = λ acting left told program keep is_told source some returning not_faulty reached.
    (family-main-sound acting left told program keep is_told source some returning not_faulty reached, family-part-sound acting left told program keep is_told source some returning not_faulty reached)

pub returns-clause-numbered : goal.returns-clause-numbered
returns-clause-numbered g c =
    λ acting left told program keep numbers is_told source some returning not_faulty reached apart. (
      numbered-keeps acting left told program keep is_told source some returning not_faulty reached numbers apart,
      numbered-sound acting left told program keep is_told source some returning not_faulty reached numbers apart Main (family-main-sound acting left told program keep is_told source some returning not_faulty reached),
      λ e x p.
          numbered-sound acting left told program keep is_told source some returning not_faulty reached numbers apart (Part e x) (family-part-sound acting left told program keep is_told source some returning not_faulty reached e x p),
    )
