-- What stays over one step stays over several.
use Rattle.std.proofs.Common.{◌≡◌, List, [], refl, ◌∙◌, subst, append-nil}
use mathlib.Core.List.{IsPrefix}
use Rattle.hb_names.specs.Names.{Name}
use Rattle.hb_tables.specs.declared.entry.Entry.{Entry}
use Rattle.hb_tables.specs.{Answers.Fixed, History.IsLegal}
use Rattle.hb_eval.specs.Staying.{Stays}
use Rattle.hb_eval.proofs.TurnLemmas.{prefix_on}

pub prefix_itself : {A : Type 0} (a : List A) → IsPrefix a a
prefix_itself a = ([], append-nil a)

pub stays_itself : (door : Fixed) (log : List Entry) (names : List Name) → Stays door door log log names names
stays_itself door log names = record {
  fixed = refl;
  kept = prefix_itself log;
  legal = λ h. h;
  named = prefix_itself names;
  few = λ h. h;
  differ = λ h. h;
}

pub stays_on : (a b c : Fixed) (x y z : List Entry) (m n o : List Name) → Stays a b x y m n → Stays b c y z n o → Stays a c x z m o
stays_on a b c x y z m n o p q = record {
  fixed = q.fixed ∙ p.fixed;
  kept = prefix_on x y z p.kept q.kept;
  legal = λ h. subst (λ (d : Fixed). IsLegal d.limit y → IsLegal d.limit z) p.fixed q.legal (p.legal h);
  named = prefix_on m n o p.named q.named;
  few = λ h. q.few (p.few h);
  differ = λ h. q.differ (p.differ h);
}

-- no name comes
pub stays_apart : (door later : Fixed) (was now : List Entry) (names : List Name) → later ≡ door → IsPrefix was now → (IsLegal door.limit was → IsLegal door.limit now) → Stays door later was now names names
stays_apart door later was now names fixed kept legal = record {
  fixed = fixed;
  kept = kept;
  legal = legal;
  named = prefix_itself names;
  few = λ h. h;
  differ = λ h. h;
}
