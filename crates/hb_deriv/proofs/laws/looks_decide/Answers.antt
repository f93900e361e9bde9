use Rattle.std.proofs.Common.{[], sym, ap}
use Rattle.hb_deriv.specs.Events.{Events, fresh}
use Rattle.hb_deriv.proofs.LookLemmas.{looks_alike, judged_alike, fails_alike}
use Rattle.hb_deriv.proofs.laws.looks_decide.Goals as goal

pub returns : goal.returns
returns c = record {
  looks = λ t u s h. ap (λ (es : Events). fresh [] es) (looks_alike t u s h).events;
  computed = λ t u s h. (looks_alike t u s h).verdict;
  events = λ t u s h. (looks_alike t u s h).events;
  judged = λ t u s h. let e = (looks_alike t u s h).verdict in (judged_alike t u s e, judged_alike u t s (sym e));
  fails = λ t u s f h. let e = (looks_alike t u s h).verdict in (fails_alike t u s f e, fails_alike u t s f (sym e));
}
