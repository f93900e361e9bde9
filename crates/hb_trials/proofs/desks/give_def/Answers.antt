use Rattle.std.proofs.Common.{◌≡◌, ◌∙◌, rules, subst}
use Rattle.hb_tables.specs.declared.desk.DefAnswer.{DefAnswer}
use Rattle.hb_tables.specs.declared.desk.DefAnswer.TheVariants as defined
use Rattle.hb_tables.specs.Answers.{DefAdds}
use Rattle.hb_eval.proofs.KeepingLemmas.{stays_defined}
use Rattle.hb_trials.specs.Desks.{HoldSame}
use Rattle.hb_trials.proofs.HoldLemmas.{def_left, def_same, ready_on}
use Rattle.hb_trials.proofs.desks.give_def.Goals as goal

pub returns-then-eq : goal.returns-then-eq
returns-then-eq g c =
    let was = g.D.Desk.fixed c.args.desk.now in let old = g.D.Desk.front c.args.desk.now in let door = g.D.Desk.fixed c.set_def-answer.new.self in let new = g.D.Desk.front c.set_def-answer.new.self in
    let adds : DefAdds was.caller old new c.in_ok-key.key c.args.site c.set_def-answer.result = rw (c.reserve.ensures.fixed, c.reserve.ensures.front) at c.set_def-answer.ensures.entry in
    let is : door ≡ was = c.set_def-answer.ensures.fixed ∙ c.reserve.ensures.fixed in
    let held : HoldSame was door old new = def_same was door old new c.in_ok-key.key c.args.site c.set_def-answer.result is adds in
    let done : c.set_def-answer.result ≡ defined.Done = search rules in
    let entry : DefAdds was.caller old new c.in_ok-key.key c.args.site defined.Done = subst (λ (answer : DefAnswer). DefAdds was.caller old new c.in_ok-key.key c.args.site answer) done adds in
    record {
      held = held;
      ready = ready_on c.args.prog.now _ _ _ _ _ was door old new _ _ c.key.ensures.kept c.in_ok-key.ensures.asked is held (stays_defined was.caller old new c.in_ok-key.key c.args.site _ _ entry c.drop_def.ensures.each);
    }

pub returns-else-eq : goal.returns-else-eq
returns-else-eq g c =
    let was = g.D.Desk.fixed c.args.desk.now in let old = g.D.Desk.front c.args.desk.now in let door = g.D.Desk.fixed c.set_def-answer.new.self in let new = g.D.Desk.front c.set_def-answer.new.self in
    let adds : DefAdds was.caller old new c.in_ok-key.key c.args.site c.set_def-answer.result = rw (c.reserve.ensures.fixed, c.reserve.ensures.front) at c.set_def-answer.ensures.entry in
    let is : door ≡ was = c.set_def-answer.ensures.fixed ∙ c.reserve.ensures.fixed in
    let held : HoldSame was door old new = def_same was door old new c.in_ok-key.key c.args.site c.set_def-answer.result is adds in
    let other : c.set_def-answer.result ≡ defined.Done → ⊥ = search rules in
    record {
      held = held;
      ready = ready_on c.args.prog.now _ _ _ _ _ was door old new _ _ c.key.ensures.kept c.in_ok-key.ensures.asked is held (def_left was.caller old new c.in_ok-key.key c.args.site c.set_def-answer.result _ other adds);
    }
