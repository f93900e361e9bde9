use Rattle.std.proofs.Common.{◌≡◌, ◌∙◌, rules, subst}
use Rattle.hb_tables.specs.declared.desk.TypeAnswer.{TypeAnswer}
use Rattle.hb_tables.specs.declared.desk.TypeAnswer.TheVariants as typed
use Rattle.hb_tables.specs.Answers.{TypeAdds}
use Rattle.hb_eval.proofs.KeepingLemmas.{stays_retyped}
use Rattle.hb_trials.specs.Desks.{HoldSame}
use Rattle.hb_trials.proofs.HoldLemmas.{type_left, type_same, ready_on}
use Rattle.hb_trials.proofs.desks.give_type.Goals as goal

pub returns-then-eq : goal.returns-then-eq
returns-then-eq g c =
    let was = g.D.Desk.fixed c.args.desk.now in let old = g.D.Desk.front c.args.desk.now in let door = g.D.Desk.fixed c.set_type-answer.new.self in let new = g.D.Desk.front c.set_type-answer.new.self in
    let adds : TypeAdds was.caller old new c.in_ok-key.key c.args.site c.set_type-answer.result = rw (c.reserve.ensures.fixed, c.reserve.ensures.front) at c.set_type-answer.ensures.entry in
    let is : door ≡ was = c.set_type-answer.ensures.fixed ∙ c.reserve.ensures.fixed in
    let held : HoldSame was door old new = type_same was door old new c.in_ok-key.key c.args.site c.set_type-answer.result is adds in
    let done : c.set_type-answer.result ≡ typed.Done = search rules in
    let entry : TypeAdds was.caller old new c.in_ok-key.key c.args.site typed.Done = subst (λ (answer : TypeAnswer). TypeAdds was.caller old new c.in_ok-key.key c.args.site answer) done adds in
    record {
      held = held;
      ready = ready_on c.args.prog.now _ _ _ _ _ was door old new _ _ c.key.ensures.kept c.in_ok-key.ensures.asked is held
          (stays_retyped was.caller old new c.in_ok-key.key c.args.site _ _ entry c.drop_type.ensures.each);
    }

pub returns-else-eq : goal.returns-else-eq
returns-else-eq g c =
    let was = g.D.Desk.fixed c.args.desk.now in let old = g.D.Desk.front c.args.desk.now in let door = g.D.Desk.fixed c.set_type-answer.new.self in let new = g.D.Desk.front c.set_type-answer.new.self in
    let adds : TypeAdds was.caller old new c.in_ok-key.key c.args.site c.set_type-answer.result = rw (c.reserve.ensures.fixed, c.reserve.ensures.front) at c.set_type-answer.ensures.entry in
    let is : door ≡ was = c.set_type-answer.ensures.fixed ∙ c.reserve.ensures.fixed in
    let held : HoldSame was door old new = type_same was door old new c.in_ok-key.key c.args.site c.set_type-answer.result is adds in
    let other : c.set_type-answer.result ≡ typed.Done → ⊥ = search rules in
    record {
      held = held;
      ready = ready_on c.args.prog.now _ _ _ _ _ was door old new _ _ c.key.ensures.kept c.in_ok-key.ensures.asked is held (type_left was.caller old new c.in_ok-key.key c.args.site c.set_type-answer.result _ other adds);
    }
