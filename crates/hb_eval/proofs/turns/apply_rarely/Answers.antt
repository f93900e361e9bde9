use Rattle.std.proofs.Common.{refl}
use Rattle.hb_eval.proofs.ApplyLemmas.{named_turned, nothing_kept, on_ok, quiet_turned}
use Rattle.hb_eval.proofs.turns.apply_rarely.Goals as goal

pub returns-in_ok-method-in-Method-clause-turned : goal.returns-in_ok-method-in-Method-clause-turned
returns-in_ok-method-in-Method-clause-turned g c frames =
    let t = c.args.prog.now in
    let ok = c.in_ok-method-in-Method in
    rw c.in-Method.is (named_turned t _ _ _ _ c.in-Method.id frames c.args.state.now c.method.new.state ok.field-0 _ _ c.take.result c.take.ensures.took ok.ensures.acts (ok.ensures.keeps t) ok.ensures.plain ok.ensures.light c.method.ensures.still (ok.ensures.known t))

pub returns-in_ok-method-in-Method-clause-own : goal.returns-in_ok-method-in-Method-clause-own
returns-in_ok-method-in-Method-clause-own g c = on_ok c.take.result _ (c.in_ok-method-in-Method.ensures.own c.args.prog.now)

pub returns-in_ok-print_value-in-Print-clause-turned : goal.returns-in_ok-print_value-in-Print-clause-turned
returns-in_ok-print_value-in-Print-clause-turned g c frames =
    let ok = c.in_ok-print_value-in-Print in
    rw c.in-Print.is (quiet_turned c.args.prog.now _ _ _ _ frames c.args.state.now c.print_value.new.state ok.field-0 _ _ c.take-in-Print.result c.take-in-Print.ensures.took (refl, refl) ok.ensures.moves ok.ensures.plain ok.ensures.light c.print_value.ensures.steady (ok.ensures.known c.requires.known))

pub returns-in_ok-to_text-in-ToStr-clause-turned : goal.returns-in_ok-to_text-in-ToStr-clause-turned
returns-in_ok-to_text-in-ToStr-clause-turned g c frames =
    let ok = c.in_ok-to_text-in-ToStr in
    rw c.in-ToStr.is (quiet_turned c.args.prog.now _ _ _ _ frames c.args.state.now c.to_text.new.state ok.field-0 _ _ c.take-in-ToStr.result c.take-in-ToStr.ensures.took (refl, refl) ok.ensures.moves ok.ensures.plain ok.ensures.light c.to_text.ensures.steady (ok.ensures.known c.requires.known))

pub returns-in_ok-print_value-in-Print-clause-own : goal.returns-in_ok-print_value-in-Print-clause-own
returns-in_ok-print_value-in-Print-clause-own g c = nothing_kept c.args.prog.now _ _ _ _ _ _ c.take-in-Print.result c.print_value.ensures.steady.cache

pub returns-in_ok-to_text-in-ToStr-clause-own : goal.returns-in_ok-to_text-in-ToStr-clause-own
returns-in_ok-to_text-in-ToStr-clause-own g c = nothing_kept c.args.prog.now _ _ _ _ _ _ c.take-in-ToStr.result c.to_text.ensures.steady.cache
