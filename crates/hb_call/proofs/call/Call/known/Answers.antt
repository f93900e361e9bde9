use Rattle.std.proofs.Common.{sym, ap, ◌∙◌}
use Rattle.hb_call.specs.Calling.{held_among}
use Rattle.hb_call.proofs.CallingLemmas.{among_first, among_later}
use Rattle.hb_call.proofs.call.Call.known.Goals as goal

pub returns-in-Some : goal.returns-in-Some
returns-in-Some g c =
    let s = c.args.self.now in
    sym (among_first s.compared.now.items s.answers.now.items c.args.key.0 c.in-Some.held (sym c.in-Some.is ∙ c.found.ensures ∙ ap (λ l. held_among l c.args.key.0) c.deref.ensures.value))

pub returns-in-None : goal.returns-in-None
returns-in-None g c =
    let s = c.args.self.now in
    c.found-in-None.ensures ∙ ap (λ l. held_among l c.args.key.0) c.deref-in-None.ensures.value
    ∙ sym (among_later s.compared.now.items s.answers.now.items c.args.key.0 (sym c.in-None.is ∙ c.found.ensures ∙ ap (λ l. held_among l c.args.key.0) c.deref.ensures.value))
