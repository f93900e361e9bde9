use Rattle.std.proofs.Common.{ap, ◌∙◌}
use Rattle.hb_names.specs.Names.{place}
use Rattle.hb_call.proofs.EnteringLemmas.{bytes_found}
use Rattle.hb_eval.proofs.calls.is_placed.Goals as goal

pub returns-in-Ok-clause-placed : goal.returns-in-Ok-clause-placed
returns-in-Ok-clause-placed g c =
    (c.in-Ok.field-0.0, ap (λ bytes. place (g.N.Names.known c.key.new.self) (c.args.class.0, bytes)) (bytes_found c.args.prog.now.names c.args.name.0 c.name.result.now c.name.ensures.value) ∙ c.in-Ok.ensures.key)
