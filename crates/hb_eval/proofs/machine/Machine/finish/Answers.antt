use Rattle.std.proofs.Common.{ap, ◌∙◌}
use Rattle.hb_eval.specs.declared.stop.Outcome.{Outcome}
use Rattle.hb_eval.specs.Told.{Told}
use Rattle.hb_eval.proofs.RunLemmas.{finished}
use Rattle.hb_eval.proofs.machine.Machine.finish.Goals as goal

pub returns : goal.returns
returns c = record {
  run = λ t known names block steps done s p few.
      let m = c.args.self in
      let f = finished t known names block steps done m c.requires.ended s p few in
      let told : Outcome → Told = λ o. record { caller = m.caller.0; outcome = o; output = m.state.output.items; calls = m.state.decided; own = m.state.own; shared = 0; fresh = m.state.fresh } in
      record { run = f.run; reads = f.reads; tells = ap told c.outcome.ensures ∙ f.tells; acts = f.acts; begun = f.begun; journal = f.journal };
}
