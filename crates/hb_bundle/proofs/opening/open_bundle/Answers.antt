use Rattle.hb_bundle.specs.declared.opening.Opened.{Opened}
use Rattle.hb_bundle.proofs.OpeningLemmas.{is_opened, is_none}
use Rattle.hb_bundle.proofs.opening.open_bundle.Goals as goal

pub returns-clause-some : goal.returns-clause-some
returns-clause-some c = is_opened (λ (o : Opened). (o.text.now, o.rest.now)) c.split_bundle.result c.args.bytes.now c.split_bundle.ensures

pub returns-clause-none : goal.returns-clause-none
returns-clause-none c e = is_none (λ (o : Opened). (o.text.now, o.rest.now)) c.split_bundle.result c.args.bytes.now c.split_bundle.ensures e
