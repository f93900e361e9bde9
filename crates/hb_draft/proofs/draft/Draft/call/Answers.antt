use Rattle.std.proofs.Common.{◌+◌, ◌∙◌, ap, arith}
use Rattle.std.proofs.lemmas.Result.{on_ok_weaker}
use Rattle.hb_draft.specs.{Put.last_nodes, Unfinished.Unfinished, Unfinished.call_over}
use Rattle.hb_draft.proofs.{Steps.enough_nodes, Steps.call_can, Steps.call_puts, MadeLemmas.node-made}
use Rattle.hb_draft.proofs.draft.Draft.call.Goals as goal

pub on_top-receiver-requires : goal.on_top-receiver-requires
on_top-receiver-requires c = omega (arith, enough_nodes c.args.self.now (c.args.count + 1) c.requires.parts)

pub last_of-requires : goal.last_of-requires
last_of-requires c = rw (c.deref.ensures.value, ap (λ (d : Unfinished). d.nodes) c.self.view_is) (omega (arith, enough_nodes c.args.self.now (c.args.count + 1) c.requires.parts))

pub put-requires-clause-over : goal.put-requires-clause-over
put-requires-clause-over c =
    rw c.placed.ensures (call_can c.args.self.now c.args.place c.requires.room c.on_top-receiver.result c.args.name c.arg_list-args.result c.args.count c.requires.parts c.on_top-receiver.ensures
    (c.arg_list-args.ensures.args ∙ c.last_of.ensures ∙ ap (last_nodes c.args.count) (c.deref.ensures.value ∙ ap (λ (d : Unfinished). d.nodes) c.self.view_is)) c.arg_list-args.ensures.form c.requires.name)

pub returns-clause-put : goal.returns-clause-put
returns-clause-put c =
    on_ok_weaker c.put.result (λ h. call_puts c.args.self.now c.put.new.self c.args.place c.on_top-receiver.result c.args.name c.arg_list-args.result c.args.count c.requires.parts c.on_top-receiver.ensures
    (c.arg_list-args.ensures.args ∙ c.last_of.ensures ∙ ap (last_nodes c.args.count) (c.deref.ensures.value ∙ ap (λ (d : Unfinished). d.nodes) c.self.view_is)) (rw c.placed.ensures at h)) c.put.ensures

pub returns-clause-made : goal.returns-clause-made
returns-clause-made c = on_ok_weaker c.put.result (node-made c.args.self.now c.put.new.self c.args.place (call_over c.args.name.0 c.args.count)) (returns-clause-put c)
