use Rattle.std.proofs.Common.{◌<◌, ◌∙◌, ap, length}
use Rattle.hb_tree.proofs.{Pages.wrote, Pages.wrote_last, FormLemmas.all_taken, FormLemmas.parameters-some}
use Rattle.hb_tree.specs.Canon.{parameters_of}
use Rattle.hb_tree.proofs.words.push_parameters.Goals as goal

pub push_names-requires : goal.push_names-requires
push_names-requires c = all_taken (λ x. x.0) (λ x. x < length c.args.prog.now.names) _ c.body-body.ensures.meets.params.known

pub returns : goal.returns
returns c =
    rw (ap (parameters_of c.args.prog.now) c.body-body.ensures.value ∙ parameters-some c.args.prog.now c.body-body.result)
    (wrote_last _ _ _ _ _ (wrote _ _ _ c.in_ok-joined_paren.ensures c.in_ok-push_names.ensures) c.mark.ensures)
