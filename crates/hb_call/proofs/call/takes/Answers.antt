use Rattle.std.proofs.Common.{ℕ, take, sym, ◌∙◌, ap}
use Rattle.hb_deriv.specs.Judge.{all_below}
use Rattle.hb_tables.specs.Rows.{kinds_of}
use Rattle.hb_call.proofs.TakesLemmas.{takes_not, takes_all}
use Rattle.hb_call.proofs.call.takes.Goals as goal

pub returns-then-args-ty : goal.returns-then-args-ty
returns-then-args-ty c = sym (takes_not c.args.ty.now c.args.args.now c.requires.args c.if-args-ty.true)

pub returns : goal.returns
returns c = c.all_below.ensures ∙ ap (λ (n : ℕ). all_below (kinds_of c.args.args.now) (take n c.args.ty.now.params)) c.if-args-ty.false ∙ sym (takes_all c.args.ty.now c.args.args.now c.requires.args c.if-args-ty.false)
