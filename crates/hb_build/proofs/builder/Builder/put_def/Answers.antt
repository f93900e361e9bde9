use Rattle.std.proofs.Common.{arith, ◌∷◌, ◌∙◌, sym, ap, subst}
use Rattle.hb_build.specs.{Acts.Answer, Answers.Answers, Sound.numbers}
use Rattle.hb_build.specs.declared.held.Held.TheVariants as held
use Rattle.hb_build.proofs.BodyLemmas.{body-top, few-params, ended-left, definition-left, hand-left}
use Rattle.hb_build.proofs.builder.Builder.put_def.Goals as goal

pub drop_top-requires : goal.drop_top-requires
drop_top-requires c =
    let t = body-top c.args.self.now c.requires.fits.1 in
    (held.Closed, held.Body ∷ t.rest, t.things_are)

pub drop_top-requires-2 : goal.drop_top-requires-2
drop_top-requires-2 c =
    let t = body-top c.args.self.now c.requires.fits.1 in
    (held.Body, t.rest, c.drop_top.ensures held.Closed (held.Body ∷ t.rest) t.things_are)

pub overflow_sub-len : goal.overflow_sub-len
overflow_sub-len c =
    let t = body-top c.args.self.now c.requires.fits.1 in
    let off = c.drop_top-2.ensures held.Body t.rest (c.drop_top.ensures held.Closed (held.Body ∷ t.rest) t.things_are) in
    let few = few-params c.args.self.now c.end_scope.new.self c.requires.fits.0 t c.drop_top-2.new.held off c.end_scope.ensures.outer c.end_scope.ensures.rest c.deref.result.now
    c.deref.ensures.value c.in_ok-params.params.items c.in_ok-params.ensures in
    omega (arith, few, c.len.ensures, c.len-2.ensures, c.deref.ensures.len, c.in_ok-params.params.ok.0)

pub define-requires : goal.define-requires
define-requires c =
    let t = body-top c.args.self.now c.requires.fits.1 in
    let off = c.drop_top-2.ensures held.Body t.rest (c.drop_top.ensures held.Closed (held.Body ∷ t.rest) t.things_are) in
    record {
      ended = ended-left c.args.self.now c.end_scope.new.self c.requires.fits.0 t c.drop_top-2.new.held off c.end_scope.ensures.outer c.end_scope.ensures.rest c.deref.result.now
          c.deref.ensures.value c.deref-2.result.now (ap numbers c.deref-2.ensures.value ∙ c.in_ok-params.ensures)
          c.truncate.new.self c.len.result c.len-2.result c.saturating_sub-self.result (c.len.ensures ∙ sym c.deref.ensures.len)
          (c.len-2.ensures ∙ sym c.deref-2.ensures.len) c.truncate.ensures.items c.saturating_sub-self.ensures;
    }

pub returns : goal.returns
returns c =
    let t = body-top c.args.self.now c.requires.fits.1 in
    let off = c.drop_top-2.ensures held.Body t.rest (c.drop_top.ensures held.Closed (held.Body ∷ t.rest) t.things_are) in
    let is = definition-left c.args.self.now c.end_scope.new.self c.requires.fits.0 t c.drop_top-2.new.held off c.end_scope.ensures.outer c.end_scope.ensures.rest c.deref.result.now
    c.deref.ensures.value c.deref-2.result.now (ap numbers c.deref-2.ensures.value ∙ c.in_ok-params.ensures)
    c.truncate.new.self c.len.result c.len-2.result c.saturating_sub-self.result (c.len.ensures ∙ sym c.deref.ensures.len)
    (c.len-2.ensures ∙ sym c.deref-2.ensures.len) c.truncate.ensures.items c.saturating_sub-self.ensures in
    let hand = hand-left c.args.self.now c.end_scope.new.self c.requires.fits.0 t c.drop_top-2.new.held off c.end_scope.ensures.outer c.end_scope.ensures.rest c.deref.result.now
    c.deref.ensures.value c.deref-2.result.now (ap numbers c.deref-2.ensures.value ∙ c.in_ok-params.ensures)
    c.truncate.new.self c.len.result c.len-2.result c.saturating_sub-self.result (c.len.ensures ∙ sym c.deref.ensures.len)
    (c.len-2.ensures ∙ sym c.deref-2.ensures.len) c.truncate.ensures.items c.saturating_sub-self.ensures in
    subst (λ (x : Answer). Answers x c.define.result c.define.new.self) (sym is) (c.define.ensures t.block t.others hand)
