use Rattle.std.proofs.Common.{ap, refl, arith, ℕ, List, ◌-◌, Bor}
use Rattle.std.specs.Prelude.{bytes_eq}
use Rattle.std.specs.Option.{option_map}
use Rattle.hb_types.specs.declared.ids.ClassId.{ClassId}
use Rattle.hb_deriv_text.specs.Reading.{is_word}
use Rattle.hb_deriv_text.proofs.IndexLemmas.{inserted}
use Rattle.hb_deriv_text.proofs.maps.classes.Goals as goal

pub loop-i-preserved : goal.loop-i-preserved
loop-i-preserved c =
    inserted (λ (v w : Bor (List ℕ)). bytes_eq v.now w.now) (λ (x : ClassId). x.0) (λ (w : List ℕ). w) (λ (k : Bor (List ℕ)) w. is_word k.now w) c.args.prog.now.classes (c.loop-i.i - 1) c.loop-i.i
    c.class_name.result.now (ap (option_map (λ (w : List ℕ). w)) c.class_name.ensures.value) (omega (arith, c.loop-i-test.true)) c.loop-i.found c.insert.new.self c.class_name.result _
    (λ k. refl) refl c.in_ok-insert.ensures.updates c.loop-i.invariant
