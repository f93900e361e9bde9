use Rattle.std.proofs.Common.{◌≤◌, length, sym, ap, ◌∙◌, subst, to_z-of_z}
use Rattle.std.specs.Fmt.{signed_decimal}
use Rattle.hb_eval.proofs.PrintLemmas.{short_int}
use Rattle.hb_eval.proofs.printed.number_text.Goals as goal

pub text_of-requires : goal.text_of-requires
text_of-requires c =
    let whole = c.as_bytes.ensures.value ∙ c.in_ok-digits.ensures.ok ∙ ap signed_decimal (to_z-of_z c.ranges.number) in
    subst (λ bytes. length bytes ≤ 1024) (sym whole) (short_int c.args.number c.ranges.number)
