use Rattle.std.proofs.Common.{sym, ap, subst, arith}
use Rattle.hb_row.specs.declared.view.View.{View}
use Rattle.hb_trials_row.specs.Asking.{AreSeatsOf}
use Rattle.hb_trials_row.proofs.GatheringLemmas.{four_seats}
use Rattle.hb_trials_row.proofs.threads.count_of_four.Goals as goal

pub ask_each-seats-requires-after_bounds : goal.ask_each-seats-requires-after_bounds
ask_each-seats-requires-after_bounds g c κs within =
    let two = c.fork-second.ensures in let three = c.fork-third.ensures in let four = c.fork-fourth.ensures in
    let made_one = ap (λ (v : View). v.made) c.in_ok-row.ensures.view in
    let made_two = ap (λ (v : View). v.made) two.view in let made_three = ap (λ (v : View). v.made) three.view in
    let whose_one = ap (λ (v : View). v.caller) c.in_ok-row.ensures.view in let whose_two = ap (λ (v : View). v.caller) two.view in
    let whose_three = ap (λ (v : View). v.caller) three.view in let whose_four = ap (λ (v : View). v.caller) four.view in
    let caller_two = ap (λ (v : View). v.caller) two.new_view in let caller_three = ap (λ (v : View). v.caller) three.new_view in let caller_four = ap (λ (v : View). v.caller) four.new_view in
    let sits_one = four.seat.caller in let sits_two = two.new_seat.caller in let sits_three = three.new_seat.caller in let sits_four = four.new_seat.caller in
    subst (AreSeatsOf _) (sym c.in_ok-seats.ensures.items) (four_seats _ _ _ _ _
    (four.seat, omega (arith, whose_one, whose_two, whose_three, whose_four, sits_one))
    (two.new_seat, omega (arith, made_one, caller_two, sits_two))
    (three.new_seat, omega (arith, made_one, made_two, caller_three, sits_three))
    (four.new_seat, omega (arith, made_one, made_two, made_three, caller_four, sits_four)))
