use Rattle.std.proofs.Common.{◌-◌, ℕ, sym, drop, arith}
use Rattle.hb_row.specs.Row.{packed}
use Rattle.hb_row.proofs.PackingLemmas.{packed_zero, packed_more, packed_room}
use Rattle.hb_row.proofs.spelling.packed_word.Goals as goal

pub loop-at-init : goal.loop-at-init
loop-at-init c = record { within = omega arith; word = sym (packed_zero (drop 8 c.args.bytes.now)) }

pub overflow_mul-word : goal.overflow_mul-word
overflow_mul-word c = let i = c.loop-at.invariant in let t = c.loop-at-test.true in let e = i.word in
    let room = packed_room (8 - c.loop-at.at) c.loop-at.at c.args.bytes.now (omega arith) (λ k. (let f = c.type_inv.bytes k in omega (arith, f))) in omega (arith, e, room)

pub overflow_add-word : goal.overflow_add-word
overflow_add-word c = let i = c.loop-at.invariant in let t = c.loop-at-test.true in let e = i.word in
    let room = packed_room (8 - c.loop-at.at) c.loop-at.at c.args.bytes.now (omega arith) (λ k. (let f = c.type_inv.bytes k in omega (arith, f))) in
    let low = c.type_inv.bytes (c.loop-at.at - 1) in let is = c.byte_at.ensures in omega (arith, e, room, low, is)

pub loop-at-preserved : goal.loop-at-preserved
loop-at-preserved c =
    let i = c.loop-at.invariant in let t = c.loop-at-test.true in let e = i.word in let le = i.within in let is = c.byte_at.ensures in
    let at : ℕ = c.loop-at.at in let xs = c.args.bytes.now in
    let more = packed_more (8 - at) (8 - (at - 1)) (at - 1) at xs (omega arith) (omega arith) in
    record { within = omega arith; word = (let p : ℕ = packed (8 - at) (drop at xs) in omega (arith, e, is, more)) }
