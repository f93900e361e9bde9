use Rattle.std.proofs.Common.{◌≡◌, sym, ap, ◌∙◌, arith}
use Rattle.hb_call.specs.GrowthLaws.{grown_itself}
use Rattle.hb_eval.specs.declared.stop.Stop.TheVariants as stop
use Rattle.hb_eval.specs.{Calls.receiver, Machine.room, Stacks.frames_at}
use Rattle.hb_eval.proofs.{StackLemmas.frames_length, CallLemmas.call_stops, CallLemmas.call_deep, EntryLemmas.call_halts, GatheringLemmas.shares_itself}
use Rattle.hb_eval.proofs.calls.call_here.Goals as goal

pub returns-in-Err-clause-reads : goal.returns-in-Err-clause-reads
returns-in-Err-clause-reads g c =
    let old = c.args.state.now in
    let rec = ap receiver (sym c.index.ensures) ∙ sym c.receiver_class.ensures ∙ c.in-Err.is in
    call_halts _ c.args.prog.now _ _ c.args.id c.args.name.0 c.args.at c.index.result.now c.in-Err.stop c.args.frames.now.items old c.refuse.new.state c.refuse.new.state.operands c.refuse.result
    c.requires.at c.refuse.ensures.cut c.refuse.ensures.state c.refuse.ensures.value
    (λ names p few vs s. call_stops c.args.prog.now names _ c.args.id.0 c.args.name.0 _ c.in-Err.stop vs s rec)

pub returns-in-Err-clause-grown : goal.returns-in-Err-clause-grown
returns-in-Err-clause-grown g c = grown_itself _ _ _ _ _

pub returns-in-Ok-clause-reads : goal.returns-in-Ok-clause-reads
returns-in-Ok-clause-reads g c =
    let old = c.args.state.now in
    let rec = ap receiver (sym c.index.ensures) ∙ sym c.receiver_class.ensures ∙ c.in-Ok.is in
    let none : room (frames_at c.args.frames.now.items old) ≡ 0 = omega (arith, c.if-len-ge-FRAMES_MAX.true, c.len.ensures, c.args.frames.now.ok, frames_length c.args.frames.now.items old) in
    call_halts _ c.args.prog.now _ _ c.args.id c.args.name.0 c.args.at c.index.result.now stop.Deep c.args.frames.now.items old c.refuse-in-Ok.new.state c.refuse-in-Ok.new.state.operands
    c.refuse-in-Ok.result c.requires.at c.refuse-in-Ok.ensures.cut c.refuse-in-Ok.ensures.state c.refuse-in-Ok.ensures.value
    (λ names p few vs s. call_deep c.args.prog.now names (room (frames_at c.args.frames.now.items old)) c.args.id.0 c.args.name.0 _ c.in-Ok.field-0 vs s none rec)

pub returns-in-Ok-clause-grown : goal.returns-in-Ok-clause-grown
returns-in-Ok-clause-grown g c = grown_itself _ _ _ _ _

pub returns-in-Err-clause-shares : goal.returns-in-Err-clause-shares
returns-in-Err-clause-shares g c = shares_itself _ _ _ _ _

pub returns-in-Ok-clause-shares : goal.returns-in-Ok-clause-shares
returns-in-Ok-clause-shares g c = shares_itself _ _ _ _ _
