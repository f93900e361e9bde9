use Rattle.std.proofs.Common.{refl, sym, ap, ◌∙◌, subst, length, List, arith}
use mathlib.Core.List.{IsPrefix}
use Rattle.hb_names.specs.Names.{Name, with_name}
use Rattle.hb_names.proofs.NameLemmas.{place-within, with_name-begins}
use Rattle.hb_row.specs.Known.{Notes, name_at}
use Rattle.hb_row.proofs.SittingLemmas.{asks, name_here}
use Rattle.hb_row.proofs.row.NameRow.key.Goals as goal

pub mark-requires : goal.mark-requires
mark-requires c = let n = ap (λ (v : Notes). length v.known) c.find.ensures.same in
    let l = place-within c.args.seat.now.names.known (c.args.class.0, c.args.name.now) c.in-Some.key.0 c.in-Some.ensures.key in omega (arith, n, l)

pub returns-in-Some-clause-seat : goal.returns-in-Some-clause-seat
returns-in-Some-clause-seat c =
    let s = c.requires.seat in let same = c.find.ensures.same in let before = c.find.new.self in
    asks _ c.args.seat.now _ s refl refl s.place refl refl (c.mark.ensures.known ∙ ap (λ (v : Notes). v.known) same)
    (subst (λ (z : List Name × List Name). IsPrefix z.0 z.1) (λ i. ((same i).asked, sym c.mark.ensures.asked i)) (with_name-begins before.asked (name_at before.known c.in-Some.key.0)))
    c.mark.ensures.answers

pub returns-in-Some-clause-asked : goal.returns-in-Some-clause-asked
returns-in-Some-clause-asked c =
    c.mark.ensures.asked ∙ ap (λ (v : Notes). with_name v.asked (name_at v.known c.in-Some.key.0)) c.find.ensures.same
    ∙ ap (with_name c.args.seat.now.names.asked) (name_here c.args.seat.now.names.known (c.args.class.0, c.args.name.now) c.in-Some.key.0 c.in-Some.ensures.key)
