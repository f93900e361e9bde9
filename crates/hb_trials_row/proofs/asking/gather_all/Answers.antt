use Rattle.std.proofs.Common.{◌≡◌, ◌∷◌, List, sym, ap, subst, ◌∙◌}
use Rattle.hb_row.specs.declared.seat.NameSeat.{NameSeat}
use Rattle.hb_row.specs.Seats.{IsSeatOf, HasAll}
use Rattle.hb_trials_row.proofs.GatheringLemmas.{first_and_rest, has_all}
use Rattle.hb_trials_row.proofs.asking.gather_all.Goals as goal

pub gather-requires-clause-all : goal.gather-requires-clause-all
gather-requires-clause-all c =
    let first : NameSeat = c.remove-first.result in let r = c.remove-first.ensures in let table = c.args.row.table.shared.table_id in
    let whole : first ∷ c.remove-first.new.self.items ≡ c.args.seats.items = ap (λ (z : List NameSeat). first ∷ z) r.items ∙ first_and_rest c.args.seats.items first c.requires.some_seat r.value in
    let sits = (subst (IsSeatOf table) (sym r.value) (c.requires.seats 0 first c.requires.some_seat).0) in
    let made = sits.made ∙ ap (λ (z : NameSeat). z.made) r.value ∙ c.requires.all first in
    subst (HasAll first.place.me.0.made) (sym whole) (has_all table c.args.seats.items first.place.me.0.made first c.requires.seats made)
