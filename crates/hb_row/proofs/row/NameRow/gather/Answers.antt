use Rattle.std.proofs.Common.{◌≡◌, ◌<◌, ℕ, List, [], ◌∷◌, ◌++◌, length, get_or, refl, sym, ap, subst, ◌∙◌, rules}
use Rattle.std.proofs.lemmas.List.{nil_from_length}
use mathlib.Core.List.{IsPrefix}
use Rattle.hb_names.specs.Names.{Name}
use Rattle.hb_row.specs.declared.view.View.{View}
use Rattle.hb_row.specs.declared.seat.NameSeat.{NameSeat}
use Rattle.hb_row.specs.Seats.{IsSeatOf, Keeps, HasAll, IsGathered, Tells}
use Rattle.hb_row.proofs.EndLemmas.{all_last, all_front, keeps_more, names_begin, gathered, tells_all}
use Rattle.hb_row.proofs.row.NameRow.gather.Goals as goal

pub take_in-requires-clause-other : goal.take_in-requires-clause-other
take_in-requires-clause-other c =
    let other = c.in-Some.other in let xs = c.pop.new.self.items in let P : NameSeat → Type 0 = IsSeatOf c.args.self.table.shared.table_id in
    all_last P xs other (subst (λ (zs : List NameSeat). (k : ℕ) (d : NameSeat) → k < length zs → P (get_or zs k d)) c.in-Some.ensures.items c.loop-other.invariant.others)

pub loop-other-preserved : goal.loop-other-preserved
loop-other-preserved c =
    let i = c.loop-other.invariant in let t = c.take_in.ensures in let other = c.in-Some.other in
    let xs = c.pop.new.self.items in let ys = c.loop-other.others.items in let e : ys ≡ xs ++ other ∷ [] = c.in-Some.ensures.items in
    let P : NameSeat → Type 0 = IsSeatOf c.args.self.table.shared.table_id in
    let all = subst (λ (zs : List NameSeat). (k : ℕ) (d : NameSeat) → k < length zs → P (get_or zs k d)) e i.others in
    let fits = all_last P xs other all in let seats : List NameSeat = c.args.first ∷ c.args.others.items in record {
      place = t.place;
      made = ap (λ (z : View). z.made) t.joined ∙ i.made;
      others = all_front P xs other all;
      keeps = subst (λ (z : View). Keeps seats z xs) (sym t.joined) (keeps_more seats xs c.loop-other.place.me.0 other fits.place.still (subst (Keeps seats c.loop-other.place.me.0) e i.keeps));
    }

pub read_rest-read-requires-clause-row : goal.read_rest-read-requires-clause-row
read_rest-read-requires-clause-row c =
    let i = c.loop-other.invariant in let f = c.close_with-words.ensures.values.2 in let v : View = c.loop-other.place.me.0 in
    let seats : List NameSeat = c.args.first ∷ c.args.others.items in
    let gone : c.loop-other.others.items ≡ [] = nil_from_length c.loop-other.others.items (search rules) in
    let begins = names_begin c.args.self.table.shared.table_id f.0 f.1.0 _ v f.1.1 i.place.live i.place.first c.args.first c.args.others.items c.requires.first.0
    c.requires.others (subst (Keeps seats v) gone i.keeps) c.args.first (0, refl) in
    (f.1.0.names, subst (λ (z : List ℕ). Tells z f.1.0.names) f.2 (tells_all f.0 f.1.0), subst (λ (l : List Name). IsPrefix l f.1.0.names) (sym c.into_store-store.ensures) begins)

pub returns : goal.returns
returns c =
    let i = c.loop-other.invariant in let f = c.close_with-words.ensures.values.2 in let v : View = c.loop-other.place.me.0 in
    let seats : List NameSeat = c.args.first ∷ c.args.others.items in
    let gone : c.loop-other.others.items ≡ [] = nil_from_length c.loop-other.others.items (search rules) in
    let keeps = subst (Keeps seats v) gone i.keeps in
    let begins = names_begin c.args.self.table.shared.table_id f.0 f.1.0 _ v f.1.1 i.place.live i.place.first c.args.first c.args.others.items c.requires.first.0
    c.requires.others keeps c.args.first (0, refl) in
    let tells = subst (λ (z : List ℕ). Tells z f.1.0.names) f.2 (tells_all f.0 f.1.0) in
    let all = c.in_ok-read.ensures f.1.0.names tells (subst (λ (l : List Name). IsPrefix l f.1.0.names) (sym c.into_store-store.ensures) begins) in
    let all_made = subst (λ (z : ℕ). HasAll z seats) (sym i.made) c.requires.all in
    subst (IsGathered seats) (sym (c.into_list.ensures ∙ all))
    (gathered c.args.self.table.shared.table_id f.0 f.1.0 _ v f.1.1 i.place.live i.place.first c.args.first c.args.others.items c.requires.first.0 c.requires.others keeps all_made)
