use Rattle.std.proofs.Common.{◌≡◌, ◌<◌, ℕ, List, [], ◌∷◌, ◌++◌, length, get_or, map, sym, ap, subst, ◌∙◌, rules, arith}
use Rattle.hb_words.specs.declared.view.View.{View}
use Rattle.hb_words.specs.declared.view.Front.{Front}
use Rattle.hb_words.specs.declared.words.WordSeat.{WordSeat}
use Rattle.hb_words.specs.Words.{IsSeatOf, AreWords, Covers, Keeps, IsWhole}
use Rattle.core.specs.Mem.Slots.{slots_items}
use Rattle.hb_words.specs.Seats.{seat_front, seat_caller}
use mathlib.Core.Option.{some}
use Rattle.std.proofs.lemmas.List.{nil_from_length}
use Rattle.atomic_table.specs.Table.{Me}
use Rattle.hb_tables.specs.declared.entry.Entry.{Entry}
use Rattle.hb_words.proofs.SeatLemmas.{remembers}
use Rattle.hb_words.proofs.ClosingLemmas.{all_last, all_front, map_push, keeps_more, covers_more, all_callers, whole}
use Rattle.hb_words.proofs.words.MethodWords.close.Goals as goal

abbrev Sat : Type 0
Sat = Me (Unit {0}) View

pub loop-other-preserved : goal.loop-other-preserved
loop-other-preserved c =
    let i = c.loop-other.invariant in let t = c.take_in.ensures in let other = c.in-Some.other in
    let xs = c.pop.new.self.items in let ys = c.loop-other.others.items in
    let e : ys ≡ xs ++ other ∷ [] = c.in-Some.ensures.items in
    let P : WordSeat → Type 0 = λ o. IsSeatOf c.args.self.table.shared.table_id c.args.self.table.shared.key o.place in
    let all : (k : ℕ) (d : WordSeat) → k < length (xs ++ other ∷ []) → P (get_or (xs ++ other ∷ []) k d) =
    subst (λ (zs : List WordSeat). (k : ℕ) (d : WordSeat) → k < length zs → P (get_or zs k d)) e i.2 in
    let fits = all_last P xs other all in
    let v = c.loop-other.place.me.0 in let w = other.place.me.0 in (
      t.place,
      ap (λ (z : View). z.made) t.joined ∙ i.1,
      all_front P xs other all,
      subst (λ (z : View). Covers z (map seat_caller xs)) (sym t.joined) (covers_more (map seat_caller xs) v w other.own (subst (Covers v) (map_push seat_caller xs ys other e) i.3)),
      subst (λ (z : View). Keeps (seat_front c.args.first ∷ map seat_front c.args.others.items) z (map seat_front xs)) (sym t.joined)
          (keeps_more (seat_front c.args.first ∷ map seat_front c.args.others.items) (map seat_front xs) v w fits.still
          (subst (Keeps (seat_front c.args.first ∷ map seat_front c.args.others.items) v) (map_push seat_front xs ys other e) i.4)),
    )

pub split_seat-memory-requires : goal.split_seat-memory-requires
split_seat-memory-requires c = let p = c.loop-other.invariant.0 in (p.table_is, (let w = p.words in omega arith), remembers _ _ _)

-- what the last state says, once all seats are put together
ending : (c : goal.After-drop-others) → IsWhole c.split_seat-memory.result.me.0.seen c.args.first.place.me.0.limit c.args.first.place.me.0.made
    (seat_front c.args.first ∷ map seat_front c.args.others.items)
    × AreWords c.split_seat-memory.result.me.0.seen (slots_items c.close_with.result.words)
ending c =
    let i = c.loop-other.invariant in let f = c.close_with.ensures.values.2 in let m = c.split_seat-memory.ensures in
    let v : View = c.loop-other.place.me.0 in
    let all : List Front = seat_front c.args.first ∷ map seat_front c.args.others.items in
    let gone : c.loop-other.others.items ≡ [] = nil_from_length c.loop-other.others.items (search rules) in
    let same : c.split_seat-memory.new.seat.me.0 ≡ v = ap (λ (z : Sat). z.0) m.2 in
    let seen : v.seen ≡ c.split_seat-memory.result.me.0.seen = sym (ap (λ (z : Sat). z.0.seen) m.4) in
    let limit = sym c.requires.first.0.limit_is in
    let last = whole c.args.self.table.shared.key c.split_seat-memory.new.seat.id all v f.0 f.1.0 (f.1.1 ∙ ap some same) i.0.live i.0.first
    (subst (λ (zs : List WordSeat). Covers v (map seat_caller zs)) gone i.3) (subst (λ (zs : List WordSeat). Keeps all v (map seat_front zs)) gone i.4)
    (λ caller made. all_callers c.args.first c.args.others.items c.requires.all caller (subst (λ (n : ℕ). caller < n) i.1 made)) in (
      subst (λ (z : List Entry × ℕ × ℕ). IsWhole z.0 z.2 z.1 all) (λ k. (seen k, i.1 k, limit k)) last.0,
      subst (λ (z : List Entry × List ℕ). AreWords z.0 z.1) (λ k. (seen k, f.2 k)) last.1,
    )

pub invariant_of-result-clause-are : goal.invariant_of-result-clause-are
invariant_of-result-clause-are c = (ending c).1

pub returns : goal.returns
returns c = (ending c.before).0
