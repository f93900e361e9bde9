use Rattle.std.proofs.Common.{◌≡◌, ◌∷◌, [], ◌++◌, Some, None, refl, sym, ap, ◌∙◌, subst, length, get_or, arith, List, ℕ}
use mathlib.Core.Option.{some}
use mathlib.Core.List.{IsPrefix}
use lib.ListN.{get_elem?}
use Rattle.std.proofs.lemmas.List.{get_or_push}
use Rattle.atomic_table.proofs.Lists.{at_last}
use Rattle.hb_names.specs.Names.{Name, place, with_name}
use Rattle.hb_names.proofs.NameLemmas.{place-last}
use Rattle.hb_row.specs.Row.{next_offer, IsOfferOf, Learns}
use Rattle.hb_row.specs.declared.view.View.{View}
use Rattle.hb_row.specs.Spelling.{said}
use Rattle.hb_row.specs.Known.{name_at}
use Rattle.hb_row.proofs.SittingLemmas.{gains, learns, stays}
use Rattle.hb_row.proofs.row.NameRow.advance.Goals as goal

offer_of : (v : View) (word : ℕ) (w : View) (told : Learns v word w) → IsOfferOf w word told.name
offer_of v word w told = (
  length v.known,
  subst (λ (l : List Name). get_elem? l (length v.known) ≡ some told.name) (sym told.known) (at_last v.known told.name (length v.known) refl),
  ap (λ (l : List ℕ). get_or l (length v.known) 0) told.offers ∙ get_or_push v.offers word 0 (length v.known) told.long,
)

pub returns-then-is_err-clause-seat : goal.returns-then-is_err-clause-seat
returns-then-is_err-clause-seat c = let s = c.requires.seat in stays _ c.args.seat.now _ s refl refl s.place refl refl c.reserve.ensures.known c.reserve.ensures.asked

pub spell-spelled-requires-clause-there : goal.spell-spelled-requires-clause-there
spell-spelled-requires-clause-there c = let told = c.in-Some.ensures.taken in (told.name, told.valid, offer_of _ _ _ told)

pub learn-requires-clause-new : goal.learn-requires-clause-new
learn-requires-clause-new c =
    let told = c.in-Some.ensures.taken in let read : said c.spell-spelled.result ≡ told.name = c.spell-spelled.ensures.said told.name told.valid (offer_of _ _ _ told) in
    subst (λ (z : List Name × Name). place z.0 z.1 ≡ None) (λ i. ((c.requires.seat.known ∙ sym c.reserve.ensures.known) i, sym read i)) told.new

pub returns-in-None-clause-seat : goal.returns-in-None-clause-seat
returns-in-None-clause-seat c =
    let s = c.requires.seat in let name : Name = (c.args.class.0, c.args.name.now) in let key = c.push-key.ensures.key in let known = c.push-key.ensures.known in
    gains _ c.args.seat.now _ s refl refl c.in-None.ensures.place name (let n = c.len-count.ensures.len in let few = c.len-count.ensures.few in
    let ne = c.if-count-eq-NAMES_MAX.false in omega (arith, n, few, ne)) (ap next_offer c.len-count.ensures.len) c.in-None.ensures.placed (c.mark.ensures.known ∙ known
    ∙ ap (λ (z : List Name). z ++ name ∷ []) c.reserve.ensures.known)
    (c.mark.ensures.asked ∙ (λ i. with_name ((c.push-key.ensures.asked ∙ c.reserve.ensures.asked) i) (name_at (known i) c.push-key.result.0))
    ∙ ap (with_name c.args.seat.now.names.asked) (get_or_push c.reserve.new.self.known name (0, []) c.push-key.result.0 (sym key))) c.mark.ensures.answers

pub returns-in-None-clause-finds : goal.returns-in-None-clause-finds
returns-in-None-clause-finds c =
    let name : Name = (c.args.class.0, c.args.name.now) in let key = c.push-key.ensures.key in let known = c.push-key.ensures.known in let before = c.reserve.new.self.known in
    let new : place before name ≡ None = ap (λ (ns : List Name). place ns name) c.reserve.ensures.known ∙ c.requires.unknown in (
      ap (λ (ns : List Name). place ns name) (c.mark.ensures.known ∙ known) ∙ place-last before name new ∙ ap Some (sym key),
      c.mark.ensures.asked ∙ (λ i. with_name ((c.push-key.ensures.asked ∙ c.reserve.ensures.asked) i) (name_at (known i) c.push-key.result.0))
          ∙ ap (with_name c.args.seat.now.names.asked) (get_or_push before name (0, []) c.push-key.result.0 (sym key)),
    )

pub returns-in-Some-clause-seat : goal.returns-in-Some-clause-seat
returns-in-Some-clause-seat c =
    let s = c.requires.seat in
    let told = c.in-Some.ensures.taken in let read : said c.spell-spelled.result ≡ told.name = c.spell-spelled.ensures.said told.name told.valid (offer_of _ _ _ told) in
    learns _ c.args.seat.now _ s refl refl c.spell-spelled.ensures.place c.in-Some.word c.try_place.new.place.me.0 (let n = c.len-count.ensures.len in
    let few = c.len-count.ensures.few in let ne = c.if-count-eq-NAMES_MAX.false in omega (arith, n, few, ne)) refl told c.spell-spelled.ensures.view
    (c.learn.ensures.known ∙ (λ i. c.reserve.ensures.known i ++ read i ∷ [])) (subst
    (λ (z : List Name). IsPrefix z c.learn.new.names.asked) c.reserve.ensures.asked c.learn.ensures.kept) c.learn.ensures.answers
