use Rattle.std.proofs.Common.{true, false, subst, sym, ap, ◌∙◌, length, set, List, arith}
use Rattle.std.specs.Prelude.{vec_capacity}
use Rattle.hb_types.specs.declared.ids.KeyId.{KeyId}
use Rattle.hb_names.specs.Names.{with_name}
use Rattle.hb_row.specs.Known.{Notes, AreNamed, IsNoted, asked_of, name_at}
use Rattle.hb_row.proofs.ListLemmas.{any_blank}
use Rattle.hb_row.proofs.NoteLemmas.{asked_named, noted_asked, newly_asked, marked_asked, has_room}
use Rattle.hb_row.proofs.known.KnownNames.mark.Goals as goal

pub returns-then-index-clause-asked : goal.returns-then-index-clause-asked
returns-then-index-clause-asked c =
    let same = ap (λ (v : Notes). v.known) c.self.view_is in let n = ap length same in let inside = c.requires in let l = c.self.invariant.long in
    let is = any_blank c.self.inside.marks.items c.args.key.0 false c.index.result.now (omega (arith, n, inside, l)) ∙ sym c.index.ensures ∙ c.if-index.true in
    sym (ap (λ (v : Notes). with_name v.asked (name_at v.known c.args.key.0)) (sym c.self.view_is)
    ∙ marked_asked c.self.inside.store.names c.self.inside.asked.items c.self.inside.marks.items (vec_capacity c.self.inside.asked) c.self.invariant c.args.key
    (omega (arith, n, inside)) c.len-count.ensures.differ is
    ∙ ap (λ (v : Notes). v.asked) c.self.view_is)

pub unreachable-requires : goal.unreachable-requires
unreachable-requires c =
    let same = ap (λ (v : Notes). v.known) c.self.view_is in let n = ap length same in let inside = c.requires in let l = c.self.invariant.long in
    let is = any_blank c.self.inside.marks.items c.args.key.0 false c.index.result.now (omega (arith, n, inside, l)) ∙ sym c.index.ensures ∙ c.if-index.false in
    let room = has_room c.self.inside.store.names c.self.inside.asked.items c.self.inside.marks.items (vec_capacity c.self.inside.asked) c.self.invariant c.args.key
    (omega (arith, n, inside)) c.len-count.ensures.differ is in
    let full = c.in_default.ensures.full in let len = c.self.inside.asked.ok.0 in omega (arith, room, full, len)

pub invariant_of-self : goal.invariant_of-self
invariant_of-self c =
    let same = ap (λ (v : Notes). v.known) c.self.view_is in let n = ap length same in let inside = c.requires in let l = c.self.invariant.long in
    let is = any_blank c.self.inside.marks.items c.args.key.0 false c.index.result.now (omega (arith, n, inside, l)) ∙ sym c.index.ensures ∙ c.if-index.false in
    subst (λ (z : List KeyId). IsNoted c.self.inside.store.names z (set c.self.inside.marks.items c.args.key.0 true) (vec_capacity c.push.new.self)) (sym c.in-Ok.ensures.items)
    (noted_asked c.self.inside.store.names c.self.inside.asked.items c.self.inside.marks.items (vec_capacity c.self.inside.asked) c.self.invariant c.args.key
    (omega (arith, n, inside)) c.len-count.ensures.differ is (vec_capacity c.push.new.self) c.in-Ok.ensures.capacity)

pub returns-clause-asked : goal.returns-clause-asked
returns-clause-asked c =
    let same = ap (λ (v : Notes). v.known) c.self.view_is in let n = ap length same in let inside = c.requires in let l = c.self.invariant.long in
    let is = any_blank c.self.inside.marks.items c.args.key.0 false c.index.result.now (omega (arith, n, inside, l)) ∙ sym c.index.ensures ∙ c.if-index.false in
    ap (asked_of c.self.inside.store.names) c.in-Ok.ensures.items
    ∙ newly_asked c.self.inside.store.names c.self.inside.asked.items c.self.inside.marks.items (vec_capacity c.self.inside.asked) c.self.invariant c.args.key
    (omega (arith, n, inside)) c.len-count.ensures.differ is
    ∙ ap (λ (v : Notes). with_name v.asked (name_at v.known c.args.key.0)) c.self.view_is

pub returns-then-index-clause-answers : goal.returns-then-index-clause-answers
returns-then-index-clause-answers c =
    subst (λ (v : Notes). AreNamed v.asked v.known) c.self.view_is
    (asked_named c.self.inside.store.names c.self.inside.asked.items c.self.inside.marks.items (vec_capacity c.self.inside.asked) c.self.invariant)

pub returns-clause-answers : goal.returns-clause-answers
returns-clause-answers c = asked_named _ c.push.new.self.items (set c.self.inside.marks.items c.args.key.0 true) (vec_capacity c.push.new.self) (invariant_of-self c)
