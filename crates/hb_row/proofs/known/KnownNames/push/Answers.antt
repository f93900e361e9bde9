use Rattle.std.proofs.Common.{◌≡◌, ◌∷◌, [], Bool, None, subst, sym, ap, ◌∙◌, List, ℕ, arith}
use Rattle.std.specs.Prelude.{vec_capacity}
use Rattle.hb_names.specs.Names.{Name, place}
use Rattle.hb_row.specs.Known.{Notes, IsNoted, asked_of}
use Rattle.hb_row.proofs.NoteLemmas.{asked_named, noted_more, asked_longer}
use Rattle.hb_row.proofs.known.KnownNames.push.Goals as goal

pub invariant_of-self : goal.invariant_of-self
invariant_of-self c =
    let same = ap (λ (v : Notes). v.known) c.self.view_is in
    let room = ap (λ (v : Notes). v.spare) c.self.view_is in
    let some_room = c.requires.spare in
    let name : Name = (c.args.class.0, c.args.name.now) in let keys = c.self.inside.asked.items in let capacity : ℕ = vec_capacity c.self.inside.asked in
    let len = c.self.inside.marks.ok.0 in
    subst (λ (z : List Name × List Bool). IsNoted z.0 keys z.1 capacity) (λ i. (sym c.push-key.ensures.names i, sym c.in-Ok.ensures.items i))
    (noted_more c.self.inside.store.names keys c.self.inside.marks.items capacity c.self.invariant name capacity (subst
    (λ (ns : List Name). place ns name ≡ None) (sym same) c.requires.new) (omega arith) (omega (arith, room, some_room, len)))

pub returns-clause-asked : goal.returns-clause-asked
returns-clause-asked c =
    let same = ap (λ (v : Notes). v.asked) c.self.view_is in
    ap (λ (ns : List Name). asked_of ns c.self.inside.asked.items) c.push-key.ensures.names
    ∙ asked_longer c.self.inside.store.names ((c.args.class.0, c.args.name.now) ∷ []) c.self.inside.asked.items c.self.invariant.below ∙ same

pub returns-clause-answers : goal.returns-clause-answers
returns-clause-answers c = asked_named _ c.self.inside.asked.items c.push.new.self.items (vec_capacity c.self.inside.asked) (invariant_of-self c)
