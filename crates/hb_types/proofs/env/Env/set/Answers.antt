use Rattle.std.proofs.Common.{◌≡◌, length, true, false, sym, ap, ◌∙◌, subst, refl}
use Rattle.std.proofs.lemmas.Bool.{eqb-true}
use Rattle.hb_types.specs.declared.env.TheConstants.{VARIABLES_MAX}
use Rattle.hb_types.specs.Variables as variables
use Rattle.hb_types.specs.Variables.{Variables, IsMap}
use Rattle.hb_types.proofs.MapLemmas.{written, absent, set_map, set_new}
use Rattle.hb_types.proofs.env.Env.set.Goals as goal

pub invariant_of-self : goal.invariant_of-self
invariant_of-self c =
    let w = written c.self.inside.list.items c.as_slice.result.now c.deref_mut.result.now c.args.name c.args.ty c.place_of.result c.in-Some.at c.as_slice.ensures.value c.deref_mut.ensures.value
    c.place_of.ensures c.in-Some.is in
    subst (λ (G : Variables). IsMap G) (sym w.1) (set_map c.self.inside.list.items c.args.name.0 c.args.ty c.self.invariant)

pub returns-then-is_full-clause-full : goal.returns-then-is_full-clause-full
returns-then-is_full-clause-full c =
    let none = absent c.self.inside.list.items c.as_slice.result.now c.args.name c.place_of.result c.as_slice.ensures.value c.place_of.ensures c.in-None.is in (
      λ k. (
        sym (ap (λ (G : Variables). length G) c.self.view_is)
            ∙ eqb-true (length c.self.inside.list.items) VARIABLES_MAX (sym c.is_full.ensures.value ∙ c.if-is_full.true),
        subst
            (λ (G : Variables). variables.has G c.args.name.0 ≡ false) c.self.view_is none,
      ),
      λ k. refl,
    )

pub invariant_of-self-in-None : goal.invariant_of-self-in-None
invariant_of-self-in-None c =
    let none = absent c.self.inside.list.items c.as_slice.result.now c.args.name c.place_of.result c.as_slice.ensures.value c.place_of.ensures c.in-None.is in
    subst (λ (G : Variables). IsMap G) (sym (c.push.ensures.items ∙ set_new c.self.inside.list.items c.args.name.0 c.args.ty none)) (set_map c.self.inside.list.items c.args.name.0 c.args.ty c.self.invariant)

pub returns-in-Some-clause-full : goal.returns-in-Some-clause-full
returns-in-Some-clause-full c =
    let w = written c.self.inside.list.items c.as_slice.result.now c.deref_mut.result.now c.args.name c.args.ty c.place_of.result c.in-Some.at c.as_slice.ensures.value c.deref_mut.ensures.value
    c.place_of.ensures c.in-Some.is in
    (λ k. absurd (cc), λ k. absurd (let there : variables.has c.args.self.now c.args.name.0 ≡ true = subst (λ (G : Variables). variables.has G c.args.name.0 ≡ true) c.self.view_is w.0 in let gone = k.1 in cc))

pub returns-in-Some-clause-ok : goal.returns-in-Some-clause-ok
returns-in-Some-clause-ok c =
    let w = written c.self.inside.list.items c.as_slice.result.now c.deref_mut.result.now c.args.name c.args.ty c.place_of.result c.in-Some.at c.as_slice.ensures.value c.deref_mut.ensures.value
    c.place_of.ensures c.in-Some.is in
    w.1 ∙ ap (λ (G : Variables). variables.set G c.args.name.0 c.args.ty) c.self.view_is

pub returns-else-is_full-clause-ok : goal.returns-else-is_full-clause-ok
returns-else-is_full-clause-ok c =
    let none = absent c.self.inside.list.items c.as_slice.result.now c.args.name c.place_of.result c.as_slice.ensures.value c.place_of.ensures c.in-None.is in
    c.push.ensures.items ∙ set_new c.self.inside.list.items c.args.name.0 c.args.ty none ∙ ap (λ (G : Variables). variables.set G c.args.name.0 c.args.ty) c.self.view_is
