use Rattle.std.proofs.Common.{arith, length, ◌+◌, ◌≤◌, ◌≡◌, ◌∷◌, List, refl, ◌∙◌, sym, ap, subst}
use Rattle.hb_tree.specs.Tree.{Tree, TDef}
use Rattle.hb_build.specs.{Acts.giving, Sound.work_of, Sound.numbers, Ended.definition, Ended.without_last}
use Rattle.hb_build.specs.declared.held.Held.TheVariants as held
use Rattle.hb_build.proofs.NodeLemmas.{own-fault, put-answer, within, is_over, IsPut}
use Rattle.hb_build.proofs.StepLemmas.{step-fails, step-goes}
use Rattle.hb_build.proofs.DefLemmas.{last-is, own-below-named, own-below-computed, named-top, computed-top, named-step, computed-step, computed-parts, both-in-hand, block-over, def-put, def-said, def-depth}
use Rattle.hb_draft.specs.{Unfinished.unary_over, Made.def_computed_over}
use Rattle.hb_build.proofs.builder.Builder.define.Goals as goal

head : {X : Type 0} {x y : X} {xs ys : List X} → x ∷ xs ≡ y ∷ ys → x ≡ y
head e = cc

pub take_own-spot-requires : goal.take_own-spot-requires
take_own-spot-requires c = own-below-named (numbers c.args.params.now) c.args.self.now c.requires.ended c.pop.new.self.items c.in-Some-Named.class c.in-Some-Named.name
    (last-is _ _ _ _ c.in-Some-Named.ensures.items c.in-Some-Named.field-0-is)

pub take_own-spot-requires-in-Some-Computed : goal.take_own-spot-requires-in-Some-Computed
take_own-spot-requires-in-Some-Computed c = own-below-computed (numbers c.args.params.now) c.args.self.now c.requires.ended c.pop.new.self.items c.in-Some-Computed.class
    (last-is _ _ _ _ c.in-Some-Computed.ensures.items c.in-Some-Computed.field-0-is)

pub highest-requires-in-Some-Computed : goal.highest-requires-in-Some-Computed
highest-requires-in-Some-Computed c =
    let t = computed-top (numbers c.args.params.now) c.args.self.now c.requires.ended c.pop.new.self.items c.take_own-spot-in-Some-Computed.new.held.items c.in-Some-Computed.class
    c.take_own-spot-in-Some-Computed.result (last-is _ _ _ _ c.in-Some-Computed.ensures.items c.in-Some-Computed.field-0-is) c.take_own-spot-in-Some-Computed.ensures in
    subst (λ (x : List Tree). 2 ≤ length x) (sym (both-in-hand (numbers c.args.params.now) c.args.self.now c.requires.ended t _ refl)) (omega arith)

pub returns-in_err-completes-in-Some-Computed : goal.returns-in_err-completes-in-Some-Computed
returns-in_err-completes-in-Some-Computed c block others is =
    let t = computed-top (numbers c.args.params.now) c.args.self.now c.requires.ended c.pop.new.self.items c.take_own-spot-in-Some-Computed.new.held.items c.in-Some-Computed.class
    c.take_own-spot-in-Some-Computed.result (last-is _ _ _ _ c.in-Some-Computed.ensures.items c.in-Some-Computed.field-0-is) c.take_own-spot-in-Some-Computed.ensures in
    let same = head (sym c.requires.ended.hand_is ∙ is) in
    own-fault _ _ _ _ c.from_residual-in_err-completes-in-Some-Computed.ensures.1
    (ap (λ (x : Tree). definition (numbers c.args.params.now) x c.args.self.now) (sym same)
    ∙ step-fails (without_last c.args.self.now) c.requires.ended.sound _ t.spot c.highest-in-Some-Computed.result (giving (numbers c.args.params.now) c.requires.ended.block (work_of (without_last c.args.self.now))) _ _
    (computed-step (numbers c.args.params.now) c.args.self.now c.requires.ended t c.highest-in-Some-Computed.result c.highest-in-Some-Computed.ensures)
    c.in_err-completes-in-Some-Computed.field-0.0 c.in_err-completes-in-Some-Computed.ensures)

pub def_computed-requires-clause-parts : goal.def_computed-requires-clause-parts
def_computed-requires-clause-parts c =
    let t = computed-top (numbers c.args.params.now) c.args.self.now c.requires.ended c.pop.new.self.items c.take_own-spot-in-Some-Computed.new.held.items c.in-Some-Computed.class
    c.take_own-spot-in-Some-Computed.result (last-is _ _ _ _ c.in-Some-Computed.ensures.items c.in-Some-Computed.field-0-is) c.take_own-spot-in-Some-Computed.ensures in
    let limits = within (1 + c.highest-in-Some-Computed.result) (length c.args.self.now.draft.table.nodes)
    (is_over c.args.self.now.scope) c.take_own-spot-in-Some-Computed.result.at c.in_ok-completes-in-Some-Computed.ensures in
    computed-parts (numbers c.args.params.now) c.args.self.now c.requires.ended t c.highest-in-Some-Computed.result c.highest-in-Some-Computed.ensures limits.low

pub returns-in_ok-def-in-Some-Named : goal.returns-in_ok-def-in-Some-Named
returns-in_ok-def-in-Some-Named c block others is = put-answer _ _ c.put.result c.put.ensures.held c.put.ensures.rest c.put.ensures.memory (λ held_is rest.
    let t = named-top (numbers c.args.params.now) c.args.self.now c.requires.ended c.pop.new.self.items c.take_own-spot.new.held.items c.in-Some-Named.class c.in-Some-Named.name
    c.take_own-spot.result (last-is _ _ _ _ c.in-Some-Named.ensures.items c.in-Some-Named.field-0-is) c.take_own-spot.ensures in
    let same = head (sym c.requires.ended.hand_is ∙ is) in
    let made = c.in_ok-def-in-Some-Named.ensures.made in
    let types = c.in_ok-def-in-Some-Named.ensures.put.table.types in
    let over = unary_over (λ id b. TDef id c.in-Some-Named.class.0 c.in-Some-Named.name.0 (length (work_of c.args.self.now).said.bodies) b) in
    let goes = step-goes (without_last c.args.self.now) c.requires.ended.sound _ t.spot c.highest.result (giving (numbers c.args.params.now) c.requires.ended.block (work_of (without_last c.args.self.now))) _ _
    (named-step (numbers c.args.params.now) c.args.self.now c.requires.ended t c.highest.result c.highest.ensures) c.in_ok-completes-in-Some-Named.ensures c.put.new.self
    (subst (λ (x : List Tree). IsPut (without_last c.args.self.now) c.put.new.self (held.Operand ∷ t.rest) (over (length (work_of c.args.self.now).said.places) x))
    (block-over (numbers c.args.params.now) c.args.self.now c.requires.ended)
    (def-put (numbers c.args.params.now) c.args.self.now c.requires.ended c.put.new.self c.def.new.self c.take_own-spot.new.held.items rest held_is c.place.result over made types))
    c.place.result c.place.ensures
    (def-said (numbers c.args.params.now) c.args.self.now c.requires.ended c.put.new.self c.def.new.self c.take_own-spot.new.held.items rest held_is c.place.result over made types)
    (def-depth (numbers c.args.params.now) c.args.self.now c.requires.ended c.put.new.self c.def.new.self c.take_own-spot.new.held.items rest held_is c.place.result over made types) in
    (ap (λ (x : Tree). definition (numbers c.args.params.now) x c.args.self.now) (sym same) ∙ goes.0, goes.1))

pub returns-in_ok-def_computed-in-Some-Computed : goal.returns-in_ok-def_computed-in-Some-Computed
returns-in_ok-def_computed-in-Some-Computed c block others is = put-answer _ _ c.put-in-Some-Computed.result c.put-in-Some-Computed.ensures.held c.put-in-Some-Computed.ensures.rest
    c.put-in-Some-Computed.ensures.memory (λ held_is rest.
    let t = computed-top (numbers c.args.params.now) c.args.self.now c.requires.ended c.pop.new.self.items c.take_own-spot-in-Some-Computed.new.held.items c.in-Some-Computed.class
    c.take_own-spot-in-Some-Computed.result (last-is _ _ _ _ c.in-Some-Computed.ensures.items c.in-Some-Computed.field-0-is) c.take_own-spot-in-Some-Computed.ensures in
    let same = head (sym c.requires.ended.hand_is ∙ is) in
    let made = c.in_ok-def_computed-in-Some-Computed.ensures.made in
    let types = c.in_ok-def_computed-in-Some-Computed.ensures.put.table.types in
    let over = def_computed_over c.in-Some-Computed.class.0 (length (work_of c.args.self.now).said.bodies) in
    let goes = step-goes (without_last c.args.self.now) c.requires.ended.sound _ t.spot c.highest-in-Some-Computed.result
    (giving (numbers c.args.params.now) c.requires.ended.block (work_of (without_last c.args.self.now))) _ _
    (computed-step (numbers c.args.params.now) c.args.self.now c.requires.ended t c.highest-in-Some-Computed.result c.highest-in-Some-Computed.ensures) c.in_ok-completes-in-Some-Computed.ensures
    c.put-in-Some-Computed.new.self
    (subst (λ (x : List Tree). IsPut (without_last c.args.self.now) c.put-in-Some-Computed.new.self (held.Operand ∷ t.rest) (over (length (work_of c.args.self.now).said.places) x))
    (both-in-hand (numbers c.args.params.now) c.args.self.now c.requires.ended t _ refl)
    (def-put (numbers c.args.params.now) c.args.self.now c.requires.ended c.put-in-Some-Computed.new.self c.def_computed.new.self c.take_own-spot-in-Some-Computed.new.held.items rest held_is
    c.place-in-Some-Computed.result over made types))
    c.place-in-Some-Computed.result c.place-in-Some-Computed.ensures
    (def-said (numbers c.args.params.now) c.args.self.now c.requires.ended c.put-in-Some-Computed.new.self c.def_computed.new.self c.take_own-spot-in-Some-Computed.new.held.items rest held_is
    c.place-in-Some-Computed.result over made types)
    (def-depth (numbers c.args.params.now) c.args.self.now c.requires.ended c.put-in-Some-Computed.new.self c.def_computed.new.self c.take_own-spot-in-Some-Computed.new.held.items rest held_is
    c.place-in-Some-Computed.result over made types) in
    (ap (λ (x : Tree). definition (numbers c.args.params.now) x c.args.self.now) (sym same) ∙ goes.0, goes.1))
