use Rattle.std.proofs.Common.{◌≡◌, refl, sym, ap, ◌∙◌, true, false, inl, arith}
use Rattle.std.specs.{Prelude.nat_eq, Set.is_member, List.list_any}
use Rattle.hb_build.specs.Sound.{numbers}
use Rattle.hb_build.proofs.ScopeLemmas.{is_member-numbers, assigns-again, assigns-first}
use Rattle.hb_build.proofs.builder.Builder.assigns.Goals as goal

pub returns-then-contains : goal.returns-then-contains
returns-then-contains c =
    let s = c.args.self.now.scope in
    let member : is_member nat_eq (numbers s.variables.items) c.args.name.0 ≡ true =
    sym (is_member-numbers s.variables.items c.args.name) ∙ ap (list_any (λ y. nat_eq y.0 c.args.name.0)) (sym c.deref.ensures.value) ∙ sym c.contains.ensures.value ∙ c.if-contains.true in
    record { result = (refl, assigns-again s c.args.name member) }

pub returns-then-len-ge-VARIABLES_MAX : goal.returns-then-len-ge-VARIABLES_MAX
returns-then-len-ge-VARIABLES_MAX c =
    let s = c.args.self.now.scope in
    let new : is_member nat_eq (numbers s.variables.items) c.args.name.0 ≡ false =
    sym (is_member-numbers s.variables.items c.args.name) ∙ ap (list_any (λ y. nat_eq y.0 c.args.name.0)) (sym c.deref.ensures.value) ∙ sym c.contains.ensures.value ∙ c.if-contains.false in
    record { result = inl (refl, record { new = new; full = omega arith }) }

pub returns : goal.returns
returns c =
    let s = c.args.self.now.scope in
    let new : is_member nat_eq (numbers s.variables.items) c.args.name.0 ≡ false =
    sym (is_member-numbers s.variables.items c.args.name) ∙ ap (list_any (λ y. nat_eq y.0 c.args.name.0)) (sym c.deref.ensures.value) ∙ sym c.contains.ensures.value ∙ c.if-contains.false in
    record { result = (refl, assigns-first s (record s { variables = c.push.new.self }) c.args.name new (omega arith) c.in_ok-push.ensures.items) }
