use Rattle.std.proofs.Common.{subst, refl}
use Rattle.hb_tree.proofs.{Lists.each_at, Known.got_view}
use Rattle.hb_tree.specs.{Program.IsProgram, Spelling.IsClassName}
use Rattle.hb_tree.proofs.program.Program.class_name.Goals as goal

pub returns : goal.returns
returns c =
    let ok = subst (λ t. IsProgram t) c.self.view_is c.self.invariant in
    let value = got_view (λ t. t.classes) (λ v. v.items) c.self.inside.parts.classes.items _ _ c.self.view_is refl _ _ c.requires c.index.ensures in
    record { value = rw c.deref.ensures.value value; spelled = rw c.deref.ensures.value (each_at (λ b. IsClassName b) _ _ _ value ok.spelled.classes) }
