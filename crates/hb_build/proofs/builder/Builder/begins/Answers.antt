use Rattle.std.proofs.Common.{◌≡◌, arith, length, refl}
use Rattle.std.proofs.lemmas.Bool.Decides.{nat_tests}
use Rattle.hb_build.specs.{Pile.arguments_on, Sound.pile_of}
use Rattle.hb_build.proofs.CountLemmas.{arguments-counted}
use Rattle.hb_build.proofs.builder.Builder.begins.Goals as goal

pub returns-then-run_of-ge-ARGUMENTS_MAX : goal.returns-then-run_of-ge-ARGUMENTS_MAX
returns-then-run_of-ge-ARGUMENTS_MAX c =
    let counted : length (arguments_on (pile_of c.args.self.now)) ≡ c.run_of.result =
    arguments-counted c.args.self.now _ c.run_of.result c.requires c.deref.ensures.value c.run_of.ensures.within c.run_of.ensures.same c.run_of.ensures.ends in
    (grind (arith, nat_tests), refl)

pub returns : goal.returns
returns c =
    let counted : length (arguments_on (pile_of c.args.self.now)) ≡ c.run_of.result =
    arguments-counted c.args.self.now _ c.run_of.result c.requires c.deref.ensures.value c.run_of.ensures.within c.run_of.ensures.same c.run_of.ensures.ends in
    grind (arith, nat_tests)
