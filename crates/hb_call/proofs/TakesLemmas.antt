-- Whether a type takes arguments.
use Rattle.std.proofs.Common.{◌≡◌, ◌≢◌, true, false, List, length, sym, ap, ◌∙◌, nat_eq, ne_eqb, eq-eqb}
use Rattle.std.specs.Prelude.{Option, ◌&&◌}
use Rattle.hb_types.specs.declared.types.MethodTy.{MethodTy}
use Rattle.hb_types.specs.Types.{params_of}
use Rattle.hb_deriv.specs.Judge.{all_below}
use Rattle.hb_tables.specs.declared.entry.ArgKinds.{ArgKinds}
use Rattle.hb_tables.specs.Rows.{kinds_of}
use Rattle.hb_tables.specs.Verdicts.{takes, typed_takes}
use Rattle.hb_tables.specs.declared.entry.Entry.{Entry}
use Rattle.hb_types.specs.declared.ids.KeyId.{KeyId}
use Rattle.hb_call.specs.Calling.{Given, IsArgKinds, StaysUnfit, fits_of}
use Rattle.hb_call.specs.Comparing.{TakesArgs}
use Rattle.hb_call.specs.Deciding.{type_declared}

kinds_count : (args : ArgKinds) → IsArgKinds args → length (kinds_of args) ≡ args.count
kinds_count args h = ap (λ (a : ArgKinds). a.count) (sym h.1)

pub takes_not : (m : MethodTy) (args : ArgKinds) → IsArgKinds args → args.count ≢ m.count → takes m (kinds_of args) ≡ false
takes_not m args h ne = ap (λ n. nat_eq n m.count && all_below (kinds_of args) (params_of m)) (kinds_count args h) ∙ ap (λ b. b && all_below (kinds_of args) (params_of m)) (ne_eqb args.count m.count ne)

pub takes_all : (m : MethodTy) (args : ArgKinds) → IsArgKinds args → args.count ≡ m.count → takes m (kinds_of args) ≡ all_below (kinds_of args) (params_of m)
takes_all m args h e = ap (λ n. nat_eq n m.count && all_below (kinds_of args) (params_of m)) (kinds_count args h) ∙ ap (λ b. b && all_below (kinds_of args) (params_of m)) (eq-eqb args.count m.count e)

-- the own key's type takes the arguments
pub takes_fits : (g : Given) → TakesArgs g → fits_of g ≡ true
takes_fits g a = ap (λ (m : Option MethodTy). typed_takes m (kinds_of g.args)) (ap (type_declared g.t) a.typed ∙ a.is) ∙ a.fits

pub never_unfit : (g : Given) → TakesArgs g → (old new : List Entry) (held : List KeyId) → StaysUnfit g old new held
never_unfit g a old new held unfit = let fits = takes_fits g a in cc (fits, unfit)
