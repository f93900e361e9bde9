-- The walk over a body has one answer.
use Rattle.std.proofs.Common.{◌≡◌, ◌∙◌, sym, subst}
use Rattle.std.specs.Prelude.{Ok, Err, Some}
use Rattle.hb_tree.specs.Table.{Table}
use Rattle.hb_deriv.specs.declared.raw.RawDerivation.{RawDerivation}
use Rattle.hb_deriv.specs.Judge.{Subject}
use Rattle.hb_deriv.specs.Programs.{IsFor, sites_of, subject_of}
use Rattle.hb_deriv.specs.Walk.{State, WalkFault, Walked, walk_body}
use Rattle.hb_verify.specs.Verifies.{StopsAt, raw_content_of}

-- of the body that the derivation names
pub stops_there : (t : Table) (raw : RawDerivation) (f : WalkFault) (s : Subject) → subject_of t raw.class.0 raw.body.0 raw.declared.0 ≡ Some s
    → StopsAt t raw f → walk_body (sites_of t) s (raw_content_of raw) ≡ Err f
stops_there t raw f s is a =
    subst (λ (x : Subject). walk_body (sites_of t) x (raw_content_of raw) ≡ Err f) (same a.subject s (sym a.is ∙ is)) a.stops
  where
    same : (x y : Subject) → Some x ≡ Some y → x ≡ y
    same x y e = cc

pub good_goes_on : (t : Table) (raw : RawDerivation) (f : WalkFault) → IsFor t (raw_content_of raw) → StopsAt t raw f → ⊥
good_goes_on t raw f d a = differ d.good.last f (sym d.good.ends ∙ stops_there t raw f d.subject d.is a)
  where
    differ : (s : State) (f : WalkFault) → (let r : Walked State = Ok s in r) ≡ Err f → ⊥
    differ s f e = cc

pub one_fault : (t : Table) (raw : RawDerivation) (f g : WalkFault) → StopsAt t raw f → StopsAt t raw g → f ≡ g
one_fault t raw f g a b = same f g (sym (stops_there t raw f b.subject b.is a) ∙ b.stops)
  where
    same : (f g : WalkFault) → (let r : Walked State = Err f in r) ≡ Err g → f ≡ g
    same f g e = cc
