-- What the verifier answers.
use Rattle.std.specs.Prelude.{◌≡◌, ◌*◌, ◌≤◌, Result, Ok, Err, Some}
use Rattle.hb_tree.specs.declared.limits.TheConstants.{NODES_IN_BODY_MAX}
use Rattle.hb_tree.specs.Table.{Table}
use Rattle.hb_deriv.specs.declared.raw.RawDerivation.{RawDerivation}
use Rattle.hb_deriv.specs.declared.raw.Derivation.{Derivation}
use Rattle.hb_deriv.specs.Judge.{Subject}
use Rattle.hb_deriv.specs.Derivation.{Content, content_of}
use Rattle.hb_deriv.specs.Programs.{IsFor, sites_of, subject_of}
use Rattle.hb_deriv.specs.Walk.{State, WalkFault, AtStep, AtUses, Walked, walk_body}
use Rattle.hb_verify.specs.declared.progress.Progress.{Progress}
use Rattle.hb_verify.specs.declared.progress.Stop.{Stop}
use Rattle.hb_verify.specs.declared.progress.Stop.TheVariants as stop
use Rattle.hb_verify.specs.declared.bodies.VerifyFail.{VerifyFail}
use Rattle.hb_verify.specs.declared.bodies.VerifyFail.TheVariants as fail

-- what a raw derivation says
abbrev pub raw_content_of : RawDerivation → Content
raw_content_of d = record { class = d.class.0; body = d.body.0; declared = d.declared.0; uses = d.uses.items; steps = d.steps.items }

-- the walk over the body that the derivation names stops first with this fault
pub record StopsAt (t : Table) (raw : RawDerivation) (fault : WalkFault) : Type 0 where
  pub subject : Subject
  pub is : subject_of t raw.class.0 raw.body.0 raw.declared.0 ≡ Some subject
  pub stops : walk_body (sites_of t) subject (raw_content_of raw) ≡ Err fault

-- a good derivation is given back, for another one the first fault of its walk
abbrev pub Verifies : Table → RawDerivation → Result Derivation VerifyFail → Type 0
Verifies t raw (Ok d) = (content_of d ≡ raw_content_of raw) × IsFor t (content_of d)
Verifies t raw (Err (fail.Step n)) = StopsAt t raw (AtStep n)
Verifies t raw (Err (fail.Uses n)) = StopsAt t raw (AtUses n)
Verifies t raw (Err fail.NoMemory) = Unit {0}

-- a walk ends so, at this place
abbrev pub Closes : Walked State → Progress → Result (Unit {0}) Stop → Type 0
Closes walked at (Ok u) = (last : State) × (walked ≡ Ok last)
Closes walked at (Err stop.Step) = walked ≡ Err (AtStep at.passed)
Closes walked at (Err stop.Uses) = walked ≡ Err (AtUses at.taken)
Closes walked at (Err stop.Full) = ⊥

-- the walk over the body that the derivation names ends so, at this place
abbrev pub Ends : Table → RawDerivation → Progress → Result (Unit {0}) Stop → Type 0
Ends t raw at (Ok u) = IsFor t (raw_content_of raw)
Ends t raw at (Err stop.Step) = StopsAt t raw (AtStep at.passed)
Ends t raw at (Err stop.Uses) = StopsAt t raw (AtUses at.taken)
Ends t raw at (Err stop.Full) = ⊥

-- the number that counts is small: a body has few expressions and calls
abbrev pub Few : Progress → Result (Unit {0}) Stop → Type 0
Few at (Err stop.Step) = at.passed ≤ NODES_IN_BODY_MAX * 2
Few at (Err stop.Uses) = at.taken ≤ NODES_IN_BODY_MAX * 2
Few at _ = Unit {0}
