-- How the walk over a body ends, from what the walk over its block comes to.
use Rattle.std.proofs.Common.{◌≡◌, ℕ, ◌*◌, ◌<◌, ◌≤◌, drop, drop-cons, List, ◌++◌, length, true, false, refl, sym, ap, ◌∙◌, subst, arith}
use Rattle.std.proofs.Math.ListN.{drop_of_length-le}
use Rattle.std.specs.Prelude.{Result, Ok, Err, Some, slice_get, nat_eq}
use Rattle.std.specs.Set.{distinct_count}
use Rattle.hb_types.specs.declared.env.TheConstants.{VARIABLES_MAX}
use Rattle.hb_types.specs.declared.types.MethodTy.{MethodTy}
use Rattle.hb_types.specs.declared.types.Ty.{Ty}
use Rattle.hb_tree.specs.declared.limits.TheConstants.{NODES_IN_BODY_MAX}
use Rattle.hb_types.specs.Types.{is_below, params_of as types_of}
use Rattle.hb_types.specs.Variables.{Variables}
use Rattle.hb_tree.specs.declared.parts.Body.{Body}
use Rattle.hb_tree.specs.Table.{Table}
use Rattle.hb_tree.specs.Nodes.{params_of}
use Rattle.hb_tree.specs.TreeAt.{tree_at}
use Rattle.hb_tree.specs.Counts.{names_assigned_in, nodes_in}
use Rattle.hb_deriv.specs.declared.raw.Used.{Used}
use Rattle.hb_deriv.specs.declared.raw.Step.{Step}
use Rattle.hb_deriv.specs.declared.raw.RawDerivation.{RawDerivation}
use Rattle.hb_deriv.specs.Judge.{Subject, Typed, variables_of, has_count}
use Rattle.hb_deriv.specs.Programs.{sites_of, subject_of}
use Rattle.hb_deriv.specs.Walk.{State, WalkFault, AtStep, AtUses, Walked, ◌>>>◌, at_end, start, walk, walk_body}
use Rattle.hb_verify.specs.declared.progress.Progress.{Progress}
use Rattle.hb_verify.specs.declared.progress.Stop.{Stop}
use Rattle.hb_verify.specs.declared.progress.Stop.TheVariants as stop
use Rattle.hb_verify.specs.Room.{names_of}
use Rattle.hb_verify.specs.Follows.{Comes, state_of}
use Rattle.hb_verify.specs.Walks.{Walks}
use Rattle.hb_verify.specs.Verifies.{Closes, Ends, Few, StopsAt, raw_content_of}
use Rattle.hb_verify.proofs.AnswerLemmas.{stops_there}
use Rattle.hb_verify.proofs.CountLemmas.{AtMost, body_few}
use Rattle.hb_verify.proofs.FollowLemmas.{length_take}
use Rattle.hb_verify.proofs.ParameterLemmas.{body_room}

module _ (t : Table) (raw : RawDerivation) (b : Body) (m : MethodTy) (body_is : slice_get t.bodies raw.body.0 ≡ Some b)
    (type_is : sites_of t raw.declared.0 ≡ Some m) where
  abbrev pub subject : Subject
  subject = record { self = raw.class.0; params = params_of b; block = tree_at t b.block.0; declared = m }

  subject_is : subject_of t raw.class.0 raw.body.0 raw.declared.0 ≡ Some subject
  subject_is = rw (body_is, type_is) refl

  abbrev uses : List Used
  uses = raw.uses.items

  abbrev steps : List Step
  steps = raw.steps.items

  abbrev walked : Walked (State × Typed)
  walked = walk (sites_of t) raw.class.0 subject.block (variables_of subject) (start (raw_content_of raw))

  -- what the walk over the block comes to
  abbrev pub Block : Progress → Result Typed Stop → Type 0
  Block new result = Comes uses steps walked (names_of (variables_of subject) ++ names_assigned_in subject.block) new result

  pub block_walked : {us : List Used} {ss : List Step} {old new : Progress} {G : Variables} {result : Result Typed Stop} → us ≡ uses → ss ≡ steps → old.taken
      ≡ 0 → old.passed ≡ 0 → G ≡ variables_of subject
      → Walks t raw.class.0 subject.block G us ss old new result → Block new result
  block_walked {us} {ss} {old} {new} {G} {result} uses_are steps_are taken passed is a =
      subst (λ (s : State). Comes uses steps (walk (sites_of t) raw.class.0 subject.block (variables_of subject) s)
      (names_of (variables_of subject) ++ names_assigned_in subject.block) new result) (begins old taken passed)
      (subst (λ (H : Variables). Comes uses steps (walk (sites_of t) raw.class.0 subject.block H (state_of uses steps old))
      (names_of H ++ names_assigned_in subject.block) new result) is
      (subst (λ (l : List Step). Comes uses l (walk (sites_of t) raw.class.0 subject.block G (state_of uses l old))
      (names_of G ++ names_assigned_in subject.block) new result) steps_are
      (subst (λ (l : List Used). Comes l ss (walk (sites_of t) raw.class.0 subject.block G (state_of l ss old))
      (names_of G ++ names_assigned_in subject.block) new result) uses_are a.comes)))
    where
      begins : (old : Progress) → old.taken ≡ 0 → old.passed ≡ 0 → state_of uses steps old ≡ start (raw_content_of raw)
      begins old taken passed = rw (taken, passed) refl

  body_walked : has_count subject ≡ true → walk_body (sites_of t) subject (raw_content_of raw) ≡ (walked >>> (λ p. at_end m.result p.0 p.1.1 p.0.steps))
  body_walked count = rw count refl

  stops : (f : WalkFault) → walk_body (sites_of t) subject (raw_content_of raw) ≡ Err f → StopsAt t raw f
  stops f e = record { subject = subject; is = subject_is; stops = e }

  -- another number of parameters
  count_stops : has_count subject ≡ false → walk_body (sites_of t) subject (raw_content_of raw) ≡ Err (AtStep 0)
  count_stops count = rw count refl

  pub ends_count : (at : Progress) → has_count subject ≡ false → at.passed ≡ 0 → StopsAt t raw (AtStep at.passed)
  ends_count at count none = stops (AtStep at.passed) (count_stops count ∙ ap (λ (n : ℕ). let r : Walked State = Err (AtStep n) in r) (sym none))

  -- the walk over the block stops
  block_stops : (new : Progress) (f : WalkFault) → has_count subject ≡ true → walked ≡ Err f → walk_body (sites_of t) subject (raw_content_of raw) ≡ Err f
  unfolding ◌>>>◌
  block_stops new f count e = body_walked count ∙ ap (λ (r : Walked (State × Typed)). r >>> (λ p. at_end m.result p.0 p.1.1 p.0.steps)) e

  pub ends_early : (new : Progress) (e : Stop) → has_count subject ≡ true → distinct_count nat_eq (params_of b ++ names_assigned_in subject.block) ≤ VARIABLES_MAX
      → Block new (Err e) → Ends t raw new (Err e)
  ends_early new stop.Step count room a = stops (AtStep new.passed) (block_stops new (AtStep new.passed) count a)
  ends_early new stop.Uses count room a = stops (AtUses new.taken) (block_stops new (AtUses new.taken) count a)
  ends_early new stop.Full count room a = a (body_room (params_of b) (types_of m) (names_assigned_in subject.block) room)

  -- it goes through, and the end decides
  block_ends : (new : Progress) (r : Typed) → has_count subject ≡ true → Block new (Ok r) → walk_body (sites_of t) subject (raw_content_of raw)
      ≡ at_end m.result (state_of uses steps new) r.1 (drop new.passed steps)
  unfolding ◌>>>◌
  block_ends new r count a = body_walked count ∙ ap (λ (r : Walked (State × Typed)). r >>> (λ p. at_end m.result p.0 p.1.1 p.0.steps)) a.0

  ends_so : (at : Progress) (result : Result (Unit {0}) Stop) → Closes (walk_body (sites_of t) subject (raw_content_of raw)) at result → Ends t raw at result
  ends_so at (Ok u) h = record { subject = subject; is = subject_is; good = record { last = h.0; ends = h.1 } }
  ends_so at (Err stop.Step) h = stops (AtStep at.passed) h
  ends_so at (Err stop.Uses) h = stops (AtUses at.taken) h
  ends_so at (Err stop.Full) h = absurd h

  pub ends_last : {us : List Used} {ss : List Step} (new : Progress) (r : Typed) (result : Result (Unit {0}) Stop) → us ≡ uses → ss ≡ steps → has_count subject ≡ true
      → Block new (Ok r) → Closes (at_end m.result (state_of us ss new) r.1 (drop new.passed ss)) new result → Ends t raw new result
  ends_last {us} {ss} new r result uses_are steps_are count a h =
      ends_so new result
      (subst (λ (w : Walked State). Closes w new result) (sym (block_ends new r count a))
      (subst (λ (l : List Step). Closes (at_end m.result (state_of uses l new) r.1 (drop new.passed l)) new result) steps_are
      (subst (λ (l : List Used). Closes (at_end m.result (state_of l ss new) r.1 (drop new.passed ss)) new result) uses_are h)))

  -- ── the number in a fault is small ──

  few : (f : WalkFault) → nodes_in subject.block ≤ NODES_IN_BODY_MAX → StopsAt t raw f → AtMost (NODES_IN_BODY_MAX * 2) f
  few f h s = bounded f (body_few (sites_of t) subject (raw_content_of raw) f (stops_there t raw f subject subject_is s))
    where
      bounded : (f : WalkFault) → AtMost (nodes_in subject.block * 2) f → AtMost (NODES_IN_BODY_MAX * 2) f
      bounded (AtUses n) most = omega (arith, most, h)
      bounded (AtStep n) most = omega (arith, most, h)

  pub few_ends : (at : Progress) (result : Result (Unit {0}) Stop) → nodes_in subject.block ≤ NODES_IN_BODY_MAX → Ends t raw at result → Few at result
  few_ends at (Ok u) h e = tt
  few_ends at (Err stop.Step) h e = few (AtStep at.passed) h e
  few_ends at (Err stop.Uses) h e = few (AtUses at.taken) h e
  few_ends at (Err stop.Full) h e = tt

-- ── behind the block ──

module _ (uses : List Used) (steps : List Step) (at : Progress) (limit ty : Ty) where
  abbrev ended : Walked State
  ended = at_end limit (state_of uses steps at) ty (drop at.passed steps)

  pub step_left : (d : Step) → at.passed < length steps → ended ≡ Err (AtStep at.passed)
  step_left d more = rw (drop-cons steps at.passed d more) refl

  pub type_above : length steps ≤ at.passed → is_below ty limit ≡ false → ended ≡ Err (AtStep at.passed)
  type_above all above = rw (drop_of_length-le steps all, above) refl

  pub use_left : (d : Used) → length steps ≤ at.passed → is_below ty limit ≡ true → at.taken < length uses → ended ≡ Err (AtUses at.taken)
  use_left d all below more =
      let within : at.taken ≤ length uses = omega arith in
      rw (drop_of_length-le steps all, below, drop-cons uses at.taken d more, length_take uses at.taken within) refl

  pub none_left : length steps ≤ at.passed → is_below ty limit ≡ true → length uses ≤ at.taken → (last : State) × (ended ≡ Ok last)
  none_left all below none = (state_of uses steps at, rw (drop_of_length-le steps all, below, drop_of_length-le uses none) refl)
