-- What a check of a body answers, from what the check of its block comes to.
use Rattle.std.proofs.Common.{◌≡◌, ℕ, ◌≤◌, List, [], ◌∷◌, ◌++◌, map, Bool, true, false, refl, sym, ap, ◌∙◌, subst, append-nil}
use Rattle.std.specs.Prelude.{Result, Ok, Err, Some, None, slice_get, nat_eq, if◌then◌else◌, ◌||◌}
use Rattle.std.specs.Set.{distinct_count}
use Rattle.hb_types.specs.{Types.is_below, Types.params_of as types_of, Variables.Variables}
use Rattle.hb_types.specs.declared.{env.TheConstants.VARIABLES_MAX, types.Ty.Ty, types.MethodTy.MethodTy}
use Rattle.hb_tree.specs.{Table.Table, Tree.id_of, Nodes.params_of, TreeAt.tree_at, Counts.names_assigned_in}
use Rattle.hb_tree.specs.declared.parts.Body.{Body}
use Rattle.hb_tree.proofs.Trees.{id_of-tree_at}
use Rattle.hb_deriv.proofs.{KeyLemmas.key_itself, JudgementLemmas.body_judged, FaultLemmas.body_fails_from, GoodLemmas.derived_is_good}
use Rattle.hb_deriv.specs.declared.{ill.Ill.Ill, ill.Reason.Reason, raw.Used.Used, raw.Derivation.Derivation}
use Rattle.hb_deriv.specs.declared.ill.Reason.TheVariants as reason
use Rattle.hb_deriv.specs.Judge.{Key, Types, Typed, Verdict, ◌>>=◌, Subject, variables_of, has_count, ended, ill_at, judge, judge_body}
use Rattle.hb_deriv.specs.Events.{events, events_body, fresh, same_key, has, looks}
use Rattle.hb_deriv.specs.Derivation.{AgreesWith, Derives, Sites, content_of, key_of, steps_of, type_at}
use Rattle.hb_deriv.specs.Programs.{IsFor, sites_of, subject_of}
use Rattle.hb_check.proofs.{LookLemmas.key_turned, ParameterLemmas.body_room}
use Rattle.hb_check.specs.{Checked.Checks, Checking.Answers}
use Rattle.hb_check.specs.declared.bodies.Checked.TheVariants as checked
use Rattle.hb_check.specs.declared.{lookup.LookFail.LookFail, notes.Stop.Stop}
use Rattle.hb_check.specs.declared.notes.Stop.TheVariants as stop
use Rattle.hb_check.specs.Asked.{Asked, Declared, Agrees, answer_of, key_asked, types_in}
use Rattle.hb_check.specs.Runs.{State, IsOnce, IsSound, Ran, keys_asked, names_of}

-- ── a type table that has the answers ──

declared_by : List Asked → Declared
declared_by [] k = None
declared_by (a ∷ answers) k = if same_key (key_asked a) k then a.site else declared_by answers k

agrees_more : (a : Asked) (answers all : List Asked) → has (key_asked a) (map key_asked answers) ≡ false → Agrees answers (declared_by all) → Agrees answers (declared_by (a ∷ all))
unfolding declared_by
agrees_more a [] all apart h = tt
agrees_more a (b ∷ answers) all apart h =
    (go (same_key (key_asked b) (key_asked a)) refl apart, agrees_more a answers all (rest (same_key (key_asked b) (key_asked a)) apart) h.1)
  where
    rest : (c : Bool) → c || has (key_asked a) (map key_asked answers) ≡ false → has (key_asked a) (map key_asked answers) ≡ false
    rest true e = absurd (cc)
    rest false e = e

    go : (c : Bool) → same_key (key_asked b) (key_asked a) ≡ c → c || has (key_asked a) (map key_asked answers) ≡ false → (if same_key (key_asked a) (key_asked b) then a.site else declared_by all (key_asked b)) ≡ b.site
    go true e apart = absurd (cc)
    go false e apart = rw (key_turned (key_asked a) (key_asked b) ∙ e) h.0

agrees_itself : (answers : List Asked) → IsOnce (map key_asked answers) → Agrees answers (declared_by answers)
unfolding declared_by
agrees_itself [] once = tt
agrees_itself (a ∷ answers) once = (rw (key_itself (key_asked a)) refl, agrees_more a answers answers once.0 (agrees_itself answers once.1))

-- uses that are the answers
agrees_uses : (sites : Sites) (declared : Declared) (uses : List Used) → Agrees (map answer_of uses) declared → AgreesWith sites uses (types_in sites declared)
agrees_uses sites declared [] h = tt
agrees_uses sites declared (u ∷ uses) h = (ap (type_at sites) h.0, agrees_uses sites declared uses h.1)

keys_of_uses : (uses : List Used) → map key_asked (map answer_of uses) ≡ map key_of uses
keys_of_uses [] = refl
keys_of_uses (u ∷ uses) = ap (λ (ks : List Key). key_of u ∷ ks) (keys_of_uses uses)

-- ── a body ──

abbrev pub start : State
start = record { answers = []; refused = None; uses = []; steps = [] }

begins_sound : IsSound start
begins_sound = record { none_refused = refl; once = tt; used = refl }

module _ (t : Table) (class body declared : ℕ) (b : Body) (m : MethodTy) (body_is : slice_get t.bodies body ≡ Some b) (type_is : sites_of t declared ≡ Some m) where
  abbrev pub subject : Subject
  subject = record { self = class; params = params_of b; block = tree_at t b.block.0; declared = m }

  subject_is : subject_of t class body declared ≡ Some subject
  subject_is = rw (body_is, type_is) refl

  -- where the body fails itself
  at_block : (r : Reason) → ill_at (id_of subject.block) r ≡ record { node = b.block; reason = r }
  at_block r = ap (λ (n : ℕ). ill_at n r) (id_of-tree_at t b.block.0)

  body_judge : (types : Types) → has_count subject ≡ true → judge_body types subject ≡ (judge types class subject.block (variables_of subject) >>= ended subject)
  body_judge types count = rw count refl

  body_events : (types : Types) → has_count subject ≡ true → events_body types subject ≡ events types class subject.block (variables_of subject)
  body_events types count = rw count refl

  body_looks : (types : Types) (keys : List Key) → has_count subject ≡ true → keys ≡ [] ++ fresh [] (events types class subject.block (variables_of subject)) → keys ≡ looks types subject
  body_looks types keys count e = e ∙ sym (ap (fresh []) (body_events types count))

  -- what the check of the block comes to
  abbrev pub Block : State → Result Typed Stop → Type 0
  Block new result = Ran (sites_of t) (λ types. judge types class subject.block (variables_of subject)) (λ types. events types class subject.block (variables_of subject))
      (names_of (variables_of subject) ++ names_assigned_in subject.block) start new result

  pub block_ran : {old new : State} {G : Variables} {result : Result Typed Stop} → old ≡ start → G ≡ variables_of subject → Checks t class subject.block G old new result → Block new result
  block_ran {old} {new} {G} {result} e f a =
      (subst (λ (s : State). Checks t class subject.block (variables_of subject) s new result) e
      (subst (λ (H : Variables). Checks t class subject.block H old new result) f a)).ran begins_sound

  pub answers_count : has_count subject ≡ false → Answers t class body declared [] None (Ok (checked.Bad (record { node = b.block; reason = reason.Count })))
  answers_count count = record {
    subject = subject;
    subject_is = subject_is;
    tells = λ table agrees.
        let types : Types = types_in (sites_of t) table in
        (body_fails_from types subject (record { node = b.block; reason = reason.Count }) (fails types), none_looked types);
    once = tt;
    cause = refl;
    derivation = tt;
  }
    where
      fails : (types : Types) → judge_body types subject ≡ Err (record { node = b.block; reason = reason.Count })
      fails types = rw count (ap (λ (i : Ill). let v : Verdict Typed = Err i in v) (at_block reason.Count))

      none_looked : (types : Types) → [] ≡ looks types subject
      none_looked types = rw count refl

  pub answers_ill : {new : State} (i : Ill) → has_count subject ≡ true → Block new (Err (stop.Ill i)) → Answers t class body declared new.answers new.refused (Ok (checked.Bad i))
  unfolding ◌>>=◌
  answers_ill {new} i count a = record {
    subject = subject;
    subject_is = subject_is;
    tells = λ table agrees.
        let types : Types = types_in (sites_of t) table in
        let part = a.comes table agrees in (
          body_fails_from types subject i (body_judge types count ∙ ap (λ (v : Verdict Typed). v >>= ended subject) part.0),
          body_looks types (keys_asked new.answers new.refused) count part.1.keys,
        );
    once = a.leaves.1;
    cause = a.leaves.0;
    derivation = tt;
  }

  pub answers_look : {new : State} (cause : LookFail) → has_count subject ≡ true → Block new (Err (stop.Look cause)) → Answers t class body declared new.answers new.refused (Err cause)
  answers_look {new} cause count a = record {
    subject = subject;
    subject_is = subject_is;
    tells = λ table agrees.
        let part = a.comes table agrees in
        (part.rest, ap (fresh []) (body_events (types_in (sites_of t) table) count) ∙ part.front);
    once = a.leaves.1;
    cause = a.leaves.0;
    derivation = tt;
  }

  -- a body ends with a type, which is below what is declared or not
  body_ends : (types : Types) (r : Typed) → has_count subject ≡ true → judge types class subject.block (variables_of subject) ≡ Ok r → judge_body types subject ≡ ended subject r
  unfolding ◌>>=◌
  body_ends types r count e = body_judge types count ∙ ap (λ (v : Verdict Typed). v >>= ended subject) e

  pub answers_result : {new : State} (G : Variables) (ty : Ty) → has_count subject ≡ true → is_below ty m.result ≡ false → Block new (Ok (G, ty))
      → Answers t class body declared new.answers new.refused (Ok (checked.Bad (record { node = b.block; reason = reason.Result })))
  answers_result {new} G ty count above a = record {
    subject = subject;
    subject_is = subject_is;
    tells = λ table agrees.
        let types : Types = types_in (sites_of t) table in
        let part = a.comes table agrees in (
          body_fails_from types subject (record { node = b.block; reason = reason.Result }) (body_ends types (G, ty) count part.0 ∙ fails),
          body_looks types (keys_asked new.answers new.refused) count part.1.keys,
        );
    once = a.leaves.0.once;
    cause = a.leaves.0.none_refused;
    derivation = tt;
  }
    where
      fails : ended subject (G, ty) ≡ Err (record { node = b.block; reason = reason.Result })
      fails = rw above (ap (λ (i : Ill). let v : Verdict Typed = Err i in v) (at_block reason.Result))

  module _ (new : State) (G : Variables) (ty : Ty) (d : Derivation) (count : has_count subject ≡ true) (below : is_below ty m.result ≡ true) (a : Block new (Ok (G, ty)))
      (class_is : d.class.0 ≡ class) (site_is : d.body.0 ≡ body) (declared_is : d.declared.0 ≡ declared) (uses_are : d.uses.items ≡ new.uses) (steps_are : d.steps.items ≡ new.steps) where
    judged : (table : Declared) → Agrees new.answers table → judge_body (types_in (sites_of t) table) subject ≡ Ok (G, ty)
    judged table agrees = body_ends (types_in (sites_of t) table) (G, ty) count (a.comes table agrees).0 ∙ rw below refl

    looked : (table : Declared) → Agrees new.answers table → keys_asked new.answers new.refused ≡ looks (types_in (sites_of t) table) subject
    looked table agrees = body_looks (types_in (sites_of t) table) (keys_asked new.answers new.refused) count (a.comes table agrees).1.keys

    used : new.answers ≡ map answer_of d.uses.items
    used = a.leaves.0.used ∙ ap (map answer_of) (sym uses_are)

    keys_are : keys_asked new.answers new.refused ≡ map key_of d.uses.items
    keys_are =
        ap (keys_asked new.answers) a.leaves.0.none_refused ∙ append-nil (map key_asked new.answers)
        ∙ ap (map key_asked) used ∙ keys_of_uses d.uses.items

    derives : (table : Declared) → Agrees new.answers table → Derives (types_in (sites_of t) table) subject (content_of d)
    derives table agrees =
        let types : Types = types_in (sites_of t) table in
        record {
          judged = body_judged types subject (G, ty) (judged table agrees);
          uses = sym keys_are ∙ looked table agrees;
          steps = steps_are ∙ (a.comes table agrees).1.steps ∙ sym (steps_same types);
        }
      where
        steps_same : (types : Types) → steps_of (events_body types subject) ≡ steps_of (events types class subject.block (variables_of subject))
        steps_same types = ap steps_of (body_events types count)

    agrees_all : Agrees new.answers (declared_by new.answers)
    agrees_all = agrees_itself new.answers (subst IsOnce (ap (keys_asked new.answers) a.leaves.0.none_refused ∙ append-nil (map key_asked new.answers)) a.leaves.0.once)

    for_program : IsFor t (content_of d)
    for_program = record {
      subject = subject;
      is = rw (class_is, site_is, declared_is) subject_is;
      good = derived_is_good (sites_of t) subject (content_of d) (types_in (sites_of t) (declared_by new.answers))
          (agrees_uses (sites_of t) (declared_by new.answers) d.uses.items (subst (λ (known : List Asked). Agrees known (declared_by new.answers)) used agrees_all))
          (derives (declared_by new.answers) agrees_all);
    }

    pub answers_good : Answers t class body declared new.answers new.refused (Ok (checked.Good d))
    answers_good = record {
      subject = subject;
      subject_is = subject_is;
      tells = λ table agrees. (body_judged (types_in (sites_of t) table) subject (G, ty) (judged table agrees), looked table agrees);
      once = a.leaves.0.once;
      cause = a.leaves.0.none_refused;
      derivation = record { class_is = class_is; body_is = site_is; declared_is = declared_is; uses = used; good = for_program };
    }

  -- a body of a program has room for its variables
  pub never_full : {new : State} → distinct_count nat_eq (params_of b ++ names_assigned_in subject.block) ≤ VARIABLES_MAX → Block new (Err stop.Full) → ⊥
  never_full few a = a.leaves (body_room (params_of b) (types_of m) (names_assigned_in subject.block) few)
