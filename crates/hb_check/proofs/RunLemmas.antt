-- What a part comes to, and what follows it, make what the whole comes to.
use Rattle.std.proofs.Common.{◌≡◌, ℕ, List, [], ◌∷◌, ◌++◌, map, Bool, true, false, refl, sym, ap, ◌∙◌, subst, append_assoc, append-nil}
use Rattle.std.specs.Prelude.{Result, Ok, Err, Option, nat_eq, ◌||◌}
use Rattle.std.specs.Set.{is_member}
use Rattle.hb_types.specs.declared.{ids.NodeId.NodeId, types.Ty.Ty}
use Rattle.hb_types.specs.Variables.{Variables}
use Rattle.hb_deriv.specs.declared.{raw.Step.Step, raw.Used.Used, ill.Ill.Ill, ill.Reason.Reason}
use Rattle.hb_deriv.specs.Judge.{Key, Types, Typed, Verdict, ◌>>=◌}
use Rattle.hb_deriv.specs.Events.{Events, Look, Done, behind, done, fresh}
use Rattle.hb_deriv.specs.Derivation.{Sites, step, steps_of}
use Rattle.hb_deriv.proofs.LookLemmas.{fresh_both}
use Rattle.hb_check.specs.declared.notes.Stop.{Stop}
use Rattle.hb_check.specs.declared.notes.Stop.TheVariants as stop
use Rattle.hb_check.specs.declared.lookup.LookFail.TheVariants as look
use Rattle.hb_check.specs.Asked.{Asked, Refusal, Declared, Agrees, answer_of, types_in}
use Rattle.hb_check.specs.Rules.{concluded}
use Rattle.hb_check.specs.Runs.{State, keys_asked, keys_in, IsCause, names_of, Within, HasLogged, HasFront, Comes, Leaves, Ran, Runs}

-- ── keys and steps ──

pub steps_both : (es fs : Events) → steps_of (es ++ fs) ≡ steps_of es ++ steps_of fs
steps_both [] fs = refl
steps_both (Look id k ∷ es) fs = steps_both es fs
steps_both (Done id t ∷ es) fs = ap (λ (ss : List Step). step id t ∷ ss) (steps_both es fs)

-- the keys behind both lists of events
keys_both : (old mid : List Key) (es fs : Events) → mid ≡ old ++ fresh old es → mid ++ fresh mid fs ≡ old ++ fresh old (es ++ fs)
keys_both old mid es fs e =
    ap (λ (ks : List Key). ks ++ fresh ks fs) e
    ∙ append_assoc old (fresh old es) (fresh (old ++ fresh old es) fs)
    ∙ ap (λ (ks : List Key). old ++ ks) (sym (fresh_both old es fs))

logged_both : {es fs : Events} {old mid new : State} → HasLogged es old mid → HasLogged fs mid new → HasLogged (es ++ fs) old new
logged_both {es} {fs} {old} {mid} {new} h k = record {
  keys = k.keys ∙ keys_both (keys_in old) (keys_in mid) es fs h.keys;
  steps =
      k.steps ∙ ap (λ (ss : List Step). ss ++ steps_of fs) h.steps
      ∙ append_assoc old.steps (steps_of es) (steps_of fs)
      ∙ ap (λ (ss : List Step). old.steps ++ ss) (sym (steps_both es fs));
}

front_both : {es fs : Events} {old mid new : State} → HasLogged es old mid → HasFront fs mid new → HasFront (es ++ fs) old new
front_both {es} {fs} {old} {mid} h k = record {
  rest = k.rest;
  front = sym (keys_both (keys_in old) (keys_in mid) es fs h.keys) ∙ k.front;
}

-- a front of the keys of some events is one of those of more
front_more : {es : Events} {old new : State} (fs : Events) → HasFront es old new → HasFront (es ++ fs) old new
front_more {es} {old} {new} fs h =
    let seen : List Key = keys_in old in
    let more : List Key = fresh (seen ++ fresh seen es) fs in
    record {
      rest = h.rest ++ more;
      front =
          ap (λ (ks : List Key). seen ++ ks) (fresh_both seen es fs)
          ∙ sym (append_assoc seen (fresh seen es) more)
          ∙ ap (λ (ks : List Key). ks ++ more) h.front
          ∙ append_assoc (keys_in new) h.rest more;
    }

logged_none : {es : Events} {old new : State} → HasLogged es old new → HasLogged (es ++ []) old new
logged_none {es} {old} {new} h = subst (λ (fs : Events). HasLogged fs old new) (sym (append-nil es)) h

-- ── names ──

pub within_itself : (names : List ℕ) → Within names names
within_itself names x h = h

pub within_left : (names more : List ℕ) → Within names (names ++ more)
within_left [] more x h = absurd (cc)
within_left (y ∷ names) more x h = go (nat_eq x y) (within_left names more x) h
  where
    go : (b : Bool) → (is_member nat_eq names x ≡ true → is_member nat_eq (names ++ more) x ≡ true) → b || is_member nat_eq names x ≡ true → b || is_member nat_eq (names ++ more) x ≡ true
    go true rest h = refl
    go false rest h = rest h

pub within_right : (names more : List ℕ) → Within more (names ++ more)
within_right [] more x h = h
within_right (y ∷ names) more x h = go (nat_eq x y) (within_right names more x h)
  where
    go : (b : Bool) → is_member nat_eq (names ++ more) x ≡ true → b || is_member nat_eq (names ++ more) x ≡ true
    go true rest = refl
    go false rest = rest

pub within_both : (names more others : List ℕ) → Within names others → Within more others → Within (names ++ more) others
within_both [] more others h k x i = k x i
within_both (y ∷ names) more others h k x i = go (nat_eq x y) (λ j. h x j) (within_both names more others (λ z j. h z (within_right (y ∷ []) names z j)) k x) i
  where
    go : (b : Bool) → (b || is_member nat_eq names x ≡ true → is_member nat_eq others x ≡ true) → (is_member nat_eq (names ++ more) x ≡ true → is_member nat_eq others x ≡ true)
        → b || is_member nat_eq (names ++ more) x ≡ true → is_member nat_eq others x ≡ true
    go true first rest i = first refl
    go false first rest i = rest i

-- ── answers ──

agrees_front : (declared : Declared) (old more : List Asked) → Agrees (old ++ more) declared → Agrees old declared
agrees_front declared [] more h = tt
agrees_front declared (a ∷ old) more h = (h.0, agrees_front declared old more h.1)

pub agrees_before : (declared : Declared) (old more new : List Asked) → new ≡ old ++ more → Agrees new declared → Agrees old declared
agrees_before declared old more new e h = agrees_front declared old more (subst (λ (answers : List Asked). Agrees answers declared) e h)

-- ── parts ──

pub leaves_wider : {X : Type 0} (names others : List ℕ) (new : State) (result : Result (Variables × X) Stop) → Within names others → Leaves names new result → Leaves others new result
leaves_wider names others new (Ok r) w h = (h.0, λ x i. w x (h.1 x i))
leaves_wider names others new (Err (stop.Ill i)) w h = h
leaves_wider names others new (Err (stop.Look cause)) w h = h
leaves_wider names others new (Err stop.Full) w h = λ room. h (λ some apart within. room some apart (λ x i. w x (within x i)))

comes_behind : {X : Type 0} (verdict : Verdict (Variables × X)) (es fs : Events) (old mid new : State) (result : Result (Variables × X) Stop) → HasLogged es old mid
    → Comes verdict fs mid new result → Comes verdict (es ++ fs) old new result
comes_behind verdict es fs old mid new (Ok r) h k = (k.0, logged_both h k.1)
comes_behind verdict es fs old mid new (Err (stop.Ill i)) h k = (k.0, logged_both h k.1)
comes_behind verdict es fs old mid new (Err (stop.Look cause)) h k = front_both h k
comes_behind verdict es fs old mid new (Err stop.Full) h k = tt

module _ {X Y : Type 0} {sites : Sites} {v : Types → Verdict (Variables × X)} {es : Types → Events} (k : Types → Variables × X → Verdict (Variables × Y)) (l : Types → Variables × X → Events) where
  ran_then : {names more others : List ℕ} {old mid new : State} {r : Variables × X} {result : Result (Variables × Y) Stop}
      → Ran sites v es names old mid (Ok r) → Ran sites (λ types. k types r) (λ types. l types r) more mid new result
      → Within more others
      → Ran sites (λ types. v types >>= k types) (λ types. es types ++ behind (v types) (l types)) others old new result
  unfolding ◌>>=◌ behind
  ran_then {old = old} {mid} {new} {r} {result} a b w = record {
    more = a.more ++ b.more;
    grows = b.grows ∙ ap (λ (answers : List Asked). answers ++ b.more) a.grows ∙ append_assoc old.answers a.more b.more;
    leaves = leaves_wider _ _ _ result w b.leaves;
    comes = λ declared agrees.
        let types : Types = types_in sites declared in
        let first = a.comes declared (agrees_before declared mid.answers b.more new.answers b.grows agrees) in
        subst (λ (x : Verdict (Variables × X)). Comes (x >>= k types) (es types ++ behind x (l types)) old new result) (sym first.0)
        (comes_behind _ _ _ _ _ _ result first.1 (b.comes declared agrees));
  }

  ran_stop : {names others : List ℕ} {old new : State} (e : Stop)
      → Ran sites v es names old new (let x : Result (Variables × X) Stop = Err e in x)
      → Within names others
      → Ran sites (λ types. v types >>= k types) (λ types. es types ++ behind (v types) (l types)) others old new (let y : Result (Variables × Y) Stop = Err e in y)
  unfolding ◌>>=◌ behind
  ran_stop {old = old} {new} (stop.Ill i) a w = record {
    more = a.more;
    grows = a.grows;
    leaves = a.leaves;
    comes = λ declared agrees.
        let types : Types = types_in sites declared in
        let first = a.comes declared agrees in (
          ap (λ (x : Verdict (Variables × X)). x >>= k types) first.0,
          subst (λ (x : Verdict (Variables × X)). HasLogged (es types ++ behind x (l types)) old new) (sym first.0) (logged_none first.1),
        );
  }
  ran_stop (stop.Look cause) a w = record {
    more = a.more;
    grows = a.grows;
    leaves = a.leaves;
    comes = λ declared agrees. front_more (behind (v (types_in sites declared)) (l (types_in sites declared))) (a.comes declared agrees);
  }
  ran_stop {names} {others} {new = new} stop.Full a w = record {
    more = a.more;
    grows = a.grows;
    leaves = leaves_wider names others new (let y : Result (Variables × Y) Stop = Err stop.Full in y) w a.leaves;
    comes = λ declared agrees. tt;
  }

  -- A part has a type, and what follows goes on from variables that were there or assigned.
  pub runs_from : {A B : List ℕ} {G H : Variables} {old mid new : State} {r : Variables × X} {result : Result (Variables × Y) Stop}
      → Runs sites v es A G old mid (Ok r)
      → Within (names_of H) (names_of G ++ A)
      → Runs sites (λ types. k types r) (λ types. l types r) B H mid new result
      → Runs sites (λ types. v types >>= k types) (λ types. es types ++ behind (v types) (l types)) (A ++ B) G old new result
  runs_from {A} {B} {G} {H} a w b = record {
    ran = λ sound.
        let first = a.ran sound in
        ran_then first (b.ran first.leaves.0) (begun A B G H w);
  }
    where
      begun : (A B : List ℕ) (G H : Variables) → Within (names_of H) (names_of G ++ A) → Within (names_of H ++ B) (names_of G ++ (A ++ B))
      begun A B G H w = within_both (names_of H) B (names_of G ++ (A ++ B))
          (λ x i. subst (λ (names : List ℕ). is_member nat_eq names x ≡ true) (append_assoc (names_of G) A B) (within_left (names_of G ++ A) B x (w x i)))
          (λ x i. within_right (names_of G) (A ++ B) x (within_right A B x i))

  -- from the variables behind the part
  pub runs_then : {A B : List ℕ} {G : Variables} {old mid new : State} {r : Variables × X} {result : Result (Variables × Y) Stop}
      → Runs sites v es A G old mid (Ok r)
      → Runs sites (λ types. k types r) (λ types. l types r) B r.0 mid new result
      → Runs sites (λ types. v types >>= k types) (λ types. es types ++ behind (v types) (l types)) (A ++ B) G old new result
  runs_then a b = record { ran = λ sound. (runs_from a (a.ran sound).leaves.1 b).ran sound }

  -- A part has no type, and nothing follows.
  pub runs_stop : {A : List ℕ} (B : List ℕ) {G : Variables} {old new : State} {e : Stop}
      → Runs sites v es A G old new (let x : Result (Variables × X) Stop = Err e in x)
      → Runs sites (λ types. v types >>= k types) (λ types. es types ++ behind (v types) (l types)) (A ++ B) G old new (let y : Result (Variables × Y) Stop = Err e in y)
  runs_stop {A} B {G} {e = e} a = record { ran = λ sound. ran_stop e (a.ran sound) (wider A B G) }
    where
      wider : (A B : List ℕ) (G : Variables) → Within (names_of G ++ A) (names_of G ++ (A ++ B))
      wider A B G x i = subst (λ (names : List ℕ). is_member nat_eq names x ≡ true) (append_assoc (names_of G) A B) (within_left (names_of G ++ A) B x i)

-- ── what is said otherwise ──

-- a part that assigns names which are among these
pub runs_wider : {X : Type 0} {sites : Sites} {v : Types → Verdict (Variables × X)} {es : Types → Events} (A B : List ℕ) {G : Variables} {old new : State} {result : Result (Variables × X) Stop}
    → Within A B → Runs sites v es A G old new result → Runs sites v es B G old new result
runs_wider A B {G} {new = new} {result} w a = record {
  ran = λ sound.
      let part = a.ran sound in
      record {
        more = part.more;
        grows = part.grows;
        leaves = leaves_wider (names_of G ++ A) (names_of G ++ B) new result
            (within_both (names_of G) A (names_of G ++ B) (within_left (names_of G) B) (λ x i. within_right (names_of G) B x (w x i)))
            part.leaves;
        comes = part.comes;
      };
}

-- the same verdict and events in each table
pub runs_alike : {X : Type 0} {sites : Sites} (v w : Types → Verdict (Variables × X)) (es fs : Types → Events) {A : List ℕ} {G : Variables} {old new : State} {result : Result (Variables × X) Stop}
    → ((types : Types) → v types ≡ w types) → ((types : Types) → es types ≡ fs types)
    → Runs sites v es A G old new result → Runs sites w fs A G old new result
runs_alike {sites = sites} v w es fs {old = old} {new} {result} same also a = record {
  ran = λ sound.
      let part = a.ran sound in
      record {
        more = part.more;
        grows = part.grows;
        leaves = part.leaves;
        comes = λ declared agrees.
            let types : Types = types_in sites declared in
            subst (λ x. Comes x (fs types) old new result) (same types)
            (subst (λ x. Comes (v types) x old new result) (also types) (part.comes declared agrees));
      };
}

-- ── parts that do nothing ──

logged_nothing : (s : State) → HasLogged [] s s
logged_nothing s = record { keys = sym (append-nil (keys_in s)); steps = sym (append-nil s.steps) }

none_asked : (s : State) → s.answers ≡ s.answers ++ []
none_asked s = sym (append-nil s.answers)

-- a part has a type at once
pub runs_value : {X : Type 0} (sites : Sites) (G : Variables) (s : State) (x : X) → Runs sites (λ types. Ok (G, x)) (λ types. []) [] G s s (Ok (G, x))
runs_value sites G s x = record {
  ran = λ sound. record {
    more = [];
    grows = none_asked s;
    leaves = (sound, within_left (names_of G) []);
    comes = λ declared agrees. (refl, logged_nothing s);
  };
}

-- or has none
pub runs_ill : {X : Type 0} (sites : Sites) (A : List ℕ) (G : Variables) (s : State) (i : Ill) → Runs sites (λ types. (let v : Verdict (Variables × X) = Err i in v)) (λ types. []) A G s s (Err (stop.Ill i))
runs_ill sites A G s i = record {
  ran = λ sound. record {
    more = [];
    grows = none_asked s;
    leaves = (sound.none_refused, sound.once);
    comes = λ declared agrees. (refl, logged_nothing s);
  };
}

pub runs_given : {sites : Sites} {G : Variables} {id : ℕ} {t : Ty} {old new : State} {result : Result Typed Stop} (verdict : Result Ty Reason)
    → verdict ≡ Ok t → Runs sites (λ types. Ok (G, t)) (λ types. Done id t ∷ []) [] G old new result
    → Runs sites (λ types. concluded id G verdict) (λ types. done id (concluded id G verdict)) [] G old new result
unfolding behind
runs_given {sites} {G} {id} {t} {old} {new} {result} verdict e a = subst (λ x. Runs sites (λ types. concluded id G x) (λ types. done id (concluded id G x)) [] G old new result) (sym e) a

-- and a rule that gives a reason ends the check
pub runs_denied : (sites : Sites) (G : Variables) (s : State) (id : NodeId) (r : Reason) (verdict : Result Ty Reason)
    → verdict ≡ Err r
    → Runs sites (λ types. concluded id.0 G verdict) (λ types. done id.0 (concluded id.0 G verdict)) [] G s s (Err (stop.Ill (record { node = id; reason = r })))
unfolding behind
runs_denied sites G s id r verdict e = subst (λ x. Runs sites (λ types. concluded id.0 G x) (λ types. done id.0 (concluded id.0 G x)) [] G s s (Err (stop.Ill (record { node = id; reason = r }))))
    (sym e) (runs_ill sites [] G s (record { node = id; reason = r }))
