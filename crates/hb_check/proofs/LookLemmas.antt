-- What a check comes to where it looks at the type of a method.
use Rattle.std.proofs.Common.{◌≡◌, ℕ, ap₂, List, [], ◌∷◌, ◌++◌, map, Bool, true, false, refl, sym, ap, ◌∙◌, subst, append-nil}
use Rattle.std.specs.Prelude.{Result, Ok, Err, Option, Some, None, if◌then◌else◌, ◌||◌, ◌&&◌}
use Rattle.std.specs.Cmp.{nat_eq_equiv}
use Rattle.hb_types.specs.declared.{ids.ClassId.ClassId, ids.NameId.NameId, ids.NodeId.NodeId, ids.TypeSite.TypeSite, types.MethodTy.MethodTy}
use Rattle.hb_types.specs.Variables.{Variables}
use Rattle.hb_deriv.specs.declared.ill.Reason.TheVariants as reason
use Rattle.hb_deriv.specs.declared.{raw.Used.Used, raw.Step.Step}
use Rattle.hb_deriv.specs.{Judge.Key, Judge.Types, Judge.Verdict, Derivation.Sites, Derivation.key_of, Derivation.type_at}
use Rattle.hb_deriv.specs.Events.{Events, Look, same_key, has, fresh}
use Rattle.hb_deriv.proofs.KeyLemmas.{key_same}
use Rattle.hb_check.specs.declared.{lookup.LookFail.LookFail, notes.Stop.Stop}
use Rattle.hb_check.specs.declared.lookup.LookFail.TheVariants as look
use Rattle.hb_check.specs.declared.notes.Stop.TheVariants as stop
use Rattle.hb_check.specs.Asked.{Asked, Refusal, Declared, Agrees, asked, refusal, answer_of, key_asked}
use Rattle.hb_check.specs.Looking.{IsVerdict, site_among, with_type}
use Rattle.hb_check.specs.Runs.{State, keys_asked, keys_in, names_of, IsOnce, IsSound, HasLogged, HasFront, Comes, Leaves, Ran, Runs, with_variables}
use Rattle.hb_check.proofs.RunLemmas.{within_left}

-- ── keys ──

pub key_turned : (j k : Key) → same_key j k ≡ same_key k j
key_turned j k = ap₂ ◌&&◌ (nat_eq_equiv.symm j.0 k.0) (nat_eq_equiv.symm j.1 k.1)

keys_more : (answers : List Asked) (a : Asked) → map key_asked (answers ++ a ∷ []) ≡ map key_asked answers ++ key_asked a ∷ []
keys_more [] a = refl
keys_more (b ∷ answers) a = ap (λ (ks : List Key). key_asked b ∷ ks) (keys_more answers a)

has_more : (j k : Key) (ks : List Key) → has j ks ≡ false → same_key k j ≡ false → has j (ks ++ k ∷ []) ≡ false
has_more j k [] h apart = rw apart refl
has_more j k (i ∷ ks) h apart = go (same_key i j) h (has_more j k ks)
  where
    go : (b : Bool) → b || has j ks ≡ false → (has j ks ≡ false → same_key k j ≡ false → has j (ks ++ k ∷ []) ≡ false) → b || has j (ks ++ k ∷ []) ≡ false
    go true h rest = absurd (cc)
    go false h rest = rest h apart

first_apart : (a b : Bool) → a || b ≡ false → a ≡ false
first_apart true b h = absurd (cc)
first_apart false b h = refl

rest_apart : (a b : Bool) → a || b ≡ false → b ≡ false
rest_apart true b h = absurd (cc)
rest_apart false b h = h

-- one key more, which is none of them
once_more : (ks : List Key) (k : Key) → IsOnce ks → has k ks ≡ false → IsOnce (ks ++ k ∷ [])
once_more [] k once new = (refl, tt)
once_more (j ∷ ks) k once new = (
  has_more j k ks once.0 (key_turned k j ∙ first_apart (same_key j k) (has k ks) new),
  once_more ks k once.1 (rest_apart (same_key j k) (has k ks) new),
)

-- a key that has no use was not asked
absent : (uses : List Used) (k : Key) → site_among uses k ≡ None → has k (map key_asked (map answer_of uses)) ≡ false
absent [] k h = refl
absent (u ∷ uses) k h = go (same_key (key_of u) k) h (absent uses k)
  where
    go : (b : Bool) → (if b then Some u.site else site_among uses k) ≡ None → (site_among uses k ≡ None → has k (map key_asked (map answer_of uses)) ≡ false) → b || has k (map key_asked (map answer_of uses)) ≡ false
    go true h rest = absurd (cc)
    go false h rest = rest h

-- one that has a use was asked, and the answer was its site
present : (uses : List Used) (k : Key) (site : TypeSite) → site_among uses k ≡ Some site → has k (map key_asked (map answer_of uses)) ≡ true
present [] k site h = absurd (cc)
present (u ∷ uses) k site h = go (same_key (key_of u) k) h (present uses k site)
  where
    go : (b : Bool) → (if b then Some u.site else site_among uses k) ≡ Some site → (site_among uses k ≡ Some site → has k (map key_asked (map answer_of uses)) ≡ true)
        → b || has k (map key_asked (map answer_of uses)) ≡ true
    go true h rest = refl
    go false h rest = rest h

answered : (declared : Declared) (uses : List Used) (k : Key) (site : TypeSite) → site_among uses k ≡ Some site → Agrees (map answer_of uses) declared → declared k ≡ Some site.0
answered declared [] k site h agrees = absurd (cc)
answered declared (u ∷ uses) k site h agrees = go (same_key (key_of u) k) refl h (answered declared uses k site)
  where
    is : (s : Option TypeSite) → s ≡ Some site → s ≡ Some u.site → u.site.0 ≡ site.0
    is s e f = cc

    go : (b : Bool) → same_key (key_of u) k ≡ b → (if b then Some u.site else site_among uses k) ≡ Some site
        → (site_among uses k ≡ Some site → Agrees (map answer_of uses) declared → declared k ≡ Some site.0) → declared k ≡ Some site.0
    go true same h rest =
        subst (λ (j : Key). declared j ≡ Some site.0) (key_same (key_of u) k same)
        (agrees.0 ∙ ap (λ (n : ℕ). let o : Option ℕ = Some n in o) (is (Some u.site) h refl))
    go false same h rest = rest h agrees.1

agrees_last : (declared : Declared) (answers : List Asked) (a : Asked) → Agrees (answers ++ a ∷ []) declared → declared (key_asked a) ≡ a.site
agrees_last declared [] a h = h.0
agrees_last declared (b ∷ answers) a h = agrees_last declared answers a h.1

-- ── looks ──

abbrev st : List Asked → Option Refusal → List Used → List Step → State
st answers refused uses steps = record { answers = answers; refused = refused; uses = uses; steps = steps }

abbrev used : ClassId → NameId → TypeSite → Used
used class name site = record { class = class; name = name; site = site }

module _ (sites : Sites) (G : Variables) (node : NodeId) (class : ClassId) (name : NameId) (answers : List Asked) (uses : List Used) (steps : List Step) where
  abbrev k : Key
  k = (class.0, name.0)

  abbrev seen : List Key
  seen = keys_asked answers None

  abbrev looked : Types → Events
  looked types = Look node.0 k ∷ []

  abbrev typed : Types → Verdict (Variables × MethodTy)
  typed types = with_type node.0 G (types k)

  -- the key was not asked before
  unseen : IsSound (st answers None uses steps) → site_among uses k ≡ None → has k seen ≡ false
  unseen sound none =
      subst (λ (ks : List Key). has k ks ≡ false) (sym (append-nil (map key_asked answers)))
      (subst (λ (known : List Asked). has k (map key_asked known) ≡ false) (sym sound.used) (absent uses k none))

  logs : has k seen ≡ false → seen ++ fresh seen (Look node.0 k ∷ []) ≡ seen ++ k ∷ []
  logs new = rw new refl

  -- the keys with this one behind them, which was answered or refused
  one_answered : (site : Option TypeSite) → keys_asked (answers ++ asked class name site ∷ []) None ≡ seen ++ k ∷ []
  one_answered site =
      append-nil (map key_asked (answers ++ asked class name site ∷ []))
      ∙ keys_more answers (asked class name site)
      ∙ ap (λ (ks : List Key). ks ++ k ∷ []) (sym (append-nil (map key_asked answers)))

  one_refused : (cause : LookFail) → keys_asked answers (Some (refusal class name cause)) ≡ seen ++ k ∷ []
  one_refused cause = ap (λ (ks : List Key). ks ++ k ∷ []) (sym (append-nil (map key_asked answers)))

  -- all that was to be asked was asked
  whole : (new : State) → has k seen ≡ false → keys_in new ≡ seen ++ k ∷ [] → HasFront (Look node.0 k ∷ []) (st answers None uses steps) new
  whole new apart e = record { rest = []; front = logs apart ∙ sym e ∙ sym (append-nil (keys_in new)) }

  logged : (new : State) → has k seen ≡ false → keys_in new ≡ seen ++ k ∷ [] → new.steps ≡ steps → HasLogged (Look node.0 k ∷ []) (st answers None uses steps) new
  logged new apart e same = record { keys = e ∙ sym (logs apart); steps = same ∙ sym (append-nil steps) }

  still_once : (ks : List Key) → IsSound (st answers None uses steps) → has k seen ≡ false → ks ≡ seen ++ k ∷ [] → IsOnce ks
  still_once ks sound apart e = subst IsOnce (sym e) (once_more seen k sound.once apart)

  ran_refused : (cause : LookFail) → site_among uses k ≡ None → IsSound (st answers None uses steps)
      → Ran sites typed looked (names_of G ++ []) (st answers None uses steps) (st answers (Some (refusal class name cause)) uses steps) (Err (stop.Look cause))
  ran_refused cause none sound =
      let apart = unseen sound none in
      record {
        more = [];
        grows = sym (append-nil answers);
        leaves = (refl, still_once _ sound apart (one_refused cause));
        comes = λ declared agrees. whole (st answers (Some (refusal class name cause)) uses steps) apart (one_refused cause);
      }

  ran_forgotten : (site : TypeSite) → site_among uses k ≡ None → IsSound (st answers None uses steps)
      → Ran sites typed looked (names_of G ++ []) (st answers None uses steps) (st (answers ++ asked class name (Some site) ∷ []) None uses steps) (Err (stop.Look look.NoMemory))
  ran_forgotten site none sound =
      let apart = unseen sound none in
      record {
        more = asked class name (Some site) ∷ [];
        grows = refl;
        leaves = (refl, still_once _ sound apart (one_answered (Some site)));
        comes = λ declared agrees. whole (st (answers ++ asked class name (Some site) ∷ []) None uses steps) apart (one_answered (Some site));
      }

  ran_absent : site_among uses k ≡ None → IsSound (st answers None uses steps)
      → Ran sites typed looked (names_of G ++ []) (st answers None uses steps) (st (answers ++ asked class name None ∷ []) None uses steps) (Err (stop.Ill (record { node = node; reason = reason.NoType })))
  ran_absent none sound =
      let apart = unseen sound none in
      record {
        more = asked class name None ∷ [];
        grows = refl;
        leaves = (refl, still_once _ sound apart (one_answered None));
        comes = λ declared agrees. (
          ap (λ (o : Option ℕ). with_type node.0 G (type_at sites o)) (agrees_last declared answers (asked class name None) agrees),
          logged (st (answers ++ asked class name None ∷ []) None uses steps) apart (one_answered None) refl,
        );
      }

  -- the uses are the answers, of which this is the last
  uses_more : (site : TypeSite) → answers ≡ map answer_of uses → answers ++ asked class name (Some site) ∷ [] ≡ map answer_of (uses ++ used class name site ∷ [])
  uses_more site e = ap (λ (known : List Asked). known ++ asked class name (Some site) ∷ []) e ∙ sym (map-last uses)
    where
      map-last : (uses : List Used) → map answer_of (uses ++ used class name site ∷ []) ≡ map answer_of uses ++ asked class name (Some site) ∷ []
      map-last [] = refl
      map-last (u ∷ uses) = ap (λ (known : List Asked). answer_of u ∷ known) (map-last uses)

  ran_found : (site : TypeSite) (result : Result MethodTy Stop) → IsVerdict (with_type node.0 G (sites site.0)) (with_variables G result)
      → site_among uses k ≡ None → IsSound (st answers None uses steps)
      → Ran sites typed looked (names_of G ++ []) (st answers None uses steps) (st (answers ++ asked class name (Some site) ∷ []) None (uses ++ used class name site ∷ []) steps) (with_variables G result)
  ran_found site result is none sound =
      let apart = unseen sound none in
      record {
        more = asked class name (Some site) ∷ [];
        grows = refl;
        leaves = leaves result is sound apart;
        comes = λ declared agrees. comes result is apart declared (agrees_last declared answers (asked class name (Some site)) agrees);
      }
    where
      new : State
      new = st (answers ++ asked class name (Some site) ∷ []) None (uses ++ used class name site ∷ []) steps

      leaves : (result : Result MethodTy Stop) → IsVerdict (with_type node.0 G (sites site.0)) (with_variables G result) → IsSound (st answers None uses steps) → has k seen ≡ false
          → Leaves (names_of G ++ []) new (with_variables G result)
      leaves (Ok m) is sound apart = (
        record { none_refused = refl; once = still_once _ sound apart (one_answered (Some site)); used = uses_more site sound.used },
        within_left (names_of G) [],
      )
      leaves (Err (stop.Ill i)) is sound apart = (refl, still_once _ sound apart (one_answered (Some site)))
      leaves (Err (stop.Look cause)) is sound apart = absurd is
      leaves (Err stop.Full) is sound apart = absurd is

      comes : (result : Result MethodTy Stop) → IsVerdict (with_type node.0 G (sites site.0)) (with_variables G result) → has k seen ≡ false → (declared : Declared) → declared k ≡ Some site.0
          → Comes (with_type node.0 G (type_at sites (declared k))) (Look node.0 k ∷ []) (st answers None uses steps) new (with_variables G result)
      comes (Ok m) is apart declared e = (ap (λ (o : Option ℕ). with_type node.0 G (type_at sites o)) e ∙ is, logged new apart (one_answered (Some site)) refl)
      comes (Err (stop.Ill i)) is apart declared e = (ap (λ (o : Option ℕ). with_type node.0 G (type_at sites o)) e ∙ is, logged new apart (one_answered (Some site)) refl)
      comes (Err (stop.Look cause)) is apart declared e = absurd is
      comes (Err stop.Full) is apart declared e = absurd is

  -- the key was asked before
  ran_known : (site : TypeSite) (result : Result MethodTy Stop) → IsVerdict (with_type node.0 G (sites site.0)) (with_variables G result)
      → site_among uses k ≡ Some site → IsSound (st answers None uses steps)
      → Ran sites typed looked (names_of G ++ []) (st answers None uses steps) (st answers None uses steps) (with_variables G result)
  ran_known site result is found sound = record {
    more = [];
    grows = sym (append-nil answers);
    leaves = leaves result is sound;
    comes = λ declared agrees. comes result is (there sound) declared (answered declared uses k site found (subst (λ (known : List Asked). Agrees known declared) sound.used agrees));
  }
    where
      there : IsSound (st answers None uses steps) → has k seen ≡ true
      there sound =
          subst (λ (ks : List Key). has k ks ≡ true) (sym (append-nil (map key_asked answers)))
          (subst (λ (known : List Asked). has k (map key_asked known) ≡ true) (sym sound.used) (present uses k site found))

      old : State
      old = st answers None uses steps

      none_logged : has k seen ≡ true → HasLogged (Look node.0 k ∷ []) old old
      none_logged h = record { keys = rw h (sym (append-nil seen)); steps = sym (append-nil steps) }

      leaves : (result : Result MethodTy Stop) → IsVerdict (with_type node.0 G (sites site.0)) (with_variables G result) → IsSound old → Leaves (names_of G ++ []) old (with_variables G result)
      leaves (Ok m) is sound = (sound, within_left (names_of G) [])
      leaves (Err (stop.Ill i)) is sound = (refl, sound.once)
      leaves (Err (stop.Look cause)) is sound = absurd is
      leaves (Err stop.Full) is sound = absurd is

      comes : (result : Result MethodTy Stop) → IsVerdict (with_type node.0 G (sites site.0)) (with_variables G result) → has k seen ≡ true → (declared : Declared) → declared k ≡ Some site.0
          → Comes (with_type node.0 G (type_at sites (declared k))) (Look node.0 k ∷ []) old old (with_variables G result)
      comes (Ok m) is h declared e = (ap (λ (o : Option ℕ). with_type node.0 G (type_at sites o)) e ∙ is, none_logged h)
      comes (Err (stop.Ill i)) is h declared e = (ap (λ (o : Option ℕ). with_type node.0 G (type_at sites o)) e ∙ is, none_logged h)
      comes (Err (stop.Look cause)) is h declared e = absurd is
      comes (Err stop.Full) is h declared e = absurd is

  -- ── from any state ──

  sound_none : (refused : Option Refusal) → IsSound (st answers refused uses steps) → IsSound (st answers None uses steps)
  sound_none refused sound = subst (λ (r : Option Refusal). IsSound (st answers r uses steps)) sound.none_refused sound

  pub runs_refused : (cause : LookFail) (refused refused2 : Option Refusal) (answers2 : List Asked) → site_among uses k ≡ None
      → answers2 ≡ answers → refused2 ≡ Some (refusal class name cause)
      → Runs sites typed looked [] G (st answers refused uses steps) (st answers2 refused2 uses steps) (Err (stop.Look cause))
  runs_refused cause refused refused2 answers2 none e f = record {
    ran = λ sound.
        subst (λ (r : Option Refusal). Ran sites typed looked (names_of G ++ []) (st answers r uses steps) (st answers2 refused2 uses steps) (Err (stop.Look cause))) (sym sound.none_refused)
        (subst (λ (r : Option Refusal). Ran sites typed looked (names_of G ++ []) (st answers None uses steps) (st answers2 r uses steps) (Err (stop.Look cause))) (sym f)
        (subst (λ (known : List Asked). Ran sites typed looked (names_of G ++ []) (st answers None uses steps) (st known (Some (refusal class name cause)) uses steps) (Err (stop.Look cause))) (sym e)
        (ran_refused cause none (sound_none refused sound))));
  }

  abbrev Goal : (refused : Option Refusal) (answers2 : List Asked) (refused2 : Option Refusal) (uses2 : List Used) (result : Result MethodTy Stop) → Type 0
  Goal refused answers2 refused2 uses2 result = Ran sites typed looked (names_of G ++ []) (st answers refused uses steps) (st answers2 refused2 uses2 steps) (with_variables G result)

  -- an answer behind those before, and no refusal
  settled : (refused refused2 : Option Refusal) (answers2 : List Asked) (uses2 : List Used) (a : Asked) (result : Result MethodTy Stop)
      → answers2 ≡ answers ++ a ∷ [] → refused2 ≡ refused
      → (IsSound (st answers None uses steps) → Goal None (answers ++ a ∷ []) None uses2 result)
      → Runs sites typed looked [] G (st answers refused uses steps) (st answers2 refused2 uses2 steps) (with_variables G result)
  settled refused refused2 answers2 uses2 a result e f go = record {
    ran = λ sound.
        subst (λ (r : Option Refusal). Goal r answers2 refused2 uses2 result) (sym sound.none_refused)
        (subst (λ (r : Option Refusal). Goal None answers2 r uses2 result) (sym (f ∙ sound.none_refused))
        (subst (λ (known : List Asked). Goal None known None uses2 result) (sym e) (go (sound_none refused sound))));
  }

  pub runs_absent : (refused refused2 : Option Refusal) (answers2 : List Asked) → site_among uses k ≡ None
      → answers2 ≡ answers ++ asked class name None ∷ [] → refused2 ≡ refused
      → Runs sites typed looked [] G (st answers refused uses steps) (st answers2 refused2 uses steps) (Err (stop.Ill (record { node = node; reason = reason.NoType })))
  runs_absent refused refused2 answers2 none e f = settled refused refused2 answers2 uses (asked class name None) (Err (stop.Ill (record { node = node; reason = reason.NoType }))) e f (ran_absent none)

  pub runs_forgotten : (site : TypeSite) (refused refused2 : Option Refusal) (answers2 : List Asked) (uses2 : List Used) → site_among uses k ≡ None
      → answers2 ≡ answers ++ asked class name (Some site) ∷ [] → refused2 ≡ refused → uses2 ≡ uses
      → Runs sites typed looked [] G (st answers refused uses steps) (st answers2 refused2 uses2 steps) (Err (stop.Look look.NoMemory))
  runs_forgotten site refused refused2 answers2 uses2 none e f same =
      subst (λ (us : List Used). Runs sites typed looked [] G (st answers refused uses steps) (st answers2 refused2 us steps) (Err (stop.Look look.NoMemory))) (sym same)
      (settled refused refused2 answers2 uses (asked class name (Some site)) (Err (stop.Look look.NoMemory)) e f (ran_forgotten site none))

  pub runs_found : (site : TypeSite) (result : Result MethodTy Stop) (refused refused2 : Option Refusal) (answers2 : List Asked) (uses2 : List Used)
      → IsVerdict (with_type node.0 G (sites site.0)) (with_variables G result) → site_among uses k ≡ None
      → answers2 ≡ answers ++ asked class name (Some site) ∷ [] → refused2 ≡ refused → uses2 ≡ uses ++ used class name site ∷ []
      → Runs sites typed looked [] G (st answers refused uses steps) (st answers2 refused2 uses2 steps) (with_variables G result)
  runs_found site result refused refused2 answers2 uses2 is none e f same =
      subst (λ (us : List Used). Runs sites typed looked [] G (st answers refused uses steps) (st answers2 refused2 us steps) (with_variables G result)) (sym same)
      (settled refused refused2 answers2 (uses ++ used class name site ∷ []) (asked class name (Some site)) result e f (ran_found site result is none))

  pub runs_known : (site : TypeSite) (result : Result MethodTy Stop) (refused : Option Refusal)
      → IsVerdict (with_type node.0 G (sites site.0)) (with_variables G result) → site_among uses k ≡ Some site
      → Runs sites typed looked [] G (st answers refused uses steps) (st answers refused uses steps) (with_variables G result)
  runs_known site result refused is found = record {
    ran = λ sound.
        subst (λ (r : Option Refusal). Goal r answers r uses result) (sym sound.none_refused) (ran_known site result is found (sound_none refused sound));
  }
