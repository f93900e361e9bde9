-- What a call holds while its body is checked are the looks, in their order.
use Rattle.std.proofs.Common.{◌≡◌, inl, inr, ℕ, Bool, true, List, [], ◌∷◌, ◌++◌, map, Some, Ok, Err, refl, sym, ap, ◌∙◌, subst, append_assoc}
use Rattle.std.proofs.lemmas.List.{append-nil, map-append}
use Rattle.std.specs.Prelude.{Option, Result, slice_get, if◌then◌else◌}
use Rattle.std.specs.Option.{option_map}
use Rattle.hb_types.specs.declared.ids.CallNo.{CallNo}
use Rattle.hb_types.specs.declared.ids.KeyId.{KeyId}
use Rattle.hb_types.specs.declared.ids.TypeSite.{TypeSite}
use Rattle.hb_types.specs.declared.ids.BodySite.{BodySite}
use Rattle.hb_types.specs.declared.types.Ty.{Ty}
use Rattle.hb_types.specs.declared.types.MethodTy.{MethodTy}
use Rattle.hb_tree.specs.declared.parts.Body.{Body}
use Rattle.hb_tree.specs.Table.{Table}
use Rattle.hb_deriv.specs.Judge.{Key, Types, Subject}
use Rattle.hb_deriv.specs.Events.{SameAt, looks}
use Rattle.hb_deriv.specs.Derivation.{type_at}
use Rattle.hb_deriv.specs.Programs.{sites_of}
use Rattle.hb_check.specs.declared.bodies.Checked.{Checked}
use Rattle.hb_check.specs.declared.bodies.Checked.TheVariants as checked
use Rattle.hb_check.specs.declared.lookup.LookFail.{LookFail}
use Rattle.hb_check.specs.Asked.{Asked, Declared, Refusal, Agrees, asked, key_asked, types_in}
use Rattle.hb_check.specs.Checking.{Answers, Tells}
use Rattle.hb_check.specs.Runs.{keys_asked, keys_refused}
use Rattle.hb_names.specs.Names.{Name, place}
use Rattle.hb_names.proofs.NameLemmas.{place-within}
use Rattle.hb_tables.specs.declared.desk.Held.{Held}
use Rattle.hb_tables.specs.declared.entry.Entry.{Entry}
use Rattle.hb_tables.specs.declared.entry.Act.{Act}
use Rattle.hb_tables.specs.declared.entry.Act.TheVariants.{Hold}
use Rattle.hb_tables.specs.History.{entry, IsLegal}
use Rattle.hb_tables.specs.Frames.{acts, KeepsHold}
use Rattle.hb_tables.specs.Names.{name_of}
use Rattle.hb_tables.specs.Rows.{body_at, declared_in, kinds_of, type_of_key}
use Rattle.hb_tables.specs.Verdicts.{takes, subject, looks_of}
use Rattle.hb_tables.proofs.FrameLemmas.{acts_append, keeps_parts}
use Rattle.hb_tables.proofs.HistoryLemmas.{legal_prefix}
use Rattle.hb_call.specs.declared.answers.Answer.{Answer}
use Rattle.hb_call.specs.Calling.{AreTrue, Given, Goes, HasBody, HasType, HoldsAnswer, FitsSince, IsAsking, IsCalling, IsHeldFrom, Moment, answers_of}
use Rattle.hb_call.specs.Deciding.{AreNext, type_declared}
use Rattle.hb_call.specs.Rules.{Began, FitsRules, IsNextLook}
use Rattle.hb_call.specs.Alike.{keeps_join}
use Rattle.hb_call.specs.GrowthLaws.{AreLooks, each_itself, looks_by, looks_of_on, prefix_more}
use Rattle.hb_call.proofs.GrowthLemmas.{each_adds}
use Rattle.hb_call.proofs.StayLemmas.{acts_rest, type_stays}
use Rattle.hb_call.proofs.DecidingLemmas.{agrees, fits_type, held_in, learned, parts}
use Rattle.hb_call.proofs.StepLemmas.{at}

-- ── answers in two parts ──

pub true_front : (t : Table) (names : List Name) (log : List Entry) (x : ℕ × ℕ) (xs ys : List Answer) → AreTrue t names log x (xs ++ ys) → AreTrue t names log x xs
true_front t names log x [] ys h = tt
true_front t names log x (a ∷ xs) ys h = (h.0, h.1, true_front t names log x xs ys h.2)

pub true_back : (t : Table) (names : List Name) (log : List Entry) (x : ℕ × ℕ) (xs ys : List Answer) → AreTrue t names log x (xs ++ ys) → AreTrue t names log x ys
true_back t names log x [] ys h = h
true_back t names log x (a ∷ xs) ys h = true_back t names log x xs ys h.2

-- ── what came of an answer ──

pub asking_names : (g : Given) (known longer asked more : List Name) (log : List Entry) (answers : List Answer) → IsAsking g (at known asked log) (at longer more log) answers answers
asking_names g known longer asked more log answers = record { more = []; grows = sym (append-nil answers); holds = each_itself (HoldsAnswer g.t longer g.door.caller g.q answers) g.door.caller log }

pub asking_key : (g : Given) (known longer asked more : List Name) (old new : List Entry) (key : KeyId) (own : Held) (held : List KeyId) (compared answers : List Answer) (a : Answer) → IsCalling g.t g.door g.q.0 longer more old key own held (compared ++ answers)
    → place longer (name_of g.t (a.class.0, a.name.0)) ≡ Some a.key.0 → IsHeldFrom g.door.caller g.q a.key a.held old new → IsLegal g.door.limit new → IsAsking g (at known asked old) (at longer more new) answers (answers ++ a ∷ [])
asking_key g known longer asked more old new key own held compared answers a h named (inl same) legal =
    subst (λ (l : List Entry). IsAsking g (at known asked old) (at longer more l) answers (answers ++ a ∷ [])) (sym same.0)
    (record { more = a ∷ []; grows = refl; holds = each_itself (HoldsAnswer g.t longer g.door.caller g.q (answers ++ a ∷ [])) g.door.caller old })
asking_key g known longer asked more old new key own held compared answers a h named (inr adds) legal =
    let c = g.door.caller in let act : Act = Hold a.key g.q a.held.ty a.held.changes in let here = old ++ adds.0 in
    let low = legal_prefix g.door.limit here new (entry c act ∷ [], sym adds.1) legal in
    let calling = learned g.t g.door g.q longer more old key own held (compared ++ answers) h here (adds.0, refl, adds.2) low in
    record {
      more = a ∷ [];
      grows = refl;
      holds = each_adds (HoldsAnswer g.t longer c g.q (answers ++ a ∷ [])) c old new act adds (record {
        first = answers;
        answer = a;
        rest = [];
        among = refl;
        told = true_back g.t longer here (c, g.q.0) compared answers calling.answered;
        named = named;
        ty = a.held.ty;
        changes = a.held.changes;
        is = refl;
        whole = calling.whole;
      });
    }

-- ── the looks, when the check is done ──

looked : (T : Types) (s : Subject) (keys : List Key) (r : Result Checked LookFail) → Tells T s keys r → (more : List Key) × (looks T s ≡ keys ++ more)
looked T s keys (Ok (checked.Good d)) h = ([], sym h.1 ∙ sym (append-nil keys))
looked T s keys (Ok (checked.Bad ill)) h = ([], sym h.1 ∙ sym (append-nil keys))
looked T s keys (Err cause) h = h

agrees_front : (xs ys : List Asked) (D : Declared) → Agrees (xs ++ ys) D → Agrees xs D
agrees_front [] ys D h = tt
agrees_front (x ∷ xs) ys D h = (h.0, agrees_front xs ys D h.1)

same_types : (t : Table) (D E : Declared) (answers : List Asked) → Agrees answers D → Agrees answers E → SameAt (types_in (sites_of t) D) (types_in (sites_of t) E) (map key_asked answers)
same_types t D E [] h i = tt
same_types t D E (a ∷ answers) h i = (ap (type_at (sites_of t)) (h.0 ∙ sym i.0), same_types t D E answers h.1 i.1)

module _ (t : Table) (class : ℕ) (site : BodySite) (declared : TypeSite) (m : MethodTy) (kinds : List Ty) (typed : sites_of t declared.0 ≡ Some m) (fits : takes m kinds ≡ true) (answers : List Answer) (refused : Option Refusal) (r : Result Checked LookFail) (a : Answers t class site.0 declared.0 (answers_of answers) refused r) where
  looks_are : (T : Types) → looks_of t T class (slice_get t.bodies site.0) (sites_of t declared.0) kinds ≡ looks T a.subject
  looks_are T =
      let p = parts t class (slice_get t.bodies site.0) (sites_of t declared.0) a.subject a.subject_is in
      ap (λ (b : Option Body). looks_of t T class b (sites_of t declared.0) kinds) p.has_body ∙ ap (λ (n : Option MethodTy). looks_of t T class (Some p.body) n kinds) p.has_type
      ∙ ap (λ (b : Bool). if b then looks T (subject t class p.body p.declared) else []) (fits_type m p.declared kinds (sites_of t declared.0) typed p.has_type fits) ∙ ap (looks T) p.is

  pub all_looks : (D : Declared) → Agrees (answers_of answers) D → (more : List Key) × (looks_of t (types_in (sites_of t) D) class (slice_get t.bodies site.0) (sites_of t declared.0) kinds ≡ keys_asked (answers_of answers) refused ++ more)
  all_looks D agree = let l = looked (types_in (sites_of t) D) a.subject (keys_asked (answers_of answers) refused) r (a.tells D agree) in (l.0, looks_are (types_in (sites_of t) D) ∙ l.1)

  -- the key of an answer is the next look where the answers before it are true
  pub answer_next : (D E : Declared) (first : List Answer) (x : Answer) (rest : List Answer) → Agrees (answers_of answers) D → answers ≡ first ++ x ∷ rest → Agrees (answers_of first) E
      → (others : List Key) × (looks_of t (types_in (sites_of t) E) class (slice_get t.bodies site.0) (sites_of t declared.0) kinds ≡ map key_asked (answers_of first) ++ (x.class.0, x.name.0) ∷ others)
  answer_next D E first x rest agree is front =
      let all = all_looks D agree in
      let f = map key_asked (answers_of first) in let b = map key_asked (answers_of rest) in
      let cut : answers_of answers ≡ answers_of first ++ asked x.class x.name x.held.ty ∷ answers_of rest = ap answers_of is ∙ map-append (λ (a : Answer). asked a.class a.name a.held.ty) first (x ∷ rest) in
      let keys : keys_asked (answers_of answers) refused ++ all.0 ≡ f ++ (x.class.0, x.name.0) ∷ ((b ++ keys_refused refused) ++ all.0) =
      ap (λ (w : List Asked). (map key_asked w ++ keys_refused refused) ++ all.0) cut ∙ ap (λ (w : List Key). (w ++ keys_refused refused) ++ all.0) (map-append key_asked (answers_of first) (asked x.class x.name x.held.ty ∷ answers_of rest))
      ∙ ap (λ (w : List Key). w ++ all.0) (append_assoc f ((x.class.0, x.name.0) ∷ b) (keys_refused refused)) ∙ append_assoc f ((x.class.0, x.name.0) ∷ (b ++ keys_refused refused)) all.0 in
      looks_of_on t (types_in (sites_of t) D) (types_in (sites_of t) E) class (slice_get t.bodies site.0) (sites_of t declared.0) kinds f ((b ++ keys_refused refused) ++ all.0) (x.class.0, x.name.0) (all.1 ∙ keys)
      (same_types t D E (answers_of first) (agrees_front (answers_of first) (asked x.class x.name x.held.ty ∷ answers_of rest) D (subst (λ (w : List Asked). Agrees w D) cut agree)) front)

-- ── since a call began ──

abbrev pub began_on : (c : ℕ) (q : CallNo) (key : KeyId) (start log rest : List Entry) → Began c q key start log → KeepsHold q.0 key.0 (acts c rest) → Began c q key start (log ++ rest)
began_on c q key start log rest b keeps = record {
  before = b.before;
  ty = b.ty;
  changes = b.changes;
  is = b.is;
  none = b.none;
  since = b.since ++ rest;
  goes = sym (append_assoc start b.since rest) ∙ ap (λ w. w ++ rest) b.goes;
  keeps = subst (KeepsHold q.0 key.0) (sym (acts_append c b.since rest)) (keeps_join q.0 key.0 (acts c b.since) (acts c rest) b.keeps keeps);
}

pub body_on : (c : ℕ) (q : CallNo) (key : KeyId) (site : Option BodySite) (log rest : List Entry) → HasBody c q key site log → KeepsHold q.0 key.0 (acts c rest) → HasBody c q key site (log ++ rest)
body_on c q key site log rest h keeps = record {
  start = h.start;
  began = began_on c q key h.start log rest h.began keeps;
  had = record { at = h.had.at; from = h.had.from; to = prefix_more h.had.at log (log ++ rest) h.had.to (rest, refl); is = h.had.is };
}

pub began_goes : (g : Given) (was is : Moment) (start : List Entry) → Goes g was is → Began g.door.caller g.q g.key start was.log → Began g.door.caller g.q g.key start is.log
began_goes g was is start goes b =
    let made = acts_rest g.door.caller was.log goes.went.kept.0 is.log goes.grew.made goes.went.kept.1 goes.grew.grows in
    subst (Began g.door.caller g.q g.key start) goes.went.kept.1 (began_on g.door.caller g.q g.key start was.log goes.went.kept.0 b (subst (KeepsHold g.q.0 g.key.0) (sym made) goes.keeps))

pub body_goes : (g : Given) (was is : Moment) (site : Option BodySite) → Goes g was is → HasBody g.door.caller g.q g.key site was.log → HasBody g.door.caller g.q g.key site is.log
body_goes g was is site goes h = record {
  start = h.start;
  began = began_goes g was is h.start goes h.began;
  had = record { at = h.had.at; from = h.had.from; to = prefix_more h.had.at was.log is.log h.had.to goes.went.kept; is = h.had.is };
}

-- what a check was answered are the next looks, one behind the other
pub answers_next : (g : Given) (site : BodySite) (declared : TypeSite) (m : MethodTy) (typed : sites_of g.t declared.0 ≡ Some m) (fits : takes m (kinds_of g.args) ≡ true) (own : g.own.ty ≡ Some declared) (answers : List Answer) (refused : Option Refusal) (r : Result Checked LookFail)
    → Answers g.t g.class.0 site.0 declared.0 (answers_of answers) refused r → (D : Declared) → Agrees (answers_of answers) D → AreNext g (Some site) answers
answers_next g site declared m typed fits own answers refused r a D agree first rest x is E front =
    subst (λ (o : Option TypeSite). (others : List Key) × (looks_of g.t (types_in (sites_of g.t) E) g.class.0 (body_at g.t (Some site)) (type_declared g.t o) (kinds_of g.args) ≡ map key_asked (answers_of first) ++ (x.class.0, x.name.0) ∷ others)) (sym own)
    (answer_next g.t g.class.0 site declared m (kinds_of g.args) typed fits answers refused r a D E first x rest agree is front)

-- what came while keys were held one by one, each that of the next look, fits the rules
module _ (g : Given) (was is : Moment) (site : Option BodySite) (old answers : List Answer) (next_of : AreNext g site answers) (legal_is : IsLegal g.door.limit is.log) (own_was : HasType was.log (g.door.caller, g.q.0) g.key.0 g.own)
    (goes : Goes g was is) (bytes : List ℕ) (named : place is.known (g.class.0, bytes) ≡ Some g.key.0) (body : HasBody g.door.caller g.q g.key site was.log) (asking : IsAsking g was is old answers) where
  abbrev c : ℕ
  c = g.door.caller

  pub rules_since : FitsSince g was is
  rules_since here later e there from own_act = subst (FitsRules g.t is.known c here) (sym held.is) (record { row = tt; hold = inr (record { look = (held.answer.class.0, held.answer.name.0); next = next; is = held.named }); free = tt; whole = inr held.whole; named = place-within is.known (name_of g.t (held.answer.class.0, held.answer.name.0)) held.answer.key.0 held.named })
    where
      held : HoldsAnswer g.t is.known c g.q answers here e.act
      held = asking.holds here later e there from own_act

      all : acts c is.log ≡ acts c was.log ++ goes.grew.made
      all = goes.grew.grows

      -- the acts up to here are a front of those that came
      keeps : KeepsHold g.q.0 g.key.0 (acts c from.0)
      keeps =
          let whole : was.log ++ (from.0 ++ e ∷ later) ≡ is.log = sym (append_assoc was.log from.0 (e ∷ later)) ∙ ap (λ w. w ++ e ∷ later) from.1 ∙ sym there in
          let made = acts_rest c was.log (from.0 ++ e ∷ later) is.log goes.grew.made whole all in
          (keeps_parts g.q.0 g.key.0 (acts c from.0) (acts c (e ∷ later)) (subst (KeepsHold g.q.0 g.key.0) (sym made ∙ acts_append c from.0 (e ∷ later)) goes.keeps)).0

      legal : IsLegal g.door.limit (was.log ++ from.0)
      legal = legal_prefix g.door.limit (was.log ++ from.0) is.log (e ∷ later, ap (λ w. w ++ e ∷ later) from.1 ∙ sym there) legal_is

      own_type : HasType here (c, g.q.0) g.key.0 g.own
      own_type = subst (λ (l : List Entry). HasType l (c, g.q.0) g.key.0 g.own) from.1 (type_stays g.door.limit c g.q.0 was.log from.0 legal g.key.0 keeps g.own own_was)

      at_key : type_of_key g.t here g.key.0 ≡ type_declared g.t g.own.ty
      at_key = ap (λ (o : Option TypeSite). type_at (sites_of g.t) (option_map (λ (s : TypeSite). s.0) o)) (sym own_type.1)

      began : HasBody c g.q g.key site here
      began = subst (HasBody c g.q g.key site) from.1 (body_on c g.q g.key site was.log from.0 body keeps)

      on : (others : List Key) × (looks_of g.t (types_in (sites_of g.t) (declared_in g.t is.known here)) g.class.0 (body_at g.t site) (type_declared g.t g.own.ty) (kinds_of g.args) ≡ map key_asked (answers_of held.first) ++ (held.answer.class.0, held.answer.name.0) ∷ others)
      on = next_of held.first held.rest held.answer held.among (declared_in g.t is.known here) (agrees g.t is.known here (c, g.q.0) held.first held.told)

      looked_at : AreLooks g.t (types_in (sites_of g.t) (declared_in g.t is.known here)) g.class.0 (body_at g.t site) (type_declared g.t g.own.ty) (map key_asked (answers_of held.first) ++ (held.answer.class.0, held.answer.name.0) ∷ on.0)
      looked_at = looks_by g.t (types_in (sites_of g.t) (declared_in g.t is.known here)) g.class.0 (body_at g.t site) (type_declared g.t g.own.ty) (kinds_of g.args) (map key_asked (answers_of held.first)) on.0 (held.answer.class.0, held.answer.name.0) on.1

      next : IsNextLook g.t is.known c g.q here (held.answer.class.0, held.answer.name.0)
      next = record {
        key = g.key;
        start = began.start;
        began = began.began;
        name = (g.class.0, bytes);
        named = named;
        site = site;
        had = began.had;
        body = looked_at.body;
        defined = looked_at.defined;
        declared = looked_at.declared;
        typed = at_key ∙ looked_at.typed;
        held = map key_asked (answers_of held.first);
        others = on.0;
        order = looked_at.order;
        holds = held_in g.t is.known here (c, g.q.0) held.first held.told;
      }
