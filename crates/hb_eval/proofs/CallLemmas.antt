-- What a call comes to, by what was read of it.
use Rattle.std.proofs.Common.{◌≡◌, ℕ, zero, suc, ◌+◌, ◌-◌, ◌≢◌, List, [], ◌∷◌, ◌++◌, length, map, Option, Some, None, nat_eq, refl, sym, ap, ◌∙◌, subst, arith, eq-eqb}
use Rattle.std.specs.Prelude.{Ok, Err, ◌&&◌, if◌then◌else◌}
use Rattle.hb_types.specs.declared.ids.CallNo.{CallNo}
use Rattle.hb_types.specs.declared.ids.ClassId.{ClassId}
use Rattle.hb_types.specs.declared.ids.KeyId.{KeyId}
use Rattle.hb_types.specs.declared.ids.BodySite.{BodySite}
use Rattle.hb_tree.specs.declared.parts.Body.{Body}
use Rattle.hb_tree.specs.Table.{Table}
use Rattle.hb_tree.specs.TreeAt.{tree_at}
use Rattle.hb_tree.specs.Canon.{bytes_at}
use Rattle.hb_tree.specs.Nodes.{params_of}
use Rattle.hb_names.specs.declared.names.TheConstants.{NAMES_MAX}
use Rattle.hb_names.specs.Names.{Name, place}
use Rattle.hb_tables.specs.declared.entry.Entry.{Entry}
use Rattle.hb_tables.specs.declared.entry.Act.{Act}
use Rattle.hb_tables.specs.declared.entry.Act.TheVariants.{Free}
use Rattle.hb_tables.specs.declared.entry.ArgKinds.{ArgKinds}
use Rattle.hb_tables.specs.declared.entry.Verdict.{Verdict}
use Rattle.hb_tables.specs.declared.entry.Verdict.TheVariants as verdict
use Rattle.hb_tables.specs.Answers.{Fixed}
use Rattle.hb_tables.specs.Frames.{acts}
use Rattle.hb_tables.specs.Rows.{kinds_of, body_at, types_in, type_of_key}
use Rattle.hb_tables.specs.declared.entry.By.{By}
use Rattle.hb_tables.specs.declared.entry.By.TheVariants as by
use Rattle.hb_tables.specs.Standing.{Stand}
use Rattle.hb_tables.specs.Verdicts.{verdict_of}
use Rattle.hb_call.specs.Held.{frees, stands}
use Rattle.hb_call.specs.Reading as reading
use Rattle.hb_call.specs.Reading.{Read, Called, FullAt, freed, refused_at, call_of}
use Rattle.hb_call.specs.Entering.{Asks, IsDecidedOf}
use Rattle.hb_eval.specs.declared.value.Value.{Value}
use Rattle.hb_eval.specs.declared.stop.Stop.{Stop}
use Rattle.hb_eval.specs.declared.stop.Stop.TheVariants as stop
use Rattle.hb_eval.specs.Values.{kind_of}
use Rattle.hb_eval.specs.State.{Bindings, St, Answer, Lost, Done, Halt, tagged}
use Rattle.hb_eval.specs.Meaning.{ev}
use Rattle.hb_eval.specs.Calls.{receiver, acts_before, read_to, numbered, read_frees, bindings, leave, run_body, decided, called, call_in}
use Rattle.hb_eval.specs.Stacks.{holds_of}
use Rattle.hb_eval.specs.Entries.{refusal}
use Rattle.hb_eval.proofs.EndLemmas.{before_rest}

-- the receiver stops the script
pub call_stops : (t : Table) (names : List Name) (room id m : ℕ) (v : Value) (e : Stop) (vs : List Value) (s : St) → receiver v ≡ Err e → call_in t names room id v m vs s ≡ Halt e id s
unfolding call_in
call_stops t names zero id m v e vs s h = rw h refl
call_stops t names (suc room) id m v e vs s h = rw h refl

-- there is no room for a frame
pub call_deep : (t : Table) (names : List Name) (room id m : ℕ) (v : Value) (c : ClassId) (vs : List Value) (s : St) → room ≡ 0 → receiver v ≡ Ok c → call_in t names room id v m vs s ≡ Halt stop.Deep id s
unfolding call_in
call_deep t names zero id m v c vs s none h = rw h refl
call_deep t names (suc room) id m v c vs s none h = absurd (omega (arith, none))

-- the list of names is full
pub call_full : (t : Table) (names : List Name) (room id m : ℕ) (v : Value) (c : ClassId) (vs : List Value) (s : St) → room ≢ 0 → receiver v ≡ Ok c
    → place names (c.0, bytes_at t.names m) ≡ None → length names ≡ NAMES_MAX → call_in t names room id v m vs s ≡ Halt stop.Full id s
unfolding call_in
call_full t names zero id m v c vs s some h none full = absurd (some refl)
call_full t names (suc room) id m v c vs s some h none full =
    rw (h, none) (ap (λ b. if b then Halt stop.Full id s else Lost) (eq-eqb (length names) NAMES_MAX full))

-- the acts of the call are read
pub call_reads : (t : Table) (names : List Name) (room id m : ℕ) (v : Value) (c : ClassId) (key : ℕ) (vs : List Value) (s : St) → room ≢ 0 → receiver v ≡ Ok c
    → place names (c.0, bytes_at t.names m) ≡ Some key
    → call_in t names room id v m vs s ≡ called t (λ block s. ev t names (call_in t names (room - 1)) (tree_at t block) s) id c vs (call_of t s.next key (map kind_of vs) s.journal) s
unfolding call_in
call_reads t names zero id m v c key vs s some h found = absurd (some refl)
call_reads t names (suc room) id m v c key vs s some h found =
    let less : suc room - 1 ≡ room = omega arith in
    rw (h, found, less) refl

-- the reading of Frees looks at keys alone
freed_keys : (q : ℕ) (hs : List Stand) (keys : List KeyId) (l : List Act) → map (λ (h : Stand). h.key) hs ≡ map (λ (k : KeyId). k.0) keys → freed q hs l ≡ freed q (holds_of keys) l
freed_keys q [] (k ∷ keys) l e = absurd (cc)
freed_keys q (h ∷ hs) [] l e = absurd (cc)
freed_keys q (h ∷ hs) (k ∷ keys) (Free key r ∷ l) e =
    let same : h.key ≡ k.0 = cc in
    let rest : map (λ (h : Stand). h.key) hs ≡ map (λ (k : KeyId). k.0) keys = cc in
    ap (λ n. if nat_eq r.0 q && nat_eq key.0 n then freed q hs l else None) same
    ∙ ap (λ o. if nat_eq r.0 q && nat_eq key.0 k.0 then o else None) (freed_keys q hs keys l rest)
freed_keys _ _ _ _ _ = refl

freed_first : (q : CallNo) (keys : List KeyId) (rest : List Act) → freed q.0 (holds_of keys) (frees q keys ++ rest) ≡ Some rest
freed_first q [] rest = refl
freed_first q (k ∷ keys) rest = rw (eq-eqb q.0 q.0 refl, eq-eqb k.0 k.0 refl) (freed_first q keys rest)

leave_keys : (q : ℕ) (hs : List Stand) (keys : List KeyId) (vars : Bindings) (self : Option ClassId) (a : Answer) → map (λ (h : Stand). h.key) hs ≡ map (λ (k : KeyId). k.0) keys → leave q hs vars self a ≡ leave q (holds_of keys) vars self a
leave_keys q hs keys vars self Lost e = refl
leave_keys q hs keys vars self (Done v s) e = ap (λ o. read_frees o s (λ s. Done v (record s { vars = vars; self = self }))) (freed_keys q hs keys s.journal e)
leave_keys q hs keys vars self (Halt x id s) e = ap (λ o. read_frees o s (λ s. Halt x id (record s { vars = vars; self = self }))) (freed_keys q hs keys s.journal e)

-- a body runs behind the acts of its call
pub body_runs : (run : ℕ → St → Answer) (q : ℕ) (c : ClassId) (vs : List Value) (hs : List Stand) (keys : List KeyId) (b : Body) (s : St) (made rest : List Act) → s.journal ≡ made ++ rest → map (λ (h : Stand). h.key) hs ≡ map (λ (k : KeyId). k.0) keys
    → run_body run q c vs hs (Some b) (numbered (read_to rest s))
    ≡ leave q (holds_of keys) s.vars s.self (run b.block.0 (record s { next = s.next + 1; read = s.read ++ tagged s.begun made; journal = rest; vars = bindings (params_of b) vs; self = Some c }))
body_runs run q c vs hs keys b s made rest h e =
    ap (λ l. leave q hs s.vars s.self (run b.block.0 (record s { next = s.next + 1; read = s.read ++ tagged s.begun l; journal = rest; vars = bindings (params_of b) vs; self = Some c }))) (ap (acts_before rest) h ∙ before_rest made rest)
    ∙ leave_keys q hs keys s.vars s.self _ e

-- a verdict by which the body does not run
pub decided_stops : (id : ℕ) (body : St → Answer) (v : Verdict) (e : Stop) (s : St) → refusal v ≡ Some e → decided id body v s ≡ Halt e id s
decided_stops id body (verdict.Enter way) e s h = absurd (cc)
decided_stops id body verdict.NoBody e s h = ap (λ x. Halt x id s) (let f : stop.NoBody ≡ e = cc in f)
decided_stops id body verdict.NoType e s h = ap (λ x. Halt x id s) (let f : stop.NoType ≡ e = cc in f)
decided_stops id body verdict.BadArgs e s h = ap (λ x. Halt x id s) (let f : stop.BadArgs ≡ e = cc in f)
decided_stops id body (verdict.IllTyped ill) e s h = ap (λ x. Halt x id s) (let f : stop.IllTyped ill ≡ e = cc in f)

refused_called : (q : ℕ) (site : Option BodySite) (v : Verdict) (e : Stop) (hs : List Stand) (l : List Act) → refusal v ≡ Some e → reading.called q site v hs l ≡ refused_at site v (freed q hs l)
refused_called q site (verdict.Enter way) e hs l h = absurd (cc)
refused_called _ _ _ _ _ _ _ = refl

-- a call that was refused gives back what it held
pub gives_back : (q : CallNo) (site : Option BodySite) (v : Verdict) (e : Stop) (hs : List Stand) (keys : List KeyId) (rest : List Act) → refusal v ≡ Some e → map (λ (h : Stand). h.key) hs ≡ map (λ (k : KeyId). k.0) keys
    → reading.called q.0 site v hs (frees q keys ++ rest) ≡ Called site v [] rest
gives_back q site v e hs keys rest why same =
    refused_called q.0 site v e hs (frees q keys ++ rest) why
    ∙ ap (refused_at site v) (freed_keys q.0 hs keys (frees q keys ++ rest) same ∙ freed_first q keys rest)

-- what the acts of a decided call were, and how they are read
pub record Decision (a : Asks) (old mid : List Entry) (key : KeyId) (v : Verdict) (site : Option BodySite) : Type 0 where
  pub made : List Act
  pub grows : acts a.door.caller mid ≡ acts a.door.caller old ++ made
  pub reads : (l : List Act) → call_of a.t a.q.0 key.0 (kinds_of a.args) (made ++ l) ≡ reading.called a.q.0 site v (stands a.door.caller a.q.0 mid) l

pub decision_of : (a : Asks) (names : List Name) (old mid : List Entry) (key : KeyId) (v : Verdict) (site : Option BodySite) (held : List KeyId) → IsDecidedOf a names old mid key v site held → Decision a old mid key v site
decision_of a names old mid key v site held d =
    let r = d.decided.reads old d.begun in
    let P : Table → Fixed → CallNo → KeyId → ArgKinds → Type 0 = λ t door q key args. (made : List Act) × (acts door.caller mid ≡ acts door.caller old ++ made) × ((l : List Act) → call_of t q.0 key.0 (kinds_of args) (made ++ l) ≡ reading.called q.0 site v (stands door.caller q.0 mid) l) in
    let x : P a.t a.door a.q key a.args =
    subst (λ (y : Table). P y a.door a.q key a.args) d.program
    (subst (λ (y : Fixed). P d.given.t y a.q key a.args) d.door
    (subst (λ (y : CallNo). P d.given.t d.given.door y key a.args) d.q
    (subst (λ (y : KeyId). P d.given.t d.given.door d.given.q y a.args) d.called
    (subst (λ (y : ArgKinds). P d.given.t d.given.door d.given.q d.given.key y) d.args r)))) in
    record { made = x.0; grows = x.1; reads = x.2 }

-- who enters has a body
pub body_there : (a : Asks) (names : List Name) (old mid : List Entry) (key : KeyId) (way : By) (site : Option BodySite) (held : List KeyId) → IsDecidedOf a names old mid key (verdict.Enter way) site held → (b : Body) × (body_at a.t site ≡ Some b)
body_there a names old mid key way site held d = go (body_at d.given.t site) refl d.decided.row.rules
  where
    go : (o : Option Body) → body_at d.given.t site ≡ o → verdict.Enter by.Fresh ≡ verdict_of d.given.t (types_in d.given.t names d.decided.before) d.decided.row.name.0 (body_at d.given.t site) (type_of_key d.given.t d.decided.before d.given.key.0) (kinds_of d.given.args) → (b : Body) × (body_at a.t site ≡ Some b)
    go None e rules = absurd (let f : verdict.Enter by.Fresh ≡ verdict.NoBody = rw e at rules in cc)
    go (Some b) e rules = (b, ap (λ t. body_at t site) (sym d.program) ∙ e)

-- no call enters by a check of another script
pub not_shared : (a : Asks) (names : List Name) (old mid : List Entry) (key : KeyId) (way : By) (site : Option BodySite) (held : List KeyId) → IsDecidedOf a names old mid key (verdict.Enter way) site held → way ≡ by.Shared → ⊥
not_shared a names old mid key way site held d is = d.decided.unshared (ap (λ (w : By). verdict.Enter w) is)
