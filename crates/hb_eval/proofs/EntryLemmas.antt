-- Calls of the machine: those that stop, and those that enter.
use Rattle.std.proofs.Common.{◌≡◌, ℕ, suc, ◌+◌, ◌-◌, ◌<◌, ◌≤◌, ◌≢◌, List, [], ◌∷◌, ◌++◌, length, map, get_or, take, drop, Option, Some, None, true, false, refl, sym, ap, ◌∙◌, subst, arith, append_assoc, append-nil, Vec, Global}
use Rattle.std.specs.Prelude.{reverse, Ok}
use Rattle.std.proofs.Math.Seq.{drop-cons, drop-append_seam, take-append_seam}
use mathlib.Core.List.{IsPrefix}
use Rattle.hb_types.specs.declared.ids.CallNo.{CallNo}
use Rattle.hb_types.specs.declared.ids.ClassId.{ClassId}
use Rattle.hb_types.specs.declared.ids.NameId.{NameId}
use Rattle.hb_types.specs.declared.ids.NodeId.{NodeId}
use Rattle.hb_tree.specs.declared.parts.Body.{Body}
use Rattle.hb_tree.specs.Table.{Table}
use Rattle.hb_tree.specs.TreeAt.{tree_at}
use Rattle.hb_tree.specs.Canon.{bytes_at}
use Rattle.hb_tree.specs.Nodes.{params_of}
use Rattle.hb_names.specs.declared.names.TheConstants.{NAMES_MAX}
use Rattle.hb_names.specs.Names.{Name, place, IsFull}
use Rattle.hb_names.proofs.NameLemmas.{place-longer}
use Rattle.hb_tables.specs.declared.entry.Entry.{Entry}
use Rattle.hb_tables.specs.declared.entry.Act.{Act}
use Rattle.hb_tables.specs.declared.entry.Act.TheVariants.{Call}
use Rattle.hb_tables.specs.declared.entry.ArgKinds.{ArgKinds}
use Rattle.hb_tables.specs.declared.entry.By.{By}
use Rattle.hb_tables.specs.declared.entry.By.TheVariants as by
use Rattle.hb_tables.specs.declared.entry.Verdict.{Verdict}
use Rattle.hb_tables.specs.declared.entry.Verdict.TheVariants as verdict
use Rattle.hb_tables.specs.Answers.{Fixed}
use Rattle.hb_tables.specs.Frames.{acts}
use Rattle.hb_tables.specs.Rows.{kinds_of, body_at}
use Rattle.hb_call.specs.declared.frame.Frame.{Frame}
use Rattle.hb_call.specs.Held.{frees, stands}
use Rattle.hb_call.specs.Reading.{Read, Called, FullAt, call_of}
use Rattle.hb_call.specs.Entering.{Asks, IsDecidedOf, IsRefused, IsFullLater}
use Rattle.hb_eval.specs.declared.state.Hand.TheVariants as hands
use Rattle.hb_eval.specs.declared.value.Value.{Value}
use Rattle.hb_eval.specs.declared.stop.Stop.{Stop}
use Rattle.hb_eval.specs.declared.stop.Stop.TheVariants as stop
use Rattle.hb_eval.specs.declared.cont.Cont.{Cont}
use Rattle.hb_eval.specs.declared.cont.Cont.TheVariants as cont
use Rattle.hb_eval.specs.declared.framed.Framed.{Framed}
use Rattle.hb_eval.specs.declared.state.State.{State}
use Rattle.hb_eval.specs.declared.state.Move.{Move}
use Rattle.hb_eval.specs.Values.{kind_of}
use Rattle.hb_eval.specs.State.{St, Answer, Halt, tagged}
use Rattle.hb_eval.specs.Meaning.{ev}
use Rattle.hb_eval.specs.Calls.{receiver, read_to, numbered, bindings, leave, run_body, decided, called, call_in}
use Rattle.hb_eval.specs.Runs.{is_call, is_entered}
use Rattle.hb_eval.specs.Machine.{World, Frames, meaning, room, resume, stands as stands_on, st_of}
use Rattle.hb_eval.specs.Steps.{InEach, Starts, SameCalls, onto}
use Rattle.hb_eval.specs.Stacks.{holds_of, ends, views, frames_at}
use Rattle.hb_eval.specs.Turns.{world, with_operands, after, Tallies, Reads}
use Rattle.hb_eval.specs.Entries.{calling, counted, entered, refusal}
use Rattle.hb_eval.proofs.MethodLemmas.{whole}
use Rattle.hb_eval.proofs.StackLemmas.{pushed_first, frames_length}
use Rattle.hb_eval.proofs.TurnLemmas.{reads_none, frames_stay}
use Rattle.hb_eval.proofs.EndLemmas.{before_rest}
use Rattle.hb_eval.proofs.CallFuelLemmas.{calls_keep}
use Rattle.hb_eval.proofs.CountLemmas.{call_counts, full_counts}
use Rattle.hb_eval.proofs.CallLemmas.{call_reads, call_full, body_runs, decided_stops, gives_back, decision_of}

-- a call that stops and reads nothing
pub call_halts : (known : List Name) (t : Table) (c : ℕ) (log : List Entry) (id : NodeId) (m at : ℕ) (d : Value) (e : Stop) (frames : List Framed) (old new : State) (ops : Vec Value Global) (move : Move)
    → at < length old.operands.items → ops.items ≡ take at old.operands.items → new ≡ record old { operands = ops; stop = e; at = id } → move ≡ record { under = None; push = None; hand = hands.Stops }
    → ((names : List Name) → IsPrefix known names → length names ≤ NAMES_MAX → (vs : List Value) (s : St) → call_in t names (room (frames_at frames old)) id.0 (get_or old.operands.items at d) m vs s ≡ Halt e id.0 s)
    → Reads known c log log old new (with_operands t at (λ w room vs s. calling w room id.0 m vs s) frames old) (after t move frames new)
call_halts known t c log id m at d e frames old new ops move lt cut is mv h =
    let all = old.operands.items in
    rw (is, mv) (record {
      more = [];
      grows = sym (append-nil (acts c log));
      same = λ names p few ks read journal.
          let w : World = world t names in
          let fs : Frames = frames_at frames old in
          let s : St = st_of old read journal in
          ap (λ l. resume w ks (reverse (take at all)) fs (calling w (room fs) id.0 m l s)) (drop-cons all at d lt)
          ∙ ap (resume w ks (reverse (take at all)) fs) (h names p few (drop (suc at) all) s)
          ∙ ap (λ l. resume w ks (reverse l) fs (Halt e id.0 s)) (sym cut)
          ∙ ap (λ q. resume w ks (reverse ops.items) fs (Halt e id.0 (st_of old q journal))) (sym (append-nil read));
      tallies = record { decided = omega arith; own = omega arith; fresh = omega arith; shared = refl };
    })

some_room : (frames : List Framed) (x : State) → length frames < 4096 → room (frames_at frames x) ≢ 0
some_room frames x few = λ none. absurd (omega (arith, none, few, frames_length frames x))

-- a call whose own name has no place
pub call_full_once : (known : List Name) (t : Table) (c : ℕ) (log : List Entry) (id : NodeId) (m at : ℕ) (d : Value) (cl : ClassId) (frames : List Framed) (old new : State) (ops : Vec Value Global) (move : Move)
    → at < length old.operands.items → ops.items ≡ take at old.operands.items → new ≡ record old { operands = ops; stop = stop.Full; at = id } → move ≡ record { under = None; push = None; hand = hands.Stops }
    → length frames < 4096 → receiver (get_or old.operands.items at d) ≡ Ok cl → IsFull known (cl.0, bytes_at t.names m)
    → Reads known c log log old new (with_operands t at (λ w room vs s. calling w room id.0 m vs s) frames old) (after t move frames new)
call_full_once known t c log id m at d cl frames old new ops move lt cut is mv few rec full =
    call_halts known t c log id m at d stop.Full frames old new ops move lt cut is mv (λ names p small vs s.
    let same : names ≡ known = whole known names p full.0 small in
    call_full t names (room (frames_at frames old)) id.0 m (get_or old.operands.items at d) cl vs s (some_room frames old few) rec (ap (λ l. place l (cl.0, bytes_at t.names m)) same ∙ full.1) (ap length same ∙ full.0))

-- a decided call is one Call, which enters or does not
enter_tallies : (t : Table) (old : State) (q k : ℕ) (kinds : _) (site : _) (way : By) (held : _) (made : List Act) → call_of t q k kinds made ≡ Called site (verdict.Enter way) held [] → (way ≡ by.Shared → ⊥) → Tallies old (counted way old) made
enter_tallies t old q k kinds site by.Shared held made e apart = absurd (apart refl)
enter_tallies t old q k kinds site by.Own held made e apart =
    record {
      decided = omega (arith, call_counts is_call (λ _ _ _ _. refl) (λ _ _. refl) t q k kinds site (verdict.Enter by.Own) held true (λ _ _ _. refl) made e);
      own = omega (arith, call_counts (is_entered by.Own) (λ _ _ _ _. refl) (λ _ _. refl) t q k kinds site (verdict.Enter by.Own) held true (λ _ _ _. refl) made e);
      fresh = omega (arith, call_counts (is_entered by.Fresh) (λ _ _ _ _. refl) (λ _ _. refl) t q k kinds site (verdict.Enter by.Own) held false (λ _ _ _. refl) made e);
      shared = call_counts (is_entered by.Shared) (λ _ _ _ _. refl) (λ _ _. refl) t q k kinds site (verdict.Enter by.Own) held false (λ _ _ _. refl) made e;
    }
enter_tallies t old q k kinds site by.Fresh held made e apart =
    record {
      decided = omega (arith, call_counts is_call (λ _ _ _ _. refl) (λ _ _. refl) t q k kinds site (verdict.Enter by.Fresh) held true (λ _ _ _. refl) made e);
      own = omega (arith, call_counts (is_entered by.Own) (λ _ _ _ _. refl) (λ _ _. refl) t q k kinds site (verdict.Enter by.Fresh) held false (λ _ _ _. refl) made e);
      fresh = omega (arith, call_counts (is_entered by.Fresh) (λ _ _ _ _. refl) (λ _ _. refl) t q k kinds site (verdict.Enter by.Fresh) held true (λ _ _ _. refl) made e);
      shared = call_counts (is_entered by.Shared) (λ _ _ _ _. refl) (λ _ _. refl) t q k kinds site (verdict.Enter by.Fresh) held false (λ _ _ _. refl) made e;
    }

no_way : (way : By) (v : Verdict) (e : Stop) → refusal v ≡ Some e → (q : CallNo) (key : _) (site : _) (args : ArgKinds) → is_entered way (Call key q site args v) ≡ false
no_way way (verdict.Enter w) e h q key site args = absurd (cc)
no_way _ _ _ _ _ _ _ _ = refl

refuse_tallies : (t : Table) (old new : State) (q k : ℕ) (kinds : _) (site : _) (v : Verdict) (e : Stop) (made : List Act) → refusal v ≡ Some e → call_of t q k kinds made ≡ Called site v [] [] → new.decided ≡ old.decided + 1 → new.own ≡ old.own → new.fresh ≡ old.fresh → Tallies old new made
refuse_tallies t old new q k kinds site v e made why f decided own fresh =
    record {
      decided = omega (arith, decided, call_counts is_call (λ _ _ _ _. refl) (λ _ _. refl) t q k kinds site v [] true (λ _ _ _. refl) made f);
      own = omega (arith, own, call_counts (is_entered by.Own) (λ _ _ _ _. refl) (λ _ _. refl) t q k kinds site v [] false (λ r key args. no_way by.Own v e why r key site args) made f);
      fresh = omega (arith, fresh, call_counts (is_entered by.Fresh) (λ _ _ _ _. refl) (λ _ _. refl) t q k kinds site v [] false (λ r key args. no_way by.Fresh v e why r key site args) made f);
      shared = call_counts (is_entered by.Shared) (λ _ _ _ _. refl) (λ _ _. refl) t q k kinds site v [] false (λ r key args. no_way by.Shared v e why r key site args) made f;
    }

full_tallies : (t : Table) (old new : State) (q k : ℕ) (kinds : _) (made : List Act) → call_of t q k kinds made ≡ FullAt [] → new.decided ≡ old.decided → new.own ≡ old.own → new.fresh ≡ old.fresh → Tallies old new made
full_tallies t old new q k kinds made f decided own fresh =
    record {
      decided = omega (arith, decided, full_counts is_call (λ _ _ _ _. refl) (λ _ _. refl) t q k kinds made f);
      own = omega (arith, own, full_counts (is_entered by.Own) (λ _ _ _ _. refl) (λ _ _. refl) t q k kinds made f);
      fresh = omega (arith, fresh, full_counts (is_entered by.Fresh) (λ _ _ _ _. refl) (λ _ _. refl) t q k kinds made f);
      shared = full_counts (is_entered by.Shared) (λ _ _ _ _. refl) (λ _ _. refl) t q k kinds made f;
    }

-- the call of the machine, as its journal tells it
module _ (known : List Name) (t : Table) (door : Fixed) (q : CallNo) (cl : ClassId) (m : ℕ) (args : ArgKinds) (id : NodeId) (at : ℕ) (d : Value) (frames : List Framed) (old : State)
    (number : q.0 ≡ old.made + 1) (lt : at < length old.operands.items) (few : length frames < 4096) (rec : receiver (get_or old.operands.items at d) ≡ Ok cl)
    (kinds : kinds_of args ≡ map kind_of (drop (suc at) old.operands.items)) where
  abbrev asks : Asks
  asks = record { t = t; door = door; q = q; class = cl; bytes = bytes_at t.names m; args = args }

  abbrev run : List Name → ℕ → St → Answer
  run names block s = ev t names (call_in t names (room (frames_at frames old) - 1)) (tree_at t block) s

  -- what its acts are read as
  read_call : (key : ℕ) (made journal : List Act) (r : Read) (rd : List (ℕ × Act)) → place known (cl.0, bytes_at t.names m) ≡ Some key → call_of t q.0 key (kinds_of args) (made ++ journal) ≡ r
      → (names : List Name) → IsPrefix known names
      → calling (world t names) (room (frames_at frames old)) id.0 m (drop at old.operands.items) (st_of old rd (made ++ journal)) ≡ called t (run names) id.0 cl (drop (suc at) old.operands.items) r (st_of old rd (made ++ journal))
  read_call key made journal r rd found is names p =
      let w : World = world t names in
      let rm : ℕ = room (frames_at frames old) in
      let vs : List Value = drop (suc at) old.operands.items in
      let s : St = st_of old rd (made ++ journal) in
      ap (λ l. calling w rm id.0 m l s) (drop-cons old.operands.items at d lt)
      ∙ call_reads t names rm id.0 m (get_or old.operands.items at d) cl key vs s (some_room frames old few) rec (place-longer known names (cl.0, bytes_at t.names m) key p found)
      ∙ ap (λ x. called t (run names) id.0 cl vs x s) (ap (λ ks. call_of t (old.made + 1) key ks (made ++ journal)) (sym kinds) ∙ ap (λ n. call_of t n key (kinds_of args) (made ++ journal)) (sym number) ∙ is)

  -- it enters, and its body is to begin
  pub call_enters : (f : Frame) (way : By) (b : Body) (was now : List Entry) (new : State) → f.q ≡ q → IsDecidedOf asks known was now f.key (verdict.Enter way) (Some f.body) f.held.items → (way ≡ by.Shared → ⊥) → body_at t (Some f.body) ≡ Some b
      → new ≡ counted way old
      → Reads known door.caller was now old new (with_operands t at (λ w room vs s. calling w room id.0 m vs s) frames old) (with_operands t at (λ w room vs s. entered w room f cl b vs s) frames new)
  call_enters f way b was now new same h apart body is =
      let dec = decision_of asks known was now f.key (verdict.Enter way) (Some f.body) f.held.items h in
      let hs = stands door.caller q.0 now in
      rw is (record {
        more = dec.made;
        grows = dec.grows;
        same = λ names p small ks rd journal.
            let w : World = world t names in
            let fs : Frames = frames_at frames old in
            let vs : List Value = drop (suc at) old.operands.items in
            let s : St = st_of old rd (dec.made ++ journal) in
            let K : Answer → Answer = resume w ks (reverse (take at old.operands.items)) fs in
            ap K (read_call f.key.0 dec.made journal (Called (Some f.body) (verdict.Enter way) hs journal) rd h.named (dec.reads journal) names p)
            ∙ ap (λ o. K (run_body (run names) (old.made + 1) cl vs hs o (numbered (read_to journal s)))) body
            ∙ ap K (body_runs (run names) (old.made + 1) cl vs hs f.held.items b s dec.made journal refl h.holds.keys)
            ∙ ap (λ n. K (leave n (holds_of f.held.items) s.vars s.self (run names b.block.0 (record s { next = s.next + 1; read = s.read ++ tagged s.begun dec.made; journal = journal; vars = bindings (params_of b) vs; self = Some cl })))) (sym number ∙ ap (λ (x : CallNo). x.0) (sym same))
            ∙ ap (λ l. K (entered w (room fs) f cl b l (st_of (counted way old) (rd ++ tagged old.begun dec.made) journal))) (sym (drop-cons old.operands.items at d lt));
        tallies = enter_tallies t old q.0 f.key.0 (kinds_of args) (Some f.body) way hs dec.made (ap (call_of t q.0 f.key.0 (kinds_of args)) (sym (append-nil dec.made)) ∙ dec.reads []) apart;
      })

  -- it was refused
  pub call_refused : (v : Verdict) (e : Stop) (was now : List Entry) (new : State) (ops : Vec Value Global) (move : Move) → refusal v ≡ Some e → IsRefused asks known was now v → ops.items ≡ take at old.operands.items
      → new ≡ record old { operands = ops; made = old.made + 1; decided = old.decided + 1; stop = e; at = id } → move ≡ record { under = None; push = None; hand = hands.Stops }
      → Reads known door.caller was now old new (with_operands t at (λ w room vs s. calling w room id.0 m vs s) frames old) (after t move frames new)
  call_refused v e was now new ops move why h cut is mv =
      let dec = decision_of asks known was h.mid h.key v h.site h.held h.decided in
      let hs = stands door.caller q.0 h.mid in
      let fr = frees q h.held in
      let made : List Act = dec.made ++ fr in
      let reads : (l : List Act) → call_of t q.0 h.key.0 (kinds_of args) (made ++ l) ≡ Called h.site v [] l =
      λ l. ap (call_of t q.0 h.key.0 (kinds_of args)) (append_assoc dec.made fr l) ∙ dec.reads (fr ++ l) ∙ gives_back q h.site v e hs h.held l why h.decided.holds.keys in
      let mid : State = record old { operands = ops; made = old.made + 1; decided = old.decided + 1; stop = e; at = id } in
      rw (is, mv) (record {
        more = made;
        grows = h.freed ∙ ap (λ l. l ++ fr) dec.grows ∙ append_assoc (acts door.caller was) dec.made fr;
        same = λ names p small ks rd journal.
            let w : World = world t names in
            let fs : Frames = frames_at frames old in
            let vs : List Value = drop (suc at) old.operands.items in
            let s : St = st_of old rd (made ++ journal) in
            let K : Answer → Answer = resume w ks (reverse (take at old.operands.items)) fs in
            ap K (read_call h.key.0 made journal (Called h.site v [] journal) rd h.decided.named (reads journal) names p)
            ∙ ap K (decided_stops id.0 (run_body (run names) (old.made + 1) cl vs [] (body_at t h.site)) v e (numbered (read_to journal s)) why)
            ∙ ap (λ l. K (Halt e id.0 (record s { next = s.next + 1; read = rd ++ tagged old.begun l; journal = journal }))) (before_rest made journal)
            ∙ ap (λ l. resume w ks (reverse l) fs (Halt e id.0 (st_of mid (rd ++ tagged old.begun made) journal))) (sym cut);
        tallies = refuse_tallies t old mid q.0 h.key.0 (kinds_of args) h.site v e made why (ap (call_of t q.0 h.key.0 (kinds_of args)) (sym (append-nil made)) ∙ reads []) refl refl refl;
      })

  -- it found the list of names full while its body was checked
  pub call_full_later : (was now : List Entry) (new : State) (ops : Vec Value Global) (move : Move) → IsFullLater asks known was now → ops.items ≡ take at old.operands.items
      → new ≡ record old { operands = ops; made = old.made + 1; stop = stop.Full; at = id } → move ≡ record { under = None; push = None; hand = hands.Stops }
      → Reads known door.caller was now old new (with_operands t at (λ w room vs s. calling w room id.0 m vs s) frames old) (after t move frames new)
  call_full_later was now new ops move h cut is mv =
      let mid : State = record old { operands = ops; made = old.made + 1; stop = stop.Full; at = id } in
      rw (is, mv) (record {
        more = h.made;
        grows = h.grows;
        same = λ names p small ks rd journal.
            let w : World = world t names in
            let fs : Frames = frames_at frames old in
            let s : St = st_of old rd (h.made ++ journal) in
            let K : Answer → Answer = resume w ks (reverse (take at old.operands.items)) fs in
            ap K (read_call h.key.0 h.made journal (FullAt journal) rd h.named (h.reads journal) names p)
            ∙ ap (λ l. K (Halt stop.Full id.0 (record s { next = s.next + 1; read = rd ++ tagged old.begun l; journal = journal }))) (before_rest h.made journal)
            ∙ ap (λ l. resume w ks (reverse l) fs (Halt stop.Full id.0 (st_of mid (rd ++ tagged old.begun h.made) journal))) (sym cut);
        tallies = full_tallies t old mid q.0 h.key.0 (kinds_of args) h.made (ap (call_of t q.0 h.key.0 (kinds_of args)) (sym (append-nil h.made)) ∙ h.reads []) refl refl refl;
      })

-- a body begins in a frame of its own
pub body_starts : (known : List Name) (t : Table) (c : ℕ) (log : List Entry) (f : Frame) (cl : ClassId) (b : Body) (at base : ℕ) (d : Value) (frames new_frames : List Framed) (old new : State) (ops : Vec Value Global) (vars : Vec (NameId × Value) Global) (m move : Move)
    → at < length old.operands.items → base ≡ length old.vars.items
    → new_frames ≡ frames ++ record { frame = f; base = old.base; class = old.class } ∷ [] → ops.items ≡ take at old.operands.items → vars.items ≡ old.vars.items ++ bindings (params_of b) (drop (suc at) old.operands.items)
    → InEach t (Starts (λ w room. meaning w room b.block.0) (record old { operands = ops; vars = vars; base = base; class = Some cl }) new m) → new.begun ≡ old.begun → SameCalls old new
    → m.under ≡ None → move ≡ record m { under = Some cont.Frame }
    → Reads known c log log old new (with_operands t at (λ w room vs s. entered w room f cl b vs s) frames old) (after t move new_frames new)
body_starts known t c log f cl b at base d frames new_frames old new ops vars m move lt place framed cut bound starts begun calls flat mv =
    subst (λ (n : ℕ). InEach t (Starts (λ w room. meaning w room b.block.0) (record old { operands = ops; vars = vars; base = n; class = Some cl }) new m) → Reads known c log log old new (with_operands t at (λ w room vs s. entered w room f cl b vs s) frames old) (after t move new_frames new)) (sym place) go starts
  where
    go : InEach t (Starts (λ w room. meaning w room b.block.0) (record old { operands = ops; vars = vars; base = length old.vars.items; class = Some cl }) new m) → Reads known c log log old new (with_operands t at (λ w room vs s. entered w room f cl b vs s) frames old) (after t move new_frames new)
    go starts =
        let all = old.operands.items in
        let args : List Value = drop (suc at) all in
        let n : ℕ = length old.vars.items in
        let mid : State = record old { operands = ops; vars = vars; base = n; class = Some cl } in
        let fr : Framed = record { frame = f; base = old.base; class = old.class } in
        let fs : Frames = frames_at frames old in
        let F : Answer → Answer = ends fr (drop old.base old.vars.items) in
        let low : take n vars.items ≡ old.vars.items = ap (take n) bound ∙ take-append_seam old.vars.items (bindings (params_of b) args) in
        let high : drop n vars.items ≡ bindings (params_of b) args = ap (drop n) bound ∙ drop-append_seam old.vars.items (bindings (params_of b) args) in
        let top : frames_at new_frames mid ≡ F ∷ fs =
        ap (λ l. views l (take n vars.items)) (ap reverse framed ∙ pushed_first frames fr) ∙ ap (λ v. views (fr ∷ reverse frames) v) low in
        rw mv (reads_none known c log log old new _ _ refl calls (λ names ks rd journal.
        let w : World = world t names in
        let st = starts names (call_in t names) (calls_keep t names) in
        let s : St = st_of old rd journal in
        let stay : frames_at new_frames new ≡ F ∷ fs = frames_stay new_frames mid new st.keeps.below ∙ top in
        let inner : room fs - 1 ≡ room (F ∷ fs) = omega arith in
        ap (λ l. resume w ks (reverse (take at all)) fs (entered w (room fs) f cl b l s)) (drop-cons all at d lt)
        ∙ ap (λ r. resume w ks (reverse (take at all)) fs (F (meaning w r b.block.0 (record s { vars = bindings (params_of b) args; self = Some cl })))) inner
        ∙ ap (λ v. resume w ks (reverse (take at all)) fs (F (meaning w (room (F ∷ fs)) b.block.0 (record s { vars = v; self = Some cl })))) (sym high)
        ∙ ap (λ l. resume w ks (reverse l) fs (F (meaning w (room (F ∷ fs)) b.block.0 (st_of mid rd journal)))) (sym cut)
        ∙ st.same (cont.Frame ∷ ks) (F ∷ fs) rd journal
        ∙ ap (λ (u : Option Cont). stands_on w (onto m.push (onto u (cont.Frame ∷ ks))) (F ∷ fs) m.hand new rd journal) flat
        ∙ ap (λ g. stands_on w (onto m.push (cont.Frame ∷ ks)) g m.hand new rd journal) (sym stay)))
