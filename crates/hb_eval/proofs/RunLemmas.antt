-- A machine and the run of its block.
use Rattle.std.proofs.Common.{Option, ◌≡◌, ℕ, ◌+◌, ◌≤◌, List, [], ◌∷◌, ◌++◌, length, map, Some, None, Bool, cond, refl, sym, ap, ◌∙◌, subst, arith, append_assoc, append-nil, Vec, Global}
use Rattle.std.specs.Prelude.{reverse, count_by, is_some}
use Rattle.std.specs.Option.{option_map}
use Rattle.std.proofs.lemmas.List.Sums.{sum_by-append, sum_by-cons}
use Rattle.std.proofs.lemmas.List.{map-append}
use mathlib.Core.List.{IsPrefix}
use Rattle.hb_types.specs.declared.ids.NodeId.{NodeId}
use Rattle.hb_types.specs.declared.ids.NameId.{NameId}
use Rattle.hb_types.specs.declared.ids.CallerId.{CallerId}
use Rattle.hb_tree.specs.Table.{Table}
use Rattle.hb_tree.specs.Tree.{Tree, TBlock, NoTree, Trees, IsBlock}
use Rattle.hb_tree.specs.TreeAt.{tree_at, IsBlockAt}
use Rattle.hb_names.specs.declared.names.TheConstants.{NAMES_MAX}
use Rattle.hb_names.specs.Names.{Name}
use Rattle.hb_tables.specs.declared.entry.Entry.{Entry}
use Rattle.hb_cache.specs.declared.kept.Kept.{Kept}
use Rattle.hb_tables.specs.declared.entry.Act.{Act}
use Rattle.hb_tables.specs.declared.entry.By.TheVariants as by
use Rattle.hb_tables.specs.Frames.{acts}
use Rattle.hb_eval.specs.declared.state.Hand.{Hand}
use Rattle.hb_eval.specs.declared.state.Hand.TheVariants as hands
use Rattle.hb_eval.specs.declared.value.Value.{Value}
use Rattle.hb_eval.specs.declared.value.Value.TheVariants as value
use Rattle.hb_eval.specs.declared.stop.Stop.{Stop}
use Rattle.hb_eval.specs.declared.cont.Cont.{Cont}
use Rattle.hb_eval.specs.declared.cont.Cont.TheVariants as cont
use Rattle.hb_eval.specs.declared.framed.Framed.{Framed}
use Rattle.hb_eval.specs.declared.state.State.{State}
use Rattle.hb_eval.specs.declared.machine.Machine.{Machine}
use Rattle.hb_eval.specs.State.{Bindings, St, Answer, tagged, then_do}
use Rattle.hb_eval.specs.Meaning.{Calls, ev, ev_items}
use Rattle.hb_eval.specs.Calls.{call_in}
use Rattle.hb_eval.specs.Runs.{Run, run_of, start, is_call, is_entered}
use Rattle.hb_eval.specs.Noting.{IsJournal, journal_of}
use Rattle.hb_eval.specs.Told.{told}
use Rattle.hb_eval.specs.Machine.{trees_from, items_in}
use Rattle.hb_eval.specs.Turns.{Tallies, Reads, stands_at}
use Rattle.hb_eval.specs.Machines.{Counts, Finishes, HasEnded, IsLast, NotesOn, StandsFor, of_machine, outcome_of}
use Rattle.hb_eval.proofs.AdvanceLemmas.{last_none}
use Rattle.hb_eval.proofs.TurnLemmas.{prefix_on}

tagged_map : (n : ℕ) (l : List Act) → map (λ (e : ℕ × Act). e.1) (tagged n l) ≡ l
tagged_map n [] = refl
tagged_map n (a ∷ l) = ap (λ m. a ∷ m) (tagged_map n l)

counted_tagged : (p : Act → Bool) (n : ℕ) (l : List Act) → count_by (λ (e : ℕ × Act). p e.1) (tagged n l) ≡ count_by p l
counted_tagged p n [] = refl
counted_tagged p n (a ∷ l) = sum_by-cons (λ (e : ℕ × Act). cond (p e.1) 1 0) (n, a) (tagged n l) ∙ ap (λ k. cond (p a) 1 0 + k) (counted_tagged p n l) ∙ sym (sum_by-cons (λ x. cond (p x) 1 0) a l)

counted_on : (p : Act → Bool) (n : ℕ) (done : List (ℕ × Act)) (l : List Act) → count_by (λ (e : ℕ × Act). p e.1) (done ++ tagged n l) ≡ count_by (λ (e : ℕ × Act). p e.1) done + count_by p l
counted_on p n done l = sum_by-append (λ (e : ℕ × Act). cond (p e.1) 1 0) done (tagged n l) ∙ ap (λ k. count_by (λ (e : ℕ × Act). p e.1) done + k) (counted_tagged p n l)

counts_on : (old new : State) (n : ℕ) (done : List (ℕ × Act)) (more : List Act) → Counts old done → Tallies old new more → Counts new (done ++ tagged n more)
counts_on old new n done more h g = record {
  decided = let e = counted_on is_call n done more in let a = h.decided in let b = g.decided in omega (arith, e, a, b);
  fresh = let e = counted_on (is_entered by.Fresh) n done more in let a = h.fresh in let b = g.fresh in omega (arith, e, a, b);
  own = let e = counted_on (is_entered by.Own) n done more in let a = h.own in let b = g.own in omega (arith, e, a, b);
  shared = let e = counted_on (is_entered by.Shared) n done more in let a = h.shared in let b = g.shared in omega (arith, e, a, b);
}

-- a machine that stands for a run goes on to one that stands for it
pub stands_on : (t : Table) (known longer : List Name) (c : ℕ) (past now : List Entry) (old new : Machine) → IsPrefix known longer → Reads longer c past now old.state new.state (of_machine t old) (of_machine t new) → NotesOn c past now old new
    → (block steps : ℕ) (done : List (ℕ × Act)) → StandsFor t known block steps done old
    → (more : List Act) × (acts c now ≡ acts c past ++ more) × StandsFor t longer block steps (done ++ tagged new.state.begun more) new
stands_on t known longer c past now old new named r notes block steps done s =
    let more = r.more in
    let behind = tagged new.state.begun more in
    let first : ℕ × Act → Act = λ e. e.1 in (
      more,
      r.grows,
      record {
        same = λ names p few journal.
            let all : map first (done ++ behind) ++ journal ≡ map first done ++ (more ++ journal) =
            ap (λ l. l ++ journal) (map-append first done behind ∙ ap (λ l. map first done ++ l) (tagged_map new.state.begun more)) ∙ append_assoc (map first done) more journal in
            ap (λ l. ev t names (call_in t names 4096) (tree_at t block) (start steps l)) all
            ∙ s.same names (prefix_on known longer names named p) few (more ++ journal)
            ∙ r.same names p few [] done journal;
        counts = counts_on old.state new.state new.state.begun done more s.counts r.tallies;
        journal = subst (IsJournal new.caller new.journal) (sym (map-append first done behind ∙ ap (λ l. map first done ++ l) (tagged_map new.state.begun more))) (notes more (map first done) r.grows s.journal);
      },
    )

-- the items of a block are those from the first on
block_items : (t : Table) (names : List Name) (call : Calls) (b : Tree) (s : St) → IsBlock b → ev t names call b s ≡ ev_items t names call (trees_from 0 (items_in b)) value.Nil s
block_items t names call (TBlock id NoTree) s h = refl
block_items t names call (TBlock id (Trees e es)) s h = refl
block_items t names call _ s h = absurd h

-- the machine of a block, before its first expression
new_answer : (t : Table) (names : List Name) (block : NodeId) (e : Stop) (cache : List (Option Kept)) (steps : ℕ) (ops : Vec Value Global) (vars : Vec (NameId × Value) Global) (out : Vec ℕ Global) (journal : List Act)
    → vars.items ≡ [] → out.items ≡ []
    → stands_at t names (cont.Items block 0 ∷ []) [] hands.Gives (record { operands = ops; vars = vars; output = out; acc = value.Nil; at = block; stop = e; base = 0; class = None; fuel = steps; begun = 0; made = 0; decided = 0; own = 0; fresh = 0; cache = cache }) [] journal
    ≡ ev_items t names (call_in t names 4096) (trees_from 0 (items_in (tree_at t block.0))) value.Nil (start steps journal)
unfolding then_do
new_answer t names block e cache steps ops vars out journal no_vars no_out =
    let after : Bindings → List ℕ → Answer = λ vs printed. ev_items t names (call_in t names 4096) (trees_from 0 (items_in (tree_at t block.0))) value.Nil (record { vars = vs; self = None; fuel = steps; begun = 0; next = 1; output = printed; read = []; journal = journal }) in
    ap (λ (vs : Bindings). after vs out.items) no_vars ∙ ap (λ (l : List ℕ). after [] l) no_out

pub new_stands : (t : Table) (known : List Name) (block : NodeId) (caller : CallerId) (e : Stop) (cache : List (Option Kept)) (steps : ℕ) (ops : Vec Value Global) (vars : Vec (NameId × Value) Global) (out : Vec ℕ Global) (conts : Vec Cont Global) (frames : Vec Framed Global) (kept : Option (Vec Entry Global))
    → vars.items ≡ [] → out.items ≡ [] → conts.items ≡ cont.Items block 0 ∷ [] → frames.items ≡ [] → IsJournal caller kept [] → IsBlockAt t block.0
    → StandsFor t known block.0 steps [] (record { caller = caller; state = record { operands = ops; vars = vars; output = out; acc = value.Nil; at = block; stop = e; base = 0; class = None; fuel = steps; begun = 0; made = 0; decided = 0; own = 0; fresh = 0; cache = cache }; conts = conts; frames = frames; hand = hands.Gives; journal = kept })
new_stands t known block caller e cache steps ops vars out conts frames kept no_vars no_out one no_frames none is = record {
  same = λ names p few journal.
      let x : State = record { operands = ops; vars = vars; output = out; acc = value.Nil; at = block; stop = e; base = 0; class = None; fuel = steps; begun = 0; made = 0; decided = 0; own = 0; fresh = 0; cache = cache } in
      block_items t names (call_in t names 4096) (tree_at t block.0) (start steps journal) is.1
      ∙ sym (new_answer t names block e cache steps ops vars out journal no_vars no_out)
      ∙ ap (λ l. stands_at t names (reverse l) [] hands.Gives x [] journal) (sym one)
      ∙ ap (λ l. stands_at t names (reverse conts.items) l hands.Gives x [] journal) (sym no_frames);
  counts = record { decided = refl; own = refl; fresh = refl; shared = refl };
  journal = none;
}

ended_run : (t : Table) (names : List Name) (hand : Hand) (ks : List Cont) (frames : List Framed) (x : State) (done : List (ℕ × Act)) → IsLast hand ks
    → run_of (stands_at t names [] frames hand x done []) ≡ Some (record { outcome = outcome_of hand x.stop x.at x.acc; output = x.output.items; acts = done; begun = x.begun })
ended_run t names hands.Begins ks frames x done h = absurd h
ended_run t names hands.Gives ks frames x done h = refl
ended_run t names hands.Stops ks frames x done h = refl

-- the journal that is kept is told
told_journal : (caller : CallerId) (kept : Option (Vec Entry Global)) (l : List Act) → IsJournal caller kept l → option_map (λ (v : Vec Entry Global). v.items) kept ≡ journal_of (is_some kept) caller l
told_journal caller None l h = refl
told_journal caller (Some v) l h = ap Some h

-- what the run of an ended machine came to
pub finished : (t : Table) (known names : List Name) (block steps : ℕ) (done : List (ℕ × Act)) (m : Machine) → HasEnded m → StandsFor t known block steps done m → IsPrefix known names → length names ≤ NAMES_MAX
    → Finishes t names block steps done m (record { caller = m.caller; outcome = outcome_of m.hand m.state.stop m.state.at m.state.acc; output = m.state.output; calls = m.state.decided; own = m.state.own; shared = 0; fresh = m.state.fresh; journal = m.journal })
finished t known names block steps done m ended s p few =
    let x = m.state in
    let none = last_none m.hand m.conts.items ended in
    let first : ℕ × Act → Act = λ e. e.1 in
    let run : Run = record { outcome = outcome_of m.hand x.stop x.at x.acc; output = x.output.items; acts = done; begun = x.begun } in
    record {
      run = run;
      reads = ap (λ l. run_of (ev t names (call_in t names 4096) (tree_at t block) (start steps l))) (sym (append-nil (map first done)))
          ∙ ap run_of (s.same names p few [])
          ∙ ap (λ l. run_of (stands_at t names (reverse l) m.frames.items m.hand x done [])) none
          ∙ ended_run t names m.hand m.conts.items m.frames.items x done ended;
      tells = go x.decided x.own x.fresh s.counts.decided s.counts.own s.counts.fresh;
      acts = refl;
      begun = refl;
      journal = told_journal m.caller m.journal (map first done) s.journal;
    }
  where
    go : (decided own fresh : ℕ) → decided ≡ count_by (λ (e : ℕ × Act). is_call e.1) done → own ≡ count_by (λ (e : ℕ × Act). is_entered by.Own e.1) done → fresh ≡ count_by (λ (e : ℕ × Act). is_entered by.Fresh e.1) done
        → record { caller = m.caller.0; outcome = outcome_of m.hand m.state.stop m.state.at m.state.acc; output = m.state.output.items; calls = decided; own = own; shared = 0; fresh = fresh }
        ≡ told m.caller.0 (record { outcome = outcome_of m.hand m.state.stop m.state.at m.state.acc; output = m.state.output.items; acts = done; begun = m.state.begun })
    go decided own fresh d o f = rw (d, o, f, s.counts.shared) refl
