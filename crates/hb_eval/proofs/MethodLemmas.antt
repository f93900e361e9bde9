-- What a `def` or a `type` comes to, by the answer of its table.
use Rattle.std.proofs.Common.{◌≡◌, ◌≤◌, ℕ, List, [], ◌∷◌, ◌++◌, length, length-append, append-nil, Option, Some, None, refl, sym, ap, ◌∙◌, subst, arith, eq-eqb}
use Rattle.std.specs.Prelude.{Result, Ok, Err, reverse, if◌then◌else◌}
use mathlib.Core.List.{IsPrefix}
use Rattle.hb_types.specs.declared.ids.NodeId.{NodeId}
use Rattle.hb_cache.specs.declared.kept.Kept.{Kept}
use Rattle.hb_names.specs.declared.names.TheConstants.{NAMES_MAX}
use Rattle.hb_names.specs.Names.{Name, place, IsFull}
use Rattle.hb_names.proofs.NameLemmas.{place-append}
use Rattle.hb_tables.specs.declared.{entry.Entry.Entry, entry.Act.Act}
use Rattle.hb_tables.specs.Frames.{acts}
use Rattle.hb_eval.specs.declared.state.Hand.TheVariants as hands
use Rattle.hb_eval.specs.declared.{value.Value.Value, stop.Stop.Stop, state.State.State, state.Move.Move}
use Rattle.hb_eval.specs.declared.stop.Stop.TheVariants as stop
use Rattle.hb_eval.specs.State.{Answer, St, Lost, Halt, reads}
use Rattle.hb_eval.specs.{Methods.with_key, Methods.keyed, Tables.Adds, Tables.ActsOn}
use Rattle.hb_eval.specs.Machine.{World, resume, st_of}
use Rattle.hb_eval.proofs.TableLemmas.{reads_act}

stays : (known names : List Name) (name : Name) (key : ℕ) → IsPrefix known names → place known name ≡ Some key → place names name ≡ Some key
stays known names name key p found = subst (λ l. place l name ≡ Some key) p.1 (place-append known p.0 name key found)

pub given : (known : List Name) (c : ℕ) (was now : List Entry) (id : NodeId) (name : Name) (key : ℕ) (asked : ℕ → Act → Option (Result Value Stop)) (v : Value) (old new : State) (move : Move)
    → place known name ≡ Some key → Adds c was now (asked key) (Ok v) → new ≡ record old { acc = v } → move ≡ record { under = None; push = None; hand = hands.Gives }
    → ActsOn known c was now (λ w s. keyed w.names id.0 name s (λ key. reads (asked key) id.0 s)) old new move
given known c was now id name key asked v old new move found adds after mv =
    rw (after, mv) (record {
      more = adds.act ∷ [];
      grows = adds.grows;
      apart = (adds.apart, tt);
      same = λ w prefix few ks fs read journal.
          let s : St = st_of old read (adds.act ∷ journal) in
          ap (resume w ks (reverse old.operands.items) fs)
          (ap (λ o. with_key w.names id.0 o s (λ key. reads (asked key) id.0 s)) (stays known w.names name key prefix found)
          ∙ reads_act (asked key) id.0 adds.act (Ok v) journal s adds.means refl);
    })

pub stopped : (known : List Name) (c : ℕ) (was now : List Entry) (id : NodeId) (name : Name) (key : ℕ) (asked : ℕ → Act → Option (Result Value Stop)) (e : Stop) (old new : State) (move : Move)
    → place known name ≡ Some key → Adds c was now (asked key) (Err e) → new ≡ record old { stop = e; at = id } → move ≡ record { under = None; push = None; hand = hands.Stops }
    → ActsOn known c was now (λ w s. keyed w.names id.0 name s (λ key. reads (asked key) id.0 s)) old new move
stopped known c was now id name key asked e old new move found adds after mv =
    rw (after, mv) (record {
      more = adds.act ∷ [];
      grows = adds.grows;
      apart = (adds.apart, tt);
      same = λ w prefix few ks fs read journal.
          let s : St = st_of old read (adds.act ∷ journal) in
          ap (resume w ks (reverse old.operands.items) fs)
          (ap (λ o. with_key w.names id.0 o s (λ key. reads (asked key) id.0 s)) (stays known w.names name key prefix found)
          ∙ reads_act (asked key) id.0 adds.act (Err e) journal s adds.means refl);
    })

no_more : (more : List Name) → length more ≤ 0 → more ≡ []
no_more [] h = refl
no_more (n ∷ more) h = absurd (omega arith)

-- a full list of names goes on no further
pub whole : (known names : List Name) → IsPrefix known names → length known ≡ NAMES_MAX → length names ≤ NAMES_MAX → names ≡ known
whole known names p full few =
    let none : p.0 ≡ [] = no_more p.0 (omega (arith, full, few, ap length p.1, length-append known p.0)) in
    sym p.1 ∙ ap (λ l. known ++ l) none ∙ append-nil known

pub full : (known : List Name) (c : ℕ) (was now : List Entry) (id : NodeId) (name : Name) (asked : ℕ → Act → Option (Result Value Stop)) (old new : State) (move : Move)
    → IsFull known name → acts c now ≡ acts c was → new ≡ record old { stop = stop.Full; at = id } → move ≡ record { under = None; push = None; hand = hands.Stops }
    → ActsOn known c was now (λ w s. keyed w.names id.0 name s (λ key. reads (asked key) id.0 s)) old new move
full known c was now id name asked old new move is none after mv =
    rw (after, mv) (record {
      more = [];
      grows = none ∙ sym (append-nil (acts c was));
      apart = tt;
      same = λ w prefix few ks fs read journal.
          let s : St = st_of old read journal in
          ap (λ names. resume w ks (reverse old.operands.items) fs (keyed names id.0 name s (λ key. reads (asked key) id.0 s))) (whole known w.names prefix is.0 few)
          ∙ ap (λ o. resume w ks (reverse old.operands.items) fs (with_key known id.0 o s (λ key. reads (asked key) id.0 s))) is.1
          ∙ ap (λ b. resume w ks (reverse old.operands.items) fs (if b then Halt stop.Full id.0 s else Lost)) (eq-eqb (length known) NAMES_MAX is.0)
          ∙ ap (λ q. resume w ks (reverse old.operands.items) fs (Halt stop.Full id.0 (st_of old q journal))) (sym (append-nil read));
    })

-- what is kept plays no part in what acts come to
pub acts_kept : (known : List Name) (c : ℕ) (was now : List Entry) (before : World → St → Answer) (old new : State) (cache : List (Option Kept)) (move : Move)
    → ActsOn known c was now before (record old { cache = cache }) new move → ActsOn known c was now before old new move
acts_kept known c was now before old new cache move a = record { more = a.more; grows = a.grows; apart = a.apart; same = a.same }
