-- What is begun, and what is done with a value, in the words of turns.
use Rattle.hb_cache.specs.declared.kept.Kept.{Kept as KeptCheck}
use Rattle.hb_call.specs.OwnCache.{KeepsChecks}
use Rattle.hb_call.specs.OwnLaws.{keeps_itself}
use Rattle.std.proofs.Common.{◌≡◌, ◌<◌, ℕ, List, [], ◌∷◌, ◌++◌, Option, Some, None, Bool, false, refl, sym, ap, ◌∙◌, subst, arith}
use Rattle.std.specs.Prelude.{count_by, Result, Ok, Err, IfOk, OnOk}
use Rattle.std.specs.declared.alloc.AllocError.{AllocError}
use Rattle.std.proofs.lemmas.Result.{IfOk-weaker}
use Rattle.hb_eval.proofs.GoesLemmas.{keeps_moves, plain_goes}
use Rattle.std.specs.List.{AllByRecursion}
use Rattle.hb_types.specs.declared.ids.NodeId.{NodeId}
use Rattle.hb_tree.specs.Table.{Table}
use Rattle.hb_tree.specs.TreeAt.{tree_at}
use Rattle.hb_names.specs.Names.{Name}
use Rattle.hb_tables.specs.declared.entry.Entry.{Entry}
use Rattle.hb_tables.specs.declared.entry.Act.{Act}
use Rattle.hb_tables.specs.declared.entry.Act.TheVariants.{Call}
use Rattle.hb_tables.specs.declared.entry.By.{By}
use Rattle.hb_tables.specs.declared.entry.By.TheVariants as by
use Rattle.hb_call.specs.Growth.{Grown}
use Rattle.hb_call.specs.GrowthLaws.{grown_itself}
use Rattle.hb_eval.specs.declared.state.Hand.{Hand}
use Rattle.hb_eval.specs.declared.state.Hand.TheVariants as hands
use Rattle.hb_eval.specs.declared.cont.Cont.{Cont}
use Rattle.hb_eval.specs.declared.cont.Cont.TheVariants as cont
use Rattle.hb_eval.specs.declared.framed.Framed.{Framed}
use Rattle.hb_eval.specs.declared.state.State.{State}
use Rattle.hb_eval.specs.declared.state.Move.{Move}
use Rattle.hb_eval.specs.State.{then_do, tagged}
use Rattle.hb_eval.specs.Calls.{call_in}
use Rattle.hb_eval.specs.Runs.{is_call, is_entered}
use Rattle.hb_eval.specs.Machine.{need, frames_in, stands, method_named}
use Rattle.hb_eval.specs.Steps.{AreKnown, InEach, Moves, Keeps, SameCalls, Steady, Still, Took, IsPlain, onto, weigh_one, weigh_push}
use Rattle.hb_eval.specs.Stacks.{frames_at, calls_in}
use Rattle.hb_eval.specs.Tables.{ActsOn}
use Rattle.hb_eval.specs.Turns.{world, with_value, at_beginning, after, Tallies, Reads, Turned}
use Rattle.hb_eval.proofs.CallFuelLemmas.{calls_keep}
use Rattle.hb_eval.proofs.TurnLemmas.{frames_stay, reads_none}
use Rattle.hb_eval.proofs.CountLemmas.{count_no}

-- it asks no table
pub quiet_reads : (known : List Name) (t : Table) (c : ℕ) (log : List Entry) (k : Cont) (frames : List Framed) (old new : State) (move : Move) → InEach t (Moves (Some k) hands.Gives old new move) → SameCalls old new
    → Reads known c log log old new (with_value t k frames old) (after t move frames new)
quiet_reads known t c log k frames old new move h same =
    reads_none known c log log old new _ _ refl same (λ names ks read journal.
    let m = h names (call_in t names) (calls_keep t names) in
    m.same ks (frames_at frames old) read journal
    ∙ ap (λ fs. stands (world t names) (onto move.push (onto move.under ks)) fs move.hand new read journal) (sym (frames_stay frames old new m.keeps.below)))

pub begins_reads : (known : List Name) (t : Table) (c : ℕ) (log : List Entry) (frames : List Framed) (old new : State) (move : Move) → InEach t (Moves None hands.Begins old new move) → SameCalls old new
    → Reads known c log log old new (at_beginning t frames old) (after t move frames new)
begins_reads known t c log frames old new move h same =
    reads_none known c log log old new _ _ refl same (λ names ks read journal.
    let m = h names (call_in t names) (calls_keep t names) in
    m.same ks (frames_at frames old) read journal
    ∙ ap (λ fs. stands (world t names) (onto move.push (onto move.under ks)) fs move.hand new read journal) (sym (frames_stay frames old new m.keeps.below)))

no_call : (way : By) (a : Act) → is_call a ≡ false → is_entered way a ≡ false
no_call way (Call key q site args v) h = absurd (cc)
no_call _ _ _ = refl

counts_none : (p : Act → Bool) (l : List Act) → AllByRecursion (λ a. p a ≡ false) l → count_by p l ≡ 0
counts_none p [] h = refl
counts_none p (a ∷ l) h = count_no p a l h.0 ∙ counts_none p l h.1

none_enters : (way : By) (l : List Act) → AllByRecursion (λ a. is_call a ≡ false) l → AllByRecursion (λ a. is_entered way a ≡ false) l
none_enters way [] h = tt
none_enters way (a ∷ l) h = (no_call way a h.0, none_enters way l h.1)

apart_tallies : (old new : State) (l : List Act) → AllByRecursion (λ a. is_call a ≡ false) l → SameCalls old new → Tallies old new l
apart_tallies old new l h same = record {
  decided = omega (arith, same.decided, counts_none is_call l h);
  own = omega (arith, same.own, counts_none (is_entered by.Own) l (none_enters by.Own l h));
  fresh = omega (arith, same.fresh, counts_none (is_entered by.Fresh) l (none_enters by.Fresh l h));
  shared = counts_none (is_entered by.Shared) l (none_enters by.Shared l h);
}

-- a `def` or a `type` whose name is there
pub named_reads : (known : List Name) (t : Table) (c : ℕ) (was now : List Entry) (id : NodeId) (frames : List Framed) (old new : State) (move : Move) → ActsOn known c was now (λ w s. method_named (record w { program = t }) (tree_at t id.0) old.acc s) old new move → Keeps t None old new move → SameCalls old new
    → Reads known c was now old new (with_value t (cont.Method id) frames old) (after t move frames new)
unfolding then_do
named_reads known t c was now id frames old new move a k same = record {
  more = a.more;
  grows = a.grows;
  same = λ names p few ks read journal.
      a.same (world t names) p few ks (frames_at frames old) read journal
      ∙ ap (λ fs. stands (world t names) (onto move.push (onto move.under ks)) fs move.hand new (read ++ tagged new.begun a.more) journal) (sym (frames_stay frames old new k.below));
  tallies = apart_tallies old new a.more a.apart same;
}

pub on_ok : {T E : Type 0} (r : Result T E) (P : Type 0) → P → OnOk r P
on_ok (Ok x) P h = h
on_ok (Err e) P h = tt

-- where no act came and no name was asked for, the front grew as it may
pub nothing_grown : {T E : Type 0} (t : Table) (c : ℕ) (known asked : List Name) (log : List Entry) (r : Result T E) → OnOk r (Grown t c known asked asked log log)
nothing_grown t c known asked log r = on_ok r _ (grown_itself t c known asked log)

-- and what is kept goes on to be so
pub nothing_kept : {T E : Type 0} (t : Table) (c : ℕ) (known asked : List Name) (log : List Entry) (old new : List (Option KeptCheck)) (r : Result T E) → new ≡ old → OnOk r (KeepsChecks t c known known asked asked log log old new)
nothing_kept t c known asked log old new r same = on_ok r _ (subst (λ (cache : List (Option KeptCheck)). KeepsChecks t c known known asked asked log log old cache) (sym same) (keeps_itself t c known asked log old))

-- a turn that reads nothing and takes no frame
pub quiet_turned : (t : Table) (known : List Name) (c : ℕ) (log : List Entry) (k : Cont) (frames : List Framed) (old new : State) (m : Move) (was now : List Cont) (r : Result Hand AllocError) → IfOk r (Took m was now)
    → (frames_in k ≡ 0) × (calls_in k ≡ 0) → InEach t (Moves (Some k) hands.Gives old new m) → IsPlain m.under × IsPlain m.push → weigh_push m.under < weigh_one k → Steady old new → AreKnown t new
    → IfOk r (Turned t known c log log (need k) (frames_in k) (calls_in k) (weigh_one k) frames old frames new (with_value t k frames old) was now)
quiet_turned t known c log k frames old new m was now r took none moves plain light same fine =
    IfOk-weaker r _ _ (λ h at. record {
      move = m;
      took = at;
      reads = quiet_reads known t c log k frames old new m moves same.calls;
      goes = rw (none.0, none.1) (plain_goes t (Some k) frames old new m (keeps_moves t (Some k) hands.Gives old new m moves) plain.0 plain.1 same.begun same.calls (λ _. fine));
      light = light;
    }) took

-- a turn of a `def` or a `type`
pub named_turned : (t : Table) (known : List Name) (c : ℕ) (past log : List Entry) (id : NodeId) (frames : List Framed) (old new : State) (m : Move) (was now : List Cont) (r : Result Hand AllocError) → IfOk r (Took m was now)
    → ActsOn known c past log (λ w s. method_named (record w { program = t }) (tree_at t id.0) old.acc s) old new m → Keeps t None old new m → IsPlain m.under × IsPlain m.push → weigh_push m.under < 1 → Still old new → (AreKnown t old → AreKnown t new)
    → IfOk r (Turned t known c past log 0 0 0 1 frames old frames new (with_value t (cont.Method id) frames old) was now)
named_turned t known c past log id frames old new m was now r took acts keeps plain light still fine =
    IfOk-weaker r _ _ (λ h at. record {
      move = m;
      took = at;
      reads = named_reads known t c past log id frames old new m acts keeps still.calls;
      goes = plain_goes t None frames old new m keeps plain.0 plain.1 still.begun still.calls fine;
      light = light;
    }) took
