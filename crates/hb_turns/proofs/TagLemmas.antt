-- A run's acts have the numbers of its machine's turns.
use Rattle.std.proofs.Common.{◌≡◌, inl, inr, ℕ, zero, suc, ◌≤◌, List, [], ◌∷◌, length, Bool, true, refl, sym, ap, ◌∙◌, subst, arith}
use Rattle.hb_types.specs.declared.ids.NodeId.{NodeId}
use Rattle.hb_types.specs.declared.ids.NameId.{NameId}
use Rattle.hb_tree.specs.Table.{Table}
use Rattle.hb_names.specs.declared.names.TheConstants.{NAMES_MAX}
use Rattle.hb_names.specs.Names.{Name}
use Rattle.hb_tables.specs.declared.entry.Act.{Act}
use Rattle.hb_tables.specs.declared.entry.Entry.{Entry}
use Rattle.hb_call.specs.GrowthLaws.{prefix_itself}
use Rattle.hb_eval.specs.Calls.{call_in}
use Rattle.hb_eval.specs.declared.machine.Machine.{Machine}
use Rattle.hb_eval.specs.declared.script_run.ScriptRun.{ScriptRun}
use Rattle.hb_eval.specs.Runs.{script_run}
use Rattle.hb_run.specs.History.{callers_from}
use Rattle.hb_turns.specs.declared.player.Player.{Player}
use Rattle.hb_turns.specs.Playing.{IsNumbered, Plays, Taken, acts_by, turns_by}
use Rattle.hb_turns.specs.Players.{AreFinished, AreOver, ArePlayers, AreTagged, FinishesAs, IsTagged, turns_for}

-- a run that is over took a turn for each beginning, and one at least
turns_numbered : (begun turns : ℕ) → IsNumbered true begun turns → turns ≡ turns_for begun
turns_numbered zero turns (inl h) = absurd (omega (arith, h.0, h.1))
turns_numbered (suc n) turns (inl h) = sym h.0
turns_numbered zero turns (inr h) = h.1
turns_numbered (suc n) turns (inr h) = absurd (omega (arith, h.0))

tagged_is : (t : Table) (steps c : ℕ) (names : List Name) (log : List Entry) (us : List Taken) (m : Machine) (r : ScriptRun) → length names ≤ NAMES_MAX → Plays t steps c names log (acts_by c us) m
    → IsNumbered true m.state.begun (turns_by c us) → FinishesAs m r → IsTagged t names steps log us c
tagged_is t steps c names log us m r few p numbered finishes =
    let ran = finishes t names names p.block.0 steps (acts_by c us) p.stands (prefix_itself names) few in
    record {
      block = p.block;
      runs = p.runs;
      run = ran.run;
      reads = ap (λ (l : List Act). script_run t names (call_in t names 4096) p.block.0 steps l) p.reads ∙ ran.reads;
      acts = ran.acts;
      many = turns_numbered m.state.begun (turns_by c us) numbered ∙ ap turns_for (sym ran.begun);
    }

pub tagged_are : (t : Table) (steps c : ℕ) (names : List Name) (log : List Entry) (us : List Taken) (ss : List (NameId × NodeId)) (ps : List Player) (rs : List ScriptRun) → length ss ≡ length ps
    → length names ≤ NAMES_MAX
    → AreOver (length ps) ps → ArePlayers t steps c names log us ps → AreFinished ps rs → AreTagged t names steps log us (callers_from c ss)
tagged_are t steps c names log us [] ps rs many few over are finished = tt
tagged_are t steps c names log us (s ∷ ss) [] rs many few over are finished = absurd (omega (arith, many))
tagged_are t steps c names log us (s ∷ ss) (p ∷ ps) [] many few over are finished = absurd finished
tagged_are t steps c names log us (s ∷ ss) (p ∷ ps) (r ∷ rs) many few over are finished = (
  tagged_is t steps c names log us p.machine r few are.0.plays
      (subst (λ (o : Bool). IsNumbered o p.machine.state.begun (turns_by c us)) (over 0 p (omega arith) refl) are.0.numbered) finished.0,
  tagged_are t steps (suc c) names log us ss ps rs (omega (arith, many)) few (λ i x low is. over (suc i) x (omega (arith, low)) is) are.1 finished.1,
)
