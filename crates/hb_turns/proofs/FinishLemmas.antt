-- How players begin, and what their runs come to.
use Rattle.std.proofs.Common.{◌≡◌, ℕ, suc, ◌+◌, ◌≤◌, List, [], ◌∷◌, ◌++◌, length, map, Some, Bool, false, refl, sym, ap, ◌∙◌, subst, arith}
use Rattle.std.specs.List.{AllByRecursion}
use mathlib.Core.List.{IsPrefix}
use Rattle.hb_types.specs.declared.ids.NodeId.{NodeId}
use Rattle.hb_types.specs.declared.ids.NameId.{NameId}
use Rattle.hb_tree.specs.Table.{Table}
use Rattle.hb_names.specs.declared.names.TheConstants.{NAMES_MAX}
use Rattle.hb_names.specs.Names.{Name}
use Rattle.hb_tables.specs.declared.entry.Act.{Act}
use Rattle.hb_tables.specs.declared.entry.Entry.{Entry}
use Rattle.hb_tables.specs.Frames.{acts}
use Rattle.hb_call.specs.GrowthLaws.{prefix_itself}
use Rattle.hb_call.specs.OwnCache.{IsOwnCache}
use Rattle.hb_eval.specs.Calls.{call_in}
use Rattle.hb_eval.specs.declared.framed.Framed.{Framed}
use Rattle.hb_eval.specs.declared.machine.Machine.{Machine}
use Rattle.hb_eval.specs.declared.script_run.ScriptRun.{ScriptRun}
use Rattle.hb_eval.specs.Holding.{Holding, frames_of}
use Rattle.hb_eval.specs.Machines.{HasEnded, IsFineMachine, StandsFor, keeps}
use Rattle.hb_eval.specs.Runs.{script_run}
use Rattle.hb_eval.specs.Told.{Told, told, told_by}
use Rattle.hb_eval.proofs.HoldingLemmas.{holding_empty}
use Rattle.hb_tables.specs.Standing.{standing}
use Rattle.hb_run.specs.History.{AreRuns, IsRunOf, block_of, callers_from}
use Rattle.hb_turns.specs.declared.player.Player.{Player}
use Rattle.hb_turns.specs.Playing.{IsAt, Plays, Taken, acts_by}
use Rattle.hb_turns.specs.Players.{AreFinished, AreOver, ArePlayers, FinishesAs, HasRun, IsPlayer}

pub new_plays : (t : Table) (steps c : ℕ) (names : List Name) (log : List Entry) (m : Machine) (block : NodeId) → block_of t c ≡ Some block → m.caller.0 ≡ c → keeps m ≡ false → IsFineMachine t m
    → (m.frames.items ≡ []) × (m.state.made ≡ 0)
    → StandsFor t names block.0 steps [] m → acts c log ≡ [] → IsOwnCache t names names c (Some (acts c log)) log m.state.cache → Plays t steps c names log [] m
new_plays t steps c names log m block runs mine plain fine fresh stands_for idle own = record {
  caller = mine;
  plain = plain;
  block = block;
  runs = runs;
  fine = fine;
  holding = subst (λ (l : List Framed). Holding c (m.state.made + 1) (frames_of l) log) (sym fresh.0) (holding_empty c (m.state.made + 1) log (λ q. ap (standing q) idle));
  own = subst (λ (past : List Act). IsOwnCache t names names c (Some past) log m.state.cache) idle own;
  reads = idle;
  stands = stands_for;
}

pub players_push : (t : Table) (steps c : ℕ) (names : List Name) (log : List Entry) (us : List Taken) (ps : List Player) (p : Player) → ArePlayers t steps c names log us ps
    → IsPlayer t steps (c + length ps) names log us p → ArePlayers t steps c names log us (ps ++ p ∷ [])
players_push t steps c names log us [] p are one = (let here : c + 0 ≡ c = omega arith in subst (λ (d : ℕ). IsPlayer t steps d names log us p) here one, tt)
players_push t steps c names log us (q ∷ ps) p are one =
    (are.0, players_push t steps (suc c) names log us ps p are.1 (let on : c + length (q ∷ ps) ≡ suc c + length ps = omega arith in subst (λ (d : ℕ). IsPlayer t steps d names log us p) on one))

pub finished_push : (ps : List Player) (rs : List ScriptRun) (p : Player) (r : ScriptRun) → AreFinished ps rs → FinishesAs p.machine r → AreFinished (ps ++ p ∷ []) (rs ++ r ∷ [])
finished_push [] [] p r are one = (one, tt)
finished_push [] (x ∷ rs) p r are one = absurd are
finished_push (q ∷ ps) [] p r are one = absurd are
finished_push (q ∷ ps) (x ∷ rs) p r are one = (are.0, finished_push ps rs p r are.1 one)

-- a run that a machine finishes with
pub finish_run : (t : Table) (steps c : ℕ) (names : List Name) (log : List Entry) (done : List (ℕ × Act)) (m : Machine) (r : ScriptRun) → Plays t steps c names log done m → FinishesAs m r
    → HasRun t steps c names log (told_by r)
finish_run t steps c names log done m r p finishes = record {
  block = p.block;
  runs = p.runs;
  run = λ longer more few.
      let ran = finishes t names longer p.block.0 steps done p.stands more few in
      (ran.run, ap (λ (l : List Act). script_run t longer (call_in t longer 4096) p.block.0 steps l) p.reads ∙ ran.reads, ran.tells ∙ ap (λ (d : ℕ). told d ran.run) p.caller);
}

pub run_is : (t : Table) (steps c : ℕ) (names longer : List Name) (old new : List Entry) (r : Told) → HasRun t steps c names old r → IsPrefix names longer → length longer ≤ NAMES_MAX
    → acts c new ≡ acts c old → IsRunOf t longer steps new c r
run_is t steps c names longer old new r has more few same =
    let ran = has.run longer more few in
    record { block = has.block; runs = has.runs; run = ran.0; reads = ap (λ (l : List Act). script_run t longer (call_in t longer 4096) has.block.0 steps l) same ∙ ran.1; tells = ran.2 }

pub runs_are : (t : Table) (steps c : ℕ) (names : List Name) (log : List Entry) (us : List Taken) (ss : List (NameId × NodeId)) (ps : List Player) (rs : List ScriptRun) → length ss ≡ length ps → length names ≤ NAMES_MAX
    → ArePlayers t steps c names log us ps → AreFinished ps rs → AreRuns t names steps log (callers_from c ss) (map told_by rs)
runs_are t steps c names log us [] [] [] many few are finished = tt
runs_are t steps c names log us [] [] (r ∷ rs) many few are finished = absurd finished
runs_are t steps c names log us [] (p ∷ ps) rs many few are finished = absurd (omega (arith, many))
runs_are t steps c names log us (s ∷ ss) [] rs many few are finished = absurd (omega (arith, many))
runs_are t steps c names log us (s ∷ ss) (p ∷ ps) [] many few are finished = absurd finished
runs_are t steps c names log us (s ∷ ss) (p ∷ ps) (r ∷ rs) many few are finished = (
  run_is t steps c names names log log (told_by r) (finish_run t steps c names log (acts_by c us) p.machine r are.0.plays finished.0) (prefix_itself names) few refl,
  runs_are t steps (suc c) names log us ss ps rs (omega (arith, many)) few are.1 finished.1,
)

-- players that are over have ended
pub ended_all : (t : Table) (steps c : ℕ) (names : List Name) (log : List Entry) (us : List Taken) (ps : List Player) → ArePlayers t steps c names log us ps → AreOver (length ps) ps
    → AllByRecursion (λ (p : Player). HasEnded p.machine) ps
ended_all t steps c names log us [] are over = tt
ended_all t steps c names log us (p ∷ ps) are over =
    (subst (λ (o : Bool). IsAt o p.machine) (over 0 p (omega arith) refl) are.0.at, ended_all t steps (suc c) names log us ps are.1 (λ i x low is. over (suc i) x (omega (arith, low)) is))
