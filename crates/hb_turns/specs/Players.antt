-- The players of several callers, and the order of their turns.
use Rattle.std.specs.Prelude.{◌≡◌, ◌⊎◌, ℕ, zero, suc, ◌+◌, ◌-◌, ◌<◌, ◌≤◌, ◌==◌, if◌then◌else◌, Bool, true, false, List, [], ◌∷◌, ◌++◌, length, map, replicate, slice_get, slice_set, Some}
use mathlib.Core.List.{IsPrefix}
use Rattle.hb_types.specs.declared.ids.NodeId.{NodeId}
use Rattle.hb_tree.specs.Table.{Table}
use Rattle.hb_names.specs.declared.names.TheConstants.{NAMES_MAX}
use Rattle.hb_names.specs.Names.{Name}
use Rattle.hb_tables.specs.declared.entry.Act.{Act}
use Rattle.hb_tables.specs.declared.entry.Entry.{Entry}
use Rattle.hb_tables.specs.Frames.{acts}
use Rattle.hb_tables.specs.Plain.{AreOwn}
use Rattle.hb_call.specs.Growth.{asked_after}
use Rattle.hb_eval.specs.Calls.{call_in}
use Rattle.hb_eval.specs.declared.machine.Machine.{Machine}
use Rattle.hb_eval.specs.declared.stop.Outcome.TheVariants as outcome
use Rattle.hb_eval.specs.declared.stop.Stop.TheVariants as stop
use Rattle.hb_eval.specs.Machines.{Finishes, StandsFor}
use Rattle.hb_eval.specs.Runs.{Run, script_run}
use Rattle.hb_eval.specs.Told.{Told, told, told_by}
use Rattle.hb_eval.specs.declared.script_run.ScriptRun.{ScriptRun}
use Rattle.hb_run.specs.History.{AreRuns, IsHistory, block_of, callers_from}
use Rattle.hb_turns.specs.declared.player.Player.{Player}
use Rattle.hb_turns.specs.Playing.{AreNumbered, IsAt, IsNumbered, IsUnderWay, Plays, Taken, acts_by, and_idle, entries_of, turns_by}

-- The caller's player stands where these turns left it.
pub record IsPlayer (t : Table) (steps c : ℕ) (names : List Name) (log : List Entry) (us : List Taken) (p : Player) : Type 0 where
  pub plays : Plays t steps c names log (acts_by c us) p.machine
  pub at : IsAt p.over p.machine
  pub numbered : IsNumbered p.over p.machine.state.begun (turns_by c us)

-- these are the players of the callers from this one on
abbrev pub ArePlayers : Table → (steps c : ℕ) → List Name → List Entry → List Taken → List Player → Type 0
ArePlayers t steps c names log us [] = Unit {0}
ArePlayers t steps c names log us (p ∷ ps) = IsPlayer t steps c names log us p × ArePlayers t steps (suc c) names log us ps

-- Behind these turns of the caller and others so many names were known, and the caller's player stood as it stands now.
pub record StoodThen (t : Table) (limit steps first c : ℕ) (start : List Entry) (us : List Taken) (names : List Name) (ps : List Player) : Type 0 where
  pub at : ℕ
  pub mine : c ≡ first + at
  pub player : Player
  pub there : slice_get ps at ≡ Some player
  pub known : List Name
  pub named : IsPrefix known names
  pub under_way : IsUnderWay t limit known (start ++ entries_of us)
  pub plays : Plays t steps c known (start ++ entries_of us) (acts_by c us) player.machine

-- so it was behind each turn whose caller took no later one
abbrev pub StoodAtLast : Table → (limit steps first : ℕ) → (start : List Entry) → List Taken → List Name → List Player → Type 0
StoodAtLast t limit steps first start us names ps = (before after : List Taken) (u : Taken) → us ≡ before ++ u ∷ after → turns_by u.caller after ≡ 0
    → StoodThen t limit steps first u.caller start (before ++ u ∷ []) names ps

-- The callers from the first on took these turns behind a history. Where the first is the setup's it plays alone.
pub record HavePlayed (t : Table) (limit steps first : ℕ) (start : List Entry) (us : List Taken) (names : List Name) (log : List Entry) (ps : List Player) : Type 0 where
  pub is : log ≡ start ++ entries_of us
  pub numbers : AreNumbered us
  pub under_way : IsUnderWay t limit names log
  pub players : ArePlayers t steps first names log us ps
  pub stood : StoodAtLast t limit steps first start us names ps
  pub alone : first ≡ 0 → AreOwn 0 log × (length ps ≡ 1)
  pub setup : 1 ≤ first → acts 0 log ≡ acts 0 start

-- One turn more was taken by the player at this place, behind so many idle ones of its own: its machine is behind all of them. The others stay as they are.
pub record TookTurn (t : Table) (limit first at idle : ℕ) (names longer : List Name) (old new : List Entry) (was now : List Player) : Type 0 where
  pub turn : Taken
  pub mine : turn.caller ≡ first + at
  pub named : IsPrefix names longer
  pub player : Player
  pub before : Player
  pub there : slice_get was at ≡ Some before
  pub goes_on : before.over ≡ false
  pub moved : now ≡ slice_set was at player
  pub numbered : (turns : ℕ) → IsNumbered before.over before.machine.state.begun turns → IsNumbered player.over player.machine.state.begun (turns + idle + 1)
  pub played : (steps : ℕ) (start : List Entry) (us : List Taken) → HavePlayed t limit steps first start us names old was
      → HavePlayed t limit steps first start (and_idle turn.caller idle us ++ turn ∷ []) longer new now

-- ── the order ──

-- one turn less for this caller
abbrev pub less : ℕ → (ℕ → ℕ) → ℕ → ℕ
less c left d = if d == c then left d - 1 else left d

-- all turns of these callers, one caller behind the other
abbrev pub turns_left : (left : ℕ → ℕ) → List ℕ → List ℕ
turns_left left [] = []
turns_left left (c ∷ cs) = replicate (left c) c ++ turns_left left cs

-- Whose the turns are, where each of these callers takes so many: first by an order, in which a caller that has none left is passed over, and then all that are left.
abbrev pub turn_order : (order : List ℕ) → (left : ℕ → ℕ) → List ℕ → List ℕ
turn_order [] left cs = turns_left left cs
turn_order (c ∷ order) left cs = if left c == 0 then turn_order order left cs else c ∷ turn_order order (less c left) cs

-- a run that is over takes no turn, and one that goes on takes one at least
abbrev pub IsLeft : (over : Bool) → ℕ → Type 0
IsLeft true n = n ≡ 0
IsLeft false n = 0 < n

-- so many turns may be left for these players, from this caller on, and none for any other caller behind
abbrev pub MayBeLeft : (c : ℕ) → List Player → (left : ℕ → ℕ) → Type 0
MayBeLeft c [] left = (d : ℕ) → c ≤ d → left d ≡ 0
MayBeLeft c (p ∷ ps) left = IsLeft p.over (left c) × MayBeLeft (suc c) ps left

-- The turns so far are by the order, of which this is left: however many turns are still to come.
abbrev pub IsInOrder : (order rest : List ℕ) → (cs : List ℕ) → List Taken → List Player → Type 0
IsInOrder order rest cs us ps = (left : ℕ → ℕ) → left 0 ≡ 0 → MayBeLeft 1 ps left
    → turn_order order (λ c. turns_by c us + left c) cs ≡ map (λ u. u.caller) us ++ turn_order rest left cs

-- The players took turns from nothing. Of the order this is left.
pub record HaveGone (t : Table) (limit : ℕ) (order rest : List ℕ) (names longer : List Name) (old new : List Entry) (was now : List Player) : Type 0 where
  pub turns : List Taken
  pub named : IsPrefix names longer
  pub played : (steps : ℕ) (start : List Entry) → HavePlayed t limit steps 1 start [] names old was → HavePlayed t limit steps 1 start turns longer new now
  pub in_order : IsInOrder order rest (callers_from 1 t.scripts) turns now
  pub many : length now ≡ length was

-- The player at this place was over and nothing came, or it took a turn, and no idle one: the order names each.
abbrev pub GoesOne : Table → (limit at : ℕ) → (names longer : List Name) → (old new : List Entry) → (was now : List Player) → Type 0
GoesOne t limit at names longer old new was now =
    ((p : Player) × (slice_get was at ≡ Some p) × (p.over ≡ true) × (now ≡ was) × (longer ≡ names) × (new ≡ old)) ⊎ TookTurn t limit 1 at 0 names longer old new was now

-- A number of the order was followed: there is no such script and nothing came, or its player went on.
abbrev pub Follows : Table → (limit c : ℕ) → (names longer : List Name) → (old new : List Entry) → (was now : List Player) → Type 0
Follows t limit c names longer old new was now =
    (((c ≡ 0) ⊎ (length was < c)) × (now ≡ was) × (longer ≡ names) × (new ≡ old)) ⊎ ((at : ℕ) × (c ≡ 1 + at) × GoesOne t limit at names longer old new was now)

-- the runs of the players before this place are over
abbrev pub AreOver : (at : ℕ) → List Player → Type 0
AreOver at ps = (i : ℕ) (p : Player) → i < at → slice_get ps i ≡ Some p → p.over ≡ true

-- The players went on, where nothing is left of the order.
pub record GoOn (t : Table) (limit : ℕ) (names longer : List Name) (old new : List Entry) (was now : List Player) : Type 0 where
  pub gone : (order : List ℕ) (first : List Name) (start : List Entry) (all : List Player) → HaveGone t limit order [] first names start old all was → HaveGone t limit order [] first longer start new all now
  pub played : (steps : ℕ) (start : List Entry) (us : List Taken) → HavePlayed t limit steps 1 start us names old was → (more : List Taken) × HavePlayed t limit steps 1 start more longer new now
  pub named : IsPrefix names longer
  pub many : length now ≡ length was

-- From this player the caller's came to that one. Among whatever players it has a place, they went on by this, where nothing is left of the order.
abbrev pub GoesAmong : Table → (limit c : ℕ) → (names longer : List Name) → (old new : List Entry) → (was now : Player) → Type 0
GoesAmong t limit c names longer old new was now = (at : ℕ) (ps : List Player) → c ≡ 1 + at → slice_get ps at ≡ Some was → at < length ps
    → length t.scripts ≡ length ps → AreOver at ps
    → (steps : ℕ) (start : List Entry) (us : List Taken) → HavePlayed t limit steps 1 start us names old ps → GoOn t limit names longer old new ps (slice_set ps at now)

-- This is what an ended machine's run came to, whatever run the machine stands for.
abbrev pub FinishesAs : Machine → ScriptRun → Type 0
FinishesAs m r = (t : Table) (known names : List Name) (block steps : ℕ) (done : List (ℕ × Act)) → StandsFor t known block steps done m → IsPrefix known names → length names ≤ NAMES_MAX
    → Finishes t names block steps done m r

-- these are the runs of the players' machines, in their order
abbrev pub AreFinished : List Player → List ScriptRun → Type 0
AreFinished [] [] = Unit {0}
AreFinished (p ∷ ps) (r ∷ rs) = FinishesAs p.machine r × AreFinished ps rs
AreFinished _ _ = ⊥

-- The caller ran its block to its end, and this is told of it, for these names and each longer list.
pub record HasRun (t : Table) (steps c : ℕ) (names : List Name) (log : List Entry) (r : Told) : Type 0 where
  pub block : NodeId
  pub runs : block_of t c ≡ Some block
  pub run : (longer : List Name) → IsPrefix names longer → length longer ≤ NAMES_MAX
      → (run : Run) × (script_run t longer (call_in t longer 4096) block.0 steps (acts c log) ≡ Some run) × (r ≡ told c run)

-- in so many turns a run ends: one for each beginning, and one where nothing begins
abbrev pub turns_for : (begun : ℕ) → ℕ
turns_for zero = 1
turns_for (suc n) = suc n

-- The caller's run reads its acts with the numbers that they have in these turns, of which it takes one for each beginning and one at least.
pub record IsTagged (t : Table) (names : List Name) (steps : ℕ) (log : List Entry) (us : List Taken) (c : ℕ) : Type 0 where
  pub block : NodeId
  pub runs : block_of t c ≡ Some block
  pub run : Run
  pub reads : script_run t names (call_in t names 4096) block.0 steps (acts c log) ≡ Some run
  pub many : turns_by c us ≡ turns_for run.begun
  pub acts : run.acts ≡ acts_by c us

abbrev pub AreTagged : Table → List Name → (steps : ℕ) → List Entry → List Taken → List ℕ → Type 0
AreTagged t names steps log us [] = Unit {0}
AreTagged t names steps log us (c ∷ cs) = IsTagged t names steps log us c × AreTagged t names steps log us cs

-- Where the caller of a turn takes no later one, and its run stopped since the list of names is full, each of the names is that of a key up to the end of the turn.
abbrev pub AreAllByThen : Table → (steps : ℕ) → List Name → (start log : List Entry) → List Taken → Type 0
AreAllByThen t steps names start log us = (before after : List Taken) (u : Taken) → us ≡ before ++ u ∷ after → turns_by u.caller after ≡ 0
    → (block : NodeId) (run : Run) (id : NodeId) → block_of t u.caller ≡ Some block → script_run t names (call_in t names 4096) block.0 steps (acts u.caller log) ≡ Some run
    → run.outcome ≡ outcome.Stopped stop.Full id → names ≡ asked_after names [] (map (λ e. e.act) (start ++ entries_of (before ++ u ∷ [])))

-- The history that turns fix: the setup's entries, and behind them turn by turn the acts of that turn's caller. Whose the turns are says the order, where each script takes as many as it took.
pub record IsOrdered (t : Table) (limit steps : ℕ) (order : List ℕ) (names : List Name) (log : List Entry) (runs : List Told) : Type 0 where
  pub history : IsHistory t limit steps names log runs
  pub start : List Entry
  pub setup : AreOwn 0 start
  pub turns : List Taken
  pub is : log ≡ start ++ entries_of turns
  pub numbers : AreNumbered turns
  pub in_order : map (λ u. u.caller) turns ≡ turn_order order (λ c. turns_by c turns) (callers_from 1 t.scripts)
  pub tagged : turns ≡ [] ⊎ AreTagged t names steps log turns (callers_from 1 t.scripts)
  pub asked : names ≡ asked_after names [] (map (λ e. e.act) log)
  pub all_by_then : AreAllByThen t steps names start log turns

-- The scripts ran by turns behind a setup that is done, or behind none. Their runs come behind what was there.
pub record ScriptsRan (t : Table) (limit steps : ℕ) (order : List ℕ) (names longer : List Name) (old new : List Entry) (was now : List ScriptRun) : Type 0 where
  pub more : List ScriptRun
  pub behind : now ≡ was ++ more
  pub turns : List Taken
  pub is : new ≡ old ++ entries_of turns
  pub numbers : AreNumbered turns
  pub in_order : map (λ u. u.caller) turns ≡ turn_order order (λ c. turns_by c turns) (callers_from 1 t.scripts)
  pub tagged : AreTagged t longer steps new turns (callers_from 1 t.scripts)
  pub under_way : IsUnderWay t limit longer new
  pub named : IsPrefix names longer
  pub setup : acts 0 new ≡ acts 0 old
  pub runs : AreRuns t longer steps new (callers_from 1 t.scripts) (map told_by more)
  pub all_by_then : AreAllByThen t steps longer old new turns
