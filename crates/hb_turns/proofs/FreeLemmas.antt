-- Where all runs are over, nobody holds anything.
use Rattle.std.proofs.Common.{◌≡◌, ◌∙◌, ℕ, ◌+◌, ◌≤◌, suc, zero, List, [], ◌∷◌, length, Option, Some, None, inl, inr, refl, sym, ap, subst, arith}
use native.Mathlib.Decide.{ℕ_discrete}
use mathlib.Core.Logic.{dite}
use Rattle.std.specs.Prelude.{IsSome}
use Rattle.std.specs.Option.{option_map}
use Rattle.std.specs.List.{AllByRecursion}
use Rattle.std.proofs.lemmas.Bool.Decides.{eqb_tells}
use Rattle.std.proofs.lemmas.Option.{slice_get_past}
use Rattle.hb_types.specs.declared.{ids.NameId.NameId, ids.NodeId.NodeId}
use Rattle.hb_tree.specs.Table.{Table}
use Rattle.hb_names.specs.Names.{Name}
use Rattle.hb_tables.specs.declared.{entry.Act.Act, entry.Entry.Entry}
use Rattle.hb_tables.specs.{Frames.acts, History.Every, Plain.AreOwn, Standing.standing}
use Rattle.hb_call.specs.Held.{stands}
use Rattle.hb_eval.specs.declared.machine.Machine.{Machine}
use Rattle.hb_eval.specs.declared.machine.Turn.TheVariants as turn
use Rattle.hb_eval.specs.Machines.{HasEnded}
use Rattle.hb_eval.proofs.AdvanceLemmas.{ended_nothing}
use Rattle.hb_run.specs.History.{HasCaller, block_of}
use Rattle.hb_turns.specs.declared.player.Player.{Player}
use Rattle.hb_turns.specs.Playing.{Plays, Taken}
use Rattle.hb_turns.specs.Players.{AreOver, ArePlayers, GoOn, HaveGone, HavePlayed}
use Rattle.hb_turns.proofs.FinishLemmas.{ended_all}
use Rattle.hb_turns.proofs.RunLemmas.{own_idle}

-- a caller that has ended holds nothing
plays_free : (t : Table) (steps c : ℕ) (names : List Name) (log : List Entry) (done : List (ℕ × Act)) (m : Machine) → Plays t steps c names log done m → HasEnded m
    → (q : ℕ) → stands c q log ≡ []
plays_free t steps c names log done m p ended q = ended_nothing t c (m.state.made + 1) log m m turn.Ended p.fine p.holding ended refl q

-- nor do those of these players, and others that have no act
players_free : (t : Table) (steps first : ℕ) (names : List Name) (log : List Entry) (us : List Taken) (ps : List Player) → ArePlayers t steps first names log us ps
    → AllByRecursion (λ (p : Player). HasEnded p.machine) ps → ((d : ℕ) → first + length ps ≤ d → acts d log ≡ []) → (c q : ℕ) → first ≤ c → stands c q log ≡ []
players_free t steps first names log us [] are ended idle c q low = ap (standing q) (idle c (omega (arith, low)))
players_free t steps first names log us (p ∷ ps) are ended idle c q low = dite (ℕ_discrete c first)
    (λ same. subst (λ (x : ℕ). stands x q log ≡ []) (sym same) (plays_free t steps first names log _ p.machine are.0.plays ended.0 q))
    (λ other. players_free t steps (suc first) names log us ps are.1 ended.1 (λ d past. idle d (omega (arith, past))) c q (omega (arith, low, other)))

-- a number that is no script's has no entry
no_block : (o : Option NodeId) → o ≡ None → IsSome o → ⊥
no_block None is some = cc some
no_block (Some block) is some = cc is

idle_none : (t : Table) (d : ℕ) (log : List Entry) → block_of t d ≡ None → Every (λ before e. HasCaller t e) log → acts d log ≡ []
idle_none t d [] none callers = refl
idle_none t d (e ∷ log) none callers = elim (eqb_tells d e.caller.0) [
  | inl same ↦ absurd (no_block (block_of t d) none (subst (λ (x : ℕ). IsSome (block_of t x)) (sym same.1) (callers [] log e refl)))
  | inr other ↦ (let is = other.0 in rw is (idle_none t d log none (λ before after x at. callers (e ∷ before) after x (ap (λ (l : List Entry). e ∷ l) at))))
]

past_scripts : (t : Table) (d : ℕ) → 1 + length t.scripts ≤ d → block_of t d ≡ None
past_scripts t zero past = absurd (omega (arith, past))
past_scripts t (suc i) past = ap (λ (o : Option (NameId × NodeId)). option_map (λ (s : NameId × NodeId). s.1) o) (slice_get_past t.scripts i (omega (arith, past)))

-- the setup's, which played alone
pub alone_free : (t : Table) (steps : ℕ) (names : List Name) (log : List Entry) (done : List (ℕ × Act)) (m : Machine) → Plays t steps 0 names log done m → HasEnded m → AreOwn 0 log
    → (c q : ℕ) → stands c q log ≡ []
alone_free t steps names log done m plays ended own c q = dite (ℕ_discrete c 0)
    (λ same. subst (λ (x : ℕ). stands x q log ≡ []) (sym same) (plays_free t steps 0 names log done m plays ended q))
    (λ other. ap (standing q) (own_idle 0 c log (λ same. other (sym same)) own))

-- all scripts, behind a setup that holds nothing
pub scripts_free : (t : Table) (limit steps : ℕ) (order : List ℕ) (names mid longer : List Name) (old between new : List Entry) (first ps qs : List Player)
    → HavePlayed t limit steps 1 old [] names old first → length t.scripts ≡ length first → HaveGone t limit order [] names mid old between first ps → GoOn t limit mid longer between new ps qs
    → AreOver (length qs) qs → ((q : ℕ) → stands 0 q old ≡ []) → (c q : ℕ) → stands c q new ≡ []
scripts_free t limit steps order names mid longer old between new first ps qs had many gone go over free c q =
    let g = go.gone order names old first gone in
    let h = g.played steps old had in
    let ended = ended_all t steps 1 longer new g.turns qs h.players over in
    let same : length t.scripts ≡ length qs = many ∙ sym g.many in
    dite (ℕ_discrete c 0)
    (λ is. subst (λ (x : ℕ). stands x q new ≡ []) (sym is) (ap (standing q) (h.setup (omega arith)) ∙ free q))
    (λ other. players_free t steps 1 longer new g.turns qs h.players ended (λ d past. idle_none t d new (past_scripts t d (omega (arith, past, same))) h.under_way.callers) c q (omega (arith, other)))
