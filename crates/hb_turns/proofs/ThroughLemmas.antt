-- How a player goes on through one door.
use Rattle.std.proofs.Common.{◌≡◌, inl, inr, Bool, ℕ, zero, suc, ◌+◌, ◌-◌, List, [], ◌∷◌, ◌++◌, length, Some, true, false, refl, sym, ap, ◌∙◌, subst, arith, append_assoc}
use Rattle.std.specs.Prelude.{drop, slice_get, slice_set}
use mathlib.Core.List.{IsPrefix}
use Rattle.hb_tree.specs.Table.{Table}
use Rattle.hb_names.specs.Names.{Name}
use Rattle.hb_tables.specs.declared.entry.Entry.{Entry}
use Rattle.hb_tables.specs.declared.entry.Act.{Act}
use Rattle.hb_tables.specs.Answers.{Fixed}
use Rattle.hb_tables.specs.Frames.{acts}
use Rattle.hb_tables.specs.Plain.{AreOwn}
use Rattle.hb_call.specs.Growth.{Grown}
use Rattle.hb_call.specs.OwnCache.{KeepsChecks}
use Rattle.hb_eval.specs.declared.machine.Machine.{Machine}
use Rattle.hb_eval.specs.declared.machine.Turn.TheVariants as turn
use Rattle.hb_eval.specs.declared.state.Hand.{Hand}
use Rattle.hb_eval.specs.Holding.{Holding, frames_of}
use Rattle.hb_eval.specs.Machines.{HasBegun, IsFineMachine, IsGoing, IsNext, StandsFor, keeps}
use Rattle.hb_eval.specs.State.{tagged}
use Rattle.hb_eval.specs.Staying.{Stays}
use Rattle.hb_turns.specs.declared.player.Player.{Player}
use Rattle.hb_turns.specs.Playing.{IsAt, IsNumbered}
use Rattle.hb_turns.specs.Players.{GoOn, GoesAmong}
use Rattle.hb_turns.proofs.GoneLemmas.{goes_itself, goes_on, goes_turn, over_stays}
use Rattle.hb_turns.proofs.PlayerLemmas.{player_at, set_itself, set_length, took_turn}
use Rattle.hb_turns.proofs.PlayingLemmas.{came_through, took_door, under_way_door}

-- ── a place of a list ──

pub set_there : (at : ℕ) (ps : List Player) (p q : Player) → slice_get ps at ≡ Some p → slice_get (slice_set ps at q) at ≡ Some q
set_there at [] p q is = absurd cc
set_there zero (x ∷ ps) p q is = refl
set_there (suc at) (x ∷ ps) p q is = set_there at ps p q is

set_again : (at : ℕ) (ps : List Player) (q r : Player) → slice_set (slice_set ps at q) at r ≡ slice_set ps at r
set_again zero [] q r = refl
set_again (suc at) [] q r = refl
set_again zero (x ∷ ps) q r = refl
set_again (suc at) (x ∷ ps) q r = ap (λ (l : List Player). x ∷ l) (set_again at ps q r)

-- ── what is the caller's own ──

own_halves : (c : ℕ) (xs ys : List Entry) → AreOwn c (xs ++ ys) → AreOwn c xs × AreOwn c ys
own_halves c [] ys own = (tt, own)
own_halves c (x ∷ xs) ys own = (let rest = own_halves c xs ys own.1 in ((own.0, rest.0), rest.1))

dropped : (xs ys : List Entry) → drop (length xs) (xs ++ ys) ≡ ys
dropped [] ys = refl
dropped (x ∷ xs) ys = dropped xs ys

-- what came is all own: so is what came first, and what came then
own_parts : (c : ℕ) (x y z : List Entry) → IsPrefix x y → IsPrefix y z → AreOwn c (drop (length x) z) → AreOwn c (drop (length x) y) × AreOwn c (drop (length y) z)
own_parts c x y z p q own =
    let whole : drop (length x) z ≡ p.0 ++ q.0 =
    ap (drop (length x)) (sym q.1 ∙ ap (λ (l : List Entry). l ++ q.0) (sym p.1) ∙ append_assoc x p.0 q.0) ∙ dropped x (p.0 ++ q.0) in
    let halves = own_halves c p.0 q.0 (subst (AreOwn c) whole own) in (
      subst (AreOwn c) (sym (ap (drop (length x)) (sym p.1) ∙ dropped x p.0)) halves.0,
      subst (AreOwn c) (sym (ap (drop (length y)) (sym q.1) ∙ dropped y q.0)) halves.1,
    )

-- ── the numbers of a turn ──

-- how many idle turns come before the one in which the machine comes from here to there
abbrev pub idle_from : (was now : Machine) → ℕ
idle_from was now = now.state.begun - was.state.begun - 1

pub number_more : (over : Bool) (was now : Machine) → over ≡ false → HasBegun true turn.More was now
    → (turns : ℕ) → IsNumbered over was.state.begun turns → IsNumbered over now.state.begun (turns + idle_from was now + 1)
number_more over was now goes began turns is =
    let before : was.state.begun ≡ turns = subst (λ (o : Bool). IsNumbered o was.state.begun turns) goes is in
    let behind : now.state.begun ≡ turns + idle_from was now + 1 = omega (arith, before, began) in
    subst (λ (o : Bool). IsNumbered o now.state.begun (turns + idle_from was now + 1)) (sym goes) behind

pub number_ended : (over : Bool) (was now : Machine) → over ≡ false → IsGoing was → HasBegun true turn.Ended was now
    → (turns : ℕ) → IsNumbered over was.state.begun turns → IsNumbered true now.state.begun (turns + idle_from was now + 1)
number_ended over was now goes going began turns is = by (subst (λ (o : Bool). IsNumbered o was.state.begun turns) goes is) began
  where
    by : was.state.begun ≡ turns → HasBegun true turn.Ended was now → IsNumbered true now.state.begun (turns + idle_from was now + 1)
    by here (inl some) = inl (omega (arith, here, some), omega arith)
    by here (inr none) =
        let nothing : was.state.begun ≡ 0 = (subst (λ (h : Hand). IsNext h was.state.begun was.conts.items) none.1 going).0 in
        let same = none.0 in
        inr (same ∙ nothing, omega (arith, here, nothing, same))

-- ── the turns ──

pub through_itself : (t : Table) (limit c : ℕ) (names : List Name) (log : List Entry) (p : Player) → GoesAmong t limit c names names log log p p
through_itself t limit c names log p = λ at ps mine there below many over steps start us had.
    subst (λ (l : List Player). GoOn t limit names names log log ps l) (set_itself at ps p there) (goes_itself t limit names log ps)

-- one turn more through the door, behind idle ones
pub through_turn : (t : Table) (idle : ℕ) (door mid latest : Fixed) (names known more : List Name) (log now last : List Entry) (p q r : Player)
    → Stays door mid log now names known → (AreOwn door.caller (drop (length log) now) → GoesAmong t door.limit door.caller names known log now p q)
    → Stays mid latest now last known more → Stays door latest log last names more
    → IsFineMachine t r.machine → Holding mid.caller (r.machine.state.made + 1) (frames_of r.machine.frames.items) last
    → KeepsChecks t mid.caller known more known more now last q.machine.state.cache r.machine.state.cache → Grown t mid.caller more known more now last
    → r.machine.caller ≡ q.machine.caller → keeps r.machine ≡ keeps q.machine
    → ((block steps : ℕ) (done : List (ℕ × Act)) → StandsFor t known block steps done q.machine
    → (made : List Act) × (acts mid.caller last ≡ acts mid.caller now ++ made) × StandsFor t more block steps (done ++ tagged r.machine.state.begun made) r.machine)
    → q.over ≡ false → IsAt r.over r.machine → ((turns : ℕ) → IsNumbered q.over q.machine.state.begun turns → IsNumbered r.over r.machine.state.begun (turns + idle + 1))
    → AreOwn door.caller (drop (length log) last) → GoesAmong t door.limit door.caller names more log last p r
through_turn t idle door mid latest names known more log now last p q r first before stays whole fine holding checks grown caller kept turn goes end numbered own =
    λ at ps mine there below many over steps start us had.
    let parts = own_parts door.caller log now last first.kept stays.kept own in
    let g = before parts.0 at ps mine there below many over steps start us had in
    let here = slice_set ps at q in
    let stands : slice_get here at ≡ Some q = set_there at ps p q there in
    let wide : length here ≡ length ps = set_length ps at q in
    let m = g.played steps start us had in
    let x = player_at t steps 1 known now m.0 here at q m.1.players stands in
    let came = came_through (1 + at) now last stays.kept (subst (λ (d : ℕ). AreOwn d (drop (length now) last)) mine parts.1) in
    let same : mid.caller ≡ 1 + at = ap (λ (d : Fixed). d.caller) first.fixed ∙ mine in
    let took = took_door t (1 + at) known more now last q.machine r.machine mid.caller now same refl came fine holding checks caller kept turn in
    let under_way = under_way_door t door.limit (1 + at) known more now last x.plays.block q.machine.state.cache r.machine.state.cache mid.caller now same refl m.1.under_way
    (whole.legal had.under_way.legal) came stays.named stays.few stays.differ grown x.plays.own checks x.plays.runs (λ none. absurd (omega (arith, none))) in
    let u = took_turn t door.limit 1 at idle known more now last here q r stands (omega (arith, wide, below)) goes took under_way end numbered stays.named in
    subst (λ (l : List Player). GoOn t door.limit names more log last ps l) (set_again at ps q r)
    (goes_on t door.limit names known more log now last ps here (slice_set here at r) g
    (goes_turn t door.limit at idle known more now last here (slice_set here at r) (omega (arith, many, wide)) (omega (arith, wide, below)) (over_stays at ps q over) u))
