-- What a turn makes of all players at once.
use Rattle.std.proofs.Common.{◌≡◌, ◌≢◌, ◌⊎◌, inl, inr, ℕ, zero, suc, ◌+◌, ◌<◌, List, [], ◌∷◌, ◌++◌, length, Some, true, false, Bool, refl, sym, ap, ◌∙◌, subst, arith, append_assoc, cond, eqb, eq-eqb}
use Rattle.std.specs.Prelude.{slice_get, slice_set}
use Rattle.std.proofs.lemmas.Bool.Decides.{eqb_tells}
use Rattle.std.proofs.lemmas.List.{append-nil, append_cancel_left}
use mathlib.Core.List.{IsPrefix}
use Rattle.hb_tree.specs.Table.{Table}
use Rattle.hb_names.specs.Names.{Name}
use Rattle.hb_tables.specs.declared.entry.Act.{Act}
use Rattle.hb_tables.specs.declared.entry.Entry.{Entry}
use Rattle.hb_call.specs.GrowthLaws.{prefix_itself, prefix_more}
use Rattle.hb_eval.specs.State.{tagged}
use Rattle.hb_turns.specs.declared.player.Player.{Player}
use Rattle.hb_turns.specs.Playing.{AreNumbered, Came, HasNumber, IsAt, IsNumbered, IsUnderWay, Plays, Taken, Took, acts_by, and_idle, entries_by, entries_of, turns_by}
use Rattle.hb_turns.specs.Players.{ArePlayers, IsPlayer, StoodAtLast, StoodThen, TookTurn}
use Rattle.hb_turns.proofs.PlayingLemmas.{others_acts, own_came, plays_on}

-- ── one turn more ──

pub entries_more : (us : List Taken) (u : Taken) → entries_of (us ++ u ∷ []) ≡ entries_of us ++ entries_by u.caller u.acts
entries_more [] u = append-nil (entries_by u.caller u.acts)
entries_more (w ∷ us) u = ap (λ (l : List Entry). entries_by w.caller w.acts ++ l) (entries_more us u) ∙ sym (append_assoc (entries_by w.caller w.acts) (entries_of us) (entries_by u.caller u.acts))

mine_by : (c : ℕ) (u : Taken) → u.caller ≡ c → acts_by c (u ∷ []) ≡ tagged u.begun u.acts
mine_by c u same = (let is = eq-eqb c u.caller (sym same) in rw is (append-nil (tagged u.begun u.acts)))

other_by : (c : ℕ) (u : Taken) → c ≢ u.caller → acts_by c (u ∷ []) ≡ []
other_by c u apart = elim (eqb_tells c u.caller) [
  | inl same ↦ absurd (apart same.1)
  | inr other ↦ (let is = other.0 in rw is refl)
]

acts_more : (c : ℕ) (us : List Taken) (u : Taken) → acts_by c (us ++ u ∷ []) ≡ acts_by c us ++ acts_by c (u ∷ [])
acts_more c [] u = refl
acts_more c (w ∷ us) u = go (eqb c w.caller) (acts_more c us u)
  where
    go : (own : Bool) → acts_by c (us ++ u ∷ []) ≡ acts_by c us ++ acts_by c (u ∷ [])
        → cond own (tagged w.begun w.acts ++ acts_by c (us ++ u ∷ [])) (acts_by c (us ++ u ∷ [])) ≡ cond own (tagged w.begun w.acts ++ acts_by c us) (acts_by c us) ++ acts_by c (u ∷ [])
    go true is = ap (λ (l : List (ℕ × Act)). tagged w.begun w.acts ++ l) is ∙ sym (append_assoc (tagged w.begun w.acts) (acts_by c us) (acts_by c (u ∷ [])))
    go false is = is

pub turns_more : (c : ℕ) (us : List Taken) (u : Taken) → turns_by c (us ++ u ∷ []) ≡ turns_by c us + cond (eqb c u.caller) 1 0
turns_more c [] u = omega arith
turns_more c (w ∷ us) u = let rest = turns_more c us u in omega (arith, rest)

pub turn_mine : (c : ℕ) (us : List Taken) (u : Taken) → u.caller ≡ c → turns_by c (us ++ u ∷ []) ≡ turns_by c us + 1
turn_mine c us u same = turns_more c us u ∙ (let is = eq-eqb c u.caller (sym same) in rw is refl)

pub turn_other : (c : ℕ) (us : List Taken) (u : Taken) → c ≢ u.caller → turns_by c (us ++ u ∷ []) ≡ turns_by c us
turn_other c us u apart = turns_more c us u ∙ elim (eqb_tells c u.caller) [
  | inl same ↦ absurd (apart same.1)
  | inr other ↦ (let is = other.0 in rw is (omega arith))
]

-- ── all players ──

pub player_at : (t : Table) (steps c : ℕ) (names : List Name) (log : List Entry) (us : List Taken) (ps : List Player) (at : ℕ) (p : Player)
    → ArePlayers t steps c names log us ps → slice_get ps at ≡ Some p → IsPlayer t steps (c + at) names log us p
player_at t steps c names log us [] at p are is = absurd cc
player_at t steps c names log us (q ∷ ps) zero p are is =
    let same : q ≡ p = cc is in let here : c ≡ c + 0 = omega arith in
    subst (λ (x : Player). IsPlayer t steps (c + 0) names log us x) same (subst (λ (d : ℕ). IsPlayer t steps d names log us q) here are.0)
player_at t steps c names log us (q ∷ ps) (suc at) p are is =
    let there : suc c + at ≡ c + suc at = omega arith in
    subst (λ (d : ℕ). IsPlayer t steps d names log us p) there (player_at t steps (suc c) names log us ps at p are.1 is)

-- only this caller took the turns that came
abbrev IsOnlyBy : (b : ℕ) → (us vs : List Taken) → Type 0
IsOnlyBy b us vs = (d : ℕ) → d ≢ b → (acts_by d vs ≡ acts_by d us) × (turns_by d vs ≡ turns_by d us)

-- a player whose caller did nothing
stays_player : (t : Table) (steps c b : ℕ) (more : List Act) (names longer : List Name) (old new : List Entry) (us vs : List Taken) (p : Player) → c ≢ b → IsOnlyBy b us vs → Came b more old new
    → IsPrefix names longer → IsPlayer t steps c names old us p → IsPlayer t steps c longer new vs p
stays_player t steps c b more names longer old new us vs p apart only came on x =
    let same = only c apart in
    record {
      plays = subst (λ (done : List (ℕ × Act)). Plays t steps c longer new done p.machine) (sym same.0)
          (plays_on t steps b c more names longer old new (acts_by c us) p.machine (λ is. apart (sym is)) came on x.plays);
      at = x.at;
      numbered = subst (λ (n : ℕ). IsNumbered p.over p.machine.state.begun n) (sym same.1) x.numbered;
    }

stay_players : (t : Table) (steps c b : ℕ) (more : List Act) (names longer : List Name) (old new : List Entry) (us vs : List Taken) (ps : List Player) → b < c → IsOnlyBy b us vs → Came b more old new
    → IsPrefix names longer → ArePlayers t steps c names old us ps → ArePlayers t steps c longer new vs ps
stay_players t steps c b more names longer old new us vs [] below only came on are = tt
stay_players t steps c b more names longer old new us vs (p ∷ ps) below only came on are = (
  stays_player t steps c b more names longer old new us vs p (λ is. omega (arith, is, below)) only came on are.0,
  stay_players t steps (suc c) b more names longer old new us vs ps (omega (arith, below)) only came on are.1,
)

-- the player at a place moved, and the others stay
moved_players : (t : Table) (steps c at b : ℕ) (more : List Act) (names longer : List Name) (old new : List Entry) (us vs : List Taken) (ps : List Player) (q : Player) → b ≡ c + at
    → at < length ps → IsOnlyBy b us vs → Came b more old new → IsPrefix names longer
    → IsPlayer t steps (c + at) longer new vs q → ArePlayers t steps c names old us ps → ArePlayers t steps c longer new vs (slice_set ps at q)
moved_players t steps c at b more names longer old new us vs [] q mine below only came on x are = absurd (omega (arith, below))
moved_players t steps c zero b more names longer old new us vs (p ∷ ps) q mine below only came on x are =
    let here : c + 0 ≡ c = omega arith in
    (subst (λ (d : ℕ). IsPlayer t steps d longer new vs q) here x, stay_players t steps (suc c) b more names longer old new us vs ps (omega (arith, mine)) only came on are.1)
moved_players t steps c (suc at) b more names longer old new us vs (p ∷ ps) q mine below only came on x are =
    let there : c + suc at ≡ suc c + at = omega arith in (
      stays_player t steps c b more names longer old new us vs p (λ is. omega (arith, is, mine)) only came on are.0,
      moved_players t steps (suc c) at b more names longer old new us vs ps q (mine ∙ there) (omega (arith, below)) only came on
          (subst (λ (d : ℕ). IsPlayer t steps d longer new vs q) there x) are.1,
    )

pub set_length : (ps : List Player) (at : ℕ) (q : Player) → length (slice_set ps at q) ≡ length ps
set_length (p ∷ ps) (suc at) q = let rest = set_length ps at q in omega (arith, rest)
set_length _ _ _ = refl

pub set_itself : (at : ℕ) (ps : List Player) (p : Player) → slice_get ps at ≡ Some p → ps ≡ slice_set ps at p
set_itself at [] p is = absurd cc
set_itself zero (x ∷ ps) p is = let same : x ≡ p = cc is in ap (λ (y : Player). y ∷ ps) same
set_itself (suc at) (x ∷ ps) p is = ap (λ (l : List Player). x ∷ l) (set_itself at ps p is)

last_or : (ws xs after : List Taken) (u x : Taken) → ws ++ u ∷ [] ≡ xs ++ x ∷ after → ((ws ≡ xs) × (u ≡ x)) ⊎ ((a : List Taken) × (ws ≡ xs ++ x ∷ a))
last_or [] [] after u x e = inl (refl, cc e)
last_or [] (z ∷ []) after u x e = absurd (let none : [] ≡ x ∷ after = cc e in cc none)
last_or [] (z ∷ y ∷ xs) after u x e = absurd (let none : [] ≡ y ∷ (xs ++ x ∷ after) = cc e in cc none)
last_or (w ∷ ws) [] after u x e = inr (ws, let h : w ≡ x = cc e in ap (λ z. z ∷ ws) h)
last_or (w ∷ ws) (z ∷ xs) after u x e =
    let h : w ≡ z = cc e in
    elim (last_or ws xs after u x (cc e)) [ inl r ↦ inl (ap (λ l. w ∷ l) r.0 ∙ ap (λ y. y ∷ xs) h, r.1) | inr r ↦ inr (r.0, ap (λ l. w ∷ l) r.1 ∙ ap (λ y. y ∷ (xs ++ x ∷ r.0)) h) ]

-- a turn that was taken has its number
turn_number : (over : Bool) (begun turns : ℕ) → IsNumbered over begun (turns + 1) → (begun ≡ turns + 1) ⊎ ((begun ≡ 0) × (turns ≡ 0))
turn_number true begun turns (inl h) = inl h.0
turn_number true begun turns (inr h) = inr (h.0, let x = h.1 in omega (arith, x))
turn_number false begun turns h = inl h

numbers_more : (us : List Taken) (u : Taken) → AreNumbered us → HasNumber us u → AreNumbered (us ++ u ∷ [])
numbers_more us u all one before after x is = go us before is (λ b a y e. all b a y e) one
  where
    -- the last of a list, or one before it
    go : (ws xs : List Taken) → ws ++ u ∷ [] ≡ xs ++ x ∷ after → ((b a : List Taken) (y : Taken) → ws ≡ b ++ y ∷ a → HasNumber b y) → HasNumber ws u → HasNumber xs x
    go ws xs e f g = elim (last_or ws xs after u x e) [
      | inl h ↦ subst (λ (w : Taken). HasNumber xs w) h.1 (subst (λ (w : List Taken). HasNumber w u) h.0 g)
      | inr h ↦ f xs h.0 x h.1
    ]

set_same : (ps : List Player) (at : ℕ) (q : Player) → at < length ps → slice_get (slice_set ps at q) at ≡ Some q
set_same [] at q low = absurd (omega (arith, low))
set_same (p ∷ ps) zero q low = refl
set_same (p ∷ ps) (suc at) q low = set_same ps at q (omega (arith, low))

set_other : (ps : List Player) (at i : ℕ) (q : Player) → i ≢ at → slice_get (slice_set ps at q) i ≡ slice_get ps i
set_other (p ∷ ps) zero zero q apart = absurd (apart refl)
set_other (p ∷ ps) (suc at) (suc i) q apart = set_other ps at i q (λ same. apart (ap suc same))
set_other _ _ _ _ _ = refl

-- Where a turn comes, it is its caller's last one, and what was so for the others' last ones stays so.
stood_more : (t : Table) (limit steps first at : ℕ) (start : List Entry) (us : List Taken) (w : Taken) (names longer : List Name) (new : List Entry) (ps : List Player) (q : Player)
    → w.caller ≡ first + at → at < length ps → IsPrefix names longer → new ≡ start ++ entries_of (us ++ w ∷ []) → IsUnderWay t limit longer new
    → Plays t steps (first + at) longer new (acts_by (first + at) (us ++ w ∷ [])) q.machine
    → StoodAtLast t limit steps first start us names ps → StoodAtLast t limit steps first start (us ++ w ∷ []) longer (slice_set ps at q)
stood_more t limit steps first at start us w names longer new ps q mine below more log under_way plays stood before after x is none = elim (last_or us before after w x is) [
  | inl h ↦ subst (λ (y : Taken). StoodThen t limit steps first y.caller start (before ++ y ∷ []) longer (slice_set ps at q)) h.1
      (subst (λ (b : List Taken). StoodThen t limit steps first w.caller start (b ++ w ∷ []) longer (slice_set ps at q)) h.0 last)
  | inr h ↦ earlier h.0 h.1
]
  where
    last : StoodThen t limit steps first w.caller start (us ++ w ∷ []) longer (slice_set ps at q)
    last = record {
      at = at;
      mine = mine;
      player = q;
      there = set_same ps at q below;
      known = longer;
      named = prefix_itself longer;
      under_way = subst (IsUnderWay t limit longer) log under_way;
      plays = subst (λ (l : List Entry). Plays t steps w.caller longer l (acts_by w.caller (us ++ w ∷ [])) q.machine) log
          (subst (λ (c : ℕ). Plays t steps c longer new (acts_by c (us ++ w ∷ [])) q.machine) (sym mine) plays);
    }

    earlier : (a : List Taken) → us ≡ before ++ x ∷ a → StoodThen t limit steps first x.caller start (before ++ x ∷ []) longer (slice_set ps at q)
    earlier a e =
        let whole : before ++ (x ∷ (a ++ w ∷ [])) ≡ before ++ (x ∷ after) = sym (append_assoc before (x ∷ a) (w ∷ [])) ∙ ap (λ l. l ++ w ∷ []) (sym e) ∙ is in
        let rest : x ∷ (a ++ w ∷ []) ≡ x ∷ after = append_cancel_left before (x ∷ (a ++ w ∷ [])) (x ∷ after) whole in
        let behind : a ++ w ∷ [] ≡ after = cc rest in
        let idle : turns_by x.caller (a ++ w ∷ []) ≡ 0 = ap (turns_by x.caller) behind ∙ none in
        let count = turns_more x.caller a w in
        let s = stood before a x e (omega (arith, idle, count)) in
        let apart : s.at ≢ at = λ same. (let one = turn_mine x.caller a w (mine ∙ ap (λ i. first + i) (sym same) ∙ sym s.mine) in omega (arith, idle, one)) in
        record {
          at = s.at;
          mine = s.mine;
          player = s.player;
          there = set_other ps at s.at q apart ∙ s.there;
          known = s.known;
          named = prefix_more s.known names longer s.named more;
          under_way = s.under_way;
          plays = s.plays;
        }

-- ── idle turns ──

-- a caller's next turn, in which nothing comes
abbrev next_idle : (c : ℕ) → List Taken → Taken
next_idle c us = record { caller = c; begun = turns_by c us + 1; acts = [] }

no_acts : (d c n : ℕ) → acts_by d (record { caller = c; begun = n; acts = [] } ∷ []) ≡ []
no_acts d c n = go (eqb d c)
  where
    go : (own : Bool) → cond own (tagged n [] ++ []) [] ≡ []
    go true = refl
    go false = refl

next_acts : (d c : ℕ) (us : List Taken) → acts_by d (us ++ next_idle c us ∷ []) ≡ acts_by d us
next_acts d c us = acts_more d us (next_idle c us) ∙ ap (λ (l : List (ℕ × Act)). acts_by d us ++ l) (no_acts d c (turns_by c us + 1)) ∙ append-nil (acts_by d us)

next_entries : (c : ℕ) (us : List Taken) → entries_of (us ++ next_idle c us ∷ []) ≡ entries_of us
next_entries c us = entries_more us (next_idle c us) ∙ append-nil (entries_of us)

idle_acts : (d c many : ℕ) (us : List Taken) → acts_by d (and_idle c many us) ≡ acts_by d us
idle_acts d c zero us = refl
idle_acts d c (suc many) us = idle_acts d c many (us ++ next_idle c us ∷ []) ∙ next_acts d c us

idle_entries : (c many : ℕ) (us : List Taken) → entries_of (and_idle c many us) ≡ entries_of us
idle_entries c zero us = refl
idle_entries c (suc many) us = idle_entries c many (us ++ next_idle c us ∷ []) ∙ next_entries c us

idle_mine : (c many : ℕ) (us : List Taken) → turns_by c (and_idle c many us) ≡ turns_by c us + many
idle_mine c zero us = omega arith
idle_mine c (suc many) us = let rest = idle_mine c many (us ++ next_idle c us ∷ []) in let one = turn_mine c us (next_idle c us) refl in omega (arith, rest, one)

idle_other : (d c many : ℕ) (us : List Taken) → d ≢ c → turns_by d (and_idle c many us) ≡ turns_by d us
idle_other d c zero us apart = refl
idle_other d c (suc many) us apart = idle_other d c many (us ++ next_idle c us ∷ []) apart ∙ turn_other d us (next_idle c us) apart

idle_numbers : (c many : ℕ) (us : List Taken) → AreNumbered us → AreNumbered (and_idle c many us)
idle_numbers c zero us all = all
idle_numbers c (suc many) us all = idle_numbers c many (us ++ next_idle c us ∷ []) (numbers_more us (next_idle c us) all (inl refl))

-- a player that stands where it stood does so behind its idle turns
idle_stood : (t : Table) (limit steps first at many : ℕ) (start : List Entry) (us : List Taken) (names : List Name) (log : List Entry) (ps : List Player) (p : Player)
    → slice_get ps at ≡ Some p → at < length ps → log ≡ start ++ entries_of us → IsUnderWay t limit names log → Plays t steps (first + at) names log (acts_by (first + at) us) p.machine
    → StoodAtLast t limit steps first start us names ps → StoodAtLast t limit steps first start (and_idle (first + at) many us) names ps
idle_stood t limit steps first at zero start us names log ps p there below is under_way plays stood = stood
idle_stood t limit steps first at (suc many) start us names log ps p there below is under_way plays stood =
    let c = first + at in
    let w = next_idle c us in
    let is' : log ≡ start ++ entries_of (us ++ w ∷ []) = is ∙ ap (λ (l : List Entry). start ++ l) (sym (next_entries c us)) in
    let plays' : Plays t steps c names log (acts_by c (us ++ w ∷ [])) p.machine = subst (λ (l : List (ℕ × Act)). Plays t steps c names log l p.machine) (sym (next_acts c c us)) plays in
    idle_stood t limit steps first at many start (us ++ w ∷ []) names log ps p there below is' under_way plays'
    (subst (λ (l : List Player). StoodAtLast t limit steps first start (us ++ w ∷ []) names l) (sym (set_itself at ps p there))
    (stood_more t limit steps first at start us w names names log ps p refl below (prefix_itself names) is' under_way plays' stood))

only_turns : (b many : ℕ) (us : List Taken) (u : Taken) → u.caller ≡ b → IsOnlyBy b us (and_idle b many us ++ u ∷ [])
only_turns b many us u mine d apart =
    let other : d ≢ u.caller = λ is. apart (is ∙ mine) in (
      acts_more d (and_idle b many us) u ∙ ap (λ (l : List (ℕ × Act)). acts_by d (and_idle b many us) ++ l) (other_by d u other) ∙ append-nil (acts_by d (and_idle b many us)) ∙ idle_acts d b many us,
      turn_other d (and_idle b many us) u other ∙ idle_other d b many us apart,
    )

pub took_turn : (t : Table) (limit first at idle : ℕ) (names longer : List Name) (old new : List Entry) (ps : List Player) (p q : Player) → slice_get ps at ≡ Some p → at < length ps → p.over ≡ false
    → Took t (first + at) names longer old new p.machine q.machine → IsUnderWay t limit longer new → IsAt q.over q.machine
    → ((turns : ℕ) → IsNumbered p.over p.machine.state.begun turns → IsNumbered q.over q.machine.state.begun (turns + idle + 1))
    → IsPrefix names longer
    → TookTurn t limit first at idle names longer old new ps (slice_set ps at q)
took_turn t limit first at idle names longer old new ps p q is below goes_on took under_way here numbered more = record {
  turn = u;
  mine = refl;
  named = more;
  player = q;
  before = p;
  there = is;
  goes_on = goes_on;
  moved = refl;
  numbered = numbered;
  played = λ steps start us had.
      let c = first + at in
      let ws = and_idle c idle us in
      let x = player_at t steps first names old us ps at p had.players is in
      let done : acts_by c (ws ++ u ∷ []) ≡ acts_by c us ++ tagged q.machine.state.begun took.more =
      acts_more c ws u ∙ ap (λ (l : List (ℕ × Act)). l ++ acts_by c (u ∷ [])) (idle_acts c c idle us) ∙ ap (λ (l : List (ℕ × Act)). acts_by c us ++ l) (mine_by c u refl) in
      let many : turns_by c ws + 1 ≡ turns_by c us + idle + 1 = ap (λ (n : ℕ). n + 1) (idle_mine c idle us) in
      let number : IsNumbered q.over q.machine.state.begun (turns_by c ws + 1) =
      subst (λ (n : ℕ). IsNumbered q.over q.machine.state.begun n) (sym many) (numbered (turns_by c us) x.numbered) in
      let moved : IsPlayer t steps c longer new (ws ++ u ∷ []) q = record {
        plays = subst (λ (l : List (ℕ × Act)). Plays t steps c longer new l q.machine) (sym done) (took.plays steps (acts_by c us) x.plays);
        at = here;
        numbered = subst (λ (n : ℕ). IsNumbered q.over q.machine.state.begun n) (sym (turn_mine c ws u refl)) number;
      } in
      let log : new ≡ start ++ entries_of (ws ++ u ∷ []) = sym took.came.is ∙ ap (λ (l : List Entry). l ++ entries_by c took.more) had.is
      ∙ append_assoc start (entries_of us) (entries_by c took.more)
      ∙ ap (λ (l : List Entry). start ++ l) (ap (λ (l : List Entry). l ++ entries_by c took.more) (sym (idle_entries c idle us)) ∙ sym (entries_more ws u)) in
      record {
        is = log;
        numbers = numbers_more ws u (idle_numbers c idle us had.numbers) (turn_number q.over q.machine.state.begun (turns_by c ws) number);
        under_way = under_way;
        players = moved_players t steps first at c took.more names longer old new us (ws ++ u ∷ []) ps q refl below (only_turns c idle us u refl) took.came more moved had.players;
        stood = stood_more t limit steps first at start ws u names longer new ps q refl below more log under_way moved.plays
            (idle_stood t limit steps first at idle start us names old ps p is below had.is had.under_way x.plays had.stood);
        alone = λ none.
            let a = had.alone none in
            let only : first + at ≡ 0 = (let one = a.1 in omega (arith, none, one, below)) in
            (own_came 0 took.more old new a.0 (subst (λ (d : ℕ). Came d took.more old new) only took.came), set_length ps at q ∙ a.1);
        setup = λ from. others_acts (first + at) 0 took.more old new (λ is. omega (arith, is, from)) took.came ∙ had.setup from;
      };
}
  where
    u : Taken
    u = record { caller = first + at; begun = q.machine.state.begun; acts = took.more }
