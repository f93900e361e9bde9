-- How the players go on from nothing.
use Rattle.std.proofs.Common.{◌≡◌, ◌⊎◌, inl, inr, ℕ, zero, suc, ◌+◌, ◌<◌, ◌≤◌, List, [], ◌∷◌, ◌++◌, length, Some, true, refl, sym, ap, ◌∙◌, subst, arith}
use Rattle.std.specs.Prelude.{slice_get, slice_set}
use Rattle.hb_tree.specs.Table.{Table}
use Rattle.hb_names.specs.Names.{Name}
use Rattle.hb_tables.specs.declared.entry.Entry.{Entry}
use Rattle.hb_run.specs.History.{callers_from}
use Rattle.hb_call.specs.GrowthLaws.{prefix_itself, prefix_more}
use Rattle.hb_turns.specs.declared.player.Player.{Player}
use Rattle.hb_turns.specs.Playing.{and_idle}
use Rattle.hb_turns.specs.Players.{AreOver, Follows, GoOn, GoesOne, HaveGone, IsInOrder, TookTurn}
use Rattle.hb_turns.proofs.OrderLemmas.{order_idle, order_passes, order_rests, order_takes, passes_over, passes_unknown}
use Rattle.hb_turns.proofs.PlayerLemmas.{set_length}

pub gone_passes : (t : Table) (limit c : ℕ) (order rest : List ℕ) (names longer : List Name) (old new : List Entry) (was now : List Player) → (c ≡ 0) ⊎ (length now < c)
    → HaveGone t limit order (c ∷ rest) names longer old new was now → HaveGone t limit order rest names longer old new was now
gone_passes t limit c order rest names longer old new was now unknown g = record {
  turns = g.turns;
  named = g.named;
  played = g.played;
  in_order = order_passes order rest (callers_from 1 t.scripts) g.turns c now (passes_unknown c now unknown) g.in_order;
  many = g.many;
}

-- a turn, and idle ones before it, come to those that were taken
abbrev gone_took : (t : Table) (limit at idle : ℕ) (order before rest : List ℕ) (names mid longer : List Name) (old between new : List Entry) (was ps now : List Player)
    → (g : HaveGone t limit order before names mid old between was ps) → (u : TookTurn t limit 1 at idle mid longer between new ps now)
    → IsInOrder order rest (callers_from 1 t.scripts) (and_idle u.turn.caller idle g.turns ++ u.turn ∷ []) now
    → HaveGone t limit order rest names longer old new was now
gone_took t limit at idle order before rest names mid longer old between new was ps now g u in_order = record {
  turns = and_idle u.turn.caller idle g.turns ++ u.turn ∷ [];
  named = prefix_more names mid longer g.named u.named;
  played = λ steps start h. u.played steps start g.turns (g.played steps start h);
  in_order = in_order;
  many = ap length u.moved ∙ set_length ps at u.player ∙ g.many;
}

pub gone_goes : (t : Table) (limit c at : ℕ) (order rest : List ℕ) (names mid longer : List Name) (old between new : List Entry) (was ps now : List Player) → c ≡ 1 + at
    → HaveGone t limit order (c ∷ rest) names mid old between was ps → GoesOne t limit at mid longer between new ps now
    → HaveGone t limit order rest names longer old new was now
gone_goes t limit c at order rest names mid longer old between new was ps now is g (inl over) =
    let on : HaveGone t limit order rest names mid old between was ps = record {
      turns = g.turns;
      named = g.named;
      played = g.played;
      in_order = order_passes order rest (callers_from 1 t.scripts) g.turns c ps (passes_over c at ps over.0 is over.1 over.2) g.in_order;
      many = g.many;
    } in
    subst (λ (x : List Player). HaveGone t limit order rest names longer old new was x) (sym over.3)
    (subst (λ (x : List Name). HaveGone t limit order rest names x old new was ps) (sym over.4)
    (subst (λ (x : List Entry). HaveGone t limit order rest names mid old x was ps) (sym over.5) on))
gone_goes t limit c at order rest names mid longer old between new was ps now is g (inr u) =
    gone_took t limit at 0 order (c ∷ rest) rest names mid longer old between new was ps now g u
    (subst (λ (x : List Player). IsInOrder order rest (callers_from 1 t.scripts) (g.turns ++ u.turn ∷ []) x) (sym u.moved)
    (order_takes order rest (callers_from 1 t.scripts) g.turns u.turn at ps u.before u.player u.mine u.there u.goes_on
    (subst (λ (d : ℕ). IsInOrder order (d ∷ rest) (callers_from 1 t.scripts) g.turns ps) (is ∙ sym u.mine) g.in_order)))

pub gone_rests : (t : Table) (limit at idle : ℕ) (order : List ℕ) (names mid longer : List Name) (old between new : List Entry) (was ps now : List Player)
    → length t.scripts ≡ length ps → at < length ps → AreOver at ps → HaveGone t limit order [] names mid old between was ps → TookTurn t limit 1 at idle mid longer between new ps now
    → HaveGone t limit order [] names longer old new was now
gone_rests t limit at idle order names mid longer old between new was ps now many below over g u =
    gone_took t limit at idle order [] [] names mid longer old between new was ps now g u
    (subst (λ (x : List Player). IsInOrder order [] (callers_from 1 t.scripts) (and_idle u.turn.caller idle g.turns ++ u.turn ∷ []) x) (sym u.moved)
    (order_rests order t.scripts (and_idle u.turn.caller idle g.turns) u.turn at ps u.before u.player u.mine u.there u.goes_on many below over
    (order_idle order t.scripts g.turns u.turn.caller idle at ps u.before u.mine u.there u.goes_on many below over g.in_order)))

-- the players before a place stay over where the one at the place moves
pub over_stays : (at : ℕ) (ps : List Player) (q : Player) → AreOver at ps → AreOver at (slice_set ps at q)
over_stays at [] q over = λ i p low is. absurd (empty at i p is)
  where
    empty : (at i : ℕ) (p : Player) → slice_get (slice_set [] at q) i ≡ Some p → ⊥
    empty zero i p is = cc is
    empty (suc at) i p is = cc is
over_stays zero (x ∷ ps) q over = λ i p low is. absurd (omega (arith, low))
over_stays (suc at) (x ∷ ps) q over = λ i p low is. go (over_stays at ps q (λ j y l e. over (suc j) y (omega (arith, l)) e)) i p low is
  where
    go : AreOver at (slice_set ps at q) → (i : ℕ) (p : Player) → i < suc at → slice_get (x ∷ slice_set ps at q) i ≡ Some p → p.over ≡ true
    go rest zero p low is = over 0 p (omega arith) is
    go rest (suc i) p low is = rest i p (omega (arith, low)) is

-- and where that one is over, all up to it are
pub over_more : (at : ℕ) (ps : List Player) (p : Player) → AreOver at ps → slice_get ps at ≡ Some p → p.over ≡ true → AreOver (at + 1) ps
over_more at ps p over there is = λ i x low e. elim (either i (omega (arith, low))) [
  | inl below ↦ over i x below e
  | inr here ↦ (let same : p ≡ x = (let s : Some p ≡ Some x = sym there ∙ sym (ap (slice_get ps) here) ∙ e in cc s) in sym (ap (λ (y : Player). y.over) same) ∙ is)
]
  where
    either : (i : ℕ) → i ≤ at → (i < at) ⊎ (i ≡ at)
    either i low = grind arith

-- the next number of the order was followed
pub gone_follows : (t : Table) (limit c : ℕ) (order rest : List ℕ) (names mid longer : List Name) (old between new : List Entry) (was ps now : List Player)
    → HaveGone t limit order (c ∷ rest) names mid old between was ps → Follows t limit c mid longer between new ps now
    → HaveGone t limit order rest names longer old new was now
gone_follows t limit c order rest names mid longer old between new was ps now g (inl passed) =
    subst (λ (x : List Player). HaveGone t limit order rest names longer old new was x) (sym passed.1)
    (subst (λ (x : List Name). HaveGone t limit order rest names x old new was ps) (sym passed.2)
    (subst (λ (x : List Entry). HaveGone t limit order rest names mid old x was ps) (sym passed.3) (gone_passes t limit c order rest names mid old between was ps passed.0 g)))
gone_follows t limit c order rest names mid longer old between new was ps now g (inr one) = gone_goes t limit c one.0 order rest names mid longer old between new was ps now one.1 g one.2

pub goes_itself : (t : Table) (limit : ℕ) (names : List Name) (log : List Entry) (ps : List Player) → GoOn t limit names names log log ps ps
goes_itself t limit names log ps = record { gone = λ order first start all g. g; played = λ steps start us h. (us, h); named = prefix_itself names; many = refl }

pub goes_on : (t : Table) (limit : ℕ) (a b c : List Name) (x y z : List Entry) (p q r : List Player) → GoOn t limit a b x y p q → GoOn t limit b c y z q r → GoOn t limit a c x z p r
goes_on t limit a b c x y z p q r g h = record {
  gone = λ order first start all k. h.gone order first start all (g.gone order first start all k);
  played = λ steps start us k. (let m = g.played steps start us k in h.played steps start m.0 m.1);
  named = prefix_more a b c g.named h.named;
  many = h.many ∙ g.many;
}

pub goes_turn : (t : Table) (limit at idle : ℕ) (names longer : List Name) (old new : List Entry) (was now : List Player) → length t.scripts ≡ length was → at < length was → AreOver at was
    → TookTurn t limit 1 at idle names longer old new was now → GoOn t limit names longer old new was now
goes_turn t limit at idle names longer old new was now many below over u = record {
  gone = λ order first start all g. gone_rests t limit at idle order first names longer start old new all was now many below over g u;
  played = λ steps start us h. (and_idle u.turn.caller idle us ++ u.turn ∷ [], u.played steps start us h);
  named = u.named;
  many = ap length u.moved ∙ set_length was at u.player;
}
