use Rattle.std.proofs.Common.{ℕ, suc, [], ◌∷◌, ◌+◌, ◌≡◌, Option, Some, ap, sym, subst, ◌∙◌, arith, length, false, length-append}
use Rattle.std.specs.Option.{option_map}
use Rattle.hb_types.specs.declared.ids.CallerId.{CallerId}
use Rattle.hb_types.specs.declared.ids.NodeId.{NodeId}
use Rattle.hb_types.specs.declared.ids.NameId.{NameId}
use Rattle.hb_tables.specs.Frames.{acts}
use Rattle.hb_call.specs.OwnCache.{IsOwnCache}
use Rattle.hb_run.specs.History.{block_of}
use Rattle.hb_turns.specs.declared.player.Player.{Player}
use Rattle.hb_turns.specs.Players.{ArePlayers, IsPlayer}
use Rattle.hb_turns.proofs.FinishLemmas.{new_plays, players_push}
use Rattle.hb_turns.proofs.finishing.new_players.Goals as goal

pub loop-at-preserved : goal.loop-at-preserved
loop-at-preserved c =
    let inv = c.loop-at.invariant in
    let t = c.args.prog.now in
    let p : Player = record { machine = c.in_ok-machine.machine; over = false } in
    let items = c.in_ok-push.ensures.items in
    let below = c.loop-at-test.true in
    let many = inv.1 in
    let sum = length-append c.loop-at.players.items (p ∷ []) in (
      omega (arith, below),
      ap length items ∙ sum ∙ omega (arith, many),
      λ names log idle.
          let number : 1 + c.loop-at.at ≡ suc c.loop-at.at = omega arith in
          let here : 1 + length c.loop-at.players.items ≡ suc c.loop-at.at = omega (arith, many) in
          let runs : block_of t (suc c.loop-at.at) ≡ Some c.script.result.1 = ap (λ (o : Option (NameId × NodeId)). option_map (λ (s : NameId × NodeId). s.1) o) c.script.ensures.value in
          let came = c.in_ok-machine.ensures in
          let none = idle (suc c.loop-at.at) (omega arith) in
          let mine : c.in_ok-machine.machine.caller.0 ≡ suc c.loop-at.at = ap (λ (x : CallerId). x.0) came.fresh.2 ∙ number in
          let plays = new_plays t c.args.steps (suc c.loop-at.at) names log c.in_ok-machine.machine c.script.result.1 runs mine came.keeps
          (came.fine t c.script.ensures.block) (came.fresh.0, came.fresh.1) (came.stands t names c.script.ensures.block) none
          (subst (λ (d : ℕ). IsOwnCache t names names d (Some (acts d log)) log c.in_ok-machine.machine.state.cache) number (came.own t names names log)) in
          let one : IsPlayer t c.args.steps (suc c.loop-at.at) names log [] p = record { plays = plays; at = came.going; numbered = came.fresh.3 } in
          subst (ArePlayers t c.args.steps 1 names log []) (sym items)
          (players_push t c.args.steps 1 names log [] c.loop-at.players.items p (inv.2 names log idle) (subst (λ (d : ℕ). IsPlayer t c.args.steps d names log [] p) (sym here) one)),
    )
