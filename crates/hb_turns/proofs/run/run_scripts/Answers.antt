use Rattle.std.proofs.Common.{map, ℕ, sym, subst}
use Rattle.hb_turns.specs.Players.{GoOn, HavePlayed}
use Rattle.hb_turns.proofs.CollectingLemmas.{collected_on}
use Rattle.hb_turns.proofs.FinishLemmas.{ended_all}
use Rattle.hb_turns.proofs.FreeLemmas.{scripts_free}
use Rattle.hb_turns.proofs.RunLemmas.{played_none, scripts_ran}
use Rattle.hb_turns.proofs.run.run_scripts.Goals as goal

pub play_by_order-requires-clause-played : goal.play_by_order-requires-clause-played
play_by_order-requires-clause-played c = (
  c.args.steps,
  c.args.tables.now.log,
  played_none c.args.prog.now c.args.tables.now.limit c.args.steps c.args.names.now c.args.tables.now.log c.in_ok-players.players.items
      c.requires.under_way c.requires.setup c.in_ok-players.ensures.ready,
)

pub play_out-requires-clause-played : goal.play_out-requires-clause-played
play_out-requires-clause-played c =
    let gone = c.in_ok-play_by_order.ensures.gone in
    let had = played_none c.args.prog.now c.args.tables.now.limit c.args.steps c.args.names.now c.args.tables.now.log c.in_ok-players.players.items c.requires.under_way c.requires.setup c.in_ok-players.ensures.ready in (
      c.args.steps,
      c.args.tables.now.log,
      gone.turns,
      subst (λ (n : ℕ). HavePlayed c.args.prog.now n c.args.steps 1 c.args.tables.now.log gone.turns c.play_by_order.new.names c.play_by_order.new.tables.log c.play_by_order.new.players.items)
          (sym c.in_ok-play_by_order.ensures.limit)
          (gone.played c.args.steps c.args.tables.now.log had),
    )

pub finish_all-requires : goal.finish_all-requires
finish_all-requires c =
    let gone = c.in_ok-play_by_order.ensures.gone in
    let had = played_none c.args.prog.now c.args.tables.now.limit c.args.steps c.args.names.now c.args.tables.now.log c.in_ok-players.players.items c.requires.under_way c.requires.setup c.in_ok-players.ensures.ready in
    let go = subst (λ (n : ℕ). GoOn c.args.prog.now n c.play_by_order.new.names c.play_out.new.names c.play_by_order.new.tables.log c.play_out.new.tables.log c.play_by_order.new.players.items
    c.play_out.new.players.items) c.in_ok-play_by_order.ensures.limit c.in_ok-play_out.ensures.gone in
    let end = go.played c.args.steps c.args.tables.now.log gone.turns (gone.played c.args.steps c.args.tables.now.log had) in
    record { ended = ended_all c.args.prog.now c.args.steps 1 c.play_out.new.names c.play_out.new.tables.log end.0 c.play_out.new.players.items end.1.players c.in_ok-play_out.ensures.over }

pub returns : goal.returns
returns c =
    let gone = c.in_ok-play_by_order.ensures.gone in
    let had = played_none c.args.prog.now c.args.tables.now.limit c.args.steps c.args.names.now c.args.tables.now.log c.in_ok-players.players.items c.requires.under_way c.requires.setup c.in_ok-players.ensures.ready in
    let go = subst (λ (n : ℕ). GoOn c.args.prog.now n c.play_by_order.new.names c.play_out.new.names c.play_by_order.new.tables.log c.play_out.new.tables.log c.play_by_order.new.players.items
    c.play_out.new.players.items) c.in_ok-play_by_order.ensures.limit c.in_ok-play_out.ensures.gone in
    let fin = c.in_ok-all.ensures.finished in
    record {
      ran = scripts_ran c.args.prog.now c.args.tables.now.limit c.args.steps
          (map (λ x. x.0) c.args.order.now) c.args.names.now c.play_by_order.new.names c.play_out.new.names c.args.tables.now.log c.play_by_order.new.tables.log c.play_out.new.tables.log
          c.in_ok-players.players.items c.play_by_order.new.players.items c.play_out.new.players.items c.args.runs.items fin.0 c.in_ok-all.all.items
          had c.in_ok-players.ensures.many gone go c.in_ok-play_out.ensures.over fin.1 fin.2;
      collects = collected_on c.args.prog.now c.args.names.now c.play_by_order.new.names c.play_out.new.names c.args.tables.now.log c.play_by_order.new.tables.log c.play_out.new.tables.log
          c.args.share.now c.play_by_order.new.share c.play_out.new.share c.in_ok-play_by_order.ensures.collects c.in_ok-play_out.ensures.collects;
      free = scripts_free c.args.prog.now c.args.tables.now.limit c.args.steps
          (map (λ x. x.0) c.args.order.now) c.args.names.now c.play_by_order.new.names c.play_out.new.names c.args.tables.now.log c.play_by_order.new.tables.log c.play_out.new.tables.log
          c.in_ok-players.players.items c.play_by_order.new.players.items c.play_out.new.players.items
          had c.in_ok-players.ensures.many gone go c.in_ok-play_out.ensures.over;
    }
