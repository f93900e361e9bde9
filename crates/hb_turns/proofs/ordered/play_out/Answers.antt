use Rattle.std.proofs.Common.{ℕ, ◌∙◌, sym, subst, arith}
use Rattle.hb_turns.specs.Players.{GoOn}
use Rattle.hb_turns.proofs.CollectingLemmas.{collected_on}
use Rattle.hb_turns.proofs.GoneLemmas.{goes_on}
use Rattle.hb_turns.proofs.ordered.play_out.Goals as goal

pub loop-at-preserved : goal.loop-at-preserved
loop-at-preserved c =
    let inv = c.loop-at.invariant in
    let came = c.in_ok-play_out_at.ensures in
    let t = c.args.prog.now in
    let all = c.args.players.now.items in
    let go = goes_on t c.loop-at.tables.limit c.args.names.now c.loop-at.names c.play_out_at.new.names c.args.tables.now.log c.loop-at.tables.log c.play_out_at.new.tables.log all
    c.loop-at.players.items c.play_out_at.new.players.items inv.3 came.gone in (
      came.limit ∙ inv.0,
      (let many = came.gone.many in let below = c.loop-at-test.true in omega (arith, many, below)),
      came.over,
      subst (λ (n : ℕ). GoOn t n c.args.names.now c.play_out_at.new.names c.args.tables.now.log c.play_out_at.new.tables.log all c.play_out_at.new.players.items) (sym came.limit) go,
      collected_on t c.args.names.now c.loop-at.names c.play_out_at.new.names c.args.tables.now.log c.loop-at.tables.log c.play_out_at.new.tables.log
          c.args.share.now c.loop-at.share c.play_out_at.new.share inv.4 came.collects,
    )
