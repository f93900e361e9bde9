use Rattle.std.proofs.Common.{ℕ, ◌+◌, List, ◌∙◌, ap, map, sym, subst, arith}
use Rattle.std.specs.Prelude.{drop}
use Rattle.std.proofs.lemmas.List.{drop_more}
use Rattle.hb_turns.specs.Players.{HaveGone}
use Rattle.hb_turns.proofs.CollectingLemmas.{collected_on}
use Rattle.hb_turns.proofs.GoneLemmas.{gone_follows}
use Rattle.hb_turns.proofs.ordered.play_by_order.Goals as goal

pub loop-next-preserved : goal.loop-next-preserved
loop-next-preserved c =
    let inv = c.loop-next.invariant in
    let order = map (λ x. x.0) c.args.order.now in
    let came = c.in_ok-follow.ensures in
    let gone = gone_follows c.args.prog.now c.loop-next.tables.limit _ order
    (map (λ x. x.0) (drop (c.loop-next.next + 1) c.args.order.now)) c.args.names.now c.loop-next.names c.follow.new.names c.args.tables.now.log c.loop-next.tables.log c.follow.new.tables.log
    c.args.players.now.items c.loop-next.players.items c.follow.new.players.items
    (subst (λ (rest : List ℕ). HaveGone c.args.prog.now c.loop-next.tables.limit order rest c.args.names.now c.loop-next.names c.args.tables.now.log c.loop-next.tables.log
    c.args.players.now.items c.loop-next.players.items)
    (ap (map (λ x. x.0)) (drop_more c.args.order.now c.loop-next.next (record { 0 = 0 }) c.loop-next-test.true)) inv.3)
    came.follows in (
      let many = gone.many in let few = c.requires.few in omega (arith, many, few),
      came.limit ∙ inv.1,
      (let below = c.loop-next-test.true in omega (arith, below)),
      subst (λ (n : ℕ). HaveGone c.args.prog.now n order (map (λ x. x.0) (drop (c.loop-next.next + 1) c.args.order.now)) c.args.names.now c.follow.new.names c.args.tables.now.log
          c.follow.new.tables.log c.args.players.now.items c.follow.new.players.items) (sym came.limit) gone,
      collected_on c.args.prog.now c.args.names.now c.loop-next.names c.follow.new.names c.args.tables.now.log c.loop-next.tables.log c.follow.new.tables.log
          c.args.share.now c.loop-next.share c.follow.new.share inv.4 came.collects,
    )
