use Rattle.std.proofs.Common.{List, [], ap, sym, subst}
use Rattle.hb_types.specs.declared.ids.CallerId.{CallerId}
use Rattle.hb_names.specs.Names.{Name}
use Rattle.hb_tables.specs.declared.entry.Entry.{Entry}
use Rattle.hb_tables.specs.Frames.{acts}
use Rattle.hb_turns.specs.Playing.{IsUnderWay}
use Rattle.hb_turns.proofs.FinishLemmas.{finish_run, new_plays}
use Rattle.hb_turns.proofs.FreeLemmas.{alone_free}
use Rattle.hb_turns.proofs.RunLemmas.{nothing_under_way}
use Rattle.hb_turns.proofs.run.run_setup.Goals as goal

pub play_alone-requires-clause-plays : goal.play_alone-requires-clause-plays
play_alone-requires-clause-plays c =
    let came = c.in_ok-machine.ensures in
    let t = c.args.prog.now in
    let idle = ap (acts 0) c.requires.log in (
      c.args.steps,
      [],
      new_plays t c.args.steps 0 c.args.names.now c.args.tables.now.log c.in_ok-machine.machine c.args.block c.requires.setup (ap (λ (x : CallerId). x.0) came.fresh.2) came.keeps
          (came.fine t c.requires.block) (came.fresh.0, came.fresh.1) (came.stands t c.args.names.now c.requires.block) idle (came.own t c.args.names.now c.args.names.now c.args.tables.now.log),
    )

pub play_alone-requires-clause-under_way : goal.play_alone-requires-clause-under_way
play_alone-requires-clause-under_way c =
    let t = c.args.prog.now in let limit = c.args.tables.now.limit in
    subst (λ (l : List Entry). IsUnderWay t limit c.args.names.now l) (sym c.requires.log) (subst (λ (n : List Name). IsUnderWay t limit n []) (sym c.requires.names) (nothing_under_way t limit))

pub returns-clause-ran : goal.returns-clause-ran
returns-clause-ran c =
    let came = c.in_ok-machine.ensures in
    let t = c.args.prog.now in
    let idle = ap (acts 0) c.requires.log in
    let first = new_plays t c.args.steps 0 c.args.names.now c.args.tables.now.log c.in_ok-machine.machine c.args.block c.requires.setup (ap (λ (x : CallerId). x.0) came.fresh.2) came.keeps
    (came.fine t c.requires.block) (came.fresh.0, came.fresh.1) (came.stands t c.args.names.now c.requires.block) idle (came.own t c.args.names.now c.args.names.now c.args.tables.now.log) in
    let last = c.in_ok-play_alone.ensures.plays c.args.steps [] first in
    finish_run t c.args.steps 0 c.play_alone.new.names c.play_alone.new.tables.log last.0 c.play_alone.new.machine c.finish.result last.1 c.finish.ensures.run

pub returns-clause-free : goal.returns-clause-free
returns-clause-free c =
    let came = c.in_ok-machine.ensures in
    let t = c.args.prog.now in
    let idle = ap (acts 0) c.requires.log in
    let first = new_plays t c.args.steps 0 c.args.names.now c.args.tables.now.log c.in_ok-machine.machine c.args.block c.requires.setup (ap (λ (x : CallerId). x.0) came.fresh.2) came.keeps
    (came.fine t c.requires.block) (came.fresh.0, came.fresh.1) (came.stands t c.args.names.now c.requires.block) idle (came.own t c.args.names.now c.args.names.now c.args.tables.now.log) in
    let last = c.in_ok-play_alone.ensures.plays c.args.steps [] first in
    alone_free t c.args.steps c.play_alone.new.names c.play_alone.new.tables.log last.0 c.play_alone.new.machine last.1 c.in_ok-play_alone.ensures.ended c.in_ok-play_alone.ensures.own
