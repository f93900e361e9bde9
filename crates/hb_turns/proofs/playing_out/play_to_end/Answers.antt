use Rattle.std.proofs.Common.{List, ap, subst, length, rules}
use Rattle.std.specs.Prelude.{drop}
use mathlib.Core.List.{IsPrefix}
use Rattle.hb_tables.specs.declared.entry.Entry.{Entry}
use Rattle.hb_tables.specs.Plain.{AreOwn, Tables}
use Rattle.hb_turns.specs.Collecting.{AreCollected}
use Rattle.hb_turns.proofs.CollectingLemmas.{collected_door}
use Rattle.hb_turns.proofs.PlayingLemmas.{came_through}
use Rattle.hb_turns.proofs.playing_out.play_to_end.Goals as goal

pub returns-clause-collects : goal.returns-clause-collects
returns-clause-collects c =
    let came = c.in_ok-take_turns.ensures in
    let opened = c.desk-desk.ensures.tables in
    let own : AreOwn c.args.caller.0 (drop (length c.args.tables.now.log) c.take_turns.new.desk.desk.now.tables.now.log) = search rules in
    subst (λ (x : List Entry). AreCollected c.args.prog.now c.args.names.now c.take_turns.new.names c.args.tables.now.log x c.args.share.now c.take_turns.new.share) (search rules)
    (collected_door c.args.prog.now c.args.caller.0 _ c.args.names.now c.take_turns.new.names c.args.tables.now.log _ c.take_turns.new.desk.desk.now.tables.now.log c.args.share.now c.take_turns.new.share
    (ap (λ (x : Tables). x.caller) opened) (ap (λ (x : Tables). x.log) opened) came.stays.named
    (came_through c.args.caller.0 c.args.tables.now.log c.take_turns.new.desk.desk.now.tables.now.log (subst (λ (x : Tables). IsPrefix x.log c.take_turns.new.desk.desk.now.tables.now.log) opened came.stays.kept) own)
    came.shares)
