use Rattle.std.proofs.Common.{ℕ, List, ap, sym, subst, length, rules}
use Rattle.std.specs.Prelude.{drop}
use mathlib.Core.List.{IsPrefix}
use Rattle.hb_tables.specs.declared.entry.Entry.{Entry}
use Rattle.hb_tables.specs.Plain.{AreOwn, Tables}
use Rattle.hb_tables.specs.History.{IsLegal}
use Rattle.hb_turns.specs.Collecting.{AreCollected}
use Rattle.hb_turns.specs.Playing.{IsUnderWay, Took}
use Rattle.hb_turns.proofs.CollectingLemmas.{collected_door}
use Rattle.hb_turns.proofs.PlayingLemmas.{took_door, under_way_door, came_through}
use Rattle.hb_turns.proofs.turns.take_turn.Goals as goal

pub returns-clause-took : goal.returns-clause-took
returns-clause-took c =
    let came = c.in_ok-turn.ensures in
    let opened = c.desk-desk.ensures.tables in
    let own : AreOwn c.args.caller.0 (drop (length c.args.tables.now.log) c.advance_unnoted.new.desk.tables.now.log) = search rules in
    subst (λ (x : List Entry). Took c.args.prog.now c.args.caller.0 c.args.names.now c.advance_unnoted.new.names c.args.tables.now.log x c.args.machine.now c.advance_unnoted.new.self) (search rules)
    (took_door c.args.prog.now c.args.caller.0 c.args.names.now c.advance_unnoted.new.names c.args.tables.now.log c.advance_unnoted.new.desk.tables.now.log c.args.machine.now c.advance_unnoted.new.self _ _
    (ap (λ (x : Tables). x.caller) opened) (ap (λ (x : Tables). x.log) opened)
    (came_through c.args.caller.0 c.args.tables.now.log c.advance_unnoted.new.desk.tables.now.log (subst (λ (x : Tables). IsPrefix x.log c.advance_unnoted.new.desk.tables.now.log) opened c.advance_unnoted.ensures.stays.kept) own)
    came.fine came.holding came.own c.advance_unnoted.ensures.caller c.advance_unnoted.ensures.keeps came.stands)

pub returns-clause-under_way : goal.returns-clause-under_way
returns-clause-under_way c =
    let came = c.in_ok-turn.ensures in
    let opened = c.desk-desk.ensures.tables in
    let legal : IsLegal c.args.tables.now.limit c.advance_unnoted.new.desk.tables.now.log =
    subst (λ (n : ℕ). IsLegal n c.advance_unnoted.new.desk.tables.now.log) (ap (λ (x : Tables). x.limit) opened)
    (c.advance_unnoted.ensures.stays.legal (subst (λ (x : Tables). IsLegal x.limit x.log) (sym opened) c.requires.under_way.legal)) in
    let own : AreOwn c.args.caller.0 (drop (length c.args.tables.now.log) c.advance_unnoted.new.desk.tables.now.log) = search rules in
    let new = came_through c.args.caller.0 c.args.tables.now.log c.advance_unnoted.new.desk.tables.now.log (subst (λ (x : Tables). IsPrefix x.log c.advance_unnoted.new.desk.tables.now.log) opened c.advance_unnoted.ensures.stays.kept) own in
    subst (λ (x : List Entry). IsUnderWay c.args.prog.now c.args.tables.now.limit c.advance_unnoted.new.names x) (search rules)
    (under_way_door c.args.prog.now c.args.tables.now.limit c.args.caller.0 c.args.names.now c.advance_unnoted.new.names c.args.tables.now.log c.advance_unnoted.new.desk.tables.now.log c.requires.plays.2.block
    c.args.machine.now.state.cache c.advance_unnoted.new.self.state.cache _ _
    (ap (λ (x : Tables). x.caller) opened) (ap (λ (x : Tables). x.log) opened) c.requires.under_way legal new c.advance_unnoted.ensures.stays.named c.advance_unnoted.ensures.stays.few
    c.advance_unnoted.ensures.stays.differ came.grown c.requires.plays.2.own came.own c.requires.plays.2.runs c.requires.alone)

pub returns-clause-collects : goal.returns-clause-collects
returns-clause-collects c =
    let opened = c.desk-desk.ensures.tables in
    let own : AreOwn c.args.caller.0 (drop (length c.args.tables.now.log) c.advance_unnoted.new.desk.tables.now.log) = search rules in
    subst (λ (x : List Entry). AreCollected c.args.prog.now c.args.names.now c.advance_unnoted.new.names c.args.tables.now.log x c.args.share.now c.advance_unnoted.new.share) (search rules)
    (collected_door c.args.prog.now c.args.caller.0 _ c.args.names.now c.advance_unnoted.new.names c.args.tables.now.log _ c.advance_unnoted.new.desk.tables.now.log c.args.share.now c.advance_unnoted.new.share
    (ap (λ (x : Tables). x.caller) opened) (ap (λ (x : Tables). x.log) opened) c.advance_unnoted.ensures.stays.named
    (came_through c.args.caller.0 c.args.tables.now.log c.advance_unnoted.new.desk.tables.now.log (subst (λ (x : Tables). IsPrefix x.log c.advance_unnoted.new.desk.tables.now.log) opened c.advance_unnoted.ensures.stays.kept) own)
    c.in_ok-turn.ensures.shares)
