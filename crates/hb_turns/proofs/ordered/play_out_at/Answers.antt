use Rattle.std.proofs.Common.{◌≡◌, ◌+◌, length, Some, refl}
use Rattle.std.specs.Prelude.{slice_get}
use Rattle.std.proofs.lemmas.Option.{slice_get_read}
use Rattle.hb_turns.specs.Playing.{acts_by}
use Rattle.hb_turns.proofs.GoneLemmas.{over_more, over_stays}
use Rattle.hb_turns.proofs.PlayerLemmas.{player_at}
use Rattle.hb_turns.proofs.ThroughLemmas.{set_there}
use Rattle.hb_turns.proofs.ordered.play_out_at.Goals as goal

pub play_to_end-requires-clause-plays : goal.play_to_end-requires-clause-plays
play_to_end-requires-clause-plays c =
    let h = c.requires.played in
    let there : slice_get c.args.players.now.items c.args.at ≡ Some c.index_mut-player.result.now = slice_get_read c.args.players.now.items
    (length c.args.players.now.items) c.args.at c.index_mut-player.result.now refl c.requires.there c.index_mut-player.ensures.value in (
      h.0,
      acts_by (1 + c.args.at) h.2,
      (player_at c.args.prog.now h.0 1 c.args.names.now c.args.tables.now.log h.2 c.args.players.now.items c.args.at c.index_mut-player.result.now h.3.players there).plays,
    )

pub play_to_end-requires-clause-at : goal.play_to_end-requires-clause-at
play_to_end-requires-clause-at c =
    let h = c.requires.played in
    let there : slice_get c.args.players.now.items c.args.at ≡ Some c.index_mut-player.result.now = slice_get_read c.args.players.now.items
    (length c.args.players.now.items) c.args.at c.index_mut-player.result.now refl c.requires.there c.index_mut-player.ensures.value in
    (player_at c.args.prog.now h.0 1 c.args.names.now c.args.tables.now.log h.2 c.args.players.now.items c.args.at c.index_mut-player.result.now h.3.players there).at

pub returns-clause-over : goal.returns-clause-over
returns-clause-over c =
    let there : slice_get c.args.players.now.items c.args.at ≡ Some c.index_mut-player.result.now = slice_get_read c.args.players.now.items
    (length c.args.players.now.items) c.args.at c.index_mut-player.result.now refl c.requires.there c.index_mut-player.ensures.value in
    over_more c.args.at _ c.play_to_end.new.player (over_stays c.args.at c.args.players.now.items c.play_to_end.new.player c.requires.over)
    (set_there c.args.at c.args.players.now.items c.index_mut-player.result.now c.play_to_end.new.player there) c.in_ok-play_to_end.ensures.over

pub returns-clause-gone : goal.returns-clause-gone
returns-clause-gone c =
    let h = c.requires.played in
    let there : slice_get c.args.players.now.items c.args.at ≡ Some c.index_mut-player.result.now = slice_get_read c.args.players.now.items
    (length c.args.players.now.items) c.args.at c.index_mut-player.result.now refl c.requires.there c.index_mut-player.ensures.value in
    c.in_ok-play_to_end.ensures.goes c.args.at c.args.players.now.items refl there c.requires.there c.requires.many c.requires.over h.0 h.1 h.2 h.3
