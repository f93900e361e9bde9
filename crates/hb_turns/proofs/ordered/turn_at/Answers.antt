use Rattle.std.proofs.Common.{◌+◌, ◌≡◌, ℕ, length, Some, refl, subst, arith}
use Rattle.std.specs.Prelude.{slice_get}
use Rattle.std.proofs.lemmas.Option.{slice_get_read}
use Rattle.hb_turns.specs.Playing.{IsNumbered, acts_by}
use Rattle.hb_turns.proofs.PlayerLemmas.{player_at, took_turn}
use Rattle.hb_turns.proofs.ordered.turn_at.Goals as goal

pub play-requires-clause-plays : goal.play-requires-clause-plays
play-requires-clause-plays c =
    let h = c.requires.played in
    let there : slice_get c.args.players.now.items c.args.at ≡ Some c.index_mut-player.result.now = slice_get_read c.args.players.now.items
    (length c.args.players.now.items) c.args.at c.index_mut-player.result.now refl c.requires.there c.index_mut-player.ensures.value in (
      h.0,
      acts_by (c.args.first + c.args.at) h.2,
      (player_at c.args.prog.now h.0 c.args.first c.args.names.now c.args.tables.now.log h.2 c.args.players.now.items c.args.at
          c.index_mut-player.result.now h.3.players there).plays,
    )

pub play-requires-clause-at : goal.play-requires-clause-at
play-requires-clause-at c =
    let h = c.requires.played in
    let there : slice_get c.args.players.now.items c.args.at ≡ Some c.index_mut-player.result.now = slice_get_read c.args.players.now.items
    (length c.args.players.now.items) c.args.at c.index_mut-player.result.now refl c.requires.there c.index_mut-player.ensures.value in
    (player_at c.args.prog.now h.0 c.args.first c.args.names.now c.args.tables.now.log h.2 c.args.players.now.items c.args.at c.index_mut-player.result.now h.3.players there).at

pub play-requires-clause-goes_on : goal.play-requires-clause-goes_on
play-requires-clause-goes_on c = c.requires.goes_on c.index_mut-player.result.now
    (slice_get_read c.args.players.now.items (length c.args.players.now.items) c.args.at c.index_mut-player.result.now refl c.requires.there c.index_mut-player.ensures.value)

pub returns-clause-took : goal.returns-clause-took
returns-clause-took c =
    let came = c.in_ok-play.ensures in
    let there : slice_get c.args.players.now.items c.args.at ≡ Some c.index_mut-player.result.now = slice_get_read c.args.players.now.items
    (length c.args.players.now.items) c.args.at c.index_mut-player.result.now refl c.requires.there c.index_mut-player.ensures.value in
    let numbered : (turns : ℕ) → IsNumbered c.index_mut-player.result.now.over c.index_mut-player.result.now.machine.state.begun turns
    → IsNumbered c.play.new.player.over c.play.new.player.machine.state.begun (turns + 0 + 1) =
    λ turns is. (let same : turns ≡ turns + 0 = omega arith in subst (λ (n : ℕ). IsNumbered c.play.new.player.over c.play.new.player.machine.state.begun (n + 1)) same (came.numbered turns is)) in
    took_turn c.args.prog.now c.args.tables.now.limit c.args.first c.args.at 0 c.args.names.now c.play.new.names c.args.tables.now.log c.play.new.tables.log c.args.players.now.items
    c.index_mut-player.result.now c.play.new.player
    there c.requires.there (c.requires.goes_on c.index_mut-player.result.now there) came.took came.under_way came.at numbered came.named
