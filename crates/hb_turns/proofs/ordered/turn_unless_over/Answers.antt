use Rattle.std.proofs.Common.{◌≡◌, ◌∙◌, ap, sym, length, rules, Some, refl, inl}
use Rattle.std.specs.Prelude.{slice_get}
use Rattle.std.proofs.lemmas.Option.{slice_get_read}
use Rattle.hb_turns.specs.declared.player.Player.{Player}
use Rattle.hb_turns.proofs.ordered.turn_unless_over.Goals as goal

pub returns-then-index-clause-goes : goal.returns-then-index-clause-goes
returns-then-index-clause-goes c = inl (
  c.index.result.now,
  slice_get_read c.args.players.now.items
      (length c.args.players.now.items) c.args.at c.index.result.now refl c.requires.there c.index.ensures,
  search rules,
  refl,
  refl,
  refl,
)

pub turn_at-requires-clause-goes_on : goal.turn_at-requires-clause-goes_on
turn_at-requires-clause-goes_on c p is =
    let there : slice_get c.args.players.now.items c.args.at ≡ Some c.index.result.now = slice_get_read c.args.players.now.items
    (length c.args.players.now.items) c.args.at c.index.result.now refl c.requires.there c.index.ensures in
    let same : c.index.result.now ≡ p = (let s : Some c.index.result.now ≡ Some p = sym there ∙ is in cc s) in
    sym (ap (λ (x : Player). x.over) same) ∙ c.if-index.false
