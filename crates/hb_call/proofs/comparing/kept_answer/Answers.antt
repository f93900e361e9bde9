use Rattle.std.proofs.Common.{◌≡◌, ◌<◌, Some, length, refl, arith}
use Rattle.std.proofs.lemmas.Option.{slice_get_read}
use Rattle.std.specs.Prelude.{slice_get}
use Rattle.hb_call.proofs.NoteLemmas.{answer_at}
use Rattle.hb_call.proofs.comparing.kept_answer.Goals as goal

pub returns : goal.returns
returns c =
    let low : c.args.at < length c.args.kept.now.derivation.uses.items = let a = c.requires.at in let b = c.requires.counts in omega (arith, a, b) in
    let used : slice_get c.args.kept.now.derivation.uses.items c.args.at ≡ Some c.index-used.result.now = slice_get_read c.args.kept.now.derivation.uses.items
    (length c.args.kept.now.derivation.uses.items) c.args.at c.index-used.result.now refl low c.index-used.ensures in
    let seen : slice_get c.args.kept.now.counts.items c.args.at ≡ Some c.index-seen.result.now = slice_get_read c.args.kept.now.counts.items
    (length c.args.kept.now.counts.items) c.args.at c.index-seen.result.now refl c.requires.at c.index-seen.ensures in
    answer_at c.args.kept.now.derivation.uses.items c.args.kept.now.counts.items c.args.at c.index-used.result.now c.index-seen.result.now used seen
