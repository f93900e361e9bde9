use Rattle.std.proofs.Common.{◌==◌, ◌∙◌, Some, if◌then◌else◌, rules, tests, ap}
use Rattle.std.specs.Prelude.{is_some}
use Rattle.std.proofs.{lemmas.Iterator.YieldsList-from_slice, lemmas.Iterator.Search.any_from_yields_List}
use Rattle.hb_cache.specs.declared.kept.Seen.{Seen}
use Rattle.hb_cache.specs.Kept.{count_in}
use Rattle.hb_cache.proofs.KeptLemmas.{counted}
use Rattle.hb_cache.proofs.kept.Kept.uses.Goals as goal

pub returns-else-eq : goal.returns-else-eq
returns-else-eq c =
    let kept = c.args.self.now in let counts = kept.counts.items in let k = c.args.key.0 in
    let any = any_from_yields_List (λ (s : Seen). s.key.0 == k) _ _ _ c.any.ensures.ran (YieldsList-from_slice counts cc) (λ x b q k. search (rules, tests)) in
    any ∙ counted counts k ∙ ap (λ b. is_some (if b then Some kept.changes else count_in counts k)) c.if-eq.ensures
