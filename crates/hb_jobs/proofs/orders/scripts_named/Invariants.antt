use Rattle.std.proofs.Common.{◌≡◌, ◌++◌, drop, map, option_map}
use Rattle.hb_jobs.specs.Orders.{scripts_of}
use Rattle.hb_jobs.proofs.orders.scripts_named.Given as goal

abbrev pub invariant-loop-character : goal.invariant-loop-character
invariant-loop-character l = scripts_of l.text ≡ option_map (λ rest. map (λ c. c.0) l.scripts.items ++ rest) (scripts_of (drop l.character-index l.text))
