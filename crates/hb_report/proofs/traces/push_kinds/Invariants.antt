use Rattle.std.proofs.Common.{◌≡◌, ◌++◌, codes, take}
use Rattle.std.specs.List.{flat_map}
use Rattle.hb_report.specs.Trace.{kind_word}
use Rattle.hb_report.proofs.traces.push_kinds.Given as goal

abbrev pub invariant-loop-kind : goal.invariant-loop-kind
invariant-loop-kind l = l.lines.items ≡ l.initial.lines.items ++ flat_map (λ kind. codes "," ++ kind_word l.prog kind) (take l.kind-index l.others)
