use Rattle.std.proofs.Common.{◌≡◌, ◌++◌, codes, take}
use Rattle.std.specs.List.{flat_map}
use Rattle.hb_report.specs.Trace.{trace_line}
use Rattle.hb_report.proofs.traces.trace.Given as goal

abbrev pub invariant-loop-entry : goal.invariant-loop-entry
invariant-loop-entry l = l.lines.items ≡ codes "trace\n" ++ flat_map (trace_line l.prog l.names) (take l.entry-index l.entries)
