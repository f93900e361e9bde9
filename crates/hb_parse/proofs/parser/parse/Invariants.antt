use Rattle.hb_grammar.specs.Measure.{size}
use Rattle.hb_parse.proofs.CourseLemmas.{Kept}
use Rattle.hb_parse.proofs.parser.parse.Given as goal

abbrev pub invariant-loop-builder : goal.invariant-loop-builder
invariant-loop-builder l = Kept l.text l.tokens l.course l.builder l.spot

abbrev pub decreases-loop-builder : goal.decreases-loop-builder
decreases-loop-builder l = size l.course
