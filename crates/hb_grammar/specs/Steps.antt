-- What a step of a course is.
use Rattle.std.specs.Prelude.{[], ◌<◌}
use Rattle.hb_grammar.specs.{Measure.size, Sight.Does, Sight.Done}
use Rattle.hb_grammar.specs.declared.course.Step.{Step}
use Rattle.hb_grammar.specs.declared.course.Step.TheVariants as step
use Rattle.hb_grammar.specs.Course.{Course, ComesTo, StopsAt, left}

-- this is the next step from the old place, and the new place is behind it
abbrev pub Comes : Course → Step → Course → Type 0
Comes old (step.Act a) new = ComesTo old a new
Comes old step.Done new = Does old.ahead old.read (left old) [] Done
Comes old (step.Missed w) new = StopsAt old w new

-- behind an action less is left to do
abbrev pub IsNearer : Course → Step → Course → Type 0
IsNearer old (step.Act a) new = size new < size old
IsNearer old step.Done new = Unit {0}
IsNearer old (step.Missed w) new = Unit {0}
