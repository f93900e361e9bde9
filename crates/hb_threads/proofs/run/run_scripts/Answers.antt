use Rattle.std.proofs.Common.{ℕ, ◌∷◌, map, sym, subst, ◌∙◌}
use Rattle.hb_eval.specs.Told.{told_by}
use Rattle.hb_words.specs.Seats.{history, view_of, seat_front}
use Rattle.hb_words.specs.Words.{IsWhole}
use Rattle.hb_threads.specs.Seated.{known_at}
use Rattle.hb_threads.proofs.EndLemmas.{Ended, each_name_seat, each_seat, ended_free, ended_history, ended_journals, names_all, seats_cover}
use Rattle.hb_threads.proofs.run.run_scripts.Goals as goal

pub gather-requires-clause-others : goal.gather-requires-clause-others
gather-requires-clause-others g c =
    each_name_seat c.args.prog.now c.args.options c.args.words c.args.row c.run_each-jobs.result.items c.in_ok-seats.field-0.names.items c.in_ok-seats.ensures.names c.run_each-jobs.ensures.run

pub gather-requires-clause-all : goal.gather-requires-clause-all
gather-requires-clause-all g c =
    names_all c.args.prog.now c.args.options c.scripts_behind-count.result c.args.words c.args.row c.fork_all.new.first c.fork_all.new.names c.run_each-jobs.result.items c.in_ok-seats.field-0.names.items
    (c.run_each-jobs.ensures.count ∙ c.in_ok-jobs.ensures.many) c.in_ok-jobs.ensures.head c.in_ok-seats.ensures.names c.run_each-jobs.ensures.run

pub close-closed-requires-clause-others : goal.close-closed-requires-clause-others
close-closed-requires-clause-others g c =
    each_seat c.args.prog.now c.args.options c.args.words c.args.row c.run_each-jobs.result.items c.in_ok-seats.field-0.seats.items c.in_ok-seats.ensures.seats c.run_each-jobs.ensures.run

pub close-closed-requires-clause-all : goal.close-closed-requires-clause-all
close-closed-requires-clause-all g c =
    seats_cover c.args.prog.now c.args.options c.scripts_behind-count.result c.args.words c.args.row c.fork_all.new.first c.fork_all.new.names c.run_each-jobs.result.items c.in_ok-seats.field-0.seats.items
    (c.run_each-jobs.ensures.count ∙ c.in_ok-jobs.ensures.many) c.in_ok-jobs.ensures.head c.in_ok-seats.ensures.seats c.run_each-jobs.ensures.run

ended : (g : _) (c : goal.After-histories_keep_the_promise g)
    → Ended c.args.prog.now (view_of c.args.first).limit c.args.options c.args.words c.args.row c.in_ok-setup.setup.goes_on (known_at c.run_setup.new.first c.run_setup.new.names)
    c.in_ok-setup.setup.runs.items c.in_ok-seats.field-0.runs.items c.fork_all.new.first c.fork_all.new.names c.run_each-jobs.result.items c.in_ok-seats.field-0.seats.items c.in_ok-seats.field-0.names.items
    c.in_ok-list.list (history c.close-closed.result)
ended g c = record {
  set_up = c.in_ok-setup.ensures.set_up;
  count = c.scripts_behind-count.result;
  behind = c.scripts_behind-count.ensures;
  many = c.run_each-jobs.ensures.count ∙ c.in_ok-jobs.ensures.many;
  head = c.in_ok-jobs.ensures.head;
  since = c.in_ok-jobs.ensures.since;
  alone = c.in_ok-jobs.ensures.alone;
  ran = c.run_each-jobs.ensures.run;
  seats_are = c.in_ok-seats.ensures.seats;
  others_are = c.in_ok-seats.ensures.names;
  runs = c.in_ok-seats.ensures.runs;
  whole = subst (λ (n : ℕ). IsWhole (history c.close-closed.result) n (view_of c.fork_all.new.first).made (seat_front c.fork_all.new.first ∷ map seat_front c.in_ok-seats.field-0.seats.items))
      (c.in_ok-jobs.ensures.head.seat_fits.limit_is ∙ sym c.requires.seats.seat_fits.limit_is) c.close-closed.ensures;
  gathered = c.in_ok-list.ensures;
}

pub returns-clause-history : goal.returns-clause-history
returns-clause-history g c = ended_history (ended g c)

pub returns-clause-promise : goal.returns-clause-promise
returns-clause-promise g c =
    c.histories_keep_the_promise.ensures.promise c.args.prog.now (view_of c.args.first).limit c.args.options.steps c.in_ok-list.list (history c.close-closed.result) (map told_by c.in_ok-seats.field-0.runs.items) (ended_history (ended g c))

pub returns-clause-free : goal.returns-clause-free
returns-clause-free g c = ended_free (ended g c)

pub returns-clause-journals : goal.returns-clause-journals
returns-clause-journals g c = ended_journals (ended g c)
