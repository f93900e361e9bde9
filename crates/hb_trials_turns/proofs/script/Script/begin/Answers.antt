use Rattle.std.proofs.Common.{◌+◌, ℕ, sym, subst}
use Rattle.hb_call.specs.OwnCache.{IsTrueCache}
use Rattle.hb_eval.specs.Holding.{Holding, frames_of}
use Rattle.hb_words.specs.Seats.{view_of}
use Rattle.hb_trials_turns.proofs.ScriptLemmas.{nothing_held, own_true}
use Rattle.hb_trials_turns.proofs.script.Script.begin.Goals as goal

pub returns-clause-ready : goal.returns-clause-ready
returns-clause-ready c = λ names.
    let e = c.in_ok-new.ensures in let m = c.in_ok-new.field-0 in let v = view_of c.args.seat in let same = sym c.requires.caller in record {
      fine = e.fine c.args.prog.now c.requires.block;
      going = λ _. e.going;
      done = λ h. absurd (cc h);
      seat = c.requires.seat;
      holding = subst (λ (x : ℕ). Holding x (m.state.made + 1) (frames_of m.frames.items) v.seen) same (nothing_held c.args.caller.0 (m.state.made + 1) v.seen m.frames.items e.fresh.0 c.requires.none);
      checks = subst (λ (x : ℕ). IsTrueCache c.args.prog.now names names x v.seen m.state.cache) same (own_true _ _ _ _ _ _ (e.own c.args.prog.now names names v.seen));
    }
