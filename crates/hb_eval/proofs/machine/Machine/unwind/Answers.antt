use Rattle.std.proofs.Common.{◌≡◌, ◌+◌, ◌∷◌, List, [], length, arith, refl, sym, ap, subst, ◌∙◌, append-nil}
use Rattle.std.specs.Prelude.{reverse}
use Rattle.hb_tree.specs.Table.{Table}
use Rattle.hb_names.specs.Names.{Name}
use Rattle.hb_tables.specs.Answers.{Fixed}
use Rattle.hb_tables.specs.History.{IsLegal}
use Rattle.hb_call.specs.GrowthLaws.{prefix_itself, prefix_more}
use Rattle.hb_call.specs.Growth.{Grown}
use Rattle.hb_eval.specs.declared.machine.Machine.{Machine}
use Rattle.hb_eval.specs.Holding.{Holding, frames_of}
use Rattle.hb_eval.specs.Machine.{need, frames_in}
use Rattle.hb_eval.specs.Machines.{sum_over}
use Rattle.hb_eval.specs.Turns.{Reads}
use Rattle.hb_eval.specs.Ends.{with_stop}
use Rattle.hb_eval.specs.Keeping.{StaysOwn}
use Rattle.hb_eval.proofs.StackLemmas.{pushed_first}
use Rattle.hb_eval.proofs.AdvanceLemmas.{carries_held, carries_on, stop_fine, stop_turn}
use Rattle.hb_eval.proofs.machine.Machine.unwind.Goals as goal

pub passing-init : goal.passing-init
passing-init g c = record {
  fine = λ t fine. fine;
  stops = c.requires.stops;
  unwinds = λ t fine known asked. carries_held t _ known asked _ c.args.self.now c.args.self.now.conts refl fine;
  calls = record { made = refl; decided = refl; own = refl; fresh = refl };
  holding = c.requires.holding;
  kept = prefix_itself _;
  legal = λ h. h;
  fixed = refl;
  caller = refl;
  journal = refl;
}

pub pass-requires : goal.pass-requires
pass-requires g c =
    let inv = c.passing.invariant in
    let fine = inv.fine c.requires.fine.0 c.requires.fine.1 in
    let k = c.in-Some.cont in
    let ks = reverse c.pop.new.self.items in
    let old = c.passing.self in
    let top : reverse old.conts.items ≡ k ∷ ks = ap reverse c.in-Some.ensures.items ∙ pushed_first c.pop.new.self.items k in
    let ops : length old.state.operands.items ≡ need k + sum_over need ks = fine.operands ∙ ap (sum_over need) top in
    let frs : length old.frames.items ≡ frames_in k + sum_over frames_in ks = fine.frames ∙ ap (sum_over frames_in) top in
    record {
      operands = omega (arith, ops);
      frames = omega (arith, frs);
      holding = subst (λ (z : Fixed). Holding z.caller (old.state.made + 1) (frames_of old.frames.items) (g.D.Desk.front c.passing.desk)) (sym inv.fixed) inv.holding;
    }

pub passing-preserved : goal.passing-preserved
passing-preserved g c =
    let inv = c.passing.invariant in
    let who = (g.D.Desk.fixed c.args.desk.now).caller in
    let half = g.D.Desk.front c.passing.desk in
    let now = g.D.Desk.front c.pass.new.desk in
    let same = inv.fixed in
    let k = c.in-Some.cont in
    let old = c.passing.self in
    let new : Machine = record { caller = old.caller; state = c.pass.new.state; conts = c.pop.new.self; frames = c.pass.new.frames; hand = old.hand; journal = old.journal } in
    let top : reverse old.conts.items ≡ k ∷ reverse c.pop.new.self.items = ap reverse c.in-Some.ensures.items ∙ pushed_first c.pop.new.self.items k in
    let low = c.pass.ensures.lowers in
    let reads : (t : Table) (known : List Name) → Reads known who half now old.state new.state (with_stop t (k ∷ []) old.frames.items old.state) (with_stop t [] new.frames.items new.state) =
    λ t known. subst (λ (z : Fixed). Reads known z.caller half now old.state new.state (with_stop t (k ∷ []) old.frames.items old.state) (with_stop t [] new.frames.items new.state)) same (c.pass.ensures.reads t known) in
    let grown : (t : Table) (known asked : List Name) → Grown t who known asked asked half now = λ t known asked. subst (λ (z : Fixed). Grown t z.caller known asked asked half now) same (c.pass.ensures.grown t known asked) in
    let stays : StaysOwn who half now old.state.cache new.state.cache = subst (λ (z : Fixed). StaysOwn z.caller half now old.state.cache new.state.cache) same c.pass.ensures.own in
    record {
      fine = λ t fine. stop_fine t old new k (reverse c.pop.new.self.items) inv.stops top (inv.fine t fine) (low t) refl refl;
      stops = inv.stops;
      unwinds = λ t fine known asked.
          let a = inv.unwinds t fine known asked in
          carries_on t who known known known asked asked asked _ half now c.args.self.now old new (prefix_itself known) a
          (stop_turn t who known asked half now old new k (reverse c.pop.new.self.items) inv.stops top (inv.fine t fine) (reads t known) (low t) (grown t known asked) (stays t known asked) refl refl);
      calls = let same = (low c.requires.fine.0).steady.calls in record { made = same.made ∙ inv.calls.made; decided = same.decided ∙ inv.calls.decided; own = same.own ∙ inv.calls.own; fresh = same.fresh ∙ inv.calls.fresh };
      holding = subst (λ (z : Fixed). Holding z.caller (c.pass.new.state.made + 1) (frames_of c.pass.new.frames.items) now) same c.pass.ensures.holding;
      kept = prefix_more _ _ _ inv.kept c.pass.ensures.kept;
      legal = λ h. subst (λ (z : Fixed). IsLegal z.limit half → IsLegal z.limit now) same c.pass.ensures.legal (inv.legal h);
      fixed = c.pass.ensures.fixed ∙ same;
      caller = inv.caller;
      journal = inv.journal;
    }

pub returns-clause-unwinds : goal.returns-clause-unwinds
returns-clause-unwinds g c t fine known asked =
    let a = c.passing.invariant.unwinds t fine known asked in
    let all : c.passing.self.conts.items ≡ c.pop.new.self.items = c.in_default.ensures.items ∙ append-nil c.pop.new.self.items in
    carries_on t _ known known known asked asked asked _ _ _ c.args.self.now c.passing.self _ (prefix_itself known) a
    (carries_held t _ known asked _ c.passing.self c.pop.new.self (sym all) a.fine)
