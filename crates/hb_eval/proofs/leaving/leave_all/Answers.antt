use Rattle.std.proofs.Common.{◌≡◌, ℕ, List, [], refl, ap, subst, ◌∙◌}
use Rattle.hb_tree.specs.Table.{Table}
use Rattle.hb_names.specs.Names.{Name}
use Rattle.hb_tables.specs.{History.IsLegal, Answers.Fixed}
use Rattle.hb_call.specs.{Held.HasCall, Held.stands, Growth.Grown}
use Rattle.hb_call.specs.GrowthLaws.{prefix_itself, prefix_more, grown_itself, grown_on}
use Rattle.hb_eval.specs.Holding.{frames_of}
use Rattle.hb_eval.proofs.HoldingLemmas.{holding_top, holding_last, holding_left}
use Rattle.hb_eval.proofs.leaving.leave_all.Goals as goal

pub leave-requires : goal.leave-requires
leave-requires g c =
    let top = holding_top _ _ _ c.pop.new.self.items c.in-Some.framed _ c.in-Some.ensures.items c.loop-framed.invariant.holding.1 in
    rw (ap (λ (z : Fixed). z.caller) c.loop-framed.invariant.fixed) (record { held = (holding_last _ _ _ _ _ top).holds })

pub loop-framed-preserved : goal.loop-framed-preserved
loop-framed-preserved g c =
    let who = (g.D.Desk.fixed c.args.desk.now).caller in
    let old = g.D.Desk.front c.loop-framed.desk in let new = g.D.Desk.front c.leave.new.desk in
    let q = c.in-Some.framed.frame.q.0 in
    let same = c.loop-framed.invariant.fixed in
    let top = holding_top _ _ _ c.pop.new.self.items c.in-Some.framed _ c.in-Some.ensures.items c.loop-framed.invariant.holding.1 in
    let none : stands who q new ≡ [] = subst (λ (z : Fixed). stands z.caller q new ≡ []) same c.leave.ensures.none in
    let others : (p : ℕ) → (p ≡ q → ⊥) → stands who p new ≡ stands who p old = subst (λ (z : Fixed). (p : ℕ) → (p ≡ q → ⊥) → stands z.caller p new ≡ stands z.caller p old) same c.leave.ensures.others in
    let legal : IsLegal (g.D.Desk.fixed c.args.desk.now).limit old → IsLegal (g.D.Desk.fixed c.args.desk.now).limit new = subst (λ (z : Fixed). IsLegal z.limit old → IsLegal z.limit new) same c.leave.ensures.legal in
    let grown : (t : Table) (names asked : List Name) → HasCall who q old → Grown t who names asked asked old new =
    subst (λ (z : Fixed). (t : Table) (names asked : List Name) → HasCall z.caller q old → Grown t z.caller names asked asked old new) same c.leave.ensures.grown in
    record {
      holding = (c.loop-framed.invariant.holding.0, holding_left who _ (frames_of c.pop.new.self.items) c.in-Some.framed.frame old new top none others c.leave.ensures.kept);
      kept = prefix_more _ _ _ c.loop-framed.invariant.kept c.leave.ensures.kept;
      grown = λ t names asked. grown_on t who names names asked asked asked (g.D.Desk.front c.args.desk.now) old new (c.loop-framed.invariant.grown t names asked)
          (grown t names asked (holding_last _ _ _ _ _ top).called) (prefix_itself names);
      legal = λ h. legal (c.loop-framed.invariant.legal h);
      fixed = c.leave.ensures.fixed ∙ same;
    }

pub loop-framed-init : goal.loop-framed-init
loop-framed-init g c = record {
  holding = c.requires.holding;
  kept = prefix_itself _;
  grown = λ t names asked. grown_itself t _ names asked _;
  legal = λ h. h;
  fixed = refl;
}
