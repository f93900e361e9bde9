use Rattle.std.proofs.Common.{◌≡◌, ◌-◌, ◌+◌, ℕ, suc, ◌∷◌, ◌++◌, [], length, length-append, refl, sym, ap, ◌∙◌, subst, arith, add-one}
use Rattle.std.proofs.lemmas.Result.{IfOk-weaker}
use Rattle.hb_tree.specs.TreeAt.{tree_at}
use Rattle.hb_eval.specs.declared.{state.State.State, state.Hand.Hand}
use Rattle.hb_eval.specs.{Machine.arguments_from, Values.IsKnown}
use Rattle.hb_eval.specs.Turns.{Goes, Reads, with_operands, after}
use Rattle.hb_eval.proofs.{ArgumentLemmas.argument_came, ArgumentLemmas.turned_before, GoesLemmas.pushed_goes, TurnLemmas.reads_before}
use Rattle.hb_eval.proofs.calls.argument.Goals as goal

pub returns-clause-turned : goal.returns-clause-turned
returns-clause-turned g c =
    let t = c.args.prog.now in
    let old = c.args.state.now in
    let pushed = c.in_ok-push.ensures.items ∙ ap (λ v. old.operands.items ++ v ∷ []) c.replace-value.ensures.value in
    let mid : State = record old { operands = c.push.new.self; acc = c.replace-value.new.dest } in
    let at : ℕ = length old.operands.items - suc c.args.count in
    let place : length c.push.new.self.items - (c.args.count + 1) - 1 ≡ at = omega (arith, ap length pushed, length-append old.operands.items (old.acc ∷ [])) in
    let frames = c.next_argument.new.frames.items in
    let new = c.next_argument.new.state in
    IfOk-weaker c.next_argument.result _ _ (λ (h : Hand) x. turned_before t _ _ _ _ (suc (c.args.count + 1)) (suc c.args.count) 0 1 2 c.args.frames.now.items old mid frames new _ _ _ _ h
    (λ m r. reads_before _ _ _ _ old mid new _ _ _ refl refl refl
    (argument_came t c.args.id c.args.count at c.args.frames.now.items old mid c.push.new.self c.replace-value.new.dest (omega (arith, c.requires.ready.operands)) pushed refl)
    (subst (λ (k : ℕ). Reads (g.N.Names.known c.next_argument.new.names) (g.D.Desk.fixed c.args.desk.now).caller (g.D.Desk.front c.args.desk.now) (g.D.Desk.front c.next_argument.new.desk) mid new
    (with_operands t at (λ w room vs s. arguments_from w room (tree_at t c.args.id.0) k vs s) c.args.frames.now.items mid) (after t m frames new)) (add-one c.args.count)
    (subst (λ (n : ℕ). Reads (g.N.Names.known c.next_argument.new.names) (g.D.Desk.fixed c.args.desk.now).caller (g.D.Desk.front c.args.desk.now) (g.D.Desk.front c.next_argument.new.desk) mid new
    (with_operands t n (λ w room vs s. arguments_from w room (tree_at t c.args.id.0) (c.args.count + 1) vs s) c.args.frames.now.items mid) (after t m frames new)) place r)))
    (λ m r. pushed_goes t (suc c.args.count) 1 c.args.frames.now.items old mid frames new m c.push.new.self c.replace-value.new.dest pushed refl (subst (IsKnown t) (sym c.replace-value.ensures.after) tt)
    (subst (λ (k : ℕ). Goes t (suc k) 0 1 c.args.frames.now.items mid frames new m) (add-one c.args.count) r)) x) c.next_argument.ensures.turned
