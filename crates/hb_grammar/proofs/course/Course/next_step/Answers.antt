use Rattle.std.proofs.Common.{arith, rules}
use Rattle.hb_grammar.proofs.CourseLemmas.{comes, ended, leads_phrase, leads_token, nearer, no_symbols, none_popped, smaller_phrase, smaller_token, some_left, stops, stops_behind}
use Rattle.hb_grammar.proofs.course.Course.next_step.Goals as goal

pub returns-in-Action-clause-comes : goal.returns-in-Action-clause-comes
returns-in-Action-clause-comes c =
    comes c.args.self.now _ c.loop-symbol.self-inside.read _ _ c.in-Action.action c.loop-symbol.invariant.tokens c.loop-symbol.invariant.within c.loop-symbol.invariant.started
    (rw c.in-Action.is at c.in-Some.ensures.items) c.loop-symbol.invariant.leads

pub returns-in-Action-clause-nearer : goal.returns-in-Action-clause-nearer
returns-in-Action-clause-nearer c =
    nearer _ _ c.in-Action.action (comes c.args.self.now _ c.loop-symbol.self-inside.read _ _ c.in-Action.action c.loop-symbol.invariant.tokens c.loop-symbol.invariant.within
    c.loop-symbol.invariant.started (rw c.in-Action.is at c.in-Some.ensures.items) c.loop-symbol.invariant.leads)

pub returns-then-not-is_kind-clause-comes : goal.returns-then-not-is_kind-clause-comes
returns-then-not-is_kind-clause-comes c =
    stops c.args.self.now _ c.loop-symbol.self-inside.read _ _ c.in-Token.kind _ c.loop-symbol.invariant.tokens c.loop-symbol.invariant.within c.loop-symbol.invariant.started
    (rw c.in-Token.is at c.in-Some.ensures.items) (search rules) (search rules) c.loop-symbol.invariant.leads

pub loop-symbol-smaller-in-Token : goal.loop-symbol-smaller-in-Token
loop-symbol-smaller-in-Token c =
    smaller_token c.loop-symbol.self-inside.tokens.now c.loop-symbol.self-inside.read _ _ c.in-Token.kind (rw c.in-Token.is at c.in-Some.ensures.items) (search rules)

pub loop-symbol-preserved-in-Token : goal.loop-symbol-preserved-in-Token
loop-symbol-preserved-in-Token c = record {
  tokens = c.loop-symbol.invariant.tokens;
  within = omega (arith, some_left c.loop-symbol.self-inside.tokens.now c.loop-symbol.self-inside.read c.in-Token.kind (search rules));
  started = c.loop-symbol.invariant.started;
  leads = leads_token c.args.self.now c.loop-symbol.self-inside.tokens.now c.loop-symbol.self-inside.read _ _ c.in-Token.kind (rw c.in-Token.is at c.in-Some.ensures.items) (search rules) c.loop-symbol.invariant.leads;
}

pub loop-symbol-smaller : goal.loop-symbol-smaller
loop-symbol-smaller c =
    smaller_phrase _ _ c.pop.new.self.items c.push_phrase.new.stack.items c.in-Phrase.sort (rw c.in-Phrase.is at c.in-Some.ensures.items) (search rules)

pub loop-symbol-preserved : goal.loop-symbol-preserved
loop-symbol-preserved c = record {
  tokens = c.loop-symbol.invariant.tokens;
  within = c.loop-symbol.invariant.within;
  started = c.loop-symbol.invariant.started;
  leads = leads_phrase c.args.self.now _ _ c.pop.new.self.items c.push_phrase.new.stack.items c.in-Phrase.sort (rw c.in-Phrase.is at c.in-Some.ensures.items) (search rules) c.loop-symbol.invariant.leads;
}

pub returns-then-self-clause-comes : goal.returns-then-self-clause-comes
returns-then-self-clause-comes c =
    stops_behind c.args.self.now _ c.loop-symbol.self-inside.read c.pop.new.self.items c.loop-symbol.invariant.tokens c.if-self.true c.loop-symbol.invariant.started
    (no_symbols c.pop.new.self.items (search rules)) (none_popped c.args.self.now _ _ _ c.in_default.ensures.items c.loop-symbol.invariant.leads)

pub returns-clause-comes : goal.returns-clause-comes
returns-clause-comes c =
    ended c.args.self.now c.loop-symbol.self-inside.tokens.now c.loop-symbol.self-inside.read c.pop.new.self.items c.loop-symbol.invariant.tokens c.loop-symbol.invariant.within
    (omega (arith, c.if-self.false)) c.loop-symbol.invariant.started (no_symbols c.pop.new.self.items (search rules))
    (none_popped c.args.self.now _ _ _ c.in_default.ensures.items c.loop-symbol.invariant.leads)
