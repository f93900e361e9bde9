use Rattle.hb_grammar.proofs.{OneLemmas.apart, OneLemmas.one-place, OneLemmas.one-wanted, ActionLemmas.one_actions, ActionLemmas.one_first_actions}
use Rattle.hb_grammar.proofs.laws.one_answer.Goals as goal

pub returns-clause-apart : goal.returns-clause-apart
returns-clause-apart c = apart

pub returns-clause-place : goal.returns-clause-place
returns-clause-place c = one-place

pub returns-clause-wanted : goal.returns-clause-wanted
returns-clause-wanted c = one-wanted

pub returns-clause-actions : goal.returns-clause-actions
returns-clause-actions c = one_actions

pub returns-clause-first_actions : goal.returns-clause-first_actions
returns-clause-first_actions c = one_first_actions
