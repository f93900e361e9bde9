use Rattle.std.proofs.Common.{Some, List, sym, ap, ◌∙◌}
use Rattle.hb_names.specs.Names.{Name, place}
use Rattle.hb_names.proofs.NameLemmas.{place-last}
use Rattle.hb_names.proofs.store.NameStore.add.Goals as goal

pub returns-clause-key : goal.returns-clause-key
returns-clause-key c =
    let name : Name = (c.args.class.0, c.args.name.now) in let names = c.reserve.new.self.names in
    let new = ap (λ (ns : List Name). place ns name) c.reserve.ensures.names ∙ c.requires.new in
    ap (λ (ns : List Name). place ns name) c.push-key.ensures.names ∙ place-last names name new ∙ ap Some (sym c.push-key.ensures.key)

pub returns-clause-full : goal.returns-clause-full
returns-clause-full c = ((λ e. absurd (cc)), λ full. absurd (let there = returns-clause-key c in let gone = full.1 in cc))
