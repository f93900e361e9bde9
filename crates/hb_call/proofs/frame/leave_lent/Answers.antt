use Rattle.std.proofs.Common.{◌∙◌, ap, ◌++◌}
use Rattle.hb_tables.specs.Frames.{acts}
use Rattle.hb_call.proofs.OwnGoingLemmas.{frees_keep}
use Rattle.hb_call.specs.Held.{frees}
use Rattle.hb_call.proofs.HeldLemmas.{all_stand, none_stand}
use Rattle.hb_call.proofs.GrowthLemmas.{grown_frees, others_frees}
use Rattle.hb_call.proofs.frame.leave_lent.Goals as goal

pub free_keys-requires : goal.free_keys-requires
free_keys-requires g c =
    let who = (g.D.Desk.fixed c.args.desk.now).caller in let log = g.D.Desk.front c.args.desk.now in
    record { held = rw c.deref.ensures.value (all_stand who c.args.frame.q c.args.frame.held.items log c.requires.held) }

pub returns-clause-none : goal.returns-clause-none
returns-clause-none g c =
    let who = (g.D.Desk.fixed c.args.desk.now).caller in let log = g.D.Desk.front c.args.desk.now in
    none_stand who c.args.frame.q c.args.frame.held.items log (g.D.Desk.front c.free_keys.new.desk) c.requires.held (c.free_keys.ensures.acts ∙ ap (λ ks. acts who log ++ frees c.args.frame.q ks) c.deref.ensures.value)

pub returns-clause-others : goal.returns-clause-others
returns-clause-others g c p other =
    let who = (g.D.Desk.fixed c.args.desk.now).caller in let log = g.D.Desk.front c.args.desk.now in
    others_frees who p c.args.frame.q log (g.D.Desk.front c.free_keys.new.desk) c.args.frame.held.items (c.free_keys.ensures.acts ∙ ap (λ ks. acts who log ++ frees c.args.frame.q ks) c.deref.ensures.value) other

pub returns-clause-grown : goal.returns-clause-grown
returns-clause-grown g c t names asked called =
    let who = (g.D.Desk.fixed c.args.desk.now).caller in let log = g.D.Desk.front c.args.desk.now in
    grown_frees t who names asked c.args.frame.q c.args.frame.held.items log (g.D.Desk.front c.free_keys.new.desk) called c.free_keys.ensures.kept (c.free_keys.ensures.acts ∙ ap (λ ks. acts who log ++ frees c.args.frame.q ks) c.deref.ensures.value)

pub returns-clause-own : goal.returns-clause-own
returns-clause-own g c t names asked cache =
    let who = (g.D.Desk.fixed c.args.desk.now).caller in let log = g.D.Desk.front c.args.desk.now in
    frees_keep t who names asked c.args.frame.q c.args.frame.held.items log (g.D.Desk.front c.free_keys.new.desk) cache c.free_keys.ensures.kept (c.free_keys.ensures.acts ∙ ap (λ ks. acts who log ++ frees c.args.frame.q ks) c.deref.ensures.value)
