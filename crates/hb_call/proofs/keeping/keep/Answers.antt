use Rattle.std.proofs.Common.{◌++◌, None, Ok, ap, refl, subst, ◌∙◌}
use Rattle.hb_tables.specs.Frames.{acts}
use Rattle.hb_call.specs.declared.ruling.Ended.{Ended}
use Rattle.hb_call.specs.Entering.{IsOwnAtEnd, MayUndo}
use Rattle.hb_call.specs.Held.{frees}
use Rattle.hb_call.specs.Sharing.{collected}
use Rattle.hb_call.proofs.GrowthLemmas.{others_frees}
use Rattle.hb_call.proofs.HeldLemmas.{all_stand, none_stand}
use Rattle.hb_call.proofs.KeepingLemmas.{kept_own, kept_shares, kept_true}
use Rattle.hb_call.proofs.keeping.keep.Goals as goal

pub free_keys-requires : goal.free_keys-requires
free_keys-requires g c =
    let who = (g.D.Desk.fixed c.args.desk.now).caller in let log = g.D.Desk.front c.args.desk.now in
    record { held = rw c.deref.ensures.value (all_stand who c.in-Fresh.frame.q c.in-Fresh.frame.held.items log (subst (MayUndo who log) c.in-Fresh.is c.requires.held)) }

pub returns-in-Ok-clause-own : goal.returns-in-Ok-clause-own
returns-in-Ok-clause-own g c given past known asked door own cache h =
    let log = g.D.Desk.front c.args.desk.now in
    kept_own given past known asked log c.args.answers.now c.args.own c.args.cache.now c.put.new.cache c.in-Fresh.frame c.in-Fresh.derivation own cache
    (subst (λ (e : Ended). IsOwnAtEnd given past known asked log c.args.answers.now (Ok e)) c.in-Fresh.is h) c.in-Ok.ensures.put

pub returns-in-Ok-clause-checks : goal.returns-in-Ok-clause-checks
returns-in-Ok-clause-checks g c given known asked door own cache h =
    let log = g.D.Desk.front c.args.desk.now in
    kept_own given None known asked log c.args.answers.now c.args.own c.args.cache.now c.put.new.cache c.in-Fresh.frame c.in-Fresh.derivation own cache
    (subst (λ (e : Ended). IsOwnAtEnd given None known asked log c.args.answers.now (Ok e)) c.in-Fresh.is h) c.in-Ok.ensures.put

pub returns-in-Err-clause-checks : goal.returns-in-Err-clause-checks
returns-in-Err-clause-checks g c given known asked door own cache h =
    let log = g.D.Desk.front c.args.desk.now in
    kept_true given known asked log (g.D.Desk.front c.free_keys.new.desk) c.args.answers.now c.args.own c.args.cache.now c.put.new.cache c.in-Fresh.frame c.in-Fresh.derivation own cache c.free_keys.ensures.kept
    (subst (λ (e : Ended). IsOwnAtEnd given None known asked log c.args.answers.now (Ok e)) c.in-Fresh.is h) c.in-Err.ensures.unput

pub returns-in-Ok-clause-collects : goal.returns-in-Ok-clause-collects
returns-in-Ok-clause-collects g c given known asked door own cache h =
    let log = g.D.Desk.front c.args.desk.now in
    kept_shares given None known asked log c.args.answers.now c.args.own c.args.cache.now c.put.new.cache c.in-Fresh.frame c.in-Fresh.derivation (collected c.args.share.now) (collected c.put.new.share) own cache
    (subst (λ (e : Ended). IsOwnAtEnd given None known asked log c.args.answers.now (Ok e)) c.in-Fresh.is h) c.in-Ok.ensures.put c.in-Ok.ensures.shared

pub returns-in-Err-clause-undone : goal.returns-in-Err-clause-undone
returns-in-Err-clause-undone g c =
    let who = (g.D.Desk.fixed c.args.desk.now).caller in let old = g.D.Desk.front c.args.desk.now in let new = g.D.Desk.front c.free_keys.new.desk in
    let q = c.in-Fresh.frame.q in let keys = c.in-Fresh.frame.held.items in
    let freed = c.free_keys.ensures.acts ∙ ap (λ ks. acts who old ++ frees q ks) c.deref.ensures.value in (
      refl,
      record {
        frame = c.in-Fresh.frame;
        d = c.in-Fresh.derivation;
        is = c.in-Fresh.is;
        none = none_stand who q keys old new (subst (MayUndo who old) c.in-Fresh.is c.requires.held) freed;
        others = λ p other. others_frees who p q old new keys freed other;
      },
    )
