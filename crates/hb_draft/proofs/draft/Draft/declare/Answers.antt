use Rattle.std.proofs.Common.{◌≡◌, length, arith}
use Rattle.hb_draft.proofs.{MadeLemmas.declare-made, Heights.low-kept, Heights.length-kept}
use Rattle.hb_draft.proofs.Sites.{CanDeclare, declare_kept, declare_made}
use Rattle.hb_draft.proofs.draft.Draft.declare.Goals as goal

pub invariant_of-self-in-Ok : goal.invariant_of-self-in-Ok
invariant_of-self-in-Ok c =
    let site : c.len-site.result ≡ length c.self.inside.types.items = omega (arith, c.len-site.ensures, c.self.inside.types.ok) in
    let id : c.len.result ≡ length c.self.inside.nodes.items = omega (arith, c.len.ensures, c.self.inside.nodes.ok) in
    let can : CanDeclare c.args.self.now c.args.class.0 c.args.name.0 c.args.ty = record
    { room = c.requires.room; known_class = c.requires.class; known_name = c.requires.name; known_ty = c.requires.ty; few = c.requires.types } in
    rw (c.in-Ok.ensures.nodes, c.in-Ok.ensures.hand, c.in-Ok.ensures.heights, c.in_ok-push.ensures.items, c.placed.ensures, site, id)
    (declare_kept _ _ c.self.view_is _ c.self.invariant c.args.place c.args.class c.args.name c.args.ty c.args.asks can)

pub returns-in-Ok-clause-put : goal.returns-in-Ok-clause-put
returns-in-Ok-clause-put c =
    let site : c.len-site.result ≡ length c.self.inside.types.items = omega (arith, c.len-site.ensures, c.self.inside.types.ok) in
    let id : c.len.result ≡ length c.self.inside.nodes.items = omega (arith, c.len.ensures, c.self.inside.nodes.ok) in
    let can : CanDeclare c.args.self.now c.args.class.0 c.args.name.0 c.args.ty = record
    { room = c.requires.room; known_class = c.requires.class; known_name = c.requires.name; known_ty = c.requires.ty; few = c.requires.types } in
    rw (c.in-Ok.ensures.nodes, c.in-Ok.ensures.hand, c.in_ok-push.ensures.items, c.placed.ensures, site, id)
    (declare_made _ _ c.self.view_is _ c.self.invariant c.args.place c.args.class c.args.name c.args.ty c.args.asks can)

pub returns-in-Ok-clause-made : goal.returns-in-Ok-clause-made
returns-in-Ok-clause-made c = declare-made _ _ c.args.place c.args.class.0 c.args.name.0 c.args.ty c.args.asks (returns-in-Ok-clause-put c)

pub push_node-requires-clause-heights : goal.push_node-requires-clause-heights
push_node-requires-clause-heights c = length-kept _ _ _ c.self.invariant

pub push_node-requires-clause-low : goal.push_node-requires-clause-low
push_node-requires-clause-low c = low-kept _ _ _ c.self.invariant
