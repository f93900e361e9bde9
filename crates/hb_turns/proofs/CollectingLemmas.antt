-- What is collected, over the turns of all callers.
use Rattle.std.proofs.Common.{◌≡◌, ℕ, List, [], ◌∷◌, ◌++◌, Option, refl, sym, ap, ◌∙◌, subst, append_assoc, append-nil}
use Rattle.std.proofs.lemmas.List.{append_cancel_left}
use mathlib.Core.List.{IsPrefix}
use Rattle.hb_tree.specs.Table.{Table}
use Rattle.hb_deriv.specs.declared.raw.Derivation.{Derivation}
use Rattle.hb_names.specs.Names.{Name}
use Rattle.hb_tables.specs.declared.entry.Act.{Act}
use Rattle.hb_tables.specs.declared.entry.Entry.{Entry}
use Rattle.hb_tables.specs.Answers.{Fixed}
use Rattle.hb_tables.specs.Frames.{acts}
use Rattle.hb_tables.specs.History.{entry}
use Rattle.hb_call.specs.GrowthLaws.{prefix_itself, prefix_more}
use Rattle.hb_call.specs.declared.share.Share.{Share}
use Rattle.hb_call.specs.Sharing.{collected}
use Rattle.hb_eval.specs.Gathering.{Gathers, Shares}
use Rattle.hb_eval.specs.Staying.{Stays}
use Rattle.hb_eval.proofs.GatheringLemmas.{one_longer, shares_on}
use Rattle.hb_turns.specs.Collecting.{AreCollected, Collects}
use Rattle.hb_turns.specs.Playing.{Came, entries_by}
use Rattle.hb_turns.proofs.PlayingLemmas.{came_acts}

collects_longer : (t : Table) (names known : List Name) → IsPrefix names known → (before came : List Entry) (old new : Option (List Derivation)) → Collects t names before came old new → Collects t known before came old new
collects_longer t names known more before [] old new h = h
collects_longer t names known more before (e ∷ es) old new h =
    (h.0, one_longer t names known more (acts e.caller.0 before) e.act old h.0 h.1, collects_longer t names known more (before ++ e ∷ []) es h.0 new h.2)

collects_behind : (t : Table) (names : List Name) (before l m : List Entry) (old mid new : Option (List Derivation)) → Collects t names before l old mid → Collects t names (before ++ l) m mid new
    → Collects t names before (l ++ m) old new
collects_behind t names before [] m old mid new p q =
    subst (λ (o : Option (List Derivation)). Collects t names before m o new) p (subst (λ (b : List Entry). Collects t names b m mid new) (append-nil before) q)
collects_behind t names before (e ∷ l) m old mid new p q =
    (p.0, p.1, collects_behind t names (before ++ e ∷ []) l m p.0 mid new p.2 (subst (λ (b : List Entry). Collects t names b m mid new) (sym (append_assoc before (e ∷ []) l)) q))

pub collected_itself : (t : Table) (names : List Name) (log : List Entry) (s : Share) → AreCollected t names names log log s s
collected_itself t names log s = record { named = prefix_itself names; came = []; behind = sym (append-nil log); collects = refl }

pub collected_on : (t : Table) (names known longer : List Name) (past half now : List Entry) (old mid new : Share) → AreCollected t names known past half old mid → AreCollected t known longer half now mid new
    → AreCollected t names longer past now old new
collected_on t names known longer past half now old mid new p q = record {
  named = prefix_more names known longer p.named q.named;
  came = p.came ++ q.came;
  behind = q.behind ∙ ap (λ (l : List Entry). l ++ q.came) p.behind ∙ append_assoc past p.came q.came;
  collects = collects_behind t longer past p.came q.came (collected old) (collected mid) (collected new) (collects_longer t known longer q.named past p.came (collected old) (collected mid) p.collects)
      (subst (λ (b : List Entry). Collects t longer b q.came (collected mid) (collected new)) p.behind q.collects);
}

-- what one caller's acts add is what its entries add
entries_collect : (t : Table) (names : List Name) (c : ℕ) (before : List Entry) (l : List Act) (old new : Option (List Derivation)) → Gathers t names (acts c before) l old new
    → Collects t names before (entries_by c l) old new
entries_collect t names c before [] old new h = h
entries_collect t names c before (a ∷ l) old new h =
    let behind : acts c (before ++ entry c a ∷ []) ≡ acts c before ++ a ∷ [] = came_acts c (a ∷ []) before (before ++ entry c a ∷ []) (record { is = refl }) in
    (h.0, h.1, entries_collect t names c (before ++ entry c a ∷ []) l h.0 new (subst (λ (b : List Act). Gathers t names b l h.0 new) (sym behind) h.2))

-- what came through the door of a caller
pub collected_door : (t : Table) (c d : ℕ) (names longer : List Name) (past front now : List Entry) (old new : Share) → d ≡ c → front ≡ past → IsPrefix names longer
    → (came : (more : List Act) × Came c more past now) → Shares t longer d front now old new → AreCollected t names longer past now old new
collected_door t c d names longer past front now old new mine there more came shares = record {
  named = more;
  came = entries_by c came.0;
  behind = sym came.1.is;
  collects = entries_collect t longer c past came.0 (collected old) (collected new) (subst (λ (l : List Act). Gathers t longer (acts c past) l (collected old) (collected new)) same here.gathers);
}
  where
    here : Shares t longer c past now old new
    here = subst (λ (x : ℕ). Shares t longer x past now old new) mine (subst (λ (l : List Entry). Shares t longer d l now old new) there shares)

    same : here.made ≡ came.0
    same = append_cancel_left (acts c past) here.made came.0 (sym here.grows ∙ came_acts c came.0 past now came.1)

-- one turn more through a door that is still the same
pub shared_on : (t : Table) (door mid latest : Fixed) (names known longer : List Name) (past half now : List Entry) (old then new : Share) → Stays door mid past half names known → Stays mid latest half now known longer
    → Shares t known door.caller past half old then → Shares t longer mid.caller half now then new → Shares t longer door.caller past now old new
shared_on t door mid latest names known longer past half now old then new first stays p q =
    shares_on t known longer door.caller past half now old then new stays.named p (subst (λ (d : Fixed). Shares t longer d.caller half now then new) first.fixed q)
