use Rattle.std.proofs.Common.{◌≡◌, ◌≤◌, ℕ, List, [], ◌∷◌, ◌++◌, length, get_or, set, sym, ap, ◌∙◌, refl, subst, arith, append_assoc, length-append}
use Rattle.std.proofs.lemmas.List.{append-nil, set-get_or}
use Rattle.std.proofs.lemmas.Option.{slice_get_past, none-some}
use Rattle.once_cell.specs.declared.race.note.Note.{Note}
use Rattle.hb_shared.specs.declared.cells.Published.{Published}
use Rattle.hb_shared.specs.Notes.{cell_of, said_by}
use Rattle.hb_shared.proofs.NoteLemmas.{as_many, pair_cell, compared}
use Rattle.hb_shared.proofs.notes.compare_each.Goals as goal
use Rattle.hb_shared.proofs.notes.compare_each.Goals.{After-index_mut}

-- the rest after the last of the front
split : (whole front gone others : List (Note Published)) (other : Note Published) → whole ≡ front ++ other ∷ [] → whole ++ gone ≡ others → front ++ other ∷ gone ≡ others
split whole front gone others other e w = sym (append_assoc front (other ∷ []) gone) ∙ ap (λ (l : List (Note Published)). l ++ gone) (sym e) ∙ w

-- what stands there stands there
moved : (notes first : List (Note Published)) (at end : ℕ) (note : Note Published) → notes ≡ first → at ≡ end → note ≡ get_or notes at note → get_or first end note ≡ note
moved notes first at end note e is here = ap (λ (l : List (Note Published)). get_or l end note) (sym e) ∙ ap (λ (k : ℕ). get_or notes k note) (sym is) ∙ sym here

-- a note in its own place
put_back : (notes first : List (Note Published)) (at : ℕ) (note new : Note Published) → notes ≡ first → new ≡ note → note ≡ get_or notes at note → set notes at new ≡ first
put_back notes first at note new e same here = ap (set notes at) (same ∙ here) ∙ set-get_or notes at note ∙ e

pub compare-requires : goal.compare-requires
compare-requires c =
    let left = c.loop-other.invariant.left in
    let same = c.requires.same in
    pair_cell same.0 c.pop.new.self.items left.0 c.args.notes.now.items c.args.others.items c.index_mut.result.now c.in-Some.other
    (split c.loop-other.others.items c.pop.new.self.items left.0 c.args.others.items c.in-Some.other c.in-Some.ensures.items left.1) same.1 same.2
    (moved c.loop-other.notes.items c.args.notes.now.items c.len.result (length c.pop.new.self.items) c.index_mut.result.now
    c.loop-other.invariant.kept (c.len.ensures ∙ c.pop.new.self.ok.0) c.index_mut.ensures.value)

pub loop-other-init : goal.loop-other-init
loop-other-init c = record {
  kept = refl;
  left = ([], append-nil c.args.others.items);
  agree = λ at published other past mine theirs. absurd (none-some other (sym (ap said_by (slice_get_past c.args.others.items at past)) ∙ theirs));
}

pub loop-other-preserved : goal.loop-other-preserved
loop-other-preserved c =
    let left = c.loop-other.invariant.left in
    let same = c.requires.same in
    let whole = split c.loop-other.others.items c.pop.new.self.items left.0 c.args.others.items c.in-Some.other c.in-Some.ensures.items left.1 in
    record {
      kept = put_back c.loop-other.notes.items c.args.notes.now.items c.len.result c.index_mut.result.now c.compare.new.self
          c.loop-other.invariant.kept c.compare.ensures.0 c.index_mut.ensures.value;
      left = (c.in-Some.other ∷ left.0, whole);
      agree = compared c.pop.new.self.items left.0 c.args.notes.now.items c.args.others.items c.index_mut.result.now c.in-Some.other whole
          (as_many cell_of cell_of c.args.notes.now.items c.args.others.items (same.1 ∙ sym same.2))
          (moved c.loop-other.notes.items c.args.notes.now.items c.len.result (length c.pop.new.self.items) c.index_mut.result.now
          c.loop-other.invariant.kept (c.len.ensures ∙ c.pop.new.self.ok.0) c.index_mut.ensures.value)
          c.compare.ensures.1
          (λ at x y low. c.loop-other.invariant.agree at x y (subst (λ (l : List (Note Published)). length l ≤ at) (sym
          c.in-Some.ensures.items) (omega (arith, low, length-append c.pop.new.self.items (c.in-Some.other ∷ [])))));
    }
