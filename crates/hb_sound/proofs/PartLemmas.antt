-- Each part of a judged expression is reached with some variables, is judged from these, and looks at no other keys.
use Rattle.std.proofs.Common.{◌≡◌, ◌∙◌, inl, inr, ℕ, Ok, refl, sym, subst, List}
use Rattle.hb_types.specs.declared.types.Ty.{Ty}
use Rattle.hb_types.specs.Variables.{Variables}
use Rattle.hb_tree.specs.Table.{Table}
use Rattle.hb_tree.specs.Tree.{Tree, Forest}
use Rattle.hb_deriv.specs.Judge.{Key, Types, Typed, judge}
use Rattle.hb_deriv.specs.Judgement.{Judged, JudgedItems, JudgedArgs, JudgedNil, JudgedTrue, JudgedFalse, JudgedSelf, JudgedInt, JudgedText, JudgedVar, JudgedNew, JudgedAssign, JudgedPrint, JudgedToStr, JudgedNot, JudgedBinary, JudgedIf, JudgedWhile, JudgedCall, JudgedDef, JudgedDefComputed, JudgedDeclare, JudgedDeclareComputed, JudgedBlock, JudgedNoItem, JudgedItem, JudgedNoArg, JudgedArg}
use Rattle.hb_deriv.specs.Events.{events, events_items, events_args}
use Rattle.hb_deriv.proofs.JudgementLemmas.{judge_of}
use Rattle.hb_names.specs.Names.{Name}
use Rattle.hb_tables.specs.Rows.{types_in}
use Rattle.hb_sound.specs.Bodies.{IsJudgedIn}
use Rattle.hb_sound.specs.Frames.{Frame, Holds}
use Rattle.hb_sound.specs.Parts.{Gives, IsAt, IsPart, IsPartAmong, IsReached, IsReachedAmong}
use Rattle.hb_sound.specs.Sound.{LooksIn}
use Rattle.hb_sound.proofs.SoundLemmas.{looks_first, looks_then}

-- the tree is judged from these variables, and looks at these keys alone
record PartJudged (Uses : Key → Type 0) (types : Types) (me : ℕ) (x : Tree) (H : Variables) : Type 0 where
  behind : Variables
  ty : Ty
  judged : Judged types me H x behind ty
  looks : LooksIn Uses (events types me x H)

module _ (Uses : Key → Type 0) (types : Types) (me : ℕ) (x : Tree) (H : Variables) where
  itself : {G behind : Variables} {e : Tree} {ty : Ty} → IsAt x H e G → Judged types me G e behind ty → LooksIn Uses (events types me e G) → PartJudged Uses types me x H
  itself {G} {behind} {e} {ty} is h u =
      subst (λ (y : Tree). PartJudged Uses types me y H) (sym is.0)
      (subst (λ (K : Variables). PartJudged Uses types me e K) (sym is.1) (record { behind = behind; ty = ty; judged = h; looks = u }))

  -- what holds behind a part holds behind what it was judged to leave
  past : {G G1 : Variables} {e : Tree} {s : Ty} {P : Typed → Type 0} → Judged types me G e G1 s → Gives (judge types me e G) P → P (G1, s)
  past {G} {G1} {e} {s} {P} h g =
      let both : Ok g.value ≡ Ok (G1, s) = sym g.is ∙ judge_of h in
      let same : g.value ≡ (G1, s) = cc in subst P same g.holds

  mutual
    part : {G behind : Variables} {e : Tree} {ty : Ty} → Judged types me G e behind ty → LooksIn Uses (events types me e G) → IsReached types me x H e G → PartJudged Uses types me x H
    part (JudgedNil {G = G}) u is = itself {G = G} is JudgedNil u
    part (JudgedTrue {G = G}) u is = itself {G = G} is JudgedTrue u
    part (JudgedFalse {G = G}) u is = itself {G = G} is JudgedFalse u
    part (JudgedSelf {G = G}) u is = itself {G = G} is JudgedSelf u
    part (JudgedInt {G = G}) u is = itself {G = G} is JudgedInt u
    part (JudgedText {G = G}) u is = itself {G = G} is JudgedText u
    part (JudgedVar h) u is = itself is (JudgedVar h) u
    part (JudgedNew {G = G}) u is = itself {G = G} is JudgedNew u
    part (JudgedAssign h) u (inl is) = itself is (JudgedAssign h) u
    part (JudgedAssign h) u (inr p) = part h (looks_first _ _ _ u) p
    part (JudgedPrint h) u (inl is) = itself is (JudgedPrint h) u
    part (JudgedPrint h) u (inr p) = part h (looks_first _ _ _ u) p
    part (JudgedToStr h) u (inl is) = itself is (JudgedToStr h) u
    part (JudgedToStr h) u (inr p) = part h (looks_first _ _ _ u) p
    part (JudgedNot h) u (inl is) = itself is (JudgedNot h) u
    part (JudgedNot h) u (inr p) = part h (looks_first _ _ _ u) p
    part (JudgedBinary h k p q) u (inl is) = itself is (JudgedBinary h k p q) u
    part (JudgedBinary h k p q) u (inr (inl i)) = part h (looks_first _ _ _ u) i
    part (JudgedBinary h k p q) u (inr (inr i)) = part k (looks_first _ _ _ (looks_then _ _ _ _ _ (judge_of h) u)) (past h i)
    part (JudgedIf h k l) u (inl is) = itself is (JudgedIf h k l) u
    part (JudgedIf h k l) u (inr (inl i)) = part h (looks_first _ _ _ u) i
    part (JudgedIf h k l) u (inr (inr i)) =
        let v = looks_then _ _ _ _ _ (judge_of h) u in
        elim (past h i) [ inl j ↦ part k (looks_first _ _ _ v) j | inr j ↦ part l (looks_first _ _ _ (looks_then _ _ _ _ _ (judge_of k) v)) j ]
    part (JudgedWhile h k p) u (inl is) = itself is (JudgedWhile h k p) u
    part (JudgedWhile h k p) u (inr (inl i)) = part h (looks_first _ _ _ u) i
    part (JudgedWhile h k p) u (inr (inr i)) = part k (looks_first _ _ _ (looks_then _ _ _ _ _ (judge_of h) u)) (past h i)
    part (JudgedCall h k p n q) u (inl is) = itself is (JudgedCall h k p n q) u
    part (JudgedCall h k p n q) u (inr (inl i)) = part h (looks_first _ _ _ u) i
    part (JudgedCall h k p n q) u (inr (inr i)) = part_args k (looks_first _ _ _ (looks_then _ _ _ _ _ (judge_of h) u)) (past h i)
    part (JudgedDef {G = G}) u is = itself {G = G} is JudgedDef u
    part (JudgedDefComputed h p) u (inl is) = itself is (JudgedDefComputed h p) u
    part (JudgedDefComputed h p) u (inr i) = part h (looks_first _ _ _ u) i
    part (JudgedDeclare {G = G}) u is = itself {G = G} is JudgedDeclare u
    part (JudgedDeclareComputed h p) u (inl is) = itself is (JudgedDeclareComputed h p) u
    part (JudgedDeclareComputed h p) u (inr i) = part h (looks_first _ _ _ u) i
    part (JudgedBlock h) u (inl is) = itself is (JudgedBlock h) u
    part (JudgedBlock h) u (inr i) = part_items h u i

    part_items : {G behind : Variables} {es : Forest} {r ty : Ty} → JudgedItems types me G es r behind ty → LooksIn Uses (events_items types me es G r) → IsReachedAmong types me x H es G → PartJudged Uses types me x H
    part_items JudgedNoItem u i = absurd i
    part_items (JudgedItem h k) u (inl i) = part h (looks_first _ _ _ u) i
    part_items (JudgedItem h k) u (inr i) = part_items k (looks_then _ _ _ _ _ (judge_of h) u) (past h i)

    part_args : {G behind : Variables} {es : Forest} {ss ts : List Ty} → JudgedArgs types me G es ss behind ts → LooksIn Uses (events_args types me es G ss) → IsReachedAmong types me x H es G → PartJudged Uses types me x H
    part_args JudgedNoArg u i = absurd i
    part_args (JudgedArg h k) u (inl i) = part h (looks_first _ _ _ u) i
    part_args (JudgedArg h k) u (inr i) = part_args k (looks_then _ _ _ _ _ (judge_of h) u) (past h i)

-- ── each part is reached ──

module _ (types : Types) (me : ℕ) (x : Tree) where
  gives : {G G1 : Variables} {e : Tree} {s : Ty} {P : Typed → Type 0} → Judged types me G e G1 s → P (G1, s) → Gives (judge types me e G) P
  gives {G} {G1} {e} {s} h p = record { value = (G1, s); is = judge_of h; holds = p }

  mutual
    reached : {G behind : Variables} {e : Tree} {ty : Ty} → Judged types me G e behind ty → IsPart x e → (H : Variables) × IsReached types me x H e G
    reached (JudgedNil {G = G}) is = (G, (is, refl))
    reached (JudgedTrue {G = G}) is = (G, (is, refl))
    reached (JudgedFalse {G = G}) is = (G, (is, refl))
    reached (JudgedSelf {G = G}) is = (G, (is, refl))
    reached (JudgedInt {G = G}) is = (G, (is, refl))
    reached (JudgedText {G = G}) is = (G, (is, refl))
    reached (JudgedVar {G = G} h) is = (G, (is, refl))
    reached (JudgedNew {G = G}) is = (G, (is, refl))
    reached (JudgedAssign {G = G} h) (inl is) = (G, inl (is, refl))
    reached (JudgedAssign h) (inr i) = let r = reached h i in (r.0, inr r.1)
    reached (JudgedPrint {G = G} h) (inl is) = (G, inl (is, refl))
    reached (JudgedPrint h) (inr i) = let r = reached h i in (r.0, inr r.1)
    reached (JudgedToStr {G = G} h) (inl is) = (G, inl (is, refl))
    reached (JudgedToStr h) (inr i) = let r = reached h i in (r.0, inr r.1)
    reached (JudgedNot {G = G} h) (inl is) = (G, inl (is, refl))
    reached (JudgedNot h) (inr i) = let r = reached h i in (r.0, inr r.1)
    reached (JudgedBinary {G = G} h k p q) (inl is) = (G, inl (is, refl))
    reached (JudgedBinary h k p q) (inr (inl i)) = let r = reached h i in (r.0, inr (inl r.1))
    reached (JudgedBinary h k p q) (inr (inr i)) = let r = reached k i in (r.0, inr (inr (gives h r.1)))
    reached (JudgedIf {G = G} h k l) (inl is) = (G, inl (is, refl))
    reached (JudgedIf h k l) (inr (inl i)) = let r = reached h i in (r.0, inr (inl r.1))
    reached (JudgedIf h k l) (inr (inr (inl i))) = let r = reached k i in (r.0, inr (inr (gives h (inl r.1))))
    reached (JudgedIf h k l) (inr (inr (inr i))) = let r = reached l i in (r.0, inr (inr (gives h (inr r.1))))
    reached (JudgedWhile {G = G} h k p) (inl is) = (G, inl (is, refl))
    reached (JudgedWhile h k p) (inr (inl i)) = let r = reached h i in (r.0, inr (inl r.1))
    reached (JudgedWhile h k p) (inr (inr i)) = let r = reached k i in (r.0, inr (inr (gives h r.1)))
    reached (JudgedCall {G = G} h k p n q) (inl is) = (G, inl (is, refl))
    reached (JudgedCall h k p n q) (inr (inl i)) = let r = reached h i in (r.0, inr (inl r.1))
    reached (JudgedCall h k p n q) (inr (inr i)) = let r = reached_args k i in (r.0, inr (inr (gives h r.1)))
    reached (JudgedDef {G = G}) is = (G, (is, refl))
    reached (JudgedDefComputed {G = G} h p) (inl is) = (G, inl (is, refl))
    reached (JudgedDefComputed h p) (inr i) = let r = reached h i in (r.0, inr r.1)
    reached (JudgedDeclare {G = G}) is = (G, (is, refl))
    reached (JudgedDeclareComputed {G = G} h p) (inl is) = (G, inl (is, refl))
    reached (JudgedDeclareComputed h p) (inr i) = let r = reached h i in (r.0, inr r.1)
    reached (JudgedBlock {G = G} h) (inl is) = (G, inl (is, refl))
    reached (JudgedBlock h) (inr i) = let r = reached_items h i in (r.0, inr r.1)

    reached_items : {G behind : Variables} {es : Forest} {r ty : Ty} → JudgedItems types me G es r behind ty → IsPartAmong x es → (H : Variables) × IsReachedAmong types me x H es G
    reached_items JudgedNoItem i = absurd i
    reached_items (JudgedItem h k) (inl i) = let r = reached h i in (r.0, inl r.1)
    reached_items (JudgedItem h k) (inr i) = let r = reached_items k i in (r.0, inr (gives h r.1))

    reached_args : {G behind : Variables} {es : Forest} {ss ts : List Ty} → JudgedArgs types me G es ss behind ts → IsPartAmong x es → (H : Variables) × IsReachedAmong types me x H es G
    reached_args JudgedNoArg i = absurd i
    reached_args (JudgedArg h k) (inl i) = let r = reached h i in (r.0, inl r.1)
    reached_args (JudgedArg h k) (inr i) = let r = reached_args k i in (r.0, inr (gives h r.1))

-- ── the law ──

module _ (t : Table) (names : List Name) (c : ℕ) (f : Frame) (me : ℕ) (G behind : Variables) (e : Tree) (ty : Ty) (j : IsJudgedIn t names c f me G e behind ty) (x : Tree) where
  pub parts_reached : IsPart x e → (H : Variables) × IsReached (types_in t names f.before) me x H e G
  parts_reached i = reached (types_in t names f.before) me x j.judged i

  pub parts_judged : (H : Variables) → IsReached (types_in t names f.before) me x H e G → (after : Variables) × (u : Ty) × IsJudgedIn t names c f me H x after u
  parts_judged H i =
      let p = part (Holds t names c f) (types_in t names f.before) me x H j.judged j.held i in
      (p.behind, p.ty, record { judged = p.judged; held = p.looks })
