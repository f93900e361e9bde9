-- What is read of a text names only what the program has.
use Rattle.std.proofs.Common.{◌≡◌, ℕ, ◌+◌, ◌<◌, List, [], ◌∷◌, ◌++◌, length, Bool, true, false, refl, sym, subst}
use Rattle.std.specs.Prelude.{Option, Some, None, Result, Ok, Err, nat_eq, bytes_eq, codes, if◌then◌else◌}
use Rattle.std.specs.Option.{option_map}
use Rattle.std.proofs.lemmas.List.Elements.{All-nil, All-push, All-same}
use Rattle.hb_types.specs.declared.ids.NodeId.{NodeId}
use Rattle.hb_types.specs.declared.types.Ty.{Ty}
use Rattle.hb_types.specs.declared.types.Ty.TheVariants as ty
use Rattle.hb_types.specs.declared.types.MethodTy.{MethodTy}
use Rattle.hb_tree.specs.declared.node.Placed.{Placed}
use Rattle.hb_tree.specs.declared.parts.Body.{Body}
use Rattle.hb_tree.specs.Table.{Table}
use Rattle.hb_tree.specs.Nodes.{node_at, place_at}
use Rattle.hb_tree.specs.Program.{IsExprNode}
use Rattle.hb_deriv.specs.declared.raw.Used.{Used}
use Rattle.hb_deriv.specs.declared.raw.Step.{Step}
use Rattle.hb_deriv.specs.Derivation.{Content}
use Rattle.hb_deriv_text.specs.Text.{head_word, IsUseIn, IsTypeIn, IsStepIn}
use Rattle.hb_deriv_text.specs.declared.stage.Stage.{Stage}
use Rattle.hb_deriv_text.specs.declared.stage.Stage.TheVariants as stage
use Rattle.hb_deriv_text.specs.Reading.{behind, split, first, is_word, named, place_in, same_place, is_expr, is_expr_at, expr_there, body_there, type_there, class_type, type_in, Head, head_in}
use Rattle.hb_deriv_text.specs.Reading.{use_in, step_in, Draft, nothing, begun, with_use, with_step, ended, step_or_end, use_or_more, with_line_at, with_line, is_ended, go_on, read_from, read_of}
use Rattle.hb_deriv_text.specs.Written.{IsOfExpression, IsSayable}
use Rattle.hb_deriv.specs.declared.raw.RawDerivation.{RawDerivation}
use Rattle.hb_deriv_text.specs.declared.texts.DerivFail.{DerivFail}
use Rattle.hb_deriv_text.specs.declared.texts.DerivFail.TheVariants as fail
use Rattle.hb_deriv_text.specs.Text.{raw_content_of}
use Rattle.hb_deriv_text.specs.Reads.{ReadsLines, Reads}
use Rattle.hb_deriv_text.proofs.SpellingLemmas.{then_some, both_true}
use Rattle.hb_deriv_text.proofs.ReadLemmas.{there, same_content}
use Rattle.hb_deriv_text.proofs.FirstLemmas.{place_of}
use Rattle.hb_deriv_text.proofs.FoundLemmas.{within, passed}

same_some : {Z : Type 0} (x z : Z) → Some x ≡ Some z → x ≡ z
same_some x z h = cc

-- ── words ──

inside : {X : Type 0} (passes : X → Bool) (xs : List X) (i : ℕ) → first passes 0 xs ≡ Some i → i < length xs
inside passes xs i h = let r = there passes xs i h in within xs i r.found r.there

body_inside : (t : Table) (word : List ℕ) (i : ℕ) → body_there t word ≡ Some i → i < length t.bodies
body_inside t word i h = let a = then_some (place_in word) _ i h in inside (λ (b : Body). same_place a.0 (place_at t b.def.0)) t.bodies i a.2

type_inside : (t : Table) (word : List ℕ) (i : ℕ) → type_there t word ≡ Some i → i < length t.types
type_inside t word i h = let a = then_some (place_in word) _ i h in inside (λ (y : MethodTy × NodeId). same_place a.0 (place_at t y.1.0)) t.types i a.2

record IsExprInside (t : Table) (i : ℕ) : Type 0 where
  pub inside : i < length t.nodes
  pub expr : IsExprNode (node_at t i)

expr_inside : (t : Table) (word : List ℕ) (i : ℕ) → expr_there t word ≡ Some i → IsExprInside t i
expr_inside t word i h =
    let a = then_some (place_in word) _ i h in
    let r = there (is_expr_at a.0) t.nodes i a.2 in
    record {
      inside = within t.nodes i r.found r.there;
      expr = subst (λ (o : Option Placed). IsExprNode (option_map (λ (p : Placed). p.node) o)) (sym r.there)
          (passed r.found.node (both_true (is_expr r.found.node) (same_place a.0 (Some (place_of r.found))) r.passed).0);
    }

type_known : (t : Table) (word : List ℕ) (y : Ty) → type_in t word ≡ Some y → IsTypeIn t y
unfolding IsTypeIn
type_known t word y = plain
  where
    class : (o : Option ℕ) → named t.classes word ≡ o → class_type o ≡ Some y → IsTypeIn t y
    class None e h = absurd (cc)
    class (Some c) e h = subst (IsTypeIn t) (same_some (ty.Class (record { 0 = c })) y h) (inside (is_word word) t.classes c e)

    case : (other : Option Ty) (u : Ty) (b : Bool) → IsTypeIn t u → (other ≡ Some y → IsTypeIn t y) → (if b then Some u else other) ≡ Some y → IsTypeIn t y
    case other u true known rest h = subst (IsTypeIn t) (same_some u y h) known
    case other u false known rest h = rest h

    plain : type_in t word ≡ Some y → IsTypeIn t y
    plain = case _ ty.Nil _ tt (case _ ty.Bool _ tt (case _ ty.Int _ tt (case _ ty.Str _ tt (case _ ty.Any _ tt (class (named t.classes word) refl)))))

-- ── lines ──

use_fits : (t : Table) (line : List ℕ) (u : Used) → use_in t line ≡ Some u → IsUseIn t u
use_fits t line u h =
    let w = then_some (behind (codes "use ") line) _ u h in
    let p = then_some (split 46 w.0) _ u w.2 in
    let q = then_some (split 32 p.0.1) _ u p.2 in
    let c = then_some (named t.classes p.0.0) _ u q.2 in
    let n = then_some (named t.names q.0.0) _ u c.2 in
    let s = then_some (type_there t q.0.1) _ u n.2 in
    subst (IsUseIn t) (same_some (record { class = record { 0 = c.0 }; name = record { 0 = n.0 }; site = record { 0 = s.0 } }) u s.2) (record {
      class = inside (is_word p.0.0) t.classes c.0 c.1;
      name = inside (is_word q.0.0) t.names n.0 n.1;
      site = type_inside t q.0.1 s.0 s.1;
    })

-- a step of an expression of the program
record IsStepOf (t : Table) (s : Step) : Type 0 where
  pub fits : IsStepIn t s
  pub expr : IsOfExpression t s

step_fits : (t : Table) (line : List ℕ) (s : Step) → step_in t line ≡ Some s → IsStepOf t s
step_fits t line s h =
    let w = then_some (behind (codes "step ") line) _ s h in
    let p = then_some (split 32 w.0) _ s w.2 in
    let n = then_some (expr_there t p.0.0) _ s p.2 in
    let y = then_some (type_in t p.0.1) _ s n.2 in
    let e = expr_inside t p.0.0 n.0 n.1 in
    subst (IsStepOf t) (same_some (record { node = record { 0 = n.0 }; ty = y.0 }) s y.2) (record {
      fits = record { node = e.inside; ty = type_known t p.0.1 y.0 y.1 };
      expr = e.expr;
    })

record IsHeadOf (t : Table) (d : Head) : Type 0 where
  pub class : d.class < length t.classes
  pub body : d.body < length t.bodies
  pub declared : d.declared < length t.types

head_fits : (t : Table) (line : List ℕ) (d : Head) → head_in t line ≡ Some d → IsHeadOf t d
head_fits t line d h =
    let w = then_some (behind head_word line) _ d h in
    let p = then_some (split 32 w.0) _ d w.2 in
    let q = then_some (split 32 p.0.1) _ d p.2 in
    let c = then_some (named t.classes p.0.0) _ d q.2 in
    let b = then_some (body_there t q.0.0) _ d c.2 in
    let s = then_some (type_there t q.0.1) _ d b.2 in
    subst (IsHeadOf t) (same_some (record { class = c.0; body = b.0; declared = s.0 }) d s.2) (record {
      class = inside (is_word p.0.0) t.classes c.0 c.1;
      body = body_inside t q.0.0 b.0 b.1;
      declared = type_inside t q.0.1 s.0 s.1;
    })

-- ── a whole text ──

-- behind a first line, the lines so far make a derivation of the program
abbrev pub IsBehindHead : Table → Stage → Content → Type 0
IsBehindHead t stage.Head c = ⊥
IsBehindHead t _ c = IsSayable t c

-- before it nothing was said
abbrev pub IsSound : Table → Stage → Content → Type 0
IsSound t stage.Head c = (c.uses ≡ []) × (c.steps ≡ [])
IsSound t _ c = IsSayable t c

pub sound_behind : (t : Table) (s : Stage) (c : Content) → IsBehindHead t s c → IsSound t s c
sound_behind t stage.Head c h = absurd h
sound_behind t stage.Uses c h = h
sound_behind t stage.Steps c h = h
sound_behind t stage.Ended c h = h

same_draft : (t : Table) (x d : Draft) → Some x ≡ Some d → IsBehindHead t x.stage x.content → IsBehindHead t d.stage d.content
same_draft t x d e h = subst (λ (y : Draft). IsBehindHead t y.stage y.content) (same_some x d e) h

end_fits : (t : Table) (c : Content) (line : List ℕ) (d : Draft) → IsSayable t c → ended c line ≡ Some d → IsBehindHead t d.stage d.content
end_fits t c line d sound = go (bytes_eq line (codes "end"))
  where
    go : (b : Bool) → (if b then Some (record { stage = stage.Ended; content = c }) else None) ≡ Some d → IsBehindHead t d.stage d.content
    go true h = same_draft t (record { stage = stage.Ended; content = c }) d h sound
    go false h = absurd (cc)

step_or_end_fits : (t : Table) (c : Content) (line : List ℕ) (d : Draft) → IsSayable t c → step_or_end c line (step_in t line) ≡ Some d → IsBehindHead t d.stage d.content
step_or_end_fits t c line d sound = go (step_in t line) refl
  where
    go : (o : Option Step) → step_in t line ≡ o → step_or_end c line o ≡ Some d → IsBehindHead t d.stage d.content
    go (Some s) e h =
        let is = step_fits t line s e in
        same_draft t (with_step c s) d h (record {
          fits = record {
            class = sound.fits.class;
            body = sound.fits.body;
            declared = sound.fits.declared;
            uses = sound.fits.uses;
            steps = All-push (IsStepIn t) c.steps s sound.fits.steps is.fits;
          };
          steps = All-push (IsOfExpression t) c.steps s sound.steps is.expr;
        })
    go None e h = end_fits t c line d sound h

use_or_more_fits : (t : Table) (c : Content) (line : List ℕ) (d : Draft) → IsSayable t c → use_or_more t c line (use_in t line) ≡ Some d → IsBehindHead t d.stage d.content
use_or_more_fits t c line d sound = go (use_in t line) refl
  where
    go : (o : Option Used) → use_in t line ≡ o → use_or_more t c line o ≡ Some d → IsBehindHead t d.stage d.content
    go (Some u) e h = same_draft t (with_use c u) d h (record {
      fits = record {
        class = sound.fits.class;
        body = sound.fits.body;
        declared = sound.fits.declared;
        uses = All-push (IsUseIn t) c.uses u sound.fits.uses (use_fits t line u e);
        steps = sound.fits.steps;
      };
      steps = sound.steps;
    })
    go None e h = step_or_end_fits t c line d sound h

first_line_fits : (t : Table) (c : Content) (line : List ℕ) (d : Draft) → c.uses ≡ [] → c.steps ≡ [] → option_map (begun c) (head_in t line) ≡ Some d → IsBehindHead t d.stage d.content
first_line_fits t c line d no_use no_step = go (head_in t line) refl
  where
    go : (o : Option Head) → head_in t line ≡ o → option_map (begun c) o ≡ Some d → IsBehindHead t d.stage d.content
    go (Some h) e k =
        let is = head_fits t line h e in
        same_draft t (begun c h) d k (record {
          fits = record {
            class = is.class;
            body = is.body;
            declared = is.declared;
            uses = All-same (IsUseIn t) c.uses [] no_use (All-nil (IsUseIn t));
            steps = All-same (IsStepIn t) c.steps [] no_step (All-nil (IsStepIn t));
          };
          steps = All-same (IsOfExpression t) c.steps [] no_step (All-nil (IsOfExpression t));
        })
    go None e k = absurd (cc)

pub line_fits : (t : Table) (s : Stage) (c : Content) (line : List ℕ) (d : Draft) → IsSound t s c → with_line_at t s c line ≡ Some d → IsBehindHead t d.stage d.content
line_fits t stage.Head c line d o h = first_line_fits t c line d o.0 o.1 h
line_fits t stage.Uses c line d o h = use_or_more_fits t c line d o h
line_fits t stage.Steps c line d o h = step_or_end_fits t c line d o h
line_fits t stage.Ended c line d o h = absurd (cc)

fits : (t : Table) (d : Draft) (at : ℕ) (line bytes : List ℕ) (c : Content) → IsSound t d.stage d.content → read_from t d at line bytes ≡ Ok c → IsSayable t c
fits t d at [] [] c o h = ends d.stage d.content o h
  where
    ends : (s : Stage) (x : Content) → IsSound t s x → (if is_ended s then Ok x else Err at) ≡ Ok c → IsSayable t c
    ends stage.Head x o h = absurd (cc)
    ends stage.Uses x o h = absurd (cc)
    ends stage.Steps x o h = absurd (cc)
    ends stage.Ended x o h = subst (IsSayable t) (same_content x c h) o
fits t d at (b ∷ line) [] c o h = absurd (cc)
fits t d at line (b ∷ bytes) c o h = go (nat_eq b 10) h (λ z p k. fits t z (at + length line + 1) [] bytes c p k) (λ k. fits t d at (line ++ b ∷ []) bytes c o k)
  where
    behind_feed : (next : Option Draft) → with_line t d line ≡ next → go_on at next (λ z. read_from t z (at + length line + 1) [] bytes) ≡ Ok c
        → ((z : Draft) → IsSound t z.stage z.content → read_from t z (at + length line + 1) [] bytes ≡ Ok c → IsSayable t c) → IsSayable t c
    behind_feed None k h rest = absurd (cc)
    behind_feed (Some z) k h rest = rest z (sound_behind t z.stage z.content (line_fits t d.stage d.content line z o k)) h

    go : (x : Bool) → (if x then go_on at (with_line t d line) (λ z. read_from t z (at + length line + 1) [] bytes) else read_from t d at (line ++ b ∷ []) bytes) ≡ Ok c
        → ((z : Draft) → IsSound t z.stage z.content → read_from t z (at + length line + 1) [] bytes ≡ Ok c → IsSayable t c)
        → (read_from t d at (line ++ b ∷ []) bytes ≡ Ok c → IsSayable t c) → IsSayable t c
    go true h rest other = behind_feed (with_line t d line) refl h rest
    go false h rest other = other h

pub read_fits : (t : Table) (bytes : List ℕ) (c : Content) → read_of t bytes ≡ Ok c → IsSayable t c
read_fits t bytes c h = fits t nothing 0 [] bytes c (refl, refl) h

pub lines_fit : (t : Table) (bytes : List ℕ) (r : Result RawDerivation DerivFail) → ReadsLines t bytes r → Reads t bytes r
lines_fit t bytes (Ok raw) h = record { says = h; sayable = read_fits t bytes (raw_content_of raw) h }
lines_fit t bytes (Err (fail.BadText at)) h = h
lines_fit t bytes (Err fail.NoMemory) h = tt
