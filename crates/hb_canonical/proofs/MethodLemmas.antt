-- The alternatives of methods, parameters and types: what they do to the work, and what their deeds are.
use Rattle.std.proofs.Common.{◌≡◌, ℕ, zero, suc, ◌+◌, ◌-◌, ◌≤◌, List, [], ◌∷◌, ◌++◌, length, take, Bool, refl, sym, ◌∙◌, ap, subst, arith, append_assoc, length-append}
use Rattle.std.specs.Prelude.{slice_get}
use Rattle.std.proofs.lemmas.List.{append-nil}
use Rattle.hb_types.specs.declared.{types.Ty.Ty, types.MethodTy.MethodTy, types.TheConstants.PARAMS_MAX}
use Rattle.hb_types.specs.declared.types.Ty.TheVariants as ty
use Rattle.hb_tree.specs.declared.limits.TheConstants.{CONSTRUCTS_MAX}
use Rattle.hb_tree.specs.Tree.{Tree, TDef, TDefComputed, TDeclare, TDeclareComputed, id_of}
use Rattle.hb_tree.proofs.Lists.{slice_get-begins}
use Rattle.hb_draft.specs.Made.{Given}
use Rattle.hb_draft.proofs.Lists.{slice_get-last}
use Rattle.hb_grammar.specs.declared.actions.Action.TheVariants as a
use Rattle.hb_grammar.specs.declared.symbols.Sort.TheVariants as g
use Rattle.hb_grammar.specs.declared.symbols.Symbol.TheVariants.{Phrase as N, Action as A}
use Rattle.hb_build.specs.declared.held.Spot.{Spot}
use Rattle.hb_build.specs.Said.{Said}
use Rattle.hb_build.specs.Pile.{Slot, Operand, Closed, Own, Declaring, OfClass, Parameter, OfType, ParameterType, Body, parameters_on, below_parameters, types_on, below_types}
use Rattle.hb_build.specs.Acts.{Work, Goes, closed, define, declare, giving, typing, method_ty, filled}
use Rattle.hb_canonical.specs.Deeds.{Deed, deed, plain, name, class, type_deed}
use Rattle.hb_canonical.proofs.PlainLemmas.{plainly, plain_names, plain_types, plain_parameters, plain_signature}
use Rattle.hb_canonical.proofs.ConstructLemmas.{constructs, shielded, max-fits, shielded-least}
use Rattle.hb_canonical.proofs.EffectLemmas.{Later, Inside, Moves, Does, begins-same, inside-then, later-then, still, next, anew, puts, at-pile}
use Rattle.hb_canonical.proofs.ActionLemmas.{does-open, does-close, does-open_word, does-hold_declare, does-hold_class, does-hold_class_type, does-hold_type}
use Rattle.hb_canonical.proofs.ActionLemmas.{does-hold_parameter, does-name_method, does-compute_method, does-begin_body, does-add_parameter_type}
use Rattle.hb_canonical.proofs.PhraseLemmas.{Head, Plain, Computes, slot_of, head_deeds, head_constructs, ParametersMore, TypesMore, Way}
use Rattle.hb_canonical.proofs.BlockLemmas.{block_ends}

-- ── definitions and declarations by their method ──

abbrev def_tree : Head → ℕ → ℕ → Tree → Tree
def_tree (Plain c m) id site b = TDef id c m site b
def_tree (Computes c e) id site b = TDefComputed id c e site b

abbrev declare_tree : Head → ℕ → ℕ → Bool → Tree
declare_tree (Plain c m) id site asks = TDeclare id c m site asks
declare_tree (Computes c e) id site asks = TDeclareComputed id c e site asks

plain_def : (s : Said) (head : Head) (id site : ℕ) (b : Tree) (ds : List Deed)
    → plain a.OpenWord ∷ head_deeds s head (plain_parameters s (slice_get s.bodies site) (plain a.BeginBody ∷ plainly s b (plain a.PutDef ∷ ds))) ≡ plainly s (def_tree head id site b) ds
plain_def s (Plain c m) id site b ds = refl
plain_def s (Computes c e) id site b ds = refl

plain_declare : (s : Said) (head : Head) (id site : ℕ) (asks : Bool) (ds : List Deed)
    → plain a.HoldDeclare ∷ head_deeds s head (plain_signature s (slice_get s.types site) (plain (a.PutDeclare asks) ∷ ds)) ≡ plainly s (declare_tree head id site asks) ds
plain_declare s (Plain c m) id site asks ds = refl
plain_declare s (Computes c e) id site asks ds = refl

def-fits : (head : Head) (id site : ℕ) (b : Tree) (d m : ℕ) → d + 2 ≤ m → d + 1 + head_constructs head ≤ m → d + 1 + constructs b ≤ m
    → d + shielded 5 (def_tree head id site b) (constructs (def_tree head id site b)) ≤ m
def-fits (Plain c n) id site b d m two head block = let all = max-fits (d + 1) 1 (constructs b) m (omega arith) block in omega arith
def-fits (Computes c e) id site b d m two head block = let all = max-fits (d + 1) (1 + constructs e) (constructs b) m head block in omega arith

declare-fits : (head : Head) (id site : ℕ) (asks : Bool) (d m : ℕ) → d + 1 ≤ m → d + head_constructs head ≤ m
    → d + shielded 0 (declare_tree head id site asks) (constructs (declare_tree head id site asks)) ≤ m
declare-fits (Plain c n) id site asks d m one head = omega arith
declare-fits (Computes c e) id site asks d m one head = omega arith

no_parameters : (head : Head) (pile : List Slot) → parameters_on (slot_of head ∷ pile) ≡ []
no_parameters (Plain c m) pile = refl
no_parameters (Computes c e) pile = refl

below_no_parameters : (head : Head) (pile : List Slot) → below_parameters (slot_of head ∷ pile) ≡ slot_of head ∷ pile
below_no_parameters (Plain c m) pile = refl
below_no_parameters (Computes c e) pile = refl

no_types : (head : Head) (pile : List Slot) → types_on (slot_of head ∷ pile) ≡ []
no_types (Plain c m) pile = refl
no_types (Computes c e) pile = refl

below_no_types : (head : Head) (pile : List Slot) → below_types (slot_of head ∷ pile) ≡ slot_of head ∷ pile
below_no_types (Plain c m) pile = refl
below_no_types (Computes c e) pile = refl

-- ── what completes them ──

module _ (w : Work) (ds : List Deed) (v : Work) (es : List Deed) where
  defined : (params : List ℕ) (b : Tree) (head : Head) (q : Spot) (pile : List Slot) (u : Work) → define params b (slot_of head ∷ Own q ∷ pile) u ≡ Goes v
      → Moves (giving params b u).said v (Operand (def_tree head (length u.said.places) (length u.said.bodies) b) ∷ pile) u.depth
  defined params b (Plain c m) q pile u h = puts q (λ id. TDef id c m (length u.said.bodies) b) Operand pile (giving params b u) v h
  defined params b (Computes c e) q pile u h = puts q (λ id. TDefComputed id c e (length u.said.bodies) b) Operand pile (giving params b u) v h

  does-put_def : (b : Tree) (over : List Slot) (head : Head) (q : Spot) (pile : List Slot) → w.pile ≡ Closed b ∷ Body ∷ over → below_parameters over ≡ slot_of head ∷ Own q ∷ pile → Does a.PutDef w ds v es
      → Moves w.said v (Operand (def_tree head (length w.said.places) (length w.said.bodies) b) ∷ pile) (w.depth - 1)
      × ((s : Said) (rest : List Deed) → Later v.said s → plain_parameters s (slice_get s.bodies (length w.said.bodies)) rest ≡ plain_names s (parameters_on over) rest)
  does-put_def b over head q pile is below d =
      let u : Work = closed (record w { pile = Closed b ∷ Body ∷ over }) in
      let params : List ℕ = parameters_on over in
      let given : Given = record { def = length w.said.places; block = id_of b; params = params } in
      let h = subst (λ (x : List Slot). define params b x u ≡ Goes v) below (at-pile a.PutDef d.spot d.bytes w v (Closed b ∷ Body ∷ over) is d.goes) in
      let m = defined params b head q pile u h in
      let mine : Inside w.said (giving params b u).said = record {
        later = record { classes = begins-same w.said.classes; names = begins-same w.said.names; texts = begins-same w.said.texts; bodies = (given ∷ [], refl); types = begins-same w.said.types };
        classes = refl;
        setup = refl;
        scripts = refl;
      } in (
        record { inside = inside-then mine m.inside; pile_is = m.pile_is; depth_is = m.depth_is },
        λ s rest later.
            ap (λ o. plain_parameters s o rest) (slice_get-begins (w.said.bodies ++ given ∷ []) s.bodies (later-then m.inside.later later).bodies (length w.said.bodies) given (slice_get-last w.said.bodies given)),
      )

  declared : (type : MethodTy) (asks : Bool) (head : Head) (q : Spot) (pile : List Slot) (u : Work) → declare type asks (slot_of head ∷ Declaring q ∷ pile) u ≡ Goes v
      → Moves (typing type u).said v (Operand (declare_tree head (length u.said.places) (length u.said.types) asks) ∷ pile) u.depth
  declared type asks (Plain c m) q pile u h = puts q (λ id. TDeclare id c m (length u.said.types) asks) Operand pile (typing type u) v h
  declared type asks (Computes c e) q pile u h = puts q (λ id. TDeclareComputed id c e (length u.said.types) asks) Operand pile (typing type u) v h

  take-filled : (n : ℕ) (types : List Ty) → length types ≤ n → take (length types) (filled n types) ≡ types
  take-filled n [] few = refl
  take-filled zero (y ∷ types) few = absurd (omega arith)
  take-filled (suc n) (y ∷ types) few = ap (λ (ys : List Ty). y ∷ ys) (take-filled n types (omega arith))

  does-put_declare : (asks : Bool) (y : Ty) (over : List Slot) (head : Head) (q : Spot) (pile : List Slot) → w.pile ≡ OfType y ∷ over → below_types over ≡ slot_of head ∷ Declaring q ∷ pile
      → length (types_on over) ≤ PARAMS_MAX → Does (a.PutDeclare asks) w ds v es
      → Moves w.said v (Operand (declare_tree head (length w.said.places) (length w.said.types) asks) ∷ pile) w.depth
      × ((s : Said) (rest : List Deed) → Later v.said s → plain_signature s (slice_get s.types (length w.said.types)) rest ≡ plain_types s (types_on over) (type_deed s y ∷ rest))
  does-put_declare asks y over head q pile is below few d =
      let u : Work = record w { pile = OfType y ∷ over } in
      let type : MethodTy = method_ty (types_on over) y in
      let site : MethodTy × ℕ = (type, length w.said.places) in
      let h = subst (λ (x : List Slot). declare type asks x u ≡ Goes v) below (at-pile (a.PutDeclare asks) d.spot d.bytes w v (OfType y ∷ over) is d.goes) in
      let m = declared type asks head q pile u h in
      let mine : Inside w.said (typing type u).said = record {
        later = record { classes = begins-same w.said.classes; names = begins-same w.said.names; texts = begins-same w.said.texts; bodies = begins-same w.said.bodies; types = (site ∷ [], refl) };
        classes = refl;
        setup = refl;
        scripts = refl;
      } in (
        record { inside = inside-then mine m.inside; pile_is = m.pile_is; depth_is = m.depth_is },
        λ s rest later.
            ap (λ o. plain_signature s o rest) (slice_get-begins (w.said.types ++ site ∷ []) s.types (later-then m.inside.later later).types (length w.said.types) site (slice_get-last w.said.types site))
            ∙ ap (λ ys. plain_types s ys (type_deed s y ∷ rest)) (take-filled PARAMS_MAX (types_on over) few),
      )

-- ── the alternatives ──

module _ (w : Work) (ds : List Deed) (on : Work → List Deed → Type 0) where
  pub method : Way (A a.HoldClass ∷ N g.MethodName ∷ []) w ds on → Way (N g.Method ∷ []) w ds on
  method (v1, e1, d, (v2, e2, f, k)) =
      let h = does-hold_class w ds v1 e1 d in
      let m1 : Moves w.said v1 (OfClass h.0 d.spot ∷ w.pile) w.depth = h.1 in
      let r = f h.0 d.spot w.pile m1.pile_is in
      let a1 : v1.depth ≡ w.depth = m1.depth_is in (
        v2,
        e2,
        record {
          head = r.head;
          moves = anew (next m1 r.moves) refl a1;
          deeds = λ s later. d.heard ∙ ap (λ b. deed a.HoldClass b ∷ e1) (sym (h.2 s (later-then r.moves.inside.later later))) ∙ r.deeds s later;
          fits = λ n. let all = r.fits (omega arith) in omega arith;
        },
        k,
      )

  pub plain_method : Way (A a.NameMethod ∷ []) w ds on → Way (N g.MethodName ∷ []) w ds on
  plain_method (v, es, d, k) = (
    v,
    es,
    λ c q pile is.
        let h = does-name_method w ds v es c q pile is d in
        record {
          head = Plain c h.0;
          moves = h.1;
          deeds = λ s later. ap (λ rest. class s a.HoldClass c ∷ rest) (d.heard ∙ ap (λ b. deed a.NameMethod b ∷ es) (sym (h.2 s later)));
          fits = λ n. omega arith;
        },
    k,
  )

  pub computed_method : Way (A a.Open ∷ N g.Expression ∷ A a.Close ∷ A a.ComputeMethod ∷ []) w ds on → Way (N g.MethodName ∷ []) w ds on
  computed_method (v1, e1, d1, (v2, e2, r, (v3, e3, d3, (v4, e4, d4, k)))) = (
    v4,
    e4,
    λ c q pile is.
        let o = does-open w ds v1 e1 d1 in
        let m1 : Moves w.said v1 w.pile (w.depth + 1) = o.0 in
        let room : w.depth + 1 ≤ CONSTRUCTS_MAX = o.1 in
        let m3 = does-close v2 e2 v3 e3 d3 in
        let m4 = does-compute_method v3 e3 v4 e4 r.tree c q pile (m3.pile_is ∙ r.moves.pile_is ∙ ap (λ p. Operand r.tree ∷ p) (m1.pile_is ∙ is)) d4 in
        let a1 : v1.depth ≡ w.depth + 1 = m1.depth_is in
        let a2 : v2.depth ≡ v1.depth = r.moves.depth_is in
        let a3 : v3.depth ≡ v2.depth - 1 = m3.depth_is in
        let all = r.fits (omega arith) in
        let least = shielded-least 0 r.tree (constructs r.tree) in
        record {
          head = Computes c r.tree;
          moves = anew (next m1 (next r.moves (next m3 m4))) refl (omega arith);
          deeds = λ s later.
              ap (λ rest. class s a.HoldClass c ∷ rest)
              (d1.heard ∙ r.deeds s (later-then m3.inside.later (later-then m4.inside.later later)) ∙ ap (plainly s r.tree) (d3.heard ∙ d4.heard));
          fits = λ n. omega arith;
        },
    k,
  )

  -- ── parameters ──

  pub no_parameter : on w ds → (v : Work) × (es : List Deed) × ParametersMore w ds v es × on v es
  no_parameter k = (w, ds, record { more = []; on_is = sym (append-nil (parameters_on w.pile)); below_is = refl; moves = still w; deeds = λ s later. refl }, k)

  pub one_parameter : Way (A a.HoldParameter ∷ N g.MoreParameters ∷ []) w ds on → (v : Work) × (es : List Deed) × ParametersMore w ds v es × on v es
  one_parameter (v1, e1, d, (v2, e2, more, k)) =
      let h = does-hold_parameter w ds v1 e1 d in
      let m1 : Moves w.said v1 (Parameter h.0 ∷ w.pile) w.depth = h.1 in (
        v2,
        e2,
        record {
          more = h.0 ∷ more.more;
          on_is = more.on_is ∙ ap (λ p. parameters_on p ++ more.more) m1.pile_is ∙ append_assoc (parameters_on w.pile) (h.0 ∷ []) more.more;
          below_is = more.below_is ∙ ap below_parameters m1.pile_is;
          moves = anew (next m1 more.moves) refl m1.depth_is;
          deeds = λ s later. d.heard ∙ ap (λ b. deed a.HoldParameter b ∷ e1) (sym (h.2 s (later-then more.moves.inside.later later))) ∙ ap (λ rest. name s a.HoldParameter h.0 ∷ rest) (more.deeds s later);
        },
        k,
      )

  -- ── types ──

  pub class_type : Way (A a.HoldClassType ∷ []) w ds on → Way (N g.TypeWord ∷ []) w ds on
  class_type (v, es, d, k) =
      let h = does-hold_class_type w ds v es d in
      (v, es, record { type = ty.Class (record { 0 = h.0 }); moves = h.1; deeds = λ s later. d.heard ∙ ap (λ b. deed a.HoldClassType b ∷ es) (sym (h.2 s later)) }, k)

  pub word_type : (y : Ty) → ((s : Said) → plain (a.HoldType y) ≡ type_deed s y) → Way (A (a.HoldType y) ∷ []) w ds on → Way (N g.TypeWord ∷ []) w ds on
  word_type y same (v, es, d, k) = (v, es, record { type = y; moves = does-hold_type w ds v es y d; deeds = λ s later. d.heard ∙ ap (λ x. x ∷ es) (same s) }, k)

  pub no_type : on w ds → (v : Work) × (es : List Deed) × TypesMore w ds v es × on v es
  no_type k = (w, ds, record { more = []; on_is = sym (append-nil (types_on w.pile)); below_is = refl; moves = still w; deeds = λ s later. refl; few = λ n. n }, k)

  pub one_type : Way (N g.TypeWord ∷ A a.AddParameterType ∷ N g.MoreTypes ∷ []) w ds on → (v : Work) × (es : List Deed) × TypesMore w ds v es × on v es
  one_type (v1, e1, y, (v2, e2, d, (v3, e3, more, k))) =
      let h = does-add_parameter_type v1 e1 v2 e2 y.type w.pile y.moves.pile_is d in
      let m2 : Moves v1.said v2 (ParameterType y.type ∷ w.pile) v1.depth = h.0 in
      let room : length (types_on w.pile) + 1 ≤ PARAMS_MAX = h.1 in
      let a1 : v1.depth ≡ w.depth = y.moves.depth_is in
      let a2 : v2.depth ≡ v1.depth = m2.depth_is in
      let grown : types_on v2.pile ≡ types_on w.pile ++ y.type ∷ [] = ap types_on m2.pile_is in (
        v3,
        e3,
        record {
          more = y.type ∷ more.more;
          on_is = more.on_is ∙ ap (λ ys. ys ++ more.more) grown ∙ append_assoc (types_on w.pile) (y.type ∷ []) more.more;
          below_is = more.below_is ∙ ap below_types m2.pile_is;
          moves = anew (next y.moves (next m2 more.moves)) refl (a2 ∙ a1);
          deeds = λ s later.
              let g2 = later-then more.moves.inside.later later in
              y.deeds s (later-then m2.inside.later g2) ∙ ap (λ rest. type_deed s y.type ∷ rest) (d.heard ∙ ap (λ rest. plain a.AddParameterType ∷ rest) (more.deeds s later));
          few = λ n. more.few (omega (arith, ap length grown, length-append (types_on w.pile) (y.type ∷ [])));
        },
        k,
      )

  pub signature : Way (A a.Open ∷ N g.Types ∷ A a.Close ∷ N g.TypeWord ∷ []) w ds on → Way (N g.Signature ∷ []) w ds on
  signature (v1, e1, d1, (v2, e2, types, (v3, e3, d3, (v4, e4, y, k)))) =
      let o = does-open w ds v1 e1 d1 in
      let m1 : Moves w.said v1 w.pile (w.depth + 1) = o.0 in
      let room : w.depth + 1 ≤ CONSTRUCTS_MAX = o.1 in
      let m3 = does-close v2 e2 v3 e3 d3 in
      let a1 : v1.depth ≡ w.depth + 1 = m1.depth_is in
      let a2 : v2.depth ≡ v1.depth = types.moves.depth_is in
      let a3 : v3.depth ≡ v2.depth - 1 = m3.depth_is in
      let old : types_on v1.pile ≡ types_on w.pile = ap types_on m1.pile_is in
      let new : types_on v3.pile ≡ types_on v2.pile = ap types_on m3.pile_is in (
        v4,
        e4,
        record {
          more = types.more;
          result = y.type;
          pile = v3.pile;
          on_is = new ∙ types.on_is ∙ ap (λ ys. ys ++ types.more) old;
          below_is = ap below_types m3.pile_is ∙ types.below_is ∙ ap below_types m1.pile_is;
          moves = anew (next m1 (next types.moves (next m3 y.moves))) refl (omega arith);
          deeds = λ s later.
              let g3 = later-then y.moves.inside.later later in
              d1.heard ∙ types.deeds s (later-then m3.inside.later g3) ∙ ap (plain_types s types.more) (d3.heard ∙ y.deeds s later);
          few = λ n. let grown = types.few (omega (arith, ap length old)) in omega (arith, ap length new);
          room = room;
        },
        k,
      )

  -- ── definitions and declarations ──

  pub declares : (asks : Bool) → Way (A a.HoldDeclare ∷ N g.Method ∷ N g.Signature ∷ A (a.PutDeclare asks) ∷ []) w ds on → Way (N g.Expression ∷ []) w ds on
  declares asks (v1, e1, d1, (v2, e2, m, (v3, e3, sg, (v4, e4, d4, k)))) =
      let m1 = does-hold_declare w ds v1 e1 d1 in
      let before : v2.pile ≡ slot_of m.head ∷ Declaring d1.spot ∷ w.pile = m.moves.pile_is ∙ ap (λ p. slot_of m.head ∷ p) m1.pile_is in
      let below : below_types sg.pile ≡ slot_of m.head ∷ Declaring d1.spot ∷ w.pile = sg.below_is ∙ ap below_types before ∙ below_no_types m.head (Declaring d1.spot ∷ w.pile) in
      let none : types_on v2.pile ≡ [] = ap types_on before ∙ no_types m.head (Declaring d1.spot ∷ w.pile) in
      let mine : types_on sg.pile ≡ sg.more = sg.on_is ∙ ap (λ ys. ys ++ sg.more) none in
      let few = sg.few (omega (arith, ap length none)) in
      let h = does-put_declare v3 e3 v4 e4 asks sg.result sg.pile m.head d1.spot w.pile sg.moves.pile_is below few d4 in
      let m4 : Moves v3.said v4 (Operand (declare_tree m.head (length v3.said.places) (length v3.said.types) asks) ∷ w.pile) v3.depth = h.0 in
      let a1 : v1.depth ≡ w.depth = m1.depth_is in
      let a2 : v2.depth ≡ v1.depth = m.moves.depth_is in
      let a3 : v3.depth ≡ v2.depth = sg.moves.depth_is in
      let room : v2.depth + 1 ≤ CONSTRUCTS_MAX = sg.room in (
        v4,
        e4,
        record {
          tree = declare_tree m.head (length v3.said.places) (length v3.said.types) asks;
          moves = anew (next m1 (next m.moves (next sg.moves m4))) refl (omega arith);
          deeds = λ s later.
              let g3 = later-then m4.inside.later later in
              let g2 = later-then sg.moves.inside.later g3 in
              d1.heard
              ∙ ap (λ rest. plain a.HoldDeclare ∷ rest) (m.deeds s g2
              ∙ ap (head_deeds s m.head) (sg.deeds s g3
              ∙ ap (λ ys. plain_types s ys (type_deed s sg.result ∷ e3)) (sym mine)
              ∙ sym (h.1 s e3 later)
              ∙ ap (plain_signature s (slice_get s.types (length v3.said.types))) d4.heard))
              ∙ plain_declare s m.head (length v3.said.places) (length v3.said.types) asks e4;
          fits = λ n. let head = m.fits (omega arith) in declare-fits m.head (length v3.said.places) (length v3.said.types) asks w.depth CONSTRUCTS_MAX (omega arith) (omega arith);
        },
        k,
      )

  pub defines : Way (A a.OpenWord ∷ N g.Method ∷ A a.Open ∷ N g.Parameters ∷ A a.Close ∷ A a.BeginBody ∷ N g.Block ∷ A a.EndBlock ∷ A a.PutDef ∷ []) w ds on → Way (N g.Value ∷ []) w ds on
  defines (v1, e1, d1, (v2, e2, m, (v3, e3, d3, (v4, e4, ps, (v5, e5, d5, (v6, e6, d6, (v7, e7, b, (v8, e8, d8, (v9, e9, d9, k))))))))) =
      let o1 = does-open_word w ds v1 e1 d1 in
      let m1 : Moves w.said v1 (Own d1.spot ∷ w.pile) (w.depth + 1) = o1.0 in
      let room : w.depth + 1 ≤ CONSTRUCTS_MAX = o1.1 in
      let o3 = does-open v2 e2 v3 e3 d3 in
      let m3 : Moves v2.said v3 v2.pile (v2.depth + 1) = o3.0 in
      let room' : v2.depth + 1 ≤ CONSTRUCTS_MAX = o3.1 in
      let m5 = does-close v4 e4 v5 e5 d5 in
      let m6 = does-begin_body v5 e5 v6 e6 d6 in
      let c = block_ends v6 e6 on v7 e7 b v8 e8 d8 in
      let before : v3.pile ≡ slot_of m.head ∷ Own d1.spot ∷ w.pile = m3.pile_is ∙ m.moves.pile_is ∙ ap (λ p. slot_of m.head ∷ p) m1.pile_is in
      let below : below_parameters v4.pile ≡ slot_of m.head ∷ Own d1.spot ∷ w.pile = ps.below_is ∙ ap below_parameters before ∙ below_no_parameters m.head (Own d1.spot ∷ w.pile) in
      let mine : parameters_on v4.pile ≡ ps.more = ps.on_is ∙ ap (λ xs. xs ++ ps.more) (ap parameters_on before ∙ no_parameters m.head (Own d1.spot ∷ w.pile)) in
      let top : v8.pile ≡ Closed c.tree ∷ Body ∷ v4.pile = c.moves.pile_is ∙ ap (λ p. Closed c.tree ∷ p) (m6.pile_is ∙ ap (λ p. Body ∷ p) m5.pile_is) in
      let h = does-put_def v8 e8 v9 e9 c.tree v4.pile m.head d1.spot w.pile top below d9 in
      let m9 : Moves v8.said v9 (Operand (def_tree m.head (length v8.said.places) (length v8.said.bodies) c.tree) ∷ w.pile) (v8.depth - 1) = h.0 in
      let a1 : v1.depth ≡ w.depth + 1 = m1.depth_is in
      let a2 : v2.depth ≡ v1.depth = m.moves.depth_is in
      let a3 : v3.depth ≡ v2.depth + 1 = m3.depth_is in
      let a4 : v4.depth ≡ v3.depth = ps.moves.depth_is in
      let a5 : v5.depth ≡ v4.depth - 1 = m5.depth_is in
      let a6 : v6.depth ≡ v5.depth = m6.depth_is in
      let a8 : v8.depth ≡ v6.depth = c.moves.depth_is in (
        v9,
        e9,
        record {
          tree = def_tree m.head (length v8.said.places) (length v8.said.bodies) c.tree;
          moves = anew (next m1 (next m.moves (next m3 (next ps.moves (next m5 (next m6 (next c.moves m9))))))) refl (omega arith);
          deeds = λ s later.
              let g8 = later-then m9.inside.later later in
              let g6 = later-then c.moves.inside.later g8 in
              let g4 = later-then m5.inside.later (later-then m6.inside.later g6) in
              let g2 = later-then m3.inside.later (later-then ps.moves.inside.later g4) in
              d1.heard
              ∙ ap (λ rest. plain a.OpenWord ∷ rest) (m.deeds s g2
              ∙ ap (head_deeds s m.head) (d3.heard ∙ ps.deeds s g4
              ∙ ap (λ xs. plain_names s xs e4) (sym mine)
              ∙ sym (h.1 s e4 later)
              ∙ ap (plain_parameters s (slice_get s.bodies (length v8.said.bodies))) (d5.heard ∙ d6.heard
              ∙ ap (λ rest. plain a.BeginBody ∷ rest) (c.deeds s g8 ∙ ap (plainly s c.tree) d9.heard))))
              ∙ plain_def s m.head (length v8.said.places) (length v8.said.bodies) c.tree e9;
          fits = λ n.
              let head = m.fits (omega arith) in
              let block = c.fits (omega arith) in
              def-fits m.head (length v8.said.places) (length v8.said.bodies) c.tree w.depth CONSTRUCTS_MAX (omega arith) (omega arith) (omega arith);
        },
        k,
      )
