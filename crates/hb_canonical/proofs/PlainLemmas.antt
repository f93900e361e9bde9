-- The deeds of what is said without parentheses, with others behind.
use Rattle.std.proofs.Common.{◌≡◌, ℕ, List, [], ◌∷◌, ◌++◌, map, Bool, true, false, Option, Some, None, refl, ap, ◌∙◌, append_assoc}
use Rattle.std.specs.Prelude.{slice_get, nat_lt, if◌then◌else◌}
use Rattle.std.specs.{List.flat_map, Fmt.signed_decimal}
use Rattle.hb_types.specs.declared.{types.Ty.Ty, types.MethodTy.MethodTy}
use Rattle.hb_types.specs.declared.types.Ty.TheVariants as ty
use Rattle.hb_types.specs.Types.{params_of as param_types_of}
use Rattle.hb_tree.specs.Tree.{Tree, TNil, TTrue, TFalse, TSelf, TInt, TText, TVar, TNew, TAssign, TPrint, TToStr, TNot, TBinary, TIf, TWhile, TCall, TDef, TDefComputed}
use Rattle.hb_tree.specs.Tree.{TDeclare, TDeclareComputed, TBlock, Forest, NoTree, Trees}
use Rattle.hb_tree.specs.Canon.{bytes_at, quoted, level, least_left, least_right}
use Rattle.hb_draft.specs.Made.{Given}
use Rattle.hb_grammar.specs.declared.actions.Action.{Action}
use Rattle.hb_grammar.specs.declared.actions.Action.TheVariants as a
use Rattle.hb_build.specs.Said.{Said}
use Rattle.hb_canonical.specs.Deeds.{Deed, deed, plain, name, class, type_deed, signature_of, parameters_of, boolean, wrap, arguments, own, each, class_deeds, setup_deeds, script_deeds, deeds_of, bare}

-- ── definitions ──

abbrev pub plain_names : Said → List ℕ → List Deed → List Deed
plain_names s [] ds = ds
plain_names s (x ∷ xs) ds = name s a.HoldParameter x ∷ plain_names s xs ds

abbrev pub plain_types : Said → List Ty → List Deed → List Deed
plain_types s [] ds = ds
plain_types s (y ∷ ys) ds = type_deed s y ∷ plain a.AddParameterType ∷ plain_types s ys ds

abbrev pub plain_signature : Said → Option (MethodTy × ℕ) → List Deed → List Deed
plain_signature s None ds = ds
plain_signature s (Some y) ds = plain_types s (param_types_of y.0) (type_deed s y.0.result ∷ ds)

abbrev pub plain_parameters : Said → Option Given → List Deed → List Deed
plain_parameters s None ds = ds
plain_parameters s (Some b) ds = plain_names s b.params ds

abbrev mutual
  pub plainly : Said → Tree → List Deed → List Deed
  plainly s (TNil id) ds = plain a.PutNil ∷ ds
  plainly s (TTrue id) ds = boolean true ∷ ds
  plainly s (TFalse id) ds = boolean false ∷ ds
  plainly s (TSelf id) ds = plain a.PutSelf ∷ ds
  plainly s (TInt id n) ds = deed a.PutNumber (signed_decimal n) ∷ ds
  plainly s (TText id x) ds = deed a.PutText (quoted (bytes_at s.texts x)) ∷ ds
  plainly s (TVar id x) ds = name s a.HoldName x ∷ plain a.PutVariable ∷ ds
  plainly s (TNew id c) ds = class s a.HoldClass c ∷ plain a.PutNew ∷ ds
  plainly s (TAssign id x e) ds = name s a.HoldName x ∷ plain a.OpenAssign ∷ plainly s e (plain a.PutAssign ∷ ds)
  plainly s (TPrint id e) ds = plain a.OpenWord ∷ plainly s e (plain a.PutPrint ∷ ds)
  plainly s (TToStr id e) ds = plain a.HoldStr ∷ plainly s e (plain a.PutStr ∷ ds)
  plainly s (TNot id e) ds = plain a.OpenWord ∷ plainly s e (plain a.PutNot ∷ ds)
  plainly s (TBinary id op l r) ds = plainly s l (plain a.HoldOperator ∷ plainly s r (plain (a.PutBinary op) ∷ ds))
  plainly s (TIf id c l r) ds = plain a.OpenWord ∷ plainly s c (plainly s l (plainly s r (plain a.PutIf ∷ ds)))
  plainly s (TWhile id c b) ds = plain a.OpenWord ∷ plainly s c (plainly s b (plain a.PutWhile ∷ ds))
  plainly s (TCall id r m args) ds = plainly s r (name s a.HoldCall m ∷ plain_each s a.AddArgument args (plain a.PutCall ∷ ds))
  plainly s (TDef id c m site b) ds =
      plain a.OpenWord ∷ class s a.HoldClass c ∷ name s a.NameMethod m
      ∷ plain_parameters s (slice_get s.bodies site) (plain a.BeginBody ∷ plainly s b (plain a.PutDef ∷ ds))
  plainly s (TDefComputed id c e site b) ds =
      plain a.OpenWord ∷ class s a.HoldClass c
      ∷ plainly s e (plain a.ComputeMethod ∷ plain_parameters s (slice_get s.bodies site) (plain a.BeginBody ∷ plainly s b (plain a.PutDef ∷ ds)))
  plainly s (TDeclare id c m site asks) ds =
      plain a.HoldDeclare ∷ class s a.HoldClass c ∷ name s a.NameMethod m ∷ plain_signature s (slice_get s.types site) (plain (a.PutDeclare asks) ∷ ds)
  plainly s (TDeclareComputed id c e site asks) ds =
      plain a.HoldDeclare ∷ class s a.HoldClass c
      ∷ plainly s e (plain a.ComputeMethod ∷ plain_signature s (slice_get s.types site) (plain (a.PutDeclare asks) ∷ ds))
  plainly s (TBlock id es) ds = plain a.BeginBlock ∷ plain_each s a.AddItem es (plain a.EndBlock ∷ ds)

  pub plain_each : Said → Action → Forest → List Deed → List Deed
  plain_each s joins NoTree ds = ds
  plain_each s joins (Trees e es) ds = plainly s e (plain joins ∷ plain_each s joins es ds)

abbrev pub plain_classes : List (List ℕ) → List Deed → List Deed
plain_classes [] ds = ds
plain_classes (c ∷ cs) ds = deed a.DeclareClass c ∷ plain_classes cs ds

abbrev pub plain_setup : Said → Option Tree → List Deed → List Deed
plain_setup s None ds = ds
plain_setup s (Some b) ds = plain a.BeginSetup ∷ plainly s b (plain a.EndSetup ∷ ds)

abbrev pub plain_scripts : Said → List (ℕ × Tree) → List Deed → List Deed
plain_scripts s [] ds = ds
plain_scripts s (script ∷ scripts) ds = name s a.BeginScript script.0 ∷ plainly s script.1 (plain a.EndScript ∷ plain_scripts s scripts ds)

-- ── they are the deeds without parentheses ──

-- a list of deeds with these, without parentheses, at its front
first : (ps qs : List Deed) (f : List Deed → List Deed) → ((ds : List Deed) → bare (ps ++ ds) ≡ f (bare ds))
    → (ds rest : List Deed) → bare (qs ++ ds) ≡ rest → bare ((ps ++ qs) ++ ds) ≡ f rest
first ps qs f h ds rest e = ap bare (append_assoc ps qs ds) ∙ h (qs ++ ds) ∙ ap f e

both : (ps qs : List Deed) (f g : List Deed → List Deed) → ((ds : List Deed) → bare (ps ++ ds) ≡ f (bare ds)) → ((ds : List Deed) → bare (qs ++ ds) ≡ g (bare ds))
    → (ds : List Deed) → bare ((ps ++ qs) ++ ds) ≡ f (g (bare ds))
both ps qs f g h k ds = first ps qs f h ds (g (bare ds)) (k ds)

bare_wrap : (least : ℕ) (e : Tree) (ps : List Deed) (f : List Deed → List Deed) → ((ds : List Deed) → bare (ps ++ ds) ≡ f (bare ds))
    → (ds : List Deed) → bare (wrap least e ps ++ ds) ≡ f (bare ds)
bare_wrap least e ps f h ds = by (nat_lt (level e) least)
  where
    by : (b : Bool) → bare ((if b then (plain a.Open ∷ (ps ++ plain a.Close ∷ [])) else ps) ++ ds) ≡ f (bare ds)
    by true = first ps (plain a.Close ∷ []) f h ds (bare ds) refl
    by false = h ds

bare_names : (s : Said) (xs : List ℕ) (ds : List Deed) → bare (map (name s a.HoldParameter) xs ++ ds) ≡ plain_names s xs (bare ds)
bare_names s [] ds = refl
bare_names s (x ∷ xs) ds = ap (λ r. name s a.HoldParameter x ∷ r) (bare_names s xs ds)

pub bare_type : (s : Said) (y : Ty) (ds : List Deed) → bare (type_deed s y ∷ ds) ≡ type_deed s y ∷ bare ds
bare_type s (ty.Class c) ds = refl
bare_type _ _ _ = refl

bare_types : (s : Said) (ys : List Ty) (ds : List Deed) → bare (flat_map (λ p. type_deed s p ∷ plain a.AddParameterType ∷ []) ys ++ ds) ≡ plain_types s ys (bare ds)
bare_types s [] ds = refl
bare_types s (y ∷ ys) ds =
    bare_type s y (plain a.AddParameterType ∷ (flat_map (λ p. type_deed s p ∷ plain a.AddParameterType ∷ []) ys ++ ds))
    ∙ ap (λ r. type_deed s y ∷ plain a.AddParameterType ∷ r) (bare_types s ys ds)

bare_signature : (s : Said) (o : Option (MethodTy × ℕ)) (ds : List Deed) → bare (signature_of s o ++ ds) ≡ plain_signature s o (bare ds)
bare_signature s None ds = refl
bare_signature s (Some y) ds =
    first (flat_map (λ p. type_deed s p ∷ plain a.AddParameterType ∷ []) (param_types_of y.0)) (plain a.Close ∷ type_deed s y.0.result ∷ [])
    (plain_types s (param_types_of y.0)) (bare_types s (param_types_of y.0)) ds (type_deed s y.0.result ∷ bare ds) (bare_type s y.0.result ds)

bare_parameters : (s : Said) (o : Option Given) (ds : List Deed) → bare (parameters_of s o ++ ds) ≡ plain_parameters s o (bare ds)
bare_parameters s None ds = refl
bare_parameters s (Some b) ds = first (map (name s a.HoldParameter) b.params) (plain a.Close ∷ []) (plain_names s b.params) (bare_names s b.params) ds (bare ds) refl

bare_arguments : (s : Said) (args : Forest) → ((ds : List Deed) → bare (each s a.AddArgument args ++ ds) ≡ plain_each s a.AddArgument args (bare ds))
    → (ds : List Deed) → bare (arguments args (each s a.AddArgument args) ++ ds) ≡ plain_each s a.AddArgument args (bare ds)
bare_arguments s NoTree h ds = refl
bare_arguments s (Trees e es) h ds = first (each s a.AddArgument (Trees e es)) (plain a.Close ∷ []) (plain_each s a.AddArgument (Trees e es)) h ds (bare ds) refl

-- the block of a definition
bare_body : (s : Said) (b : Tree) → ((ds : List Deed) → bare (own s b ++ ds) ≡ plainly s b (bare ds))
    → (ds : List Deed) → bare ((plain a.BeginBody ∷ (own s b ++ plain a.PutDef ∷ [])) ++ ds) ≡ plain a.BeginBody ∷ plainly s b (plain a.PutDef ∷ bare ds)
bare_body s b h ds = ap (λ rest. plain a.BeginBody ∷ rest) (first (own s b) (plain a.PutDef ∷ []) (plainly s b) h ds (plain a.PutDef ∷ bare ds) refl)

mutual
  pub bare_own : (s : Said) (e : Tree) (ds : List Deed) → bare (own s e ++ ds) ≡ plainly s e (bare ds)
  bare_own s (TAssign id x e) ds =
      ap (λ r. name s a.HoldName x ∷ plain a.OpenAssign ∷ r) (first (own s e) (plain a.PutAssign ∷ []) (plainly s e) (bare_own s e) ds (plain a.PutAssign ∷ bare ds) refl)
  bare_own s (TPrint id e) ds =
      ap (λ r. plain a.OpenWord ∷ r) (first (own s e) (plain a.PutPrint ∷ []) (plainly s e) (bare_own s e) ds (plain a.PutPrint ∷ bare ds) refl)
  bare_own s (TToStr id e) ds =
      ap (λ r. plain a.HoldStr ∷ r) (first (own s e) (plain a.Close ∷ plain a.PutStr ∷ []) (plainly s e) (bare_own s e) ds (plain a.PutStr ∷ bare ds) refl)
  bare_own s (TNot id e) ds =
      ap (λ r. plain a.OpenWord ∷ r) (first (wrap 4 e (own s e)) (plain a.PutNot ∷ []) (plainly s e) (bare_wrap 4 e (own s e) (plainly s e) (bare_own s e)) ds (plain a.PutNot ∷ bare ds) refl)
  bare_own s (TBinary id op l r) ds =
      let right : List Deed = wrap (least_right op) r (own s r) in
      let last : List Deed = plain (a.PutBinary op) ∷ [] in
      first (wrap (least_left op) l (own s l)) (plain a.HoldOperator ∷ (right ++ last)) (plainly s l) (bare_wrap (least_left op) l (own s l) (plainly s l) (bare_own s l)) ds
      (plain a.HoldOperator ∷ plainly s r (plain (a.PutBinary op) ∷ bare ds))
      (ap (λ rest. plain a.HoldOperator ∷ rest) (first right last (plainly s r) (bare_wrap (least_right op) r (own s r) (plainly s r) (bare_own s r)) ds (plain (a.PutBinary op) ∷ bare ds) refl))
  bare_own s (TIf id c l r) ds =
      ap (λ rest. plain a.OpenWord ∷ rest)
      (both (own s c ++ own s l ++ own s r) (plain a.PutIf ∷ []) (λ rest. plainly s c (plainly s l (plainly s r rest))) (λ rest. plain a.PutIf ∷ rest)
      (both (own s c ++ own s l) (own s r) (λ rest. plainly s c (plainly s l rest)) (plainly s r) (both (own s c) (own s l) (plainly s c) (plainly s l) (bare_own s c) (bare_own s l)) (bare_own s r))
      (λ rest. refl) ds)
  bare_own s (TWhile id c b) ds =
      ap (λ rest. plain a.OpenWord ∷ rest)
      (both (own s c ++ own s b) (plain a.PutWhile ∷ []) (λ rest. plainly s c (plainly s b rest)) (λ rest. plain a.PutWhile ∷ rest)
      (both (own s c) (own s b) (plainly s c) (plainly s b) (bare_own s c) (bare_own s b)) (λ rest. refl) ds)
  bare_own s (TCall id r m args) ds =
      let given : List Deed = arguments args (each s a.AddArgument args) in
      let last : List Deed = plain a.PutCall ∷ [] in
      first (wrap 5 r (own s r)) (name s a.HoldCall m ∷ (given ++ last)) (plainly s r) (bare_wrap 5 r (own s r) (plainly s r) (bare_own s r)) ds
      (name s a.HoldCall m ∷ plain_each s a.AddArgument args (plain a.PutCall ∷ bare ds))
      (ap (λ rest. name s a.HoldCall m ∷ rest) (first given last (plain_each s a.AddArgument args) (bare_arguments s args (bare_each s a.AddArgument args (λ rest. refl))) ds (plain a.PutCall ∷ bare ds) refl))
  bare_own s (TDef id c m site b) ds =
      ap (λ rest. plain a.OpenWord ∷ class s a.HoldClass c ∷ name s a.NameMethod m ∷ rest)
      (both (parameters_of s (slice_get s.bodies site)) (plain a.BeginBody ∷ (own s b ++ plain a.PutDef ∷ []))
      (plain_parameters s (slice_get s.bodies site)) (λ rest. plain a.BeginBody ∷ plainly s b (plain a.PutDef ∷ rest)) (bare_parameters s (slice_get s.bodies site)) (bare_body s b (bare_own s b)) ds)
  bare_own s (TDefComputed id c e site b) ds =
      let end : List Deed = plain a.Close ∷ plain a.ComputeMethod ∷ [] in
      let params : List Deed = parameters_of s (slice_get s.bodies site) in
      ap (λ rest. plain a.OpenWord ∷ class s a.HoldClass c ∷ rest)
      (both (own s e ++ end ++ params) (plain a.BeginBody ∷ (own s b ++ plain a.PutDef ∷ []))
      (λ rest. plainly s e (plain a.ComputeMethod ∷ plain_parameters s (slice_get s.bodies site) rest)) (λ rest. plain a.BeginBody ∷ plainly s b (plain a.PutDef ∷ rest))
      (both (own s e ++ end) params (λ rest. plainly s e (plain a.ComputeMethod ∷ rest)) (plain_parameters s (slice_get s.bodies site))
      (both (own s e) end (plainly s e) (λ rest. plain a.ComputeMethod ∷ rest) (bare_own s e) (λ rest. refl)) (bare_parameters s (slice_get s.bodies site)))
      (bare_body s b (bare_own s b)) ds)
  bare_own s (TDeclare id c m site asks) ds =
      ap (λ rest. plain a.HoldDeclare ∷ class s a.HoldClass c ∷ name s a.NameMethod m ∷ rest)
      (first (signature_of s (slice_get s.types site)) (plain (a.PutDeclare asks) ∷ []) (plain_signature s (slice_get s.types site)) (bare_signature s (slice_get s.types site)) ds
      (plain (a.PutDeclare asks) ∷ bare ds) refl)
  bare_own s (TDeclareComputed id c e site asks) ds =
      let end : List Deed = plain a.Close ∷ plain a.ComputeMethod ∷ [] in
      let type : List Deed = signature_of s (slice_get s.types site) in
      ap (λ rest. plain a.HoldDeclare ∷ class s a.HoldClass c ∷ rest)
      (both (own s e ++ end ++ type) (plain (a.PutDeclare asks) ∷ [])
      (λ rest. plainly s e (plain a.ComputeMethod ∷ plain_signature s (slice_get s.types site) rest)) (λ rest. plain (a.PutDeclare asks) ∷ rest)
      (both (own s e ++ end) type (λ rest. plainly s e (plain a.ComputeMethod ∷ rest)) (plain_signature s (slice_get s.types site))
      (both (own s e) end (plainly s e) (λ rest. plain a.ComputeMethod ∷ rest) (bare_own s e) (λ rest. refl)) (bare_signature s (slice_get s.types site)))
      (λ rest. refl) ds)
  bare_own s (TBlock id es) ds =
      ap (λ rest. plain a.BeginBlock ∷ rest) (first (each s a.AddItem es) (plain a.EndBlock ∷ []) (plain_each s a.AddItem es) (bare_each s a.AddItem es (λ rest. refl)) ds (plain a.EndBlock ∷ bare ds) refl)
  bare_own _ _ _ = refl

  pub bare_each : (s : Said) (joins : Action) (es : Forest) → ((ds : List Deed) → bare (plain joins ∷ ds) ≡ plain joins ∷ bare ds) → (ds : List Deed) → bare (each s joins es ++ ds) ≡ plain_each s joins es (bare ds)
  bare_each s joins NoTree h ds = refl
  bare_each s joins (Trees e es) h ds =
      first (own s e) (plain joins ∷ each s joins es) (plainly s e) (bare_own s e) ds (plain joins ∷ plain_each s joins es (bare ds))
      (h (each s joins es ++ ds) ∙ ap (λ rest. plain joins ∷ rest) (bare_each s joins es h ds))

-- ── all that is said ──

abbrev pub plain_all : Said → List Deed
plain_all s = plain_classes s.classes (plain_setup s s.setup (plain_scripts s s.scripts []))

bare_classes : (cs : List (List ℕ)) (ds : List Deed) → bare (class_deeds cs ++ ds) ≡ plain_classes cs (bare ds)
bare_classes [] ds = refl
bare_classes (c ∷ cs) ds = ap (λ rest. deed a.DeclareClass c ∷ rest) (bare_classes cs ds)

bare_setup : (s : Said) (o : Option Tree) (ds : List Deed) → bare (setup_deeds s o ++ ds) ≡ plain_setup s o (bare ds)
bare_setup s None ds = refl
bare_setup s (Some b) ds = ap (λ rest. plain a.BeginSetup ∷ rest) (first (own s b) (plain a.EndSetup ∷ []) (plainly s b) (bare_own s b) ds (plain a.EndSetup ∷ bare ds) refl)

bare_scripts : (s : Said) (scripts : List (ℕ × Tree)) → bare (flat_map (script_deeds s) scripts) ≡ plain_scripts s scripts []
bare_scripts s [] = refl
bare_scripts s (script ∷ scripts) =
    ap (λ rest. name s a.BeginScript script.0 ∷ rest)
    (first (own s script.1) (plain a.EndScript ∷ []) (plainly s script.1) (bare_own s script.1) (flat_map (script_deeds s) scripts) (plain a.EndScript ∷ plain_scripts s scripts [])
    (ap (λ rest. plain a.EndScript ∷ rest) (bare_scripts s scripts)))

pub bare_all : (s : Said) → bare (deeds_of s) ≡ plain_all s
bare_all s =
    let scripts : List Deed = flat_map (script_deeds s) s.scripts in
    ap bare (append_assoc (class_deeds s.classes) (setup_deeds s s.setup) scripts)
    ∙ bare_classes s.classes (setup_deeds s s.setup ++ scripts)
    ∙ ap (plain_classes s.classes) (bare_setup s s.setup scripts ∙ ap (plain_setup s s.setup) (bare_scripts s s.scripts))
