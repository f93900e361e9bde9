-- How deep the deeds of what is said go: no deeper than its trees have constructs inside one another.
use Rattle.std.proofs.Common.{◌≡◌, ℕ, ◌+◌, ◌≤◌, List, [], ◌∷◌, ◌++◌, map, Bool, true, false, Option, Some, None, refl, sym, ap, subst, arith, max, append_assoc}
use Rattle.std.specs.Prelude.{slice_get, nat_lt, if◌then◌else◌, IfSome}
use Rattle.std.specs.{List.flat_map, List.AllByRecursion, Fmt.signed_decimal}
use Rattle.std.proofs.{lemmas.List.append-nil, lemmas.Bool.Decides.nat_tests}
use Rattle.hb_types.specs.declared.{types.Ty.Ty, types.MethodTy.MethodTy}
use Rattle.hb_types.specs.declared.types.Ty.TheVariants as ty
use Rattle.hb_types.specs.Types.{params_of as param_types_of}
use Rattle.hb_tree.specs.Tree.{Tree, TNil, TTrue, TFalse, TSelf, TInt, TText, TVar, TNew, TAssign, TPrint, TToStr, TNot, TBinary, TIf, TWhile, TCall, TDef, TDefComputed}
use Rattle.hb_tree.specs.Tree.{TDeclare, TDeclareComputed, TBlock, Forest, NoTree, Trees}
use Rattle.hb_tree.specs.Canon.{bytes_at, quoted, level, least_left, least_right}
use Rattle.hb_draft.specs.Made.{Given}
use Rattle.hb_grammar.specs.declared.actions.Action.{Action}
use Rattle.hb_grammar.specs.declared.actions.Action.TheVariants as a
use Rattle.hb_build.specs.Said.{Said}
use Rattle.hb_canonical.specs.Deeds.{Deed, deed, plain, name, class, type_deed, signature_of, parameters_of, boolean, wrap, named, computed, arguments, own, each, class_deeds}
use Rattle.hb_canonical.specs.Deeds.{setup_deeds, script_deeds, deeds_of, depth_after, deepest}
use Rattle.hb_canonical.proofs.ConstructLemmas.{constructs, constructs_all, shielded, enclosed}

max-le : (a b m : ℕ) → a ≤ m → b ≤ m → max a b ≤ m
max-le a b m h k = grind (arith, nat_tests)

max-left : (a b : ℕ) → a ≤ max a b
max-left a b = grind (arith, nat_tests)

max-right : (a b : ℕ) → b ≤ max a b
max-right a b = grind (arith, nat_tests)

module _ (m : ℕ) where
  -- these deeds go so much deeper, and come back
  abbrev Shallow : List Deed → ℕ → Type 0
  Shallow ps n = (d : ℕ) (ds : List Deed) → d + n ≤ m → deepest ds d ≤ m → deepest (ps ++ ds) d ≤ m

  abbrev Stays : Action → Type 0
  Stays action = (d : ℕ) → depth_after action d ≡ d

  none : (n : ℕ) → Shallow [] n
  none n d ds h k = k

  fewer : (ps : List Deed) (n o : ℕ) → n ≤ o → Shallow ps n → Shallow ps o
  fewer ps n o le s d ds h k = s d ds (omega arith) k

  cons : (x : Deed) (ps : List Deed) (n : ℕ) → Stays x.action → Shallow ps n → Shallow (x ∷ ps) n
  cons x ps n stays s d ds h k = subst (λ e. max d (deepest (ps ++ ds) e) ≤ m) (sym (stays d)) (max-le d (deepest (ps ++ ds) d) m (omega arith) (s d ds h k))

  append : (ps qs : List Deed) (n : ℕ) → Shallow ps n → Shallow qs n → Shallow (ps ++ qs) n
  append ps qs n s t d ds h k = subst (λ l. deepest l d ≤ m) (sym (append_assoc ps qs ds)) (s d (qs ++ ds) h (t d ds h k))

  alike : (ps qs : List Deed) (n : ℕ) → ps ≡ qs → Shallow ps n → Shallow qs n
  alike ps qs n e s d ds h k = subst (λ l. deepest (l ++ ds) d ≤ m) e (s d ds h k)

  -- a construct, and deeds behind it
  construct : (x y : Deed) (ps qs : List Deed) (n o : ℕ) → ((d : ℕ) → depth_after x.action d ≡ d + 1) → ((d : ℕ) → depth_after y.action (d + 1) ≡ d) → 1 + n ≤ o
      → Shallow ps n → Shallow qs o → Shallow (x ∷ (ps ++ y ∷ qs)) o
  construct x y ps qs n o opens closes le s t d ds h k =
      let behind : deepest (y ∷ (qs ++ ds)) (d + 1) ≤ m = subst (λ e. max (d + 1) (deepest (qs ++ ds) e) ≤ m) (sym (closes d)) (max-le (d + 1) (deepest (qs ++ ds) d) m (omega arith) (t d ds h k)) in
      let inside : deepest ((ps ++ y ∷ qs) ++ ds) (d + 1) ≤ m = subst (λ l. deepest l (d + 1) ≤ m) (sym (append_assoc ps (y ∷ qs) ds)) (s (d + 1) (y ∷ (qs ++ ds)) (omega arith) behind) in
      subst (λ e. max d (deepest ((ps ++ y ∷ qs) ++ ds) e) ≤ m) (sym (opens d)) (max-le d (deepest ((ps ++ y ∷ qs) ++ ds) (d + 1)) m (omega arith) inside)

  wrap-shallow : (least : ℕ) (e : Tree) (ps : List Deed) (n : ℕ) → Shallow ps n → Shallow (wrap least e ps) (shielded least e n)
  wrap-shallow least e ps n s = by (nat_lt (level e) least)
    where
      by : (b : Bool) → Shallow (if b then (plain a.Open ∷ (ps ++ plain a.Close ∷ [])) else ps) (if b then n + 1 else n)
      by true = construct (plain a.Open) (plain a.Close) ps [] n (n + 1) (λ d. refl) (λ d. omega arith) (omega arith) s (none (n + 1))
      by false = s

  type-stays : (s : Said) (y : Ty) → Stays (type_deed s y).action
  type-stays s (ty.Class c) d = refl
  type-stays _ _ _ = refl

  types-shallow : (s : Said) (ys : List Ty) (n : ℕ) → Shallow (flat_map (λ p. type_deed s p ∷ plain a.AddParameterType ∷ []) ys) n
  types-shallow s [] n = none n
  types-shallow s (y ∷ ys) n =
      let rest : List Deed = flat_map (λ p. type_deed s p ∷ plain a.AddParameterType ∷ []) ys in
      cons (type_deed s y) (plain a.AddParameterType ∷ rest) n (type-stays s y) (cons (plain a.AddParameterType) rest n (λ d. refl) (types-shallow s ys n))

  signature-shallow : (s : Said) (o : Option (MethodTy × ℕ)) (n : ℕ) → 1 ≤ n → Shallow (signature_of s o) n
  signature-shallow s None n le = none n
  signature-shallow s (Some y) n le =
      construct (plain a.Open) (plain a.Close) (flat_map (λ p. type_deed s p ∷ plain a.AddParameterType ∷ []) (param_types_of y.0)) (type_deed s y.0.result ∷ []) 0 n (λ d. refl) (λ d. omega arith) (omega arith)
      (types-shallow s (param_types_of y.0) 0) (cons (type_deed s y.0.result) [] n (type-stays s y.0.result) (none n))

  names-shallow : (s : Said) (xs : List ℕ) (n : ℕ) → Shallow (map (name s a.HoldParameter) xs) n
  names-shallow s [] n = none n
  names-shallow s (x ∷ xs) n = cons (name s a.HoldParameter x) (map (name s a.HoldParameter) xs) n (λ d. refl) (names-shallow s xs n)

  parameters-shallow : (s : Said) (o : Option Given) (n : ℕ) → 1 ≤ n → Shallow (parameters_of s o) n
  parameters-shallow s None n le = none n
  parameters-shallow s (Some b) n le = construct (plain a.Open) (plain a.Close) (map (name s a.HoldParameter) b.params) [] 0 n (λ d. refl) (λ d. omega arith) (omega arith) (names-shallow s b.params 0) (none n)

  arguments-shallow : (args : Forest) (ps : List Deed) (n : ℕ) → Shallow ps n → Shallow (arguments args ps) (enclosed args n)
  arguments-shallow NoTree ps n s = none 0
  arguments-shallow (Trees e es) ps n s = construct (plain a.Open) (plain a.Close) ps [] n (1 + n) (λ d. refl) (λ d. omega arith) (omega arith) s (none (1 + n))

  -- one deed alone
  single : (x : Deed) (n : ℕ) → Stays x.action → Shallow (x ∷ []) n
  single x n stays = cons x [] n stays (none n)

  -- `A.m` or `A.(e)`
  named-shallow : (s : Said) (c i n : ℕ) → Shallow (named s c i) n
  named-shallow s c i n = cons (class s a.HoldClass c) (name s a.NameMethod i ∷ []) n (λ d. refl) (single (name s a.NameMethod i) n (λ d. refl))

  computed-shallow : (s : Said) (c : ℕ) (ps : List Deed) (n o : ℕ) → 1 + n ≤ o → Shallow ps n → Shallow (computed s c ps) o
  computed-shallow s c ps n o le h =
      cons (class s a.HoldClass c) (plain a.Open ∷ (ps ++ plain a.Close ∷ plain a.ComputeMethod ∷ [])) o (λ d. refl)
      (construct (plain a.Open) (plain a.Close) ps (plain a.ComputeMethod ∷ []) n o (λ d. refl) (λ d. omega arith) le h (single (plain a.ComputeMethod) o (λ d. refl)))

  -- a definition with this head
  definition-shallow : (s : Said) (head : List Deed) (site : ℕ) (b : Tree) (n : ℕ) → 1 ≤ n → Shallow head n → Shallow (own s b) n
      → Shallow (plain a.OpenWord ∷ (head ++ parameters_of s (slice_get s.bodies site) ++ plain a.BeginBody ∷ (own s b ++ plain a.PutDef ∷ []))) (1 + n)
  definition-shallow s head site b n le h k =
      let front : List Deed = head ++ parameters_of s (slice_get s.bodies site) in
      let block : List Deed = plain a.BeginBody ∷ own s b in
      alike (plain a.OpenWord ∷ ((front ++ block) ++ plain a.PutDef ∷ [])) (plain a.OpenWord ∷ (front ++ (block ++ plain a.PutDef ∷ []))) (1 + n)
      (ap (λ l. plain a.OpenWord ∷ l) (append_assoc front block (plain a.PutDef ∷ [])))
      (construct (plain a.OpenWord) (plain a.PutDef) (front ++ block) [] n (1 + n) (λ d. refl) (λ d. omega arith) (omega arith)
      (append front block n (append head (parameters_of s (slice_get s.bodies site)) n h (parameters-shallow s (slice_get s.bodies site) n le)) (cons (plain a.BeginBody) (own s b) n (λ d. refl) k))
      (none (1 + n)))

  declaration-shallow : (s : Said) (head : List Deed) (site : ℕ) (asks : Bool) (n : ℕ) → 1 ≤ n → Shallow head n
      → Shallow (plain a.HoldDeclare ∷ (head ++ signature_of s (slice_get s.types site) ++ plain (a.PutDeclare asks) ∷ [])) n
  declaration-shallow s head site asks n le h =
      cons (plain a.HoldDeclare) (head ++ signature_of s (slice_get s.types site) ++ plain (a.PutDeclare asks) ∷ []) n (λ d. refl)
      (append (head ++ signature_of s (slice_get s.types site)) (plain (a.PutDeclare asks) ∷ []) n
      (append head (signature_of s (slice_get s.types site)) n h (signature-shallow s (slice_get s.types site) n le)) (single (plain (a.PutDeclare asks)) n (λ d. refl)))

  mutual
    own-shallow : (s : Said) (e : Tree) → Shallow (own s e) (constructs e)
    own-shallow s (TNil id) = single (plain a.PutNil) 0 (λ d. refl)
    own-shallow s (TTrue id) = single (boolean true) 0 (λ d. refl)
    own-shallow s (TFalse id) = single (boolean false) 0 (λ d. refl)
    own-shallow s (TSelf id) = single (plain a.PutSelf) 0 (λ d. refl)
    own-shallow s (TInt id n) = single (deed a.PutNumber (signed_decimal n)) 0 (λ d. refl)
    own-shallow s (TText id x) = single (deed a.PutText (quoted (bytes_at s.texts x))) 0 (λ d. refl)
    own-shallow s (TVar id x) = cons (name s a.HoldName x) (plain a.PutVariable ∷ []) 0 (λ d. refl) (single (plain a.PutVariable) 0 (λ d. refl))
    own-shallow s (TNew id c) = cons (class s a.HoldClass c) (plain a.PutNew ∷ []) 0 (λ d. refl) (single (plain a.PutNew) 0 (λ d. refl))
    own-shallow s (TAssign id x e) =
        let n : ℕ = constructs e in
        cons (name s a.HoldName x) (plain a.OpenAssign ∷ (own s e ++ plain a.PutAssign ∷ [])) (1 + n) (λ d. refl)
        (construct (plain a.OpenAssign) (plain a.PutAssign) (own s e) [] n (1 + n) (λ d. refl) (λ d. omega arith) (omega arith) (own-shallow s e) (none (1 + n)))
    own-shallow s (TPrint id e) =
        let n : ℕ = constructs e in
        construct (plain a.OpenWord) (plain a.PutPrint) (own s e) [] n (1 + n) (λ d. refl) (λ d. omega arith) (omega arith) (own-shallow s e) (none (1 + n))
    own-shallow s (TToStr id e) =
        let n : ℕ = constructs e in
        cons (plain a.HoldStr) (plain a.Open ∷ (own s e ++ plain a.Close ∷ plain a.PutStr ∷ [])) (1 + n) (λ d. refl)
        (construct (plain a.Open) (plain a.Close) (own s e) (plain a.PutStr ∷ []) n (1 + n) (λ d. refl) (λ d. omega arith) (omega arith) (own-shallow s e) (single (plain a.PutStr) (1 + n) (λ d. refl)))
    own-shallow s (TNot id e) =
        let n : ℕ = shielded 4 e (constructs e) in
        construct (plain a.OpenWord) (plain a.PutNot) (wrap 4 e (own s e)) [] n (1 + n) (λ d. refl) (λ d. omega arith) (omega arith) (wrap-shallow 4 e (own s e) (constructs e) (own-shallow s e)) (none (1 + n))
    own-shallow s (TBinary id op l r) =
        let n : ℕ = shielded (least_left op) l (constructs l) in
        let o : ℕ = shielded (least_right op) r (constructs r) in
        let left : List Deed = wrap (least_left op) l (own s l) in
        let right : List Deed = wrap (least_right op) r (own s r) in
        let last : List Deed = plain (a.PutBinary op) ∷ [] in
        append left (plain a.HoldOperator ∷ (right ++ last)) (max n o)
        (fewer left n (max n o) (max-left n o) (wrap-shallow (least_left op) l (own s l) (constructs l) (own-shallow s l)))
        (cons (plain a.HoldOperator) (right ++ last) (max n o) (λ d. refl)
        (append right last (max n o) (fewer right o (max n o) (max-right n o) (wrap-shallow (least_right op) r (own s r) (constructs r) (own-shallow s r))) (single (plain (a.PutBinary op)) (max n o) (λ d. refl))))
    own-shallow s (TIf id c l r) =
        let blocks : ℕ = max (constructs l) (constructs r) in
        let n : ℕ = max (constructs c) blocks in
        construct (plain a.OpenWord) (plain a.PutIf) (own s c ++ own s l ++ own s r) [] n (1 + n) (λ d. refl) (λ d. omega arith) (omega arith)
        (append (own s c ++ own s l) (own s r) n
        (append (own s c) (own s l) n (fewer (own s c) (constructs c) n (max-left (constructs c) blocks) (own-shallow s c))
        (fewer (own s l) (constructs l) n (omega (arith, max-left (constructs l) (constructs r), max-right (constructs c) blocks)) (own-shallow s l)))
        (fewer (own s r) (constructs r) n (omega (arith, max-right (constructs l) (constructs r), max-right (constructs c) blocks)) (own-shallow s r)))
        (none (1 + n))
    own-shallow s (TWhile id c b) =
        let n : ℕ = max (constructs c) (constructs b) in
        construct (plain a.OpenWord) (plain a.PutWhile) (own s c ++ own s b) [] n (1 + n) (λ d. refl) (λ d. omega arith) (omega arith)
        (append (own s c) (own s b) n (fewer (own s c) (constructs c) n (max-left (constructs c) (constructs b)) (own-shallow s c))
        (fewer (own s b) (constructs b) n (max-right (constructs c) (constructs b)) (own-shallow s b)))
        (none (1 + n))
    own-shallow s (TCall id r i args) =
        let n : ℕ = shielded 5 r (constructs r) in
        let o : ℕ = enclosed args (constructs_all args) in
        let given : List Deed = arguments args (each s a.AddArgument args) in
        let last : List Deed = plain a.PutCall ∷ [] in
        append (wrap 5 r (own s r)) (name s a.HoldCall i ∷ (given ++ last)) (max n o)
        (fewer (wrap 5 r (own s r)) n (max n o) (max-left n o) (wrap-shallow 5 r (own s r) (constructs r) (own-shallow s r)))
        (cons (name s a.HoldCall i) (given ++ last) (max n o) (λ d. refl)
        (append given last (max n o) (fewer given o (max n o) (max-right n o)
        (arguments-shallow args (each s a.AddArgument args) (constructs_all args) (each-shallow s a.AddArgument args (λ d. refl)))) (single (plain a.PutCall) (max n o) (λ d. refl))))
    own-shallow s (TDef id c i site b) =
        let n : ℕ = max 1 (constructs b) in
        definition-shallow s (named s c i) site b n (max-left 1 (constructs b)) (named-shallow s c i n) (fewer (own s b) (constructs b) n (max-right 1 (constructs b)) (own-shallow s b))
    own-shallow s (TDefComputed id c e site b) =
        let n : ℕ = max (1 + constructs e) (constructs b) in
        let left = max-left (1 + constructs e) (constructs b) in
        definition-shallow s (computed s c (own s e)) site b n (omega arith) (computed-shallow s c (own s e) (constructs e) n left (own-shallow s e))
        (fewer (own s b) (constructs b) n (max-right (1 + constructs e) (constructs b)) (own-shallow s b))
    own-shallow s (TDeclare id c i site asks) = declaration-shallow s (named s c i) site asks 1 (omega arith) (named-shallow s c i 1)
    own-shallow s (TDeclareComputed id c e site asks) =
        let n : ℕ = 1 + constructs e in
        declaration-shallow s (computed s c (own s e)) site asks n (omega arith) (computed-shallow s c (own s e) (constructs e) n (omega arith) (own-shallow s e))
    own-shallow s (TBlock id es) =
        let n : ℕ = constructs_all es in
        cons (plain a.BeginBlock) (each s a.AddItem es ++ plain a.EndBlock ∷ []) n (λ d. refl)
        (append (each s a.AddItem es) (plain a.EndBlock ∷ []) n (each-shallow s a.AddItem es (λ d. refl)) (single (plain a.EndBlock) n (λ d. refl)))

    each-shallow : (s : Said) (joins : Action) (es : Forest) → Stays joins → Shallow (each s joins es) (constructs_all es)
    each-shallow s joins NoTree stays = none 0
    each-shallow s joins (Trees e es) stays =
        let n : ℕ = max (constructs e) (constructs_all es) in
        append (own s e) (plain joins ∷ each s joins es) n (fewer (own s e) (constructs e) n (max-left (constructs e) (constructs_all es)) (own-shallow s e))
        (cons (plain joins) (each s joins es) n stays (fewer (each s joins es) (constructs_all es) n (max-right (constructs e) (constructs_all es)) (each-shallow s joins es stays)))

  -- ── all that is said ──

  classes-shallow : (cs : List (List ℕ)) → Shallow (class_deeds cs) 0
  classes-shallow [] = none 0
  classes-shallow (c ∷ cs) = cons (deed a.DeclareClass c) (class_deeds cs) 0 (λ d. refl) (classes-shallow cs)

  -- what is done for this, where nothing is open before
  abbrev AtStart : List Deed → Type 0
  AtStart ps = (ds : List Deed) → deepest ds 0 ≤ m → deepest (ps ++ ds) 0 ≤ m

  start : (ps : List Deed) (n : ℕ) → 0 + n ≤ m → Shallow ps n → AtStart ps
  start ps n h s ds k = s 0 ds h k

  start-append : (ps qs : List Deed) → AtStart ps → AtStart qs → AtStart (ps ++ qs)
  start-append ps qs s t ds k = subst (λ l. deepest l 0 ≤ m) (sym (append_assoc ps qs ds)) (s (qs ++ ds) (t ds k))

  setup-start : (s : Said) (o : Option Tree) → IfSome o (λ b. 0 + constructs b ≤ m) → AtStart (setup_deeds s o)
  setup-start s None h = λ ds k. k
  setup-start s (Some b) h =
      start (setup_deeds s (Some b)) (constructs b) h
      (cons (plain a.BeginSetup) (own s b ++ plain a.EndSetup ∷ []) (constructs b) (λ d. refl)
      (append (own s b) (plain a.EndSetup ∷ []) (constructs b) (own-shallow s b) (single (plain a.EndSetup) (constructs b) (λ d. refl))))

  scripts-start : (s : Said) (scripts : List (ℕ × Tree)) → AllByRecursion (λ script. 0 + constructs script.1 ≤ m) scripts → AtStart (flat_map (script_deeds s) scripts)
  scripts-start s [] h = λ ds k. k
  scripts-start s (script ∷ scripts) h =
      start-append (script_deeds s script) (flat_map (script_deeds s) scripts)
      (start (script_deeds s script) (constructs script.1) h.0
      (cons (name s a.BeginScript script.0) (own s script.1 ++ plain a.EndScript ∷ []) (constructs script.1) (λ d. refl)
      (append (own s script.1) (plain a.EndScript ∷ []) (constructs script.1) (own-shallow s script.1) (single (plain a.EndScript) (constructs script.1) (λ d. refl)))))
      (scripts-start s scripts h.1)

  pub all-start : (s : Said) → IfSome s.setup (λ b. 0 + constructs b ≤ m) → AllByRecursion (λ script. 0 + constructs script.1 ≤ m) s.scripts → deepest (deeds_of s) 0 ≤ m
  all-start s h k =
      let scripts : List Deed = flat_map (script_deeds s) s.scripts in
      let front : List Deed = class_deeds s.classes ++ setup_deeds s s.setup in
      subst (λ l. deepest l 0 ≤ m) (append-nil (front ++ scripts))
      (start-append front scripts
      (start-append (class_deeds s.classes) (setup_deeds s s.setup) (start (class_deeds s.classes) 0 (omega arith) (classes-shallow s.classes)) (setup-start s s.setup h))
      (scripts-start s s.scripts k) [] (omega arith))
