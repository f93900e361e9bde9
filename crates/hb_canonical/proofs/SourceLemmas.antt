-- The deeds of a text whose actions build something: without parentheses they are those of what is said, which fits in.
use Rattle.std.proofs.Common.{◌≡◌, ℕ, zero, suc, ◌+◌, ◌≤◌, List, [], ◌∷◌, ◌++◌, true, false, Option, refl, sym, ◌∙◌, ap, subst, inl, inr, arith}
use Rattle.std.specs.List.{AllByRecursion}
use Rattle.hb_lex.specs.declared.{kinds.TokenKind.TokenKind, spans.Token.Token}
use Rattle.hb_types.specs.declared.types.Ty.TheVariants as ty
use Rattle.hb_tree.specs.declared.limits.TheConstants.{CONSTRUCTS_MAX}
use Rattle.hb_tree.specs.Tree.{Tree}
use Rattle.hb_grammar.specs.declared.{symbols.Sort.Sort, symbols.Symbol.Symbol, symbols.Symbol.TheVariants.Token as T, symbols.Symbol.TheVariants.Phrase as N}
use Rattle.hb_grammar.specs.declared.{symbols.Symbol.TheVariants.Action as A}
use Rattle.hb_grammar.specs.declared.symbols.Sort.TheVariants as g
use Rattle.hb_grammar.specs.Grammar.{alternatives}
use Rattle.hb_grammar.specs.Language.{Act, act as act_at, IsOneOf, Translates, HasActions, kinds_of, program}
use Rattle.hb_build.specs.Said.{Said}
use Rattle.hb_build.specs.Acts.{Work, Answer, Goes, Fails, Lost, nothing}
use Rattle.hb_build.specs.Follow.{follow, act_in, and_then, spot_of, bytes_in, last_of}
use Rattle.hb_canonical.proofs.{EffectLemmas.goes-same, EffectLemmas.later-same, DepthLemmas.all-start}
use Rattle.hb_canonical.specs.Deeds.{Deed, deeds_in, deeds_of, bare, deepest}
use Rattle.hb_canonical.proofs.PlainLemmas.{plain_classes, plain_setup, plain_scripts, bare_all}
use Rattle.hb_canonical.proofs.PhraseLemmas.{ClassesMore, SetupFits, ScriptsFit, Way, way-append}
use Rattle.hb_canonical.proofs.OperandLemmas as operand
use Rattle.hb_canonical.proofs.BlockLemmas as block
use Rattle.hb_canonical.proofs.MethodLemmas as method
use Rattle.hb_canonical.proofs.RootLemmas as root

-- ── each alternative is a phrase of its sort ──

module _ (w : Work) (ds : List Deed) (on : Work → List Deed → Type 0) where
  abbrev Serves : Sort → List Symbol → Type 0
  Serves sort phrase = Way phrase w ds on → Way (N sort ∷ []) w ds on

  same : {X : Type 0} → X → X
  same x = x

  all-serve : (sort : Sort) → AllByRecursion (Serves sort) (alternatives sort)
  all-serve g.Program = (same, tt)
  all-serve g.Classes = (same, (root.one_class w ds on, (root.the_setup w ds on, (root.first_script w ds on, (root.no_class w ds on, tt)))))
  all-serve g.Scripts = (same, (root.one_script w ds on, (root.no_script w ds on, tt)))
  all-serve g.Block = (block.block w ds on, tt)
  all-serve g.Items = (same, (block.one_item w ds on, (block.no_item w ds on, tt)))
  all-serve g.MoreItems = (same, (block.no_item w ds on, tt))
  all-serve g.Expression = (operand.expression_name w ds on, (operand.printed w ds on, (method.declares w ds on false, (method.declares w ds on true, (operand.expression w ds on, tt)))))
  all-serve g.AfterName = (operand.after_assign w ds on, (operand.after_variable w ds on, tt))
  all-serve g.OtherUnary = (operand.other_not w ds on, (operand.other_value w ds on, tt))
  all-serve g.Method = (method.method w ds on, tt)
  all-serve g.MethodName = (method.computed_method w ds on, (method.plain_method w ds on, tt))
  all-serve g.Signature = (method.signature w ds on, tt)
  all-serve g.Types = (method.one_type w ds on, (method.no_type w ds on, tt))
  all-serve g.MoreTypes = (method.one_type w ds on, (method.no_type w ds on, tt))
  all-serve g.TypeWord = (
    method.class_type w ds on,
    (
      method.word_type w ds on ty.Bool (λ s. refl),
      (
        method.word_type w ds on ty.Int (λ s. refl),
        (method.word_type w ds on ty.Str (λ s. refl), (method.word_type w ds on ty.Any (λ s. refl), (method.word_type w ds on ty.Nil (λ s. refl), tt))),
      ),
    ),
  )
  all-serve g.MoreComparison = (operand.less w ds on, (operand.equal w ds on, (operand.alone w ds on 2 0 (omega arith), tt)))
  all-serve g.Sum = (operand.sum w ds on, tt)
  all-serve g.MoreSum = (operand.add w ds on, (operand.sub w ds on, (operand.concat w ds on, (operand.alone w ds on 2 2 (omega arith), tt))))
  all-serve g.Product = (operand.product w ds on, tt)
  all-serve g.MoreProduct = (operand.mul w ds on, (operand.alone w ds on 3 3 (omega arith), tt))
  all-serve g.Unary = (operand.unary_not w ds on, (operand.unary w ds on, tt))
  all-serve g.Postfix = (operand.postfix w ds on, tt)
  all-serve g.MorePostfix = (operand.called w ds on, (operand.alone w ds on 5 5 (omega arith), tt))
  all-serve g.Arguments = (block.all_arguments w ds on, (block.no_arguments w ds on, tt))
  all-serve g.ArgumentList = (block.one_argument w ds on, (block.no_argument w ds on, tt))
  all-serve g.MoreArguments = (block.one_argument w ds on, (block.no_argument w ds on, tt))
  all-serve g.Primary = (operand.primary_name w ds on, (same, tt))
  all-serve g.Value = (
    operand.text w ds on,
    (
      operand.nil w ds on,
      (
        operand.truth w ds on,
        (
          operand.falsehood w ds on,
          (
            operand.oneself w ds on,
            (
              operand.made w ds on,
              (
                operand.in_parentheses w ds on,
                (operand.spelled w ds on, (block.chosen w ds on, (block.repeated w ds on, (method.defines w ds on, (operand.number w ds on, tt))))),
              ),
            ),
          ),
        ),
      ),
    ),
  )
  all-serve g.ElsePart = (block.spoken w ds on, (block.silent w ds on, tt))
  all-serve g.Parameters = (method.one_parameter w ds on, (method.no_parameter w ds on, tt))
  all-serve g.MoreParameters = (method.one_parameter w ds on, (method.no_parameter w ds on, tt))

  one-serves : (sort : Sort) (phrases : List (List Symbol)) → AllByRecursion (Serves sort) phrases → (phrase : List Symbol) → IsOneOf phrases phrase → Serves sort phrase
  one-serves sort [] h phrase one = absurd one
  one-serves sort (first ∷ more) h phrase (inl e) = subst (Serves sort) (sym e) h.0
  one-serves sort (first ∷ more) h phrase (inr one) = one-serves sort more h.1 phrase one

  serves : (sort : Sort) (phrase : List Symbol) → IsOneOf (alternatives sort) phrase → Serves sort phrase
  serves sort phrase one = one-serves sort (alternatives sort) (all-serve sort) phrase one

-- ── a text's way ──

-- the actions of a text go on one after another
pub then-goes : (answer : Answer) (go : Work → Answer) (v : Work) → and_then answer go ≡ Goes v → (u : Work) × (answer ≡ Goes u) × (go u ≡ Goes v)
then-goes (Goes u) go v h = (u, refl, h)
then-goes (Fails fault) go v h = cc
then-goes Lost go v h = cc

module _ (text : List ℕ) (tokens : List Token) where
  -- here all deeds are done, and this was built
  abbrev Ends : Work → Work → List Deed → Type 0
  Ends v u es = (u ≡ v) × (es ≡ [])

  way : (n : ℕ) (stack : List Symbol) (at : ℕ) (kinds : List TokenKind) (done : List Act) (w v : Work)
      → Translates n stack at kinds done → follow text tokens done w ≡ Goes v → Way stack w (bare (deeds_in text tokens done)) (Ends v)
  way zero stack at kinds done w v h built = absurd h
  way (suc n) [] at kinds done w v h built = (goes-same (subst (λ (x : List Act). follow text tokens x w ≡ Goes v) h.1 built), ap (λ x. bare (deeds_in text tokens x)) h.1)
  way (suc n) (T j ∷ stack) at kinds done w v h built = way n stack (at + 1) h.0 done w v h.2 built
  way (suc n) (A action ∷ stack) at kinds done w v h built =
      let x : Act = act_at action at in
      let step = then-goes (act_in text tokens x w) (follow text tokens h.0) v (subst (λ (y : List Act). follow text tokens y w ≡ Goes v) h.1 built) in (
        step.0,
        bare (deeds_in text tokens h.0),
        record {
          spot = spot_of text (last_of tokens at);
          bytes = bytes_in text (last_of tokens at);
          goes = step.1;
          heard = ap (λ y. bare (deeds_in text tokens y)) h.1;
        },
        way n stack at kinds h.0 step.0 v h.2 step.2,
      )
  way (suc n) (N sort ∷ stack) at kinds done w v h built =
      serves w (bare (deeds_in text tokens done)) (λ u es. Way stack u es (Ends v)) sort h.0 h.1
      (way-append h.0 stack w (bare (deeds_in text tokens done)) (Ends v) (way n (h.0 ++ stack) at kinds done w v h.2 built))

  -- ── what a text says ──

  module _ (done : List Act) (w : Work) (has : HasActions (kinds_of tokens) done) (built : follow text tokens done nothing ≡ Goes w) where
    whole : (es : List Deed) × ClassesMore nothing (bare (deeds_in text tokens done)) w es × (es ≡ [])
    whole =
        let h = way has.0 program 0 (kinds_of tokens) done nothing w has.1 built in
        (h.1, subst (λ (x : Work). ClassesMore nothing (bare (deeds_in text tokens done)) x h.1) h.3.0 h.2, h.3.1)

    all : ClassesMore nothing (bare (deeds_in text tokens done)) w whole.0
    all = whole.1

    setup-same : all.setup ≡ w.said.setup
    setup-same = sym (all.setup_is refl)

    scripts-same : all.more ≡ w.said.scripts
    scripts-same = sym all.scripts

    pub source-words : bare (deeds_in text tokens done) ≡ bare (deeds_of w.said)
    source-words =
        let s : Said = w.said in
        all.deeds s (later-same s)
        ∙ ap (λ es. plain_classes all.first (plain_setup s all.setup (plain_scripts s all.more es))) whole.2
        ∙ ap (λ l. plain_classes l (plain_setup s all.setup (plain_scripts s all.more []))) (sym all.classes)
        ∙ ap (λ o. plain_classes s.classes (plain_setup s o (plain_scripts s all.more []))) setup-same
        ∙ ap (λ l. plain_classes s.classes (plain_setup s s.setup (plain_scripts s l []))) scripts-same
        ∙ sym (bare_all s)

    pub source-depth : deepest (deeds_of w.said) 0 ≤ CONSTRUCTS_MAX
    source-depth =
        all-start CONSTRUCTS_MAX w.said
        (subst (λ (o : Option Tree). SetupFits 0 o) setup-same (all.fits_setup (omega arith)))
        (subst (λ (l : List (ℕ × Tree)). ScriptsFit 0 l) scripts-same (all.fits_scripts (omega arith)))
