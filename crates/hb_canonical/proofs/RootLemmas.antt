-- The alternatives of whole texts: classes, the setup and scripts.
use Rattle.std.proofs.Common.{◌≡◌, ℕ, List, [], ◌∷◌, ◌++◌, length, Option, Some, None, refl, sym, ◌∙◌, ap, subst, arith, append_assoc}
use Rattle.std.specs.{Prelude.bytes_eq, Prelude.nat_le, List.list_any}
use Rattle.std.proofs.lemmas.List.{append-nil}
use Rattle.hb_tree.specs.declared.limits.TheConstants.{CLASSES_MAX, SCRIPTS_MAX}
use Rattle.hb_tree.specs.Tree.{Tree}
use Rattle.hb_grammar.specs.declared.actions.Action.TheVariants as a
use Rattle.hb_grammar.specs.declared.symbols.Sort.TheVariants as g
use Rattle.hb_grammar.specs.declared.symbols.Symbol.TheVariants.{Phrase as N, Action as A}
use Rattle.hb_build.specs.{Said.Said, Acts.Work}
use Rattle.hb_build.specs.Pile.{Slot, Closed, Setup, Script}
use Rattle.hb_canonical.proofs.{PlainLemmas.plainly, ActionLemmas.does-begin_setup, ActionLemmas.does-begin_script, BlockLemmas.block_ends}
use Rattle.hb_canonical.specs.Deeds.{Deed, deed, plain, name}
use Rattle.hb_canonical.proofs.EffectLemmas.{Later, Moves, Does, begins-same, later-same, later-then, goes-same, goes-passed, at-pile}
use Rattle.hb_canonical.proofs.PhraseLemmas.{Blocks, ScriptsMore, ScriptsFit, SetupFits, Way}

module _ (w : Work) (ds : List Deed) (v : Work) (es : List Deed) where
  abbrev Becomes : Said → List Slot → Type 0
  Becomes said pile = v ≡ record { said = said; pile = pile; depth = w.depth }

  does-declare_class : (d : Does a.DeclareClass w ds v es) → Becomes (record w.said { classes = w.said.classes ++ d.bytes ∷ [] }) w.pile
  does-declare_class d =
      let one = goes-passed (list_any (bytes_eq d.bytes) w.said.classes) _ _ v d.goes in
      let two = goes-passed (nat_le CLASSES_MAX (length w.said.classes)) _ _ v one.1 in
      sym (goes-same two.1)

  does-end_setup : (b : Tree) (pile : List Slot) → w.pile ≡ Closed b ∷ Setup ∷ pile → Does a.EndSetup w ds v es → Becomes (record w.said { setup = Some b }) pile
  does-end_setup b pile is d = sym (goes-same (at-pile a.EndSetup d.spot d.bytes w v (Closed b ∷ Setup ∷ pile) is d.goes))

  does-end_script : (b : Tree) (x : ℕ) (pile : List Slot) → w.pile ≡ Closed b ∷ Script x ∷ pile → Does a.EndScript w ds v es → Becomes (record w.said { scripts = w.said.scripts ++ (x, b) ∷ [] }) pile
  does-end_script b x pile is d =
      let one = goes-passed (nat_le SCRIPTS_MAX (length w.said.scripts)) _ _ v (at-pile a.EndScript d.spot d.bytes w v (Closed b ∷ Script x ∷ pile) is d.goes) in
      sym (goes-same one.1)

-- the setup and the scripts are no lists that trees look into
later-roots : (s : Said) (setup : Option Tree) (scripts : List (ℕ × Tree)) → Later s (record s { setup = setup; scripts = scripts })
later-roots s setup scripts = record { classes = begins-same s.classes; names = begins-same s.names; texts = begins-same s.texts; bodies = begins-same s.bodies; types = begins-same s.types }

module _ (w : Work) (ds : List Deed) (on : Work → List Deed → Type 0) where
  script_more : (v1 : Work) (e1 : List Deed) → Does a.BeginScript w ds v1 e1 → (v2 : Work) (e2 : List Deed) → Blocks v1 e1 v2 e2 → (v3 : Work) (e3 : List Deed) → Does a.EndBlock v2 e2 v3 e3
      → (v4 : Work) (e4 : List Deed) → Does a.EndScript v3 e3 v4 e4 → (v5 : Work) (e5 : List Deed) → ScriptsMore v4 e4 v5 e5 → ScriptsMore w ds v5 e5
  script_more v1 e1 d1 v2 e2 b v3 e3 d3 v4 e4 d4 v5 e5 more =
      let h = does-begin_script w ds v1 e1 d1 in
      let m1 : Moves w.said v1 (Script h.0 ∷ w.pile) w.depth = h.1 in
      let c = block_ends v1 e1 on v2 e2 b v3 e3 d3 in
      let end = does-end_script v3 e3 v4 e4 c.tree h.0 w.pile (c.moves.pile_is ∙ ap (λ p. Closed c.tree ∷ p) m1.pile_is) d4 in
      let said : v4.said ≡ record v3.said { scripts = v3.said.scripts ++ (h.0, c.tree) ∷ [] } = ap (λ (x : Work). x.said) end in
      let g4 : Later v3.said v4.said = subst (λ (x : Said). Later v3.said x) (sym said) (later-roots v3.said v3.said.setup (v3.said.scripts ++ (h.0, c.tree) ∷ [])) in
      let a1 : v1.depth ≡ w.depth = m1.depth_is in
      let a3 : v3.depth ≡ v1.depth = c.moves.depth_is in
      let a4 : v4.depth ≡ v3.depth = ap (λ (x : Work). x.depth) end in
      let a5 : v5.depth ≡ v4.depth = more.depth_is in
      record {
        more = (h.0, c.tree) ∷ more.more;
        later = later-then m1.inside.later (later-then c.moves.inside.later (later-then g4 more.later));
        classes = more.classes ∙ ap (λ (x : Said). x.classes) said ∙ c.moves.inside.classes ∙ m1.inside.classes;
        setup = more.setup ∙ ap (λ (x : Said). x.setup) said ∙ c.moves.inside.setup ∙ m1.inside.setup;
        scripts =
            more.scripts ∙ ap (λ (x : Said). x.scripts ++ more.more) said
            ∙ ap (λ l. (l ++ (h.0, c.tree) ∷ []) ++ more.more) (c.moves.inside.scripts ∙ m1.inside.scripts)
            ∙ append_assoc w.said.scripts ((h.0, c.tree) ∷ []) more.more;
        pile_is = more.pile_is ∙ ap (λ (x : Work). x.pile) end;
        depth_is = a5 ∙ a4 ∙ a3 ∙ a1;
        deeds = λ s later.
            let g3 = later-then g4 (later-then more.later later) in
            d1.heard ∙ ap (λ x. deed a.BeginScript x ∷ e1) (sym (h.2 s (later-then c.moves.inside.later g3)))
            ∙ ap (λ rest. name s a.BeginScript h.0 ∷ rest) (c.deeds s g3 ∙ ap (plainly s c.tree) (d4.heard ∙ ap (λ rest. plain a.EndScript ∷ rest) (more.deeds s later)));
        fits = λ n.
            let block = c.fits (omega arith) in
            let same : v4.depth ≡ w.depth = a4 ∙ a3 ∙ a1 in
            (omega arith, subst (λ (d : ℕ). ScriptsFit d more.more) same (more.fits (omega arith)));
      }

  pub one_script : Way (A a.BeginScript ∷ N g.Block ∷ A a.EndBlock ∷ A a.EndScript ∷ N g.Scripts ∷ []) w ds on → Way (N g.Scripts ∷ []) w ds on
  one_script (v1, e1, d1, (v2, e2, b, (v3, e3, d3, (v4, e4, d4, (v5, e5, more, k))))) = (v5, e5, script_more v1 e1 d1 v2 e2 b v3 e3 d3 v4 e4 d4 v5 e5 more, k)

  pub no_script : on w ds → Way (N g.Scripts ∷ []) w ds on
  no_script k = (
    w,
    ds,
    record {
      more = [];
      later = later-same w.said;
      classes = refl;
      setup = refl;
      scripts = sym (append-nil w.said.scripts);
      pile_is = refl;
      depth_is = refl;
      deeds = λ s later. refl;
      fits = λ n. tt;
    },
    k,
  )

  pub first_script : Way (A a.BeginScript ∷ N g.Block ∷ A a.EndBlock ∷ A a.EndScript ∷ N g.Scripts ∷ []) w ds on → Way (N g.Classes ∷ []) w ds on
  first_script (v1, e1, d1, (v2, e2, b, (v3, e3, d3, (v4, e4, d4, (v5, e5, more, k))))) =
      let all = script_more v1 e1 d1 v2 e2 b v3 e3 d3 v4 e4 d4 v5 e5 more in (
        v5,
        e5,
        record {
          first = [];
          setup = None;
          more = all.more;
          classes = all.classes ∙ sym (append-nil w.said.classes);
          setup_is = λ none. all.setup ∙ none;
          scripts = all.scripts;
          pile_is = all.pile_is;
          depth_is = all.depth_is;
          deeds = all.deeds;
          fits_setup = λ n. tt;
          fits_scripts = all.fits;
        },
        k,
      )

  pub no_class : on w ds → Way (N g.Classes ∷ []) w ds on
  no_class k = (
    w,
    ds,
    record {
      first = [];
      setup = None;
      more = [];
      classes = sym (append-nil w.said.classes);
      setup_is = λ none. none;
      scripts = sym (append-nil w.said.scripts);
      pile_is = refl;
      depth_is = refl;
      deeds = λ s later. refl;
      fits_setup = λ n. tt;
      fits_scripts = λ n. tt;
    },
    k,
  )

  pub one_class : Way (A a.DeclareClass ∷ N g.Classes ∷ []) w ds on → Way (N g.Classes ∷ []) w ds on
  one_class (v1, e1, d1, (v2, e2, more, k)) =
      let end = does-declare_class w ds v1 e1 d1 in
      let said : v1.said ≡ record w.said { classes = w.said.classes ++ d1.bytes ∷ [] } = ap (λ (x : Work). x.said) end in
      let a1 : v1.depth ≡ w.depth = ap (λ (x : Work). x.depth) end in (
        v2,
        e2,
        record {
          first = d1.bytes ∷ more.first;
          setup = more.setup;
          more = more.more;
          classes = more.classes ∙ ap (λ (x : Said). x.classes ++ more.first) said ∙ append_assoc w.said.classes (d1.bytes ∷ []) more.first;
          setup_is = λ none. more.setup_is (ap (λ (x : Said). x.setup) said ∙ none);
          scripts = more.scripts ∙ ap (λ (x : Said). x.scripts ++ more.more) said;
          pile_is = more.pile_is ∙ ap (λ (x : Work). x.pile) end;
          depth_is = more.depth_is ∙ a1;
          deeds = λ s later. d1.heard ∙ ap (λ rest. deed a.DeclareClass d1.bytes ∷ rest) (more.deeds s later);
          fits_setup = λ n. subst (λ (d : ℕ). SetupFits d more.setup) a1 (more.fits_setup (omega arith));
          fits_scripts = λ n. subst (λ (d : ℕ). ScriptsFit d more.more) a1 (more.fits_scripts (omega arith));
        },
        k,
      )

  pub the_setup : Way (A a.BeginSetup ∷ N g.Block ∷ A a.EndBlock ∷ A a.EndSetup ∷ N g.Scripts ∷ []) w ds on → Way (N g.Classes ∷ []) w ds on
  the_setup (v1, e1, d1, (v2, e2, b, (v3, e3, d3, (v4, e4, d4, (v5, e5, more, k))))) =
      let m1 = does-begin_setup w ds v1 e1 d1 in
      let c = block_ends v1 e1 on v2 e2 b v3 e3 d3 in
      let end = does-end_setup v3 e3 v4 e4 c.tree w.pile (c.moves.pile_is ∙ ap (λ p. Closed c.tree ∷ p) m1.pile_is) d4 in
      let said : v4.said ≡ record v3.said { setup = Some c.tree } = ap (λ (x : Work). x.said) end in
      let g4 : Later v3.said v4.said = subst (λ (x : Said). Later v3.said x) (sym said) (later-roots v3.said (Some c.tree) v3.said.scripts) in
      let a1 : v1.depth ≡ w.depth = m1.depth_is in
      let a3 : v3.depth ≡ v1.depth = c.moves.depth_is in
      let a4 : v4.depth ≡ v3.depth = ap (λ (x : Work). x.depth) end in
      let same : v4.depth ≡ w.depth = a4 ∙ a3 ∙ a1 in (
        v5,
        e5,
        record {
          first = [];
          setup = Some c.tree;
          more = more.more;
          classes = more.classes ∙ ap (λ (x : Said). x.classes) said ∙ c.moves.inside.classes ∙ m1.inside.classes ∙ sym (append-nil w.said.classes);
          setup_is = λ none. more.setup ∙ ap (λ (x : Said). x.setup) said;
          scripts = more.scripts ∙ ap (λ (x : Said). x.scripts ++ more.more) said ∙ ap (λ l. l ++ more.more) (c.moves.inside.scripts ∙ m1.inside.scripts);
          pile_is = more.pile_is ∙ ap (λ (x : Work). x.pile) end;
          depth_is = more.depth_is ∙ same;
          deeds = λ s later.
              let g3 = later-then g4 (later-then more.later later) in
              d1.heard ∙ ap (λ rest. plain a.BeginSetup ∷ rest) (c.deeds s g3 ∙ ap (plainly s c.tree) (d4.heard ∙ ap (λ rest. plain a.EndSetup ∷ rest) (more.deeds s later)));
          fits_setup = λ n. let block = c.fits (omega arith) in omega arith;
          fits_scripts = λ n. subst (λ (d : ℕ). ScriptsFit d more.more) same (more.fits (omega arith));
        },
        k,
      )
