-- There are no more definitions than nodes.
use Rattle.std.proofs.Common.{◌≡◌, ℕ, ◌<◌, ◌≤◌, List, [], ◌∷◌, length, map, get_or, true, false, eqb, Option, Some, None, refl, sym, ap, ◌∙◌, subst, arith, inl, inr, ◌||◌}
use Rattle.std.specs.{Prelude.slice_get, Option.option_map, List.AllByRecursion, List.list_any}
use Rattle.std.proofs.{lemmas.List.length-map, lemmas.Option.slice_get-map, lemmas.Option.get_or_from_slice_get, lemmas.Bool.ne_eqb, lemmas.Bool.Decides.eqb_tells}
use Rattle.std.proofs.{lemmas.Map.Keys.IsDistinct-from_apart, lemmas.Map.Steps.length-le_from_distinct_below}
use Rattle.hb_tree.proofs.{Lists.each_from, Lists.past_none, Trees.node_within}
use Rattle.hb_tree.specs.{Table.Table, Nodes.node_at, Program.IsProgram, Program.IsDefNode}
use Rattle.hb_tree.specs.declared.{node.Node.Node, parts.Body.Body}
use Rattle.hb_tree.specs.declared.node.Node.TheVariants as node

-- a definition has one site
one_site : (i j : ℕ) (o : Option Node) → IsDefNode i o → IsDefNode j o → i ≡ j
one_site i j (Some (node.Def m s)) h k = sym h ∙ k
one_site i j _ h k = absurd h

-- a number that is one of these is below a bound that each is below
any_below : (n q : ℕ) (xs : List ℕ) → AllByRecursion (λ x. x < n) xs → list_any (eqb q) xs ≡ true → q < n
any_below n q [] h e = cc
any_below n q (x ∷ xs) h e = elim (eqb_tells q x) [ inl k ↦ rw k.1 h.0 | inr k ↦ any_below n q xs h.1 (subst (λ b. (b || list_any (eqb q) xs) ≡ true) k.0 e) ]

module _ (t : Table) (ok : IsProgram t) where
  abbrev defs : List ℕ
  defs = map (λ b. b.def.0) t.bodies

  def_within : (site : ℕ) (b : Body) → slice_get t.bodies site ≡ Some b → b.def.0 < length t.nodes
  def_within site b e = go (node_at t b.def.0) refl (ok.bodies site b e).named
    where
      go : (o : Option Node) → node_at t b.def.0 ≡ o → IsDefNode site o → b.def.0 < length t.nodes
      go None k l = absurd l
      go (Some n) k l = node_within t b.def.0 n k

  apart : (i j d : ℕ) → i < j → j < length defs → eqb (get_or defs i d) (get_or defs j d) ≡ false
  apart i j d less within = go (slice_get t.bodies i) (slice_get t.bodies j) refl refl
    where
      room : j < length t.bodies
      room = omega (arith, length-map t.bodies (λ b. b.def.0))

      reads : (k : ℕ) (b : Body) → slice_get t.bodies k ≡ Some b → get_or defs k d ≡ b.def.0
      reads k b e = get_or_from_slice_get defs k b.def.0 d (slice_get-map (λ x. x.def.0) t.bodies k ∙ ap (option_map (λ x. x.def.0)) e)

      differ : (b c : Body) → slice_get t.bodies i ≡ Some b → slice_get t.bodies j ≡ Some c → b.def.0 ≡ c.def.0 → ⊥
      differ b c e f same =
          let one : i ≡ j = one_site i j (node_at t b.def.0) (ok.bodies i b e).named (subst (λ k. IsDefNode j (node_at t k)) (sym same) (ok.bodies j c f).named) in
          omega arith

      go : (o p : Option Body) → slice_get t.bodies i ≡ o → slice_get t.bodies j ≡ p → eqb (get_or defs i d) (get_or defs j d) ≡ false
      go None p e f = let past = past_none t.bodies i e in absurd (omega (arith, room))
      go (Some b) None e f = let past = past_none t.bodies j f in absurd (omega (arith, room))
      go (Some b) (Some c) e f = rw (reads i b e, reads j c f) (ne_eqb b.def.0 c.def.0 (differ b c e f))

  pub length-bodies : length t.bodies ≤ length t.nodes
  length-bodies =
      omega (arith, length-map t.bodies (λ b. b.def.0), length-le_from_distinct_below defs (length t.nodes) (IsDistinct-from_apart eqb defs apart) below)
    where
      each_map : (bs : List Body) → AllByRecursion (λ b. b.def.0 < length t.nodes) bs → AllByRecursion (λ x. x < length t.nodes) (map (λ b. b.def.0) bs)
      each_map [] h = tt
      each_map (b ∷ bs) h = (h.0, each_map bs h.1)

      below : (q : ℕ) → list_any (eqb q) defs ≡ true → q < length t.nodes
      below q = any_below (length t.nodes) q defs (each_map t.bodies (each_from (λ b. b.def.0 < length t.nodes) t.bodies def_within))
