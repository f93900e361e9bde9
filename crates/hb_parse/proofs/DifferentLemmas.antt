-- Nodes other than blocks of a program that a text says have different places.
use Rattle.std.proofs.Common.{◌≡◌, ℕ, ◌+◌, ◌≤◌, List, [], ◌∷◌, Option, Some, None, Ok, All, length, slice_get, option_map, refl, sym, ◌∙◌, ap, subst, subst₂, inl, inr, arith}
use Rattle.std.proofs.{lemmas.List.length-map, lemmas.Option.same_Some, lemmas.Option.slice_get-map}
use Rattle.hb_lex.specs.{Place.column_at, Place.line_at, Text.HasTokens, Tokens.AreInOrder, Tokens.Stands}
use Rattle.hb_lex.specs.declared.spans.Token.{Token}
use Rattle.hb_lex.proofs.Standing.{stands_from}
use Rattle.hb_tree.specs.{Table.Table, Nodes.node_at, Nodes.place_at, Program.IsExprNode}
use Rattle.hb_tree.specs.declared.node.Placed.{Placed}
use Rattle.hb_draft.specs.{Made.place_of, Whole.IsWhole}
use Rattle.hb_grammar.specs.Language.{program, kinds_of}
use Rattle.hb_parse.proofs.{LineLemmas.one-byte, BlockCounts.setup-none, BlockCounts.scripts-none, LaidLemmas.IsLaid, OwnLemmas.none, ReachedLemmas.IsReached}
use Rattle.hb_parse.specs.{Places.HasDifferentPlaces, Text.IsProgramOf, Text.Says}
use Rattle.hb_parse.proofs.{ApartLemmas.made-at, ApartLemmas.made-apart, ApartLemmas.taken, AlongLemmas.Along, AlongLemmas.along-start, AlongLemmas.along-all}
use Rattle.hb_build.specs.{Acts.nothing, Fits.Stands as Matches, Pile.Slot, Said.Said, Said.said_in}

empty : (pile : List Slot) → Matches [] pile → pile ≡ []
empty [] h = refl
empty (slot ∷ pile) h = absurd h

placed : (o : Option Placed) → IsExprNode (option_map (λ p. p.node) o) → (p : Placed) × (o ≡ Some p)
placed None h = absurd h
placed (Some p) h = (p, refl)

-- ── a program whose nodes are apart ──

module _ (text : List ℕ) (bound : ℕ) (t : Table) (h : IsLaid text bound (said_in t) none []) where
  abbrev place : ℕ → ℕ × ℕ
  place b = (line_at text b, column_at text b)

  -- a node that is no block: the byte at which its own token begins
  abbrev OwnByte : ℕ → Type 0
  OwnByte i = (b : ℕ) × (slice_get h.0.made i ≡ Some (Some b)) × (b ≤ length text) × (place_at t i ≡ Some (place b))

  own-byte : (i : ℕ) → IsExprNode (node_at t i) → OwnByte i
  own-byte i expr =
      let p = placed (slice_get t.nodes i) expr in
      let stands : slice_get (said_in t).places i ≡ Some (place_of p.0) = slice_get-map place_of t.nodes i ∙ ap (option_map place_of) p.1 in
      let here : place_at t i ≡ Some (place_of p.0) = ap (option_map place_of) p.1 in
      elim (made-at text h.0.made (said_in t).places i (place_of p.0) h.0.are_made stands) [
        | inl block ↦ absurd (omega (arith, h.0.kept i block, setup-none t i expr, scripts-none t i expr))
        | inr own ↦ (own.0, own.1, own.2, here ∙ ap Some own.3)
      ]

  places-apart : HasDifferentPlaces t
  places-apart i j expr_i expr_j same =
      let a = own-byte i expr_i in
      let b = own-byte j expr_j in
      let places : place a.0 ≡ place b.0 = same_Some (place a.0) (place b.0) (sym a.3 ∙ same ∙ b.3) in
      let byte : a.0 ≡ b.0 = one-byte text a.0 b.0 a.2 b.2 (ap (λ x. x.0) places) (ap (λ x. x.1) places) in
      let once : taken b.0 h.0.made + 0 ≤ 1 = h.0.once b.0 in
      made-apart h.0.made i j b.0 (subst (λ x. slice_get h.0.made i ≡ Some (Some x)) byte a.1) b.1 (omega (arith, once))

-- ── the program of a text ──

-- at the end of a text that says a program nothing lies on the pile, and all that holds on the way holds of it
module _ (text : List ℕ) (tokens : List Token) (lexed : HasTokens text tokens) (said : Said) (says : Says text tokens said) where
  standing : AreInOrder 0 tokens × All (Stands text) tokens
  standing = stands_from text lexed.0 0 None text (Ok tokens) refl lexed.1

  end : Along text tokens standing.0 standing.1 [] (length tokens) says.work
  end =
      let size : 0 + length (kinds_of tokens) ≡ length tokens = omega (arith, length-map tokens (λ token. token.kind)) in
      along-all text tokens standing.0 standing.1 says.actions.0 program 0 (kinds_of tokens) says.done nothing says.work says.actions.1 size says.built (along-start text tokens standing.0 standing.1)

  used_up : says.work.pile ≡ []
  used_up = empty says.work.pile (subst (λ tags. Matches tags says.work.pile) end.fits end.matches)

  laid : IsLaid text end.bound said none []
  laid = subst₂ (λ (x : Said) (pile : List Slot). IsLaid text end.bound x none pile) says.said_is used_up end.apart

  reached : IsReached said none []
  reached = subst₂ (λ (x : Said) (pile : List Slot). IsReached x none pile) says.said_is used_up end.reached

  -- each of its nodes lies in the setup or in a script
  pub whole : IsWhole (length said.places) said.setup said.scripts
  whole k within = omega (arith, reached k within)

pub different-places : (text : List ℕ) (tokens : List Token) (t : Table) → HasTokens text tokens → IsProgramOf text tokens t → HasDifferentPlaces t
different-places text tokens t lexed says = places-apart text (end text tokens lexed (said_in t) says).bound t (laid text tokens lexed (said_in t) says)
