-- How the grammar derives the pieces of canonical text, and with which deeds: one lemma for each form, whatever stands behind.
use Rattle.std.proofs.Common.{◌≡◌, ℕ, zero, suc, pos, List, [], ◌∷◌, ◌++◌, true, false, refl, subst}
use Rattle.std.specs.{Prelude.nat_lt, Prelude.if◌then◌else◌, List.flat_map, Fmt.signed_decimal}
use Rattle.hb_lex.specs.declared.kinds.TokenKind.TheVariants as k
use Rattle.hb_lex.specs.Literal.{value_of_number, value_of_text}
use Rattle.hb_tree.specs.declared.node.Op.{Op}
use Rattle.hb_tree.specs.declared.node.Op.TheVariants as op
use Rattle.hb_tree.specs.Table.{Table}
use Rattle.hb_tree.specs.Tree.{Tree, TBlock, Forest, NoTree, Trees}
use Rattle.hb_tree.specs.Pieces.{Piece, mark, joined_paren, line_end, word}
use Rattle.hb_tree.specs.Canon.{wrap, level, least_left, least_right, op_kind, op_level, own, each, arguments, otherwise, separated, line, quoted}
use Rattle.hb_grammar.specs.declared.{symbols.Sort.Sort, symbols.Symbol.Symbol, symbols.Symbol.TheVariants.Phrase as N}
use Rattle.hb_grammar.specs.declared.symbols.Sort.TheVariants as g
use Rattle.hb_grammar.specs.declared.actions.Action.TheVariants as a
use Rattle.hb_build.specs.Said.{Said}
use Rattle.hb_canonical.specs.Deeds as does
use Rattle.hb_canonical.specs.Deeds.{Deed, deed, plain}
use Rattle.hb_canonical.proofs.SentenceLemmas.{Sentence, token, action, looks, choose, split, join}

-- a phrase of this sort may be the pieces with these deeds, and behind them these symbols
pub record Leads (s : Sort) (ps : List Piece) (ds : List Deed) (further : List Symbol) : Type 0 where
  pub on : {stack : List Symbol} {behind : List Piece} {later : List Deed} → Sentence (further ++ stack) behind later → Sentence (N s ∷ stack) (ps ++ behind) (ds ++ later)

-- ── places of operands ──

abbrev pub AsExpression : List Piece → List Deed → Type 0
AsExpression ps ds = Leads g.Expression ps ds []

-- Each of these records says two things of an expression: how it stands at the front of a whole expression, and how it
-- stands further in. Behind it comes what may go on: a chain of operators or calls groups to the left.
pub record AsSum (ps : List Piece) (ds : List Deed) : Type 0 where
  pub front : Leads g.Expression ps ds (N g.MoreSum ∷ N g.MoreComparison ∷ [])
  pub inner : Leads g.Sum ps ds (N g.MoreSum ∷ [])

pub record AsProduct (ps : List Piece) (ds : List Deed) : Type 0 where
  pub front : Leads g.Expression ps ds (N g.MoreProduct ∷ N g.MoreSum ∷ N g.MoreComparison ∷ [])
  pub inner : Leads g.Product ps ds (N g.MoreProduct ∷ [])

pub record AsUnary (ps : List Piece) (ds : List Deed) : Type 0 where
  pub front : Leads g.Expression ps ds (N g.MoreProduct ∷ N g.MoreSum ∷ N g.MoreComparison ∷ [])
  pub inner : Leads g.Unary ps ds []

pub record AsPostfix (ps : List Piece) (ds : List Deed) : Type 0 where
  pub front : Leads g.Expression ps ds (N g.MorePostfix ∷ N g.MoreProduct ∷ N g.MoreSum ∷ N g.MoreComparison ∷ [])
  pub inner : Leads g.Unary ps ds (N g.MorePostfix ∷ [])

pub unary : {ps : List Piece} {ds : List Deed} → AsPostfix ps ds → AsUnary ps ds
unary e = record {
  front = record { on = λ h. e.front.on (choose g.MorePostfix 1 refl h) };
  inner = record { on = λ h. e.inner.on (choose g.MorePostfix 1 refl h) };
}

pub product : {ps : List Piece} {ds : List Deed} → AsUnary ps ds → AsProduct ps ds
product e = record {
  front = e.front;
  inner = record { on = λ h. choose g.Product 0 refl (e.inner.on h) };
}

pub sum : {ps : List Piece} {ds : List Deed} → AsProduct ps ds → AsSum ps ds
sum e = record {
  front = record { on = λ h. e.front.on (choose g.MoreProduct 1 refl h) };
  inner = record { on = λ h. choose g.Sum 0 refl (e.inner.on (choose g.MoreProduct 1 refl h)) };
}

pub expression : {ps : List Piece} {ds : List Deed} → AsSum ps ds → AsExpression ps ds
expression e = record { on = λ h. e.front.on (choose g.MoreSum 3 refl (choose g.MoreComparison 2 refl h)) }

-- an expression of this level stands where its level lets it; no level is above 5
abbrev pub Holds : ℕ → List Piece → List Deed → Type 0
Holds zero ps ds = AsExpression ps ds
Holds (suc zero) ps ds = AsExpression ps ds
Holds (suc (suc zero)) ps ds = AsSum ps ds
Holds (suc (suc (suc zero))) ps ds = AsProduct ps ds
Holds (suc (suc (suc (suc zero)))) ps ds = AsUnary ps ds
Holds (suc (suc (suc (suc (suc zero))))) ps ds = AsPostfix ps ds
Holds (suc (suc (suc (suc (suc (suc n)))))) ps ds = ⊥

pub whole : (l : ℕ) (ps : List Piece) (ds : List Deed) → Holds l ps ds → AsExpression ps ds
whole zero ps ds h = h
whole (suc zero) ps ds h = h
whole (suc (suc zero)) ps ds h = expression h
whole (suc (suc (suc zero))) ps ds h = expression (sum h)
whole (suc (suc (suc (suc zero)))) ps ds h = expression (sum (product h))
whole (suc (suc (suc (suc (suc zero))))) ps ds h = expression (sum (product (unary h)))
whole (suc (suc (suc (suc (suc (suc n)))))) ps ds h = absurd h

-- what is a value stands alone
pub value : {ps : List Piece} {ds : List Deed} → Leads g.Value ps ds [] → AsPostfix ps ds
value e = record {
  front = record { on = λ h. choose g.Expression 4 refl (choose g.OtherUnary 1 refl (e.on h)) };
  inner = record { on = λ h. choose g.Unary 1 refl (choose g.Postfix 0 refl (choose g.Primary 1 refl (e.on h))) };
}

-- ── parentheses ──

abbrev in_parens : List Piece → List Piece
in_parens ps = mark k.OpenParen ∷ (ps ++ mark k.CloseParen ∷ [])

abbrev opened : List Deed → List Deed
opened ds = plain a.Open ∷ (ds ++ plain a.Close ∷ [])

surrounded : (ps : List Piece) (ds : List Deed) → AsExpression ps ds → AsPostfix (in_parens ps) (opened ds)
surrounded ps ds e = value (record {
  on = λ h. choose g.Value 6 refl (token (action refl (split ps (mark k.CloseParen ∷ []) _ (join ds (plain a.Close ∷ []) _ (e.on (token (action refl h)))))));
})

-- in parentheses where the level is below the least
abbrev wrapped : ℕ → ℕ → List Piece → List Piece
wrapped l least ps = if nat_lt l least then in_parens ps else ps

abbrev wrapped_deeds : ℕ → ℕ → List Deed → List Deed
wrapped_deeds l least ds = if nat_lt l least then opened ds else ds

sum_of : (l : ℕ) (ps : List Piece) (ds : List Deed) → Holds l ps ds → AsSum (wrapped l 2 ps) (wrapped_deeds l 2 ds)
sum_of zero ps ds h = sum (product (unary (surrounded ps ds h)))
sum_of (suc zero) ps ds h = sum (product (unary (surrounded ps ds h)))
sum_of (suc (suc zero)) ps ds h = h
sum_of (suc (suc (suc zero))) ps ds h = sum h
sum_of (suc (suc (suc (suc zero)))) ps ds h = sum (product h)
sum_of (suc (suc (suc (suc (suc zero))))) ps ds h = sum (product (unary h))
sum_of (suc (suc (suc (suc (suc (suc n)))))) ps ds h = absurd h

product_of : (l : ℕ) (ps : List Piece) (ds : List Deed) → Holds l ps ds → AsProduct (wrapped l 3 ps) (wrapped_deeds l 3 ds)
product_of zero ps ds h = product (unary (surrounded ps ds h))
product_of (suc zero) ps ds h = product (unary (surrounded ps ds h))
product_of (suc (suc zero)) ps ds h = product (unary (surrounded ps ds (expression h)))
product_of (suc (suc (suc zero))) ps ds h = h
product_of (suc (suc (suc (suc zero)))) ps ds h = product h
product_of (suc (suc (suc (suc (suc zero))))) ps ds h = product (unary h)
product_of (suc (suc (suc (suc (suc (suc n)))))) ps ds h = absurd h

unary_of : (l : ℕ) (ps : List Piece) (ds : List Deed) → Holds l ps ds → AsUnary (wrapped l 4 ps) (wrapped_deeds l 4 ds)
unary_of zero ps ds h = unary (surrounded ps ds h)
unary_of (suc zero) ps ds h = unary (surrounded ps ds h)
unary_of (suc (suc zero)) ps ds h = unary (surrounded ps ds (expression h))
unary_of (suc (suc (suc zero))) ps ds h = unary (surrounded ps ds (expression (sum h)))
unary_of (suc (suc (suc (suc zero)))) ps ds h = h
unary_of (suc (suc (suc (suc (suc zero))))) ps ds h = unary h
unary_of (suc (suc (suc (suc (suc (suc n)))))) ps ds h = absurd h

postfix_of : (l : ℕ) (ps : List Piece) (ds : List Deed) → Holds l ps ds → AsPostfix (wrapped l 5 ps) (wrapped_deeds l 5 ds)
postfix_of zero ps ds h = surrounded ps ds h
postfix_of (suc zero) ps ds h = surrounded ps ds h
postfix_of (suc (suc zero)) ps ds h = surrounded ps ds (expression h)
postfix_of (suc (suc (suc zero))) ps ds h = surrounded ps ds (expression (sum h))
postfix_of (suc (suc (suc (suc zero)))) ps ds h = surrounded ps ds (expression (sum (product h)))
postfix_of (suc (suc (suc (suc (suc zero))))) ps ds h = h
postfix_of (suc (suc (suc (suc (suc (suc n)))))) ps ds h = absurd h

-- ── operators ──

-- an operator behind its left operand, and its right operand with its deeds
abbrev operator : Op → List Piece → List Piece
operator o qs = mark (op_kind o) ∷ qs

abbrev operated : Op → List Deed → List Deed
operated o es = plain a.HoldOperator ∷ (es ++ plain (a.PutBinary o) ∷ [])

more_comparison : (o : Op) (qs : List Piece) (es : List Deed) → op_level o ≡ 1 → AsSum qs es → Leads g.MoreComparison (operator o qs) (operated o es) []
more_comparison op.Less qs es e r = record { on = λ h. choose g.MoreComparison 0 refl (token (action refl (join es (plain (a.PutBinary op.Less) ∷ []) _ (r.inner.on (choose g.MoreSum 3 refl (action refl h)))))) }
more_comparison op.Equal qs es e r = record { on = λ h. choose g.MoreComparison 1 refl (token (action refl (join es (plain (a.PutBinary op.Equal) ∷ []) _ (r.inner.on (choose g.MoreSum 3 refl (action refl h)))))) }
more_comparison _ qs es e r = cc

compared : (o : Op) (ps qs : List Piece) (ds es : List Deed) → op_level o ≡ 1 → AsSum ps ds → AsSum qs es → AsExpression (ps ++ operator o qs) (ds ++ operated o es)
compared o ps qs ds es e l r = record { on = λ h. split ps (operator o qs) _ (join ds (operated o es) _ (l.front.on (choose g.MoreSum 3 refl ((more_comparison o qs es e r).on h)))) }

more_sum : (o : Op) (qs : List Piece) (es : List Deed) → op_level o ≡ 2 → AsProduct qs es → Leads g.MoreSum (operator o qs) (operated o es) (N g.MoreSum ∷ [])
more_sum op.Add qs es e r = record { on = λ h. choose g.MoreSum 0 refl (token (action refl (join es (plain (a.PutBinary op.Add) ∷ []) _ (r.inner.on (choose g.MoreProduct 1 refl (action refl h)))))) }
more_sum op.Sub qs es e r = record { on = λ h. choose g.MoreSum 1 refl (token (action refl (join es (plain (a.PutBinary op.Sub) ∷ []) _ (r.inner.on (choose g.MoreProduct 1 refl (action refl h)))))) }
more_sum op.Concat qs es e r = record { on = λ h. choose g.MoreSum 2 refl (token (action refl (join es (plain (a.PutBinary op.Concat) ∷ []) _ (r.inner.on (choose g.MoreProduct 1 refl (action refl h)))))) }
more_sum _ qs es e r = cc

summed : (o : Op) (ps qs : List Piece) (ds es : List Deed) → op_level o ≡ 2 → AsSum ps ds → AsProduct qs es → AsSum (ps ++ operator o qs) (ds ++ operated o es)
summed o ps qs ds es e l r = record {
  front = record { on = λ h. split ps (operator o qs) _ (join ds (operated o es) _ (l.front.on ((more_sum o qs es e r).on h))) };
  inner = record { on = λ h. split ps (operator o qs) _ (join ds (operated o es) _ (l.inner.on ((more_sum o qs es e r).on h))) };
}

more_product : (qs : List Piece) (es : List Deed) → AsUnary qs es → Leads g.MoreProduct (operator op.Mul qs) (operated op.Mul es) (N g.MoreProduct ∷ [])
more_product qs es r = record { on = λ h. choose g.MoreProduct 0 refl (token (action refl (join es (plain (a.PutBinary op.Mul) ∷ []) _ (r.inner.on (action refl h))))) }

multiplied : (ps qs : List Piece) (ds es : List Deed) → AsProduct ps ds → AsUnary qs es → AsProduct (ps ++ operator op.Mul qs) (ds ++ operated op.Mul es)
multiplied ps qs ds es l r = record {
  front = record { on = λ h. split ps (operator op.Mul qs) _ (join ds (operated op.Mul es) _ (l.front.on ((more_product qs es r).on h))) };
  inner = record { on = λ h. split ps (operator op.Mul qs) _ (join ds (operated op.Mul es) _ (l.inner.on ((more_product qs es r).on h))) };
}

pub binary : (o : Op) (l r : Tree) (ps qs : List Piece) (ds es : List Deed) → Holds (level l) ps ds → Holds (level r) qs es
    → Holds (op_level o) (wrap (least_left o) l ps ++ operator o (wrap (least_right o) r qs)) (does.wrap (least_left o) l ds ++ operated o (does.wrap (least_right o) r es))
binary op.Add l r ps qs ds es h i = summed op.Add (wrap 2 l ps) (wrap 3 r qs) (does.wrap 2 l ds) (does.wrap 3 r es) refl (sum_of (level l) ps ds h) (product_of (level r) qs es i)
binary op.Sub l r ps qs ds es h i = summed op.Sub (wrap 2 l ps) (wrap 3 r qs) (does.wrap 2 l ds) (does.wrap 3 r es) refl (sum_of (level l) ps ds h) (product_of (level r) qs es i)
binary op.Concat l r ps qs ds es h i = summed op.Concat (wrap 2 l ps) (wrap 3 r qs) (does.wrap 2 l ds) (does.wrap 3 r es) refl (sum_of (level l) ps ds h) (product_of (level r) qs es i)
binary op.Mul l r ps qs ds es h i = multiplied (wrap 3 l ps) (wrap 4 r qs) (does.wrap 3 l ds) (does.wrap 4 r es) (product_of (level l) ps ds h) (unary_of (level r) qs es i)
binary op.Less l r ps qs ds es h i = compared op.Less (wrap 2 l ps) (wrap 2 r qs) (does.wrap 2 l ds) (does.wrap 2 r es) refl (sum_of (level l) ps ds h) (sum_of (level r) qs es i)
binary op.Equal l r ps qs ds es h i = compared op.Equal (wrap 2 l ps) (wrap 2 r qs) (does.wrap 2 l ds) (does.wrap 2 r es) refl (sum_of (level l) ps ds h) (sum_of (level r) qs es i)

pub negated : (e : Tree) (ps : List Piece) (ds : List Deed) → Holds (level e) ps ds → AsUnary (mark k.KwNot ∷ wrap 4 e ps) (plain a.OpenWord ∷ (does.wrap 4 e ds ++ plain a.PutNot ∷ []))
negated e ps ds h = denied (wrap 4 e ps) (does.wrap 4 e ds) (unary_of (level e) ps ds h)
  where
    denied : (qs : List Piece) (es : List Deed) → AsUnary qs es → AsUnary (mark k.KwNot ∷ qs) (plain a.OpenWord ∷ (es ++ plain a.PutNot ∷ []))
    denied qs es x = record {
      front = record { on = λ i. choose g.Expression 4 refl (choose g.OtherUnary 0 refl (token (action refl (join es (plain a.PutNot ∷ []) _ (x.inner.on (action refl i)))))) };
      inner = record { on = λ i. choose g.Unary 0 refl (token (action refl (join es (plain a.PutNot ∷ []) _ (x.inner.on (action refl i))))) };
    }

-- ── names and values ──

pub variable : (bytes : List ℕ) → AsPostfix (word k.Name bytes ∷ []) (deed a.HoldName bytes ∷ plain a.PutVariable ∷ [])
variable bytes = record {
  front = record { on = λ h. choose g.Expression 0 refl (looks (choose g.AfterName 1 refl (action refl h))) };
  inner = record { on = λ h. choose g.Unary 1 refl (choose g.Postfix 0 refl (choose g.Primary 0 refl (looks (action refl h)))) };
}

pub assigned : (bytes : List ℕ) (ps : List Piece) (ds : List Deed) → AsExpression ps ds
    → AsExpression (word k.Name bytes ∷ mark k.Assign ∷ ps) (deed a.HoldName bytes ∷ plain a.OpenAssign ∷ (ds ++ plain a.PutAssign ∷ []))
assigned bytes ps ds e = record { on = λ h. choose g.Expression 0 refl (looks (choose g.AfterName 0 refl (token (action refl (join ds (plain a.PutAssign ∷ []) _ (e.on (action refl h))))))) }

pub printed : (ps : List Piece) (ds : List Deed) → AsExpression ps ds → AsExpression (mark k.KwPrint ∷ ps) (plain a.OpenWord ∷ (ds ++ plain a.PutPrint ∷ []))
printed ps ds e = record { on = λ h. choose g.Expression 1 refl (token (action refl (join ds (plain a.PutPrint ∷ []) _ (e.on (action refl h))))) }

pub nil : AsPostfix (mark k.KwNil ∷ []) (plain a.PutNil ∷ [])
nil = value (record { on = λ h. choose g.Value 1 refl (token (action refl h)) })

pub truth : AsPostfix (mark k.KwTrue ∷ []) (does.boolean true ∷ [])
truth = value (record { on = λ h. choose g.Value 2 refl (token (action refl h)) })

pub falsehood : AsPostfix (mark k.KwFalse ∷ []) (does.boolean false ∷ [])
falsehood = value (record { on = λ h. choose g.Value 3 refl (token (action refl h)) })

pub oneself : AsPostfix (mark k.KwSelf ∷ []) (plain a.PutSelf ∷ [])
oneself = value (record { on = λ h. choose g.Value 4 refl (token (action refl h)) })

-- literals are looked at as they are spelled anew
pub number : (bytes : List ℕ) (n : ℕ) → value_of_number bytes ≡ n → AsPostfix (word k.Number bytes ∷ []) (deed a.PutNumber (signed_decimal (pos n)) ∷ [])
number bytes n e =
    subst (λ (m : ℕ). AsPostfix (word k.Number bytes ∷ []) (deed a.PutNumber (signed_decimal (pos m)) ∷ [])) e
    (value (record { on = λ h. choose g.Value 11 refl (looks h) }))

pub text : (bytes said : List ℕ) → value_of_text bytes ≡ said → AsPostfix (word k.Text bytes ∷ []) (deed a.PutText (quoted said) ∷ [])
text bytes said e =
    subst (λ (s : List ℕ). AsPostfix (word k.Text bytes ∷ []) (deed a.PutText (quoted s) ∷ [])) e
    (value (record { on = λ h. choose g.Value 0 refl (looks h) }))

pub made : (bytes : List ℕ) → AsPostfix (word k.ClassName bytes ∷ mark k.Dot ∷ mark k.KwNew ∷ []) (deed a.HoldClass bytes ∷ plain a.PutNew ∷ [])
made bytes = value (record { on = λ h. choose g.Value 5 refl (looks (token (token (action refl h)))) })

pub spelled : (ps : List Piece) (ds : List Deed) → AsExpression ps ds
    → AsPostfix (mark k.KwStr ∷ joined_paren ∷ (ps ++ mark k.CloseParen ∷ [])) (plain a.HoldStr ∷ plain a.Open ∷ (ds ++ plain a.Close ∷ plain a.PutStr ∷ []))
spelled ps ds e = value (record {
  on = λ h.
      choose g.Value 7 refl (token (action refl (token (action refl
      (split ps (mark k.CloseParen ∷ []) _ (join ds (plain a.Close ∷ plain a.PutStr ∷ []) _ (e.on (token (action refl (action refl h))))))))));
})

-- ── blocks ──

-- a block, whose end is done behind it
pub record AsBlock (ps : List Piece) (ds : List Deed) : Type 0 where
  pub on : {stack : List Symbol} {behind : List Piece} {later : List Deed} → Sentence stack behind (plain a.EndBlock ∷ later) → Sentence (N g.Block ∷ stack) (ps ++ behind) (ds ++ later)

-- the second block of an `if`, and the `end`; the first block ends before it
pub record AsElse (ps : List Piece) (ds : List Deed) : Type 0 where
  pub on : {stack : List Symbol} {behind : List Piece} {later : List Deed} → Sentence stack behind later → Sentence (N g.ElsePart ∷ stack) (ps ++ mark k.KwEnd ∷ behind) (plain a.EndBlock ∷ (ds ++ later))

spoken : (ps : List Piece) (ds : List Deed) → AsBlock ps ds → AsElse (mark k.KwElse ∷ ps) ds
spoken ps ds b = record { on = λ h. choose g.ElsePart 0 refl (token (action refl (b.on (token (action refl h))))) }

pub other : (t : Table) (s : Said) (e : Tree) → AsBlock (own t e) (does.own s e) → AsElse (otherwise e (own t e)) (does.own s e)
other t s (TBlock id NoTree) b = record { on = λ h. choose g.ElsePart 1 refl (token (action refl (action refl (action refl h)))) }
other t s e b = spoken (own t e) (does.own s e) b

pub chosen : (ps qs os : List Piece) (ds es fs : List Deed) → AsExpression ps ds → AsBlock qs es → AsElse os fs
    → AsPostfix (mark k.KwIf ∷ ps ++ mark k.KwThen ∷ qs ++ os ++ mark k.KwEnd ∷ []) (plain a.OpenWord ∷ (ds ++ es ++ fs ++ plain a.PutIf ∷ []))
chosen ps qs os ds es fs e b o = value (record {
  on = λ h.
      choose g.Value 8 refl (token (action refl
      (split ((ps ++ mark k.KwThen ∷ qs) ++ os) (mark k.KwEnd ∷ []) _
      (split (ps ++ mark k.KwThen ∷ qs) os _
      (split ps (mark k.KwThen ∷ qs) _
      (join ((ds ++ es) ++ fs) (plain a.PutIf ∷ []) _
      (join (ds ++ es) fs _
      (join ds es _ (e.on (token (b.on (o.on (action refl h)))))))))))));
})

pub repeated : (ps qs : List Piece) (ds es : List Deed) → AsExpression ps ds → AsBlock qs es
    → AsPostfix (mark k.KwWhile ∷ ps ++ mark k.KwDo ∷ qs ++ mark k.KwEnd ∷ []) (plain a.OpenWord ∷ (ds ++ es ++ plain a.PutWhile ∷ []))
repeated ps qs ds es e b = value (record {
  on = λ h.
      choose g.Value 9 refl (token (action refl
      (split (ps ++ mark k.KwDo ∷ qs) (mark k.KwEnd ∷ []) _
      (split ps (mark k.KwDo ∷ qs) _
      (join (ds ++ es) (plain a.PutWhile ∷ []) _
      (join ds es _ (e.on (token (b.on (token (action refl (action refl h))))))))))));
})

-- ── calls ──

abbrev pub asked : List ℕ → List Deed → List Deed
asked bytes es = deed a.HoldCall bytes ∷ (es ++ plain a.PutCall ∷ [])

called : (ps : List Piece) (ds : List Deed) (bytes : List ℕ) (qs : List Piece) (es : List Deed) → AsPostfix ps ds → Leads g.Arguments qs es []
    → AsPostfix (ps ++ mark k.Dot ∷ word k.Name bytes ∷ qs) (ds ++ asked bytes es)
called ps ds bytes qs es r h =
    let more : Leads g.MorePostfix (mark k.Dot ∷ word k.Name bytes ∷ qs) (asked bytes es) (N g.MorePostfix ∷ []) =
    record { on = λ i. choose g.MorePostfix 0 refl (token (looks (join es (plain a.PutCall ∷ []) _ (h.on (action refl i))))) } in
    record {
      front = record { on = λ i. split ps (mark k.Dot ∷ word k.Name bytes ∷ qs) _ (join ds (asked bytes es) _ (r.front.on (more.on i))) };
      inner = record { on = λ i. split ps (mark k.Dot ∷ word k.Name bytes ∷ qs) _ (join ds (asked bytes es) _ (r.inner.on (more.on i))) };
    }

pub call : (r : Tree) (ps : List Piece) (ds : List Deed) (bytes : List ℕ) (qs : List Piece) (es : List Deed) → Holds (level r) ps ds → Leads g.Arguments qs es []
    → AsPostfix (wrap 5 r ps ++ mark k.Dot ∷ word k.Name bytes ∷ qs) (does.wrap 5 r ds ++ asked bytes es)
call r ps ds bytes qs es h given_are = called (wrap 5 r ps) (does.wrap 5 r ds) bytes qs es (postfix_of (level r) ps ds h) given_are

-- ── several expressions ──

module _ (t : Table) (s : Said) where
  abbrev pub AreExpressions : Forest → Type 0
  AreExpressions NoTree = Unit {0}
  AreExpressions (Trees e es) = AsExpression (own t e) (does.own s e) × AreExpressions es

  abbrev behind_each : Piece → Forest → List Piece
  behind_each sep es = flat_map (λ qs. sep ∷ qs) (each t es)

  more_items : (es : Forest) → AreExpressions es → Leads g.MoreItems (behind_each (mark k.Separator) es) (does.each s a.AddItem es) []
  more_items NoTree h = record { on = λ i. choose g.MoreItems 1 refl i }
  more_items (Trees e es) h = record {
    on = λ i.
        choose g.MoreItems 0 refl (token (choose g.Items 1 refl
        (split (own t e) (behind_each (mark k.Separator) es) _ (join (does.own s e) (plain a.AddItem ∷ does.each s a.AddItem es) _ (h.0.on (action refl ((more_items es h.1).on i)))))));
  }

  items : (es : Forest) → AreExpressions es → Leads g.Items (separated (mark k.Separator) (each t es)) (does.each s a.AddItem es) []
  items NoTree h = record { on = λ i. choose g.Items 2 refl i }
  items (Trees e es) h = record {
    on = λ i.
        choose g.Items 1 refl
        (split (own t e) (behind_each (mark k.Separator) es) _ (join (does.own s e) (plain a.AddItem ∷ does.each s a.AddItem es) _ (h.0.on (action refl ((more_items es h.1).on i)))));
  }

  pub block : (es : Forest) → AreExpressions es → AsBlock (separated (mark k.Separator) (each t es)) (plain a.BeginBlock ∷ (does.each s a.AddItem es ++ plain a.EndBlock ∷ []))
  block es h = record { on = λ i. choose g.Block 0 refl (action refl (join (does.each s a.AddItem es) (plain a.EndBlock ∷ []) _ ((items es h).on i))) }

  -- each item on a line
  pub lines : (es : Forest) → AreExpressions es → Leads g.Items (flat_map line (each t es)) (does.each s a.AddItem es) []
  lines NoTree h = record { on = λ i. choose g.Items 2 refl i }
  lines (Trees e es) h = record {
    on = λ i.
        split (line (own t e)) (flat_map line (each t es)) _ (split (own t e) (line_end ∷ []) _
        (choose g.Items 1 refl (join (does.own s e) (plain a.AddItem ∷ does.each s a.AddItem es) _ (h.0.on (action refl (choose g.MoreItems 0 refl (token ((lines es h.1).on i))))))));
  }

  more_arguments : (es : Forest) → AreExpressions es → Leads g.MoreArguments (behind_each (mark k.Comma) es) (does.each s a.AddArgument es) []
  more_arguments NoTree h = record { on = λ i. choose g.MoreArguments 1 refl i }
  more_arguments (Trees e es) h = record {
    on = λ i.
        choose g.MoreArguments 0 refl (token
        (split (own t e) (behind_each (mark k.Comma) es) _ (join (does.own s e) (plain a.AddArgument ∷ does.each s a.AddArgument es) _ (h.0.on (action refl ((more_arguments es h.1).on i))))));
  }

  pub given : (es : Forest) → AreExpressions es → Leads g.Arguments (arguments (each t es)) (does.arguments es (does.each s a.AddArgument es)) []
  given NoTree h = record { on = λ i. choose g.Arguments 1 refl i }
  given (Trees e es) h = record {
    on = λ i.
        choose g.Arguments 0 refl (token (action refl
        (split (separated (mark k.Comma) (each t (Trees e es))) (mark k.CloseParen ∷ []) _
        (join (does.each s a.AddArgument (Trees e es)) (plain a.Close ∷ []) _
        (choose g.ArgumentList 0 refl
        (split (own t e) (behind_each (mark k.Comma) es) _
        (join (does.own s e) (plain a.AddArgument ∷ does.each s a.AddArgument es) _ (h.0.on (action refl ((more_arguments es h.1).on (token (action refl i))))))))))));
  }
