use Rattle.std.proofs.Common.{◌≡◌, ◌<◌, ◌+◌, ◌∷◌, [], ◌++◌, sym, ap, ◌∙◌, subst, length, get_or, List, arith}
use Rattle.core.specs.Mem.Slots.{slots_items}
use mathlib.Core.List.{IsPrefix}
use Rattle.std.proofs.lemmas.List.{length_push}
use Rattle.hb_names.specs.Names.{Name, place}
use Rattle.hb_names.specs.declared.names.TheConstants.{NAMES_MAX}
use Rattle.hb_row.specs.Row.{row_at}
use Rattle.hb_row.specs.Spelling.{said}
use Rattle.hb_row.proofs.ListLemmas.{prefix_whole, prefix_next}
use Rattle.hb_row.proofs.EndLemmas.{read_at, ends, goes_on, next_new, next_spelt}
use Rattle.hb_row.proofs.gather.read_rest.Goals as goal

pub returns-then-word-eq0 : goal.returns-then-word-eq0
returns-then-word-eq0 c names tells begins =
    let i = c.loop-count.invariant in let words = slots_items c.args.words.now.words in let t = c.loop-count-test.true in let n = i.counted in
    let is : get_or words (row_at (length c.loop-count.store.names)) 0 ≡ c.word-word.result = ap (λ z. get_or words (1 + z) 0) (sym i.counted)
    ∙ read_at words (1 + c.loop-count.count) c.word-word.result c.word-word.ensures in
    ends words names tells c.loop-count.store.names (i.begins names tells begins) (omega (arith, t, n)) (is ∙ c.if-word-eq0.true)

pub read_offer-spelled-requires-clause-low : goal.read_offer-spelled-requires-clause-low
read_offer-spelled-requires-clause-low c =
    let i = c.loop-count.invariant in let words = slots_items c.args.words.now.words in let t = c.loop-count-test.true in let n = i.counted in let r = c.requires.row in let f = c.if-word-eq0.false in
    let is : get_or words (row_at (length c.loop-count.store.names)) 0 ≡ c.word-word.result = ap (λ z. get_or words (1 + z) 0) (sym i.counted)
    ∙ read_at words (1 + c.loop-count.count) c.word-word.result c.word-word.ensures in
    let next = goes_on words r.0 r.1 c.loop-count.store.names (i.begins r.0 r.1 r.2) (omega (arith, t, n)) (λ h. f (sym is ∙ h)) in
    let low = r.1.named (length c.loop-count.store.names) next.0 next.1 in (omega (arith, low.0, is), omega (arith, low.1, is))

pub read_offer-spelled-requires-clause-there : goal.read_offer-spelled-requires-clause-there
read_offer-spelled-requires-clause-there c =
    let i = c.loop-count.invariant in let words = slots_items c.args.words.now.words in let t = c.loop-count-test.true in let n = i.counted in let r = c.requires.row in let f = c.if-word-eq0.false in
    let is : get_or words (row_at (length c.loop-count.store.names)) 0 ≡ c.word-word.result = ap (λ z. get_or words (1 + z) 0) (sym i.counted)
    ∙ read_at words (1 + c.loop-count.count) c.word-word.result c.word-word.ensures in
    let begins = i.begins r.0 r.1 r.2 in let inside : length c.loop-count.store.names < NAMES_MAX = omega (arith, t, n) in
    let next = goes_on words r.0 r.1 c.loop-count.store.names begins inside (λ h. f (sym is ∙ h)) in
    (next.0, r.1.valid (length c.loop-count.store.names) next.0 next.1, next_spelt words r.0 r.1 c.loop-count.store.names begins inside next.0 next.1 c.word-word.result is)

pub push-requires-clause-new : goal.push-requires-clause-new
push-requires-clause-new c =
    let i = c.loop-count.invariant in let words = slots_items c.args.words.now.words in let t = c.loop-count-test.true in let n = i.counted in let r = c.requires.row in let f = c.if-word-eq0.false in
    let is : get_or words (row_at (length c.loop-count.store.names)) 0 ≡ c.word-word.result = ap (λ z. get_or words (1 + z) 0) (sym i.counted)
    ∙ read_at words (1 + c.loop-count.count) c.word-word.result c.word-word.ensures in
    let begins = i.begins r.0 r.1 r.2 in let inside : length c.loop-count.store.names < NAMES_MAX = omega (arith, t, n) in
    let next = goes_on words r.0 r.1 c.loop-count.store.names begins inside (λ h. f (sym is ∙ h)) in
    let there = next_spelt words r.0 r.1 c.loop-count.store.names begins inside next.0 next.1 c.word-word.result is in
    let read : said c.read_offer-spelled.result ≡ next.0 = c.read_offer-spelled.ensures next.0 (r.1.valid (length c.loop-count.store.names) next.0 next.1) there in
    (λ k. place (c.in_ok-reserve.ensures.names k) (c.read_offer-spelled.result.class.0, c.as_slice.ensures.value k)) ∙ ap (place c.loop-count.store.names) read
    ∙ next_new words r.0 r.1 c.loop-count.store.names begins inside next.0 next.1

pub loop-count-preserved : goal.loop-count-preserved
loop-count-preserved c =
    let i = c.loop-count.invariant in let words = slots_items c.args.words.now.words in let t = c.loop-count-test.true in let n = i.counted in let f = c.if-word-eq0.false in
    let is : get_or words (row_at (length c.loop-count.store.names)) 0 ≡ c.word-word.result = ap (λ z. get_or words (1 + z) 0) (sym i.counted)
    ∙ read_at words (1 + c.loop-count.count) c.word-word.result c.word-word.ensures in
    let pushed : c.push.new.self.names ≡ c.loop-count.store.names ++ said c.read_offer-spelled.result ∷ [] = c.push.ensures.names
    ∙ (λ k. c.in_ok-reserve.ensures.names k ++ (c.read_offer-spelled.result.class.0, c.as_slice.ensures.value k) ∷ []) in record {
      counted = (let m = ap length pushed in let l = length_push c.loop-count.store.names (said c.read_offer-spelled.result) in omega (arith, m, l, n));
      few = omega (arith, t);
      begins = λ names tells before.
          (let begins = i.begins names tells before in let inside : length c.loop-count.store.names < NAMES_MAX = omega (arith, t, n) in
          let next = goes_on words names tells c.loop-count.store.names begins inside (λ h. f (sym is ∙ h)) in
          let there = next_spelt words names tells c.loop-count.store.names begins inside next.0 next.1 c.word-word.result is in
          let read : said c.read_offer-spelled.result ≡ next.0 = c.read_offer-spelled.ensures next.0 (tells.valid (length c.loop-count.store.names) next.0 next.1) there in
          subst (λ (l : List Name). IsPrefix l names) (sym (pushed ∙ ap (λ z. c.loop-count.store.names ++ z ∷ []) read)) (prefix_next c.loop-count.store.names names next.0 begins next.1));
    }

pub returns : goal.returns
returns c names tells before =
    let i = c.loop-count.invariant in let t = c.loop-count-test.false in let n = i.counted in let few = tells.few in
    prefix_whole c.loop-count.store.names names (i.begins names tells before) (omega (arith, t, n, few))
