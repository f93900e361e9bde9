use Rattle.std.proofs.Common.{◌≡◌, ◌+◌, ◌%◌, ℕ, [], ◌∷◌, ◌++◌, length, take, sym, ap, ◌∙◌, arith}
use Rattle.std.proofs.lemmas.List.{length-take-le, take_more}
use Rattle.std.proofs.Math.Seq.{take-length}
use Rattle.hb_row.proofs.PackingLemmas.{class_in, count_in, first_byte, left_bytes}
use Rattle.hb_row.proofs.spelling.decode.Goals as goal

pub overflow_cast-class : goal.overflow_cast-class
overflow_cast-class c = let r = c.requires in let e = class_in r.0 r.1 c.args.words.now r.2 in let l = r.1.class in omega (arith, e, l)

pub word_from-word-requires : goal.word_from-word-requires
word_from-word-requires c = let r = c.requires in let e = count_in r.0 r.1 c.args.words.now r.2 in let l = r.1.short in let t = c.loop-at-test.true in omega (arith, e, l, t)

pub push-requires : goal.push-requires
push-requires c =
    let r = c.requires in let e = count_in r.0 r.1 c.args.words.now r.2 in let l = r.1.short in let t = c.loop-at-test.true in
    let now = (c.loop-at.invariant.read r.0 r.1 r.2).0 in let long = length-take-le c.loop-at.at r.0.1 (omega (arith, e, t)) in
    let n = ap length now in omega (arith, e, l, t, long, n)

pub loop-at-preserved : goal.loop-at-preserved
loop-at-preserved c = record {
  within = (let t = c.loop-at-test.true in omega arith);
  read = λ name valid is.
      (let i = c.loop-at.invariant.read name valid is in let word = c.word_from-word.ensures name is i.1 in
      let at : ℕ = c.loop-at.at in let n = count_in name valid c.args.words.now is in let t = c.loop-at-test.true in
      let byte = first_byte at c.word_from-word.result name.1 valid.bytes word in
      let one_more : take at name.1 ++ c.word_from-word.result % 256 ∷ [] ≡ take (at + 1) name.1 = ap (λ z. take at name.1 ++ z ∷ []) byte ∙ sym (take_more name.1 at 0 (omega (arith, n, t))) in
      (c.push.ensures.items ∙ ap (λ z. z ++ c.word_from-word.result % 256 ∷ []) i.0 ∙ one_more, left_bytes at c.word_from-word.result name.1 valid.bytes word));
}

pub returns : goal.returns
returns c name valid is =
    let i = c.loop-at.invariant.read name valid is in let n = count_in name valid c.args.words.now is in let t = c.loop-at-test.false in let le = c.loop-at.invariant.within in
    let at_end : c.loop-at.at ≡ length name.1 = omega (arith, n, t, le) in
    let bytes : c.loop-at.bytes.items ≡ name.1 = i.0 ∙ ap (λ z. take z name.1) at_end ∙ take-length name.1 in
    let class = class_in name valid c.args.words.now is in λ k. (class k, bytes k)
