-- One more move, after those of the turns before.
use Rattle.std.proofs.Common.{◌≡◌, ℕ, ◌+◌, ◌-◌, ◌≤◌, List, [], ◌++◌, length, take, drop}
use Rattle.std.proofs.Common.{sym, ap, ap₂, ◌∙◌, append_assoc, length-append, take-append-drop}
use Rattle.std.proofs.{lemmas.List.drop-drop, lemmas.List.take_rest, lemmas.List.length-take-le, KnownBytes.Consumes-trans}
use Rattle.std.specs.declared.option.Option.{Option}
use Rattle.std.specs.Io.KnownBytes.{Consumes}

-- the front grows by the first n of the rest
pub front-moved : (all done rest : List ℕ) (n : ℕ) → all ≡ done ++ rest
    → all ≡ (done ++ take n rest) ++ take (length rest - n) (drop n rest)
front-moved all done rest n split =
    split ∙ ap (λ l. done ++ l) (sym (take-append-drop n rest))
    ∙ sym (append_assoc done (take n rest) (drop n rest))
    ∙ ap (λ l. (done ++ take n rest) ++ l) (sym (take_rest rest n))

-- a read of n bytes after those taken, and how many bytes that makes
pub Consumes-read : (a b c : Option (List ℕ)) (taken buf : List ℕ) (n : ℕ) → n ≤ length buf
    → Consumes a b taken → Consumes b c (take n buf)
    → (bytes : List ℕ) × Consumes a c bytes × (length bytes ≡ length taken + n)
Consumes-read a b c taken buf n within before read = (
  taken ++ take n buf,
  Consumes-trans a b c _ _ before read,
  length-append taken (take n buf) ∙ ap (λ k. length taken + k) (length-take-le n buf within),
)

-- the bytes left, after their first n were copied to a buffer
pub left-copied : (xs buf : List ℕ) (at n : ℕ) → take n buf ≡ take n (drop at xs)
    → drop at xs ≡ take n buf ++ drop (at + n) xs
left-copied xs buf at n copied =
    sym (take-append-drop n (drop at xs))
    ∙ ap₂ (λ front rest. front ++ rest) (sym copied) (drop-drop n at xs)

-- where nothing is left and nothing was copied, nothing is left
pub end-copied : (xs : List ℕ) (at n : ℕ) → n ≡ 0 → drop at xs ≡ [] → drop (at + n) xs ≡ []
end-copied xs at n none end = sym (drop-drop n at xs) ∙ ap₂ (λ k l. drop k l) none end
