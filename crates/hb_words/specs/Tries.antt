-- What a try to change a type or a definition tells.
use Rattle.std.specs.Prelude.{◌≡◌, ◌≢◌, ℕ, ◌<◌, length}
use Rattle.hb_types.specs.declared.{ids.KeyId.KeyId, ids.TypeSite.TypeSite, ids.BodySite.BodySite}
use Rattle.hb_tables.specs.declared.{desk.TypeAnswer.TypeAnswer, desk.TypeAnswer.TheVariants.Done, desk.TypeAnswer.TheVariants.Busy, desk.TypeAnswer.TheVariants.Worn, desk.DefAnswer.DefAnswer}
use Rattle.hb_tables.specs.declared.desk.DefAnswer.TheVariants as defined
use Rattle.hb_tables.specs.History.{spot}
use Rattle.hb_tables.specs.Answers.{TypeAdds, DefAdds}
use Rattle.hb_words.specs.declared.{view.View.View, changing.Tried.Tried, changing.Tried.TheVariants.Answer, changing.Tried.TheVariants.Again}
use Rattle.hb_words.specs.Layout.{type_word, def_word, pins_in, changes_in, redefs_in}
use Rattle.hb_words.specs.Words.{GoesOn, Looks}

-- the view goes on by the entry of this answer
abbrev pub TypeTells : View → KeyId → TypeSite → View → TypeAnswer → Type 0
TypeTells v key site w a = GoesOn (λ c old new. TypeAdds c old new key site a) v w

abbrev pub DefTells : View → KeyId → BodySite → View → DefAnswer → Type 0
DefTells v key site w a = GoesOn (λ c old new. DefAdds c old new key site a) v w

-- the answer, or the word at which to try again, which has no pin and room for one more change
abbrev pub TypeTries : View → KeyId → TypeSite → View → Tried TypeAnswer → Type 0
TypeTries v key site w (Answer a) = TypeTells v key site w a
TypeTries v key site w (Again n) = Looks v w × (n ≡ type_word (spot key.0 w.seen)) × (length (spot key.0 w.seen).calls ≡ 0) × (pins_in n ≡ 0) × (changes_in n < v.limit)

-- the answer, or the word at which to try again, which has room for one more change
abbrev pub DefTries : View → KeyId → BodySite → View → Tried DefAnswer → Type 0
DefTries v key site w (Answer a) = DefTells v key site w a
DefTries v key site w (Again n) = Looks v w × (n ≡ def_word (spot key.0 w.seen)) × (redefs_in n < v.limit)

-- what a type word says to a change that is not made at it
abbrev pub TypeSays : ℕ → ℕ → Tried TypeAnswer → Type 0
TypeSays limit word (Answer Done) = ⊥
TypeSays limit word (Answer (Busy pins)) = (pins ≡ pins_in word) × (pins_in word ≢ 0)
TypeSays limit word (Answer Worn) = (pins_in word ≡ 0) × (changes_in word ≡ limit)
TypeSays limit word (Again n) = (n ≡ word) × (pins_in word ≡ 0) × (changes_in word ≢ limit)

-- what a def word says to one
abbrev pub DefSays : ℕ → ℕ → Tried DefAnswer → Type 0
DefSays limit word (Answer defined.Done) = ⊥
DefSays limit word (Answer defined.Worn) = redefs_in word ≡ limit
DefSays limit word (Again n) = (n ≡ word) × (redefs_in word ≢ limit)

-- another try is at another word
abbrev pub IsOther : {A : Type 0} → ℕ → Tried A → Type 0
IsOther old (Answer a) = Unit {0}
IsOther old (Again n) = n ≢ old
