-- Reading a line word by word: what is left of it, what a word that was read says, and what a call says that was read from there on.
use Rattle.std.specs.Prelude.{◌≡◌, Bool, not, List, [], ℕ, ◌<◌, ◌≤◌, ltb, length, drop, Option, Some, None, MatchOption}
use Rattle.text.specs.declared.Word.{Word}
use Rattle.text.specs.Places.{head_word, tail_words, NextWord}
use Rattle.script.specs.declared.Part.{Part}
use Rattle.script.specs.declared.Call.{Call}
use Rattle.script.specs.declared.words.Words.{Words}
use Rattle.script.specs.Order.{Order, unreadable, bytes_of}
use Rattle.script.specs.Reading.{Rest, number_or_zero, hex}
use Rattle.script.specs.Placed.{HexPart, Means}

-- what is left of a line
abbrev pub left : Words → List ℕ
left w = drop w.at w.line.now

-- whether no word is left
abbrev pub Ends : Words → Bool → Type 0
Ends w r = r ≡ not (ltb 0 (length (head_word (left w))))

-- the first word that is left stands at t, and is passed
pub record PassedWord (w : Words) (t : Word) (after : Words) : Type 0 where
  pub line : after.line ≡ w.line
  pub at : after.at ≡ t.to
  pub next : NextWord w.line.now w.at t.from t.to
  pub some : t.from < t.to

-- the next word is passed, if one is left
abbrev pub Passed : Words → Option Word → Words → Type 0
Passed w r after = MatchOption r (head_word (left w) ≡ []) (λ t. PassedWord w t after)

-- a word is read as a value: what the rest asked, what is left asks of the value
pub record Read {A : Type 0} (word : (A → Rest) → Rest) (w : Words) (value : A) (after : Words) : Type 0 where
  pub line : after.line ≡ w.line
  pub forward : w.at ≤ after.at
  pub asks : (f : A → Rest) → word f (left w) ≡ f value (left after)
  pub next : left after ≡ tail_words (left w)

-- a word is read as a value, or the rest is unreadable
abbrev pub Took : {A : Type 0} → ((A → Rest) → Rest) → Words → Option A → Words → Type 0
Took {A} word w r after = MatchOption r ((f : A → Rest) → word f (left w) ≡ unreadable) (λ value. Read word w value after)

-- a number that may be left out is read as a value; one left out leaves the words as they are
pub record ReadOrZero (w : Words) (value : ℕ) (after : Words) : Type 0 where
  pub line : after.line ≡ w.line
  pub asks : (f : ℕ → Rest) → number_or_zero f (left w) ≡ f value (left after)

-- it is read as a value, or the rest is unreadable
abbrev pub TookOrZero : Words → Option ℕ → Words → Type 0
TookOrZero w r after = MatchOption r ((f : ℕ → Rest) → number_or_zero f (left w) ≡ unreadable) (λ value. ReadOrZero w value after)

-- a word is read as the bytes of a part, which stands between the two places
pub record ReadHex (w : Words) (p : Part) (rest : Words) : Type 0 where
  pub read : Read hex w (bytes_of w.line.now p) rest
  pub place : HexPart w.line.now p
  pub after : w.at ≤ p.from
  pub ends : p.to ≡ rest.at

-- a word is read as the bytes of a part, or the rest is unreadable
abbrev pub TookHex : Words → Option Part → Words → Type 0
TookHex w r after = MatchOption r ((f : List ℕ → Rest) → hex f (left w) ≡ unreadable) (λ p. ReadHex w p after)

-- what is read of a line means an order: a call means it, and none says that it is unreadable
abbrev pub Asks : List ℕ → Option Call → Order → Type 0
Asks line None o = o ≡ unreadable
Asks line (Some call) o = Means line call o

-- what is read from some words on means what the rest of the line asks
abbrev pub Reads : Words → Rest → Option Call → Type 0
Reads w f r = Asks w.line.now r (f (left w))

-- the words after the first are left
pub record Second (w : Words) : Type 0 where
  pub next : left w ≡ tail_words w.line.now
