-- The words of a fault after its first name.
use Rattle.std.specs.Borrow.{Bor}
use Rattle.std.specs.Prelude.{◌≡◌, ℕ, List, [], ◌∷◌, ◌++◌, Option, Some, None, codes, drop}
use Rattle.std.specs.Fmt.{decimal}
use Rattle.std.specs.List.{flat_map}
use Rattle.fault_report.specs.declared.word.Word.{Word}
use Rattle.fault_report.specs.declared.word.Word.TheVariants.{Name, Number, Nothing}

-- the place of a fault, if it has one
abbrev pub place_word : Option ℕ → Word
place_word (Some place) = Number place
place_word None = Nothing

-- the place of a fault in a line, after a blank
abbrev pub place_text : Option ℕ → List ℕ
place_text (Some place) = codes " " ++ decimal place
place_text None = []

-- no more than this word
abbrev pub one_word : Word → List Word
one_word word = word ∷ Nothing ∷ Nothing ∷ Nothing ∷ Nothing ∷ []

-- the number of a part, and the fault of that with its place
abbrev pub IsPart : ℕ → List ℕ → Word → List Word → Type 0
IsPart number fault place words = (name : Bor (List ℕ)) × (name.now ≡ fault) × (words ≡ Number number ∷ Name name ∷ place ∷ Nothing ∷ Nothing ∷ [])

-- a word in a line, after a blank
abbrev pub word_text : Word → List ℕ
word_text (Name name) = codes " " ++ name.now
word_text (Number n) = codes " " ++ decimal n
word_text Nothing = []

-- a further name, after a blank
abbrev pub further_name : Word → List ℕ
further_name (Name name) = codes " " ++ name.now
further_name other = []

-- a number, after a comma
abbrev pub further_number : Word → List ℕ
further_number (Number n) = codes "," ++ decimal n
further_number other = []

-- all words as they stand in a line
abbrev pub words_text : List Word → List ℕ
words_text words = flat_map word_text words

-- the names among them
abbrev pub further_names : List Word → List ℕ
further_names words = flat_map further_name words

-- the place of a fault among numbers, after a comma
abbrev pub further_place : Option ℕ → List ℕ
further_place (Some place) = codes "," ++ decimal place
further_place None = []

-- the numbers among them, with a comma between
abbrev pub numbers_text : List Word → List ℕ
numbers_text words = drop 1 (flat_map further_number words)
