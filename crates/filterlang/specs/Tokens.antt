-- The tokens of a text: what stands at each place, and the list of them.
use Rattle.std.specs.Prelude.{◌≡◌, ℕ, ◌+◌, ◌<◌, ◌≤◌, Bool, ◌||◌, ◌==◌, if◌then◌else◌, List, [], ◌∷◌, Option, Some, None, Result, Ok, Err, length, drop, option_map}
use Rattle.std.specs.Char.{is_ascii_digit, is_ascii_alphabetic}
use Rattle.std.specs.Option.{ok_or}
use Rattle.filterlang.specs.Types.{Fault, Kind, Token, Cause, BadByte, BadWord, BadNumber, Front, MAX_TEXT}
use Rattle.filterlang.specs.Types.faults
use Rattle.filterlang.specs.Types.fronts
use Rattle.filterlang.specs.Words.{words, names, signs, begins, whole_word, standing}
use Rattle.filterlang.specs.Numbers.{number_or_dotted_at, ethernet_at}

-- space, tab, carriage return and line feed
abbrev pub is_blank : ℕ → Bool
is_blank b = b == 32 || b == 9 || b == 13 || b == 10

abbrev pub is_backslash : ℕ → Bool
is_backslash b = b == 92

-- what is found, or else another answer
abbrev pub found_or : {A E : Type 0} → Option A → Result A E → Result A E
found_or (Some x) other = Ok x
found_or None other = other

-- The token at the front of a text and how many bytes it has, by the first rule that applies. If that rule finds none, there is
-- no token, and the rule says why: no later one is asked.
unfoldable pub token_at : List ℕ → Result (Kind × ℕ) Cause
token_at text =
    -- 1. if an Ethernet address is written there, it is that;
    found_or (ethernet_at text)
    -- 2. at a digit, a number or a dotted address;
    (if begins is_ascii_digit text then ok_or (number_or_dotted_at text) BadNumber
    -- 3. at a letter, a word or a named value;
    else (if begins is_ascii_alphabetic text then ok_or (whole_word words text) BadWord
    -- 4. at a backslash, a name, which has one byte more than its word;
    else (if begins is_backslash text then ok_or (option_map (λ name. (name.0, name.1 + 1)) (whole_word names (drop 1 text))) BadWord
    -- 5. else a sign, the longest that is there.
    else ok_or (standing signs text) BadByte)))

-- a token, or why there is none
abbrev pub front_of : Result (Kind × ℕ) Cause → Front
front_of (Ok token) = fronts.Token token.0 token.1
front_of (Err cause) = fronts.Stuck cause

-- what stands at the front of a text
unfoldable pub front : List ℕ → Front
front [] = fronts.End
front (b ∷ rest) = if is_blank b then fronts.Blank else front_of (token_at (b ∷ rest))

-- a token of n bytes at a place
abbrev pub placed : ℕ → Kind → ℕ → Token
placed at kind n = record { kind = kind; span = record { start = at; end = at + n } }

-- From a byte on the text is these tokens, with blanks between them.
pub data Lexes : List ℕ → ℕ → List Token → Type 0 where
  lexes_end : {text : List ℕ} {at : ℕ} → front (drop at text) ≡ fronts.End → Lexes text at []
  lexes_blank : {text : List ℕ} {at : ℕ} {tokens : List Token}
      → front (drop at text) ≡ fronts.Blank → Lexes text (at + 1) tokens → Lexes text at tokens
  lexes_token : {text : List ℕ} {at : ℕ} {kind : Kind} {n : ℕ} {tokens : List Token}
      → front (drop at text) ≡ fronts.Token kind n → Lexes text (at + n) tokens
      → Lexes text at (placed at kind n ∷ tokens)

-- From a byte on the first place of the text where no token begins is this one, and this is why.
pub data Stuck : List ℕ → ℕ → Cause → ℕ → Type 0 where
  stuck_here : {text : List ℕ} {at : ℕ} {cause : Cause} → front (drop at text) ≡ fronts.Stuck cause → Stuck text at cause at
  stuck_blank : {text : List ℕ} {at : ℕ} {cause : Cause} {place : ℕ}
      → front (drop at text) ≡ fronts.Blank → Stuck text (at + 1) cause place → Stuck text at cause place
  stuck_token : {text : List ℕ} {at : ℕ} {kind : Kind} {n : ℕ} {cause : Cause} {place : ℕ}
      → front (drop at text) ≡ fronts.Token kind n → Stuck text (at + n) cause place → Stuck text at cause place

-- the fault with this cause at this byte
abbrev pub fault_at : Cause → ℕ → Fault
fault_at BadByte place = faults.BadByte place
fault_at BadWord place = faults.BadWord place
fault_at BadNumber place = faults.BadNumber place

-- a fault says what is wrong with the text; running out of memory says nothing
abbrev pub IsFaultOf : List ℕ → Fault → Type 0
IsFaultOf text faults.TextTooLong = MAX_TEXT < length text
IsFaultOf text (faults.BadByte place) = (length text ≤ MAX_TEXT) × Stuck text 0 BadByte place
IsFaultOf text (faults.BadWord place) = (length text ≤ MAX_TEXT) × Stuck text 0 BadWord place
IsFaultOf text (faults.BadNumber place) = (length text ≤ MAX_TEXT) × Stuck text 0 BadNumber place
IsFaultOf text faults.NoMemory = length text ≤ MAX_TEXT
IsFaultOf text _ = ⊥

-- from a byte on the tokens' spans follow one another, none is empty, and the last ends within this many bytes
abbrev pub AreInOrder : ℕ → ℕ → List Token → Type 0
AreInOrder at bytes [] = at ≤ bytes
AreInOrder at bytes (t ∷ tokens) = (at ≤ t.span.start) × (t.span.start < t.span.end) × AreInOrder t.span.end bytes tokens
