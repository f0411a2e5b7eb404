-- How many packets a filter answered so, and how that is printed.
use Rattle.std.specs.Prelude.{◌≡◌, ℕ, ◌+◌, ◌-◌, ◌^◌, ◌≤◌, min, Bool, true, false, List, ◌++◌, length, filter, codes}
use Rattle.std.specs.Fmt.{decimal}
use Rattle.filter_meaning.specs.declared.verdict.Verdict.{Verdict}
use Rattle.filter_meaning.specs.declared.verdict.Verdict.TheVariants.{Yes, No, Abort}
use Rattle.line_text.specs.Texts.{end_of_line}
use Rattle.cli_answers.specs.declared.counts.VerdictCounts.{VerdictCounts}
use Rattle.cli_answers.specs.declared.form.PacketForm.{PacketForm}
use Rattle.cli_answers.specs.declared.form.PacketForm.TheVariants.{Text, Json}
use Rattle.cli_answers.specs.Answers.{Answer}
use Rattle.cli_answers.specs.Verdicts.{is_yes, is_no, is_abort}
use Rattle.cli_watch.specs.Frames.{is_unseen}

-- how many answers are of a kind
abbrev pub count_of : (Verdict → Bool) → List Answer → ℕ
count_of is answers = length (filter (λ a. is a.verdict) answers)

-- into how many of the packets' frames no filter looks
abbrev pub unseen_of : List Answer → ℕ
unseen_of answers = length (filter (λ a. is_unseen a.packet.bytes) answers)

-- how many packets were answered, and how many of them Yes, No and Abort; and how many are unseen
pub record AreCounts (counts : VerdictCounts) (answers : List Answer) : Type 0 where
  pub packets : counts.packets ≡ length answers
  pub yes : counts.yes ≡ count_of is_yes answers
  pub no : counts.no ≡ count_of is_no answers
  pub abort : counts.abort ≡ count_of is_abort answers
  pub unseen : counts.unseen ≡ unseen_of answers

-- a number, and one more if something holds
abbrev pub more_if : Bool → ℕ → ℕ
more_if true n = n + 1
more_if false n = n

-- one packet more was answered so, whose frame is unseen or not
abbrev pub counted : Verdict → Bool → VerdictCounts → VerdictCounts
counted Yes unseen c = record { packets = c.packets + 1; yes = c.yes + 1; no = c.no; abort = c.abort; unseen = more_if unseen c.unseen }
counted No unseen c = record { packets = c.packets + 1; yes = c.yes; no = c.no + 1; abort = c.abort; unseen = more_if unseen c.unseen }
counted Abort unseen c = record { packets = c.packets + 1; yes = c.yes; no = c.no; abort = c.abort + 1; unseen = more_if unseen c.unseen }

-- the sum of two counts, up to 2^64 - 1
abbrev pub sum_of : ℕ → ℕ → ℕ
sum_of a b = min (a + b) (2 ^ 64 - 1)

abbrev pub plus : VerdictCounts → VerdictCounts → VerdictCounts
plus a b = record {
  packets = sum_of a.packets b.packets;
  yes = sum_of a.yes b.yes;
  no = sum_of a.no b.no;
  abort = sum_of a.abort b.abort;
  unseen = sum_of a.unseen b.unseen;
}

-- the counts of no packets
abbrev pub no_counts : VerdictCounts
no_counts = record { packets = 0; yes = 0; no = 0; abort = 0; unseen = 0 }

-- none is above the number of the packets, which are at most n
pub record Fit (c : VerdictCounts) (n : ℕ) : Type 0 where
  pub packets : c.packets ≤ n
  pub yes : c.yes ≤ c.packets
  pub no : c.no ≤ c.packets
  pub abort : c.abort ≤ c.packets
  pub unseen : c.unseen ≤ c.packets

-- ---- As they are printed

-- `N packets: Y Yes, N No, A Abort`
unfoldable pub counts_text : (packets accepted rejected aborted : ℕ) → List ℕ
counts_text packets accepted rejected aborted = decimal packets ++ codes " packets: " ++ decimal accepted ++ codes " Yes, " ++ decimal rejected
    ++ codes " No, " ++ decimal aborted ++ codes " Abort" ++ end_of_line

-- `{"packets":N,"yes":Y,"no":N,"abort":A}`
unfoldable pub counts_json : (packets accepted rejected aborted : ℕ) → List ℕ
counts_json packets accepted rejected aborted = codes "{\"packets\":" ++ decimal packets ++ codes ",\"yes\":" ++ decimal accepted
    ++ codes ",\"no\":" ++ decimal rejected ++ codes ",\"abort\":" ++ decimal aborted ++ codes "}" ++ end_of_line

-- the line of the counts
abbrev pub counts_in : PacketForm → (packets accepted rejected aborted : ℕ) → List ℕ
counts_in Text packets accepted rejected aborted = counts_text packets accepted rejected aborted
counts_in (Json capture) packets accepted rejected aborted = counts_json packets accepted rejected aborted

abbrev pub line_of : PacketForm → VerdictCounts → List ℕ
line_of form counts = counts_in form counts.packets counts.yes counts.no counts.abort

-- the form that is asked for, of capture 0
abbrev pub asked_form : Bool → PacketForm
asked_form true = Json 0
asked_form false = Text

-- the form of the lines of the capture of this number
abbrev pub of_capture : PacketForm → ℕ → PacketForm
of_capture Text number = Text
of_capture (Json capture) number = Json number
