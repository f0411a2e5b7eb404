-- The words and signs of the language, and how they are found in a text.
use Rattle.std.specs.Prelude.{ℕ, Bool, false, not, ◌&&◌, List, [], ◌∷◌, Option, length, codes, drop, option_map, nat_eq}
use Rattle.std.specs.Char.{is_ascii_alphanumeric}
use Rattle.std.specs.List.{find, starts_with}
use Rattle.filterlang.specs.Types.{Kind}
use Rattle.filterlang.specs.Types.kind
use Rattle.filterlang.specs.Types.protocols
use Rattle.filterlang.specs.Types.type_word
use Rattle.filterlang.specs.Types.side
use Rattle.filterlang.specs.Types.joint
use Rattle.filterlang.specs.Types.operator
use Rattle.filterlang.specs.Types.comparison

-- an entry of a table: a spelling, and what it stands for
abbrev pub Entry : Type 0
Entry = List ℕ × Kind

-- The words. Of two that stand at a place the first is meant, so the hyphenated ones come first.
unfoldable pub words : List Entry
words =
    (codes "tcp-fin", kind.Named 1)
    ∷ (codes "tcp-syn", kind.Named 2)
    ∷ (codes "tcp-rst", kind.Named 4)
    ∷ (codes "tcp-push", kind.Named 8)
    ∷ (codes "tcp-ack", kind.Named 16)
    ∷ (codes "tcp-urg", kind.Named 32)
    ∷ (codes "icmp-echoreply", kind.Named 0)
    ∷ (codes "icmp-unreach", kind.Named 3)
    ∷ (codes "icmp-redirect", kind.Named 5)
    ∷ (codes "icmp-echo", kind.Named 8)
    ∷ (codes "icmp-timxceed", kind.Named 11)
    ∷ (codes "tcpflags", kind.Named 13)
    ∷ (codes "icmptype", kind.Named 0)
    ∷ (codes "icmpcode", kind.Named 1)
    ∷ (codes "ether", kind.Protocol protocols.Ether)
    ∷ (codes "ip", kind.Protocol protocols.Ip)
    ∷ (codes "arp", kind.Protocol protocols.Arp)
    ∷ (codes "rarp", kind.Protocol protocols.Rarp)
    ∷ (codes "tcp", kind.Protocol protocols.Tcp)
    ∷ (codes "udp", kind.Protocol protocols.Udp)
    ∷ (codes "icmp", kind.Protocol protocols.Icmp)
    ∷ (codes "sctp", kind.Protocol protocols.Sctp)
    ∷ (codes "host", kind.Type type_word.Host)
    ∷ (codes "net", kind.Type type_word.Net)
    ∷ (codes "port", kind.Type type_word.Port)
    ∷ (codes "portrange", kind.PortRange)
    ∷ (codes "proto", kind.Type type_word.Proto)
    ∷ (codes "src", kind.Side side.Src)
    ∷ (codes "dst", kind.Side side.Dst)
    ∷ (codes "and", kind.Joint joint.And)
    ∷ (codes "or", kind.Joint joint.Or)
    ∷ (codes "not", kind.Not)
    ∷ (codes "mask", kind.Mask)
    ∷ (codes "less", kind.Less)
    ∷ (codes "greater", kind.Greater)
    ∷ (codes "len", kind.Len)
    ∷ (codes "broadcast", kind.Broadcast)
    ∷ (codes "multicast", kind.Multicast)
    ∷ []

-- the names after a backslash
unfoldable pub names : List Entry
names =
    (codes "tcp", kind.Name protocols.Tcp)
    ∷ (codes "udp", kind.Name protocols.Udp)
    ∷ (codes "icmp", kind.Name protocols.Icmp)
    ∷ (codes "ip", kind.Name protocols.Ip)
    ∷ (codes "arp", kind.Name protocols.Arp)
    ∷ (codes "rarp", kind.Name protocols.Rarp)
    ∷ []

-- the signs, the longer ones first
unfoldable pub signs : List Entry
signs =
    (codes "<<", kind.Operator operator.ShiftLeft)
    ∷ (codes ">>", kind.Operator operator.ShiftRight)
    ∷ (codes "&&", kind.Joint joint.And)
    ∷ (codes "||", kind.Joint joint.Or)
    ∷ (codes "==", kind.Comparison comparison.Equal)
    ∷ (codes "!=", kind.Comparison comparison.NotEqual)
    ∷ (codes "<=", kind.Comparison comparison.LessOrEqual)
    ∷ (codes ">=", kind.Comparison comparison.GreaterOrEqual)
    ∷ (codes "(", kind.Open)
    ∷ (codes ")", kind.Close)
    ∷ (codes "[", kind.OpenBracket)
    ∷ (codes "]", kind.CloseBracket)
    ∷ (codes ":", kind.Colon)
    ∷ (codes "+", kind.Operator operator.Plus)
    ∷ (codes "-", kind.Operator operator.Minus)
    ∷ (codes "*", kind.Operator operator.Times)
    ∷ (codes "/", kind.Operator operator.Divide)
    ∷ (codes "%", kind.Operator operator.Modulo)
    ∷ (codes "&", kind.Operator operator.BitAnd)
    ∷ (codes "^", kind.Operator operator.BitXor)
    ∷ (codes "|", kind.Operator operator.BitOr)
    ∷ (codes "!", kind.Not)
    ∷ (codes "=", kind.Comparison comparison.Equal)
    ∷ (codes "<", kind.Comparison comparison.Less)
    ∷ (codes ">", kind.Comparison comparison.Greater)
    ∷ []

-- the text begins with a byte of this class
abbrev pub begins : (ℕ → Bool) → List ℕ → Bool
begins class [] = false
begins class (b ∷ bs) = class b

-- the spelling stands at the front of the text
abbrev pub stands : List ℕ → List ℕ → Bool
stands text spelling = starts_with nat_eq text spelling

-- the same, and no letter or digit follows it
abbrev pub stands_whole : List ℕ → List ℕ → Bool
stands_whole text spelling = stands text spelling && not (begins is_ascii_alphanumeric (drop (length spelling) text))

-- what an entry stands for, and how many bytes it has
abbrev pub token_of : Entry → Kind × ℕ
token_of entry = (entry.1, length entry.0)

-- the first word of a table that stands whole at the front of the text
abbrev pub whole_word : List Entry → List ℕ → Option (Kind × ℕ)
whole_word table text = option_map token_of (find (λ entry. stands_whole text entry.0) table)

-- the first entry of a table that stands at the front of the text
abbrev pub standing : List Entry → List ℕ → Option (Kind × ℕ)
standing table text = option_map token_of (find (λ entry. stands text entry.0) table)
