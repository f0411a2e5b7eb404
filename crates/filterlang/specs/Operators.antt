-- The operators of arithmetic, the layers and sizes of accessors, after pcap-filter(7).
use Rattle.std.specs.Prelude.{ℕ, Bool, true, false, ◌&&◌, ◌==◌, if◌then◌else◌, Option, Some, None}
use Rattle.filterlang.specs.Types.{Operator, Protocol, Layer, Size}
use Rattle.filterlang.specs.Types.operator
use Rattle.filterlang.specs.Types.protocols
use Rattle.filterlang.specs.Types.layers
use Rattle.filterlang.specs.Types.sizes
use Rattle.filter_tree.specs.Trees.{Amount, number}

-- How loosely an operator binds, in C's order: of two the one with the lesser number takes its sides first.
abbrev pub precedence_of : Operator → ℕ
precedence_of operator.Times = 1
precedence_of operator.Divide = 1
precedence_of operator.Modulo = 1
precedence_of operator.Plus = 2
precedence_of operator.Minus = 2
precedence_of operator.ShiftLeft = 3
precedence_of operator.ShiftRight = 3
precedence_of operator.BitAnd = 4
precedence_of operator.BitXor = 5
precedence_of operator.BitOr = 6

-- no operator binds more loosely
abbrev pub loosest : ℕ
loosest = 6

-- its right side is a divisor
abbrev pub divides : Operator → Bool
divides operator.Divide = true
divides operator.Modulo = true
divides _ = false

-- a number that is written out, or named, and is 0
abbrev pub is_zero : Amount → Bool
is_zero (number n) = n == 0
is_zero _ = false

-- No tree has such a divisor.
abbrev pub is_barred : Operator → Amount → Bool
is_barred op right = divides op && is_zero right

-- the layers of accessors: sctp has none
abbrev pub layer_of : Protocol → Option Layer
layer_of protocols.Ether = Some layers.Ether
layer_of protocols.Ip = Some layers.Ip
layer_of protocols.Arp = Some layers.Arp
layer_of protocols.Rarp = Some layers.Rarp
layer_of protocols.Tcp = Some layers.Tcp
layer_of protocols.Udp = Some layers.Udp
layer_of protocols.Icmp = Some layers.Icmp
layer_of protocols.Sctp = None

-- the sizes of accessors: 1, 2 or 4 bytes
abbrev pub size_of : ℕ → Option Size
size_of n =
    if n == 1 then Some sizes.One
    else (if n == 2 then Some sizes.Two
    else (if n == 4 then Some sizes.Four else None))
