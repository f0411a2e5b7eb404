-- The line of a capture: what `bpftap info` prints.
use Rattle.std.specs.Prelude.{ℕ, List, [], ◌++◌, Option, Some, None, Result, Ok, Err, codes}
use Rattle.std.specs.Fmt.{decimal}
use Rattle.savefile.specs.declared.fault.Fault.{Fault}
use Rattle.savefile.specs.declared.header.Header.{Header}
use Rattle.savefile.specs.declared.header.Order.{Order}
use Rattle.savefile.specs.declared.header.Order.TheVariants.{Little, Big}
use Rattle.savefile.specs.declared.header.Unit.{Unit as TimeUnit}
use Rattle.savefile.specs.declared.header.Unit.TheVariants.{Micro, Nano}
use Rattle.savefile.specs.Faults.{fault_text}
use Rattle.pcap_info.specs.declared.contents.Contents.{Contents}
use Rattle.pcap_info.specs.declared.contents.KindCounts.{KindCounts}
use Rattle.pcap_info.specs.declared.contents.Moment.{Moment}
use Rattle.line_text.specs.Texts.{end_of_line}
use Rattle.line_text.specs.Time.{nine_digits}

-- ` packets N len L captured C`
unfoldable pub totals_text : Contents → List ℕ
totals_text c = codes " packets " ++ decimal c.packets ++ codes " len " ++ decimal c.len ++ codes " captured " ++ decimal c.captured

-- ` first S.NNNNNNNNN`, if there is a packet
abbrev pub moment_text : List ℕ → Option Moment → List ℕ
moment_text name None = []
moment_text name (Some m) = codes " " ++ name ++ codes " " ++ decimal m.sec ++ codes "." ++ nine_digits m.nanos

abbrev pub moments_text : Contents → List ℕ
moments_text c = moment_text (codes "first") c.first ++ moment_text (codes "last") c.last

-- ` ipv4 A arp B ipv6 D vlan E other F`
unfoldable pub kinds_text : KindCounts → List ℕ
kinds_text k = codes " ipv4 " ++ decimal k.ipv4 ++ codes " arp " ++ decimal k.arp ++ codes " ipv6 " ++ decimal k.ipv6
    ++ codes " vlan " ++ decimal k.vlan ++ codes " other " ++ decimal k.other

abbrev pub order_text : Order → List ℕ
order_text Little = codes "little"
order_text Big = codes "big"

abbrev pub unit_text : TimeUnit → List ℕ
unit_text Micro = codes "micro"
unit_text Nano = codes "nano"

-- ` little micro snap N`
unfoldable pub header_text : Header → List ℕ
header_text h = codes " " ++ order_text h.order ++ codes " " ++ unit_text h.unit ++ codes " snap " ++ decimal h.snap

-- what a capture with this header has
abbrev pub contents_text : Option Header → Contents → List ℕ
contents_text None c = []
contents_text (Some h) c = totals_text c ++ moments_text c ++ kinds_text c.kinds ++ header_text h

-- ` Clean`, or the fault
abbrev pub end_text : {A : Type 0} → Result A Fault → List ℕ
end_text (Ok done) = codes " Clean" ++ end_of_line
end_text (Err fault) = codes " " ++ fault_text fault ++ end_of_line

-- the line of a capture, after its path
abbrev pub rest_of_line : {A : Type 0} → Option Header → Contents → Result A Fault → List ℕ
rest_of_line header c read = contents_text header c ++ end_text read
