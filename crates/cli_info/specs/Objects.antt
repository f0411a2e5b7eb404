-- The object of a capture: what `bpftap info --json` prints.
use Rattle.std.specs.Prelude.{ℕ, List, [], ◌++◌, Option, Some, None, Result, Ok, Err, codes}
use Rattle.std.specs.Fmt.{decimal}
use Rattle.savefile.specs.declared.fault.Fault.{Fault}
use Rattle.savefile.specs.declared.header.Header.{Header}
use Rattle.savefile.specs.Faults.{fault_name, fault_place}
use Rattle.pcap_info.specs.declared.contents.Contents.{Contents}
use Rattle.pcap_info.specs.declared.contents.KindCounts.{KindCounts}
use Rattle.pcap_info.specs.declared.contents.Moment.{Moment}
use Rattle.line_text.specs.Strings.{json_string}
use Rattle.line_text.specs.Texts.{end_of_line}
use Rattle.cli_info.specs.Lines.{order_text, unit_text}

abbrev pub number_of_packets_json : ℕ → List ℕ
number_of_packets_json packets = codes ",\"packets\":" ++ decimal packets

abbrev pub lengths_json : (len captured : ℕ) → List ℕ
lengths_json len captured = codes ",\"length\":" ++ decimal len ++ codes ",\"captured\":" ++ decimal captured

unfoldable pub totals_json : Contents → List ℕ
totals_json c = number_of_packets_json c.packets ++ lengths_json c.len c.captured

-- `,"first":{"seconds":S,"nanoseconds":N}`, if there is a packet
abbrev pub moment_json : List ℕ → Option Moment → List ℕ
moment_json name None = []
moment_json name (Some m) =
    (codes ",\"" ++ name ++ codes "\":{\"seconds\":" ++ decimal m.sec) ++ codes ",\"nanoseconds\":" ++ decimal m.nanos ++ codes "}"

abbrev pub moments_json : Contents → List ℕ
moments_json c = moment_json (codes "first") c.first ++ moment_json (codes "last") c.last

unfoldable pub kinds_json : KindCounts → List ℕ
kinds_json k = codes ",\"ipv4\":" ++ decimal k.ipv4 ++ codes ",\"arp\":" ++ decimal k.arp ++ codes ",\"ipv6\":" ++ decimal k.ipv6
    ++ codes ",\"vlan\":" ++ decimal k.vlan ++ codes ",\"other\":" ++ decimal k.other

unfoldable pub header_json : Header → List ℕ
header_json h = codes ",\"order\":\"" ++ order_text h.order ++ codes "\"" ++ codes ",\"unit\":\"" ++ unit_text h.unit ++ codes "\",\"snap\":"
    ++ decimal h.snap

-- what a capture with this header has
abbrev pub contents_json : Option Header → Contents → List ℕ
contents_json None c = []
contents_json (Some h) c = totals_json c ++ moments_json c ++ kinds_json c.kinds ++ header_json h

-- the numbers of a fault
abbrev pub number_json : Option ℕ → List ℕ
number_json None = []
number_json (Some place) = decimal place

-- the fault, if there is one, and the end of the object
abbrev pub end_json : {A : Type 0} → Result A Fault → List ℕ
end_json (Ok done) = codes "}" ++ end_of_line
end_json (Err fault) =
    codes ",\"fault\":\"" ++ fault_name fault ++ codes "\",\"numbers\":[" ++ number_json (fault_place fault) ++ codes "]}" ++ end_of_line

-- the object of the capture at a path
abbrev pub object_json : {A : Type 0} → List ℕ → Option Header → Contents → Result A Fault → List ℕ
object_json path header c read = codes "{\"file\":" ++ json_string path ++ contents_json header c ++ end_json read
