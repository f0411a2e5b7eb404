-- Frames of Ethernet that filters here do not look into.
use Rattle.std.specs.Prelude.{ℕ, Bool, true, false, List}
use Rattle.pcap_info.specs.declared.contents.FrameKind.{FrameKind}
use Rattle.pcap_info.specs.declared.contents.FrameKind.TheVariants.{Ipv4, Arp, Ipv6, Vlan, Other}
use Rattle.pcap_info.specs.Contents.{kind_of}

-- what follows is IPv6, or has the tag of a VLAN
abbrev pub is_unseen_kind : FrameKind → Bool
is_unseen_kind Ipv6 = true
is_unseen_kind Vlan = true
is_unseen_kind Ipv4 = false
is_unseen_kind Arp = false
is_unseen_kind Other = false

-- so the type of a frame says, if it was captured
abbrev pub is_unseen : List ℕ → Bool
is_unseen frame = is_unseen_kind (kind_of frame)
