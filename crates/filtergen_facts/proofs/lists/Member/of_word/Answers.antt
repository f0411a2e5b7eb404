use Rattle.std.proofs.Common.{refl}
use Rattle.filter_meaning.specs.Meaning.{half}
use Rattle.filtergen_facts.proofs.Members.{number-member, protocol-member}
use Rattle.filtergen_facts.proofs.lists.Member.of_word.Goals as goal

pub returns-in-Arp : goal.returns-in-Arp
returns-in-Arp c = rw (c.in-Arp.is, c.numbered.ensures) (record { same = λ p. number-member 0x0806 (half 12 p); weighs = refl })

pub returns-in-Rarp : goal.returns-in-Rarp
returns-in-Rarp c = rw (c.in-Rarp.is, c.numbered-in-Rarp.ensures) (record { same = λ p. number-member 0x8035 (half 12 p); weighs = refl })

pub returns-in-Icmp : goal.returns-in-Icmp
returns-in-Icmp c = rw (c.in-Icmp.is, c.numbered-in-Icmp.ensures) (record { same = λ p. protocol-member 1 p; weighs = refl })

pub returns-in-Tcp : goal.returns-in-Tcp
returns-in-Tcp c = rw (c.in-Tcp.is, c.numbered-in-Tcp.ensures) (record { same = λ p. protocol-member 6 p; weighs = refl })

pub returns-in-Udp : goal.returns-in-Udp
returns-in-Udp c = rw (c.in-Udp.is, c.numbered-in-Udp.ensures) (record { same = λ p. protocol-member 17 p; weighs = refl })

pub returns-in-Sctp : goal.returns-in-Sctp
returns-in-Sctp c = rw (c.in-Sctp.is, c.numbered-in-Sctp.ensures) (record { same = λ p. protocol-member 132 p; weighs = refl })
