use Rattle.std.proofs.Common.{◌+◌, sym, subst}
use Rattle.std.specs.Prelude.{option_and_then}
use Rattle.bpfvm.specs.Machine.{number_at}
use Rattle.filter_meaning.specs.Meaning.{accessed, bytes_of}
use Rattle.filter_tree.specs.declared.tree.Layer.TheVariants as layers
use Rattle.filter_symbols.specs.Symbols.{StandsFor}
use Rattle.filter_symbols.specs.Steps.{index_behind}
use Rattle.filter_symbols.proofs.Guards.{stands-as, frame-index, network-stands, transport-stands}
use Rattle.filter_symbols.proofs.symbol.Symbols.access.Goals as goal

pub returns-in_ok-load-in-Ether-clause-stands : goal.returns-in_ok-load-in-Ether-clause-stands
returns-in_ok-load-in-Ether-clause-stands c =
    let x = c.load.new.self in
    let s = c.in_ok-load-in-Ether.field-0 in
    let n = bytes_of c.args.size in
    λ f h. subst (λ layer. StandsFor x (λ p. option_and_then (accessed layer n p) (f p)) s) (sym c.in-Ether.is)
    (stands-as x (λ p. option_and_then (λ i. number_at p.captured (0 + i) n) (f p)) (λ p. option_and_then (accessed layers.Ether n p) (f p)) s
    (λ p. frame-index p n (f p)) (c.in_ok-load-in-Ether.ensures.stands f h))

pub returns-in_ok-load-in-Ip-clause-stands : goal.returns-in_ok-load-in-Ip-clause-stands
returns-in_ok-load-in-Ip-clause-stands c = λ f h.
    network-stands c.load-in-Ip.new.self c.args.layer (bytes_of c.args.size) f c.in_ok-load-in-Ip.field-0 c.in-Ip.is (c.in_ok-load-in-Ip.ensures.stands f h)

pub returns-in_ok-load-in-Tcp-clause-stands : goal.returns-in_ok-load-in-Tcp-clause-stands
returns-in_ok-load-in-Tcp-clause-stands c = λ f h.
    transport-stands c.load-in-Tcp.new.self c.args.layer (bytes_of c.args.size) f c.in_ok-load-in-Tcp.field-0 c.in-Tcp.is
    (c.in_ok-load-in-Tcp.ensures.stands (λ p. option_and_then (index_behind p) (f p)) (c.in_ok-place-in-Tcp.ensures.stands f h))
