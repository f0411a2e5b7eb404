use Rattle.std.proofs.Common.{subst}
use Rattle.std.specs.Prelude.{◌==◌}
use Rattle.filter_meaning.specs.Meaning.{is_type, check, byte}
use Rattle.filter_symbols.specs.Symbols.{SaysOf}
use Rattle.filter_diagrams.proofs.Builders.{map-ok, means-grown}
use Rattle.filter_diagrams.proofs.builder.Builder.is_protocol.Goals as goal

pub returns-clause-means : goal.returns-clause-means
returns-clause-means c =
    map-ok c.both.result
    (λ i h. h (is_type 0x0800) (λ p. check (λ b. b == c.args.number) (byte 23 p))
    (means-grown c.is_type.new.self.symbols c.equals.new.self.symbols (is_type 0x0800) c.in_ok-ip.ip c.equals.ensures.extends c.in_ok-ip.ensures.means)
    (subst (λ n. SaysOf c.equals.new.self.symbols (λ p. check (λ b. b == n) (byte 23 p)) c.in_ok-protocol.protocol) c.from.ensures c.in_ok-protocol.ensures.means))
    c.both.ensures.means
