use Rattle.std.proofs.Common.{◌≡◌, ◌≢◌, ◌⊎◌, inl, inr}
use Rattle.filtergen_facts.specs.declared.lists.Form.TheVariants as forms
use Rattle.filtergen_facts.specs.declared.lists.ListKind.{ListKind}
use Rattle.filtergen_code.proofs.Leading.{relays-all-later}
use Rattle.filtergen_code.proofs.Narrowed.{given-any, given-more, given-same, given-relayed}
use Rattle.filtergen_code.proofs.Taking.{bytes-kind, relation-fits, host-kind, host-fits}
use Rattle.filtergen_code.proofs.code.Code.emit_one_member.Goals as goal

only-bytes : (k : ListKind) → (k.form ≡ forms.Bytes) ⊎ (k.form ≡ forms.EtherHost) → (k.form ≢ forms.EtherHost) → k.form ≡ forms.Bytes
only-bytes k (inl bytes) other = bytes
only-bytes k (inr host) other = absurd (other host)

pub returns-in_ok-entry-in-EtherHost : goal.returns-in_ok-entry-in-EtherHost
returns-in_ok-entry-in-EtherHost c =
    let group = c.args.group.now in
    let relayed = c.emit_relays-targets.ensures in
    let done = c.in_ok-entry-in-EtherHost.ensures in (
      given-more _ (host-fits group.kind group.ranges.items c.in-EtherHost.is c.requires.some)
          (given-same c.args.context.known _ _ (λ p holds. host-kind group.kind group.ranges.items p c.in-EtherHost.is) (given-relayed relayed.extends relayed.relays (given-any c.args.context.known done))),
      relays-all-later relayed.relays done.extends,
    )

pub returns-in_ok-entry-in_default : goal.returns-in_ok-entry-in_default
returns-in_ok-entry-in_default c =
    let group = c.args.group.now in
    let relayed = c.emit_relays-targets.ensures in
    let done = c.in_ok-entry-in_default.ensures in
    let bytes = only-bytes group.kind c.requires.form c.in_default.not-EtherHost in (
      given-more _ (relation-fits group.kind group.ranges.items bytes c.requires.some)
          (given-same c.args.context.known _ _ (λ p holds. bytes-kind group.kind group.ranges.items p bytes) (given-relayed relayed.extends relayed.relays done)),
      relays-all-later relayed.relays done.extends,
    )
