use Rattle.std.proofs.Common.{◌≡◌, ℕ, List, take, ap, ◌∙◌, subst}
use Rattle.std.proofs.lemmas.List.{take_min}
use Rattle.bpftap_c.specs.Messages.{GivesMessage, LiesWithin}
use Rattle.bpftap_c.proofs.messages.bpftap_listener_next.Goals as goal

pub returns-clause-message : goal.returns-clause-message
returns-clause-message c =
    let b = c.args.batch.now in
    let same : take c.min-size.result b.bytes.now ≡ take b.size b.bytes.now = ap (λ (n : ℕ). take n b.bytes.now) c.min-size.ensures ∙ take_min b.size b.bytes.now in
    subst (λ (text : List ℕ). GivesMessage text c.args.offset.now c.next_message.new.offset c.next_message.result) same c.next_message.ensures.message

pub returns-clause-within : goal.returns-clause-within
returns-clause-within c =
    let b = c.args.batch.now in
    let same : take c.min-size.result b.bytes.now ≡ take b.size b.bytes.now = ap (λ (n : ℕ). take n b.bytes.now) c.min-size.ensures ∙ take_min b.size b.bytes.now in
    subst (λ (text : List ℕ). LiesWithin text c.args.offset.now c.next_message.new.offset c.next_message.result) same c.next_message.ensures.within
