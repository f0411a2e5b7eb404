use Rattle.std.proofs.Common.{◌≡◌, ◌+◌, ◌<◌, ◌∷◌, ℕ, List, length, take, drop, inl, inr, refl, ap, sym, ◌∙◌, subst, arith, length-take, length-drop}
use Rattle.std.proofs.lemmas.List.{drop-drop}
use Rattle.listener.specs.declared.message.Message.{Message}
use Rattle.listener.specs.Decoded.{AreRecords, messages_in, after_first}
use Rattle.listener.specs.Messages.{size}
use Rattle.listener.proofs.Decoding.{split_records, read_at, message_is, after_is}
use Rattle.bpftap_c.proofs.Buffering.{short_none}
use Rattle.bpftap_c.proofs.messages.next_message.Goals as goal
use Rattle.bpftap_c.proofs.messages.next_message.Goals.{then-at-text-via-then-at-text, then-at-text-via-else-at-text+then-text-at-lt-FIELDS_LEN}

pub returns-then-at-text-clause-message : goal.returns-then-at-text-clause-message
returns-then-at-text-clause-message c are =
    let text = c.args.text.now in
    let at = c.args.offset.now in
    let short : length (drop at text) < 32 = elim c.then-at-text.branch [
      | then-at-text-via-then-at-text w ↦ omega (arith, length-drop at text, w.if-at-text)
      | then-at-text-via-else-at-text+then-text-at-lt-FIELDS_LEN w ↦ omega (arith, length-drop at text, w.if-text-at-lt-FIELDS_LEN)
    ] in
    inr (short_none (drop at text) are short, c.no_message.ensures, refl)

pub returns-then-size-rest-clause-message : goal.returns-then-size-rest-clause-message
returns-then-size-rest-clause-message c are =
    let text = c.args.text.now in
    let at = c.args.offset.now in
    let rest = c.split_at.result.1.now in
    let back : rest ≡ drop at text = c.split_at.ensures.back in
    let long = c.if-text-at-lt-FIELDS_LEN.false in
    let s = split_records rest (subst AreRecords (sym back) are) (omega (arith, ap length back, length-drop at text, long)) in
    let k = read_at 4 8 c.read_u32-captured.result rest c.read_u32-captured.ensures in
    absurd (omega (arith, s.fits, ap size k, c.size-size.ensures, c.if-size-rest.true))

pub returns-clause-message : goal.returns-clause-message
returns-clause-message c are =
    let text = c.args.text.now in
    let at = c.args.offset.now in
    let rest = c.split_at.result.1.now in
    let back : rest ≡ drop at text = c.split_at.ensures.back in
    let long = c.if-text-at-lt-FIELDS_LEN.false in
    let s = split_records rest (subst AreRecords (sym back) are) (omega (arith, ap length back, length-drop at text, long)) in
    let kept = c.read_u32-captured.result in
    let k = read_at 4 8 kept rest c.read_u32-captured.ensures in
    let bytes = take kept (drop 32 rest) in
    let m = message_is rest c.read_u32-2.result c.read_u32-3.result kept c.read_u32-4.result c.read_u64.result c.read_u32.result bytes
    c.read_u32-2.ensures (read_at 4 4 c.read_u32-3.result rest c.read_u32-3.ensures) k (read_at 4 12 c.read_u32-4.result rest c.read_u32-4.ensures)
    (read_at 8 16 c.read_u64.result rest c.read_u64.ensures) (read_at 4 24 c.read_u32.result rest c.read_u32.ensures) refl in
    let n = c.size-size.result in
    let later : drop (at + n) text ≡ after_first rest = sym (drop-drop n at text) ∙ ap (λ (t : List ℕ). drop n t) (sym back)
    ∙ ap (λ (j : ℕ). drop j rest) c.size-size.ensures ∙ sym (after_is rest kept k) in
    let whole : length bytes ≡ kept = omega (arith, length-take kept (drop 32 rest), length-drop 32 rest, s.fits, ap size k) in
    let found : Message = record { capture = c.read_u32.result; place = c.read_u64.result; sec = c.read_u32-2.result; nanos = c.read_u32-3.result; len = c.read_u32-4.result; bytes = bytes } in
    inl (
      found,
      record {
        first = ap messages_in (sym back) ∙ s.is ∙ (λ i. m i ∷ messages_in (sym later i));
        others = subst AreRecords (sym later) s.after;
        after = ap (λ (j : ℕ). at + j) (c.size-size.ensures ∙ ap size (sym whole));
        is = λ i. record {
          offset = at + 32;
          place = c.read_u64.result;
          fault = 0;
          capture = c.read_u32.result;
          seconds = c.read_u32-2.result;
          nanos = c.read_u32-3.result;
          captured = sym whole i;
          wire = c.read_u32-4.result;
        };
        bytes = ap (λ (t : List ℕ). take kept t) (sym (drop-drop 32 at text) ∙ ap (λ (t : List ℕ). drop 32 t) (sym back));
      },
    )
