use Rattle.bpftap_c.proofs.texts.bpftap_fault_text.Goals as goal

pub returns : goal.returns
returns c = (c.as_bytes.result.now, c.put_text.ensures)
