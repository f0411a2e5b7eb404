-- `bpftap_program_run_spans` meets its contract: a walk of its MIR, by hand.
use Rattle.std.proofs.Common.{◌≡◌, ℕ, List, [], ◌∷◌, length, map, refl, w32, Bor, MutBor}
use Rattle.std.proofs.raw_atomic.Walks.{proved}
use base.Logic.{id⊢, fst∗, never}
use base.Fml.{ftrue, flft}
use mir.Syntax.{named}
use mir.Val.{Val, vptr}
use prog.Wp.{WpFn}
use contract.Monad.{fact}
use contract.Running.{tables}
use types.Logic.{sem}
use types.Kit.{‵, raw, ◌⊛◌, some, later, prop, ◌$◌, ◌∵◌, !, qed, done, move, keep, drop, use1, use2, split, join, fsplit, fjoin, feq_i, feq_l, pick, await, regoal, suffices, frame, group}
use types.Part.{agg, sub, whole}
use types.Run.{enter, of_opd, addr, from, fld, hop, stop, no_more, and_then, returns}
use types.ByLocal.{alloc_all, pass_all, free_all, look_at, look_in_at, get, get_in, through, sets, lands_as}
use denote.Exit.{yes}
use denote.Laws.{shows, Is}
use denote.Memory.{shared_of}
use denote.Opens.{hide}
use denote.Builtin.{u8, u32}
use denote.RawPtr.{Ptr, RawPtr, block_ptr, ptr_val, in_a_block, rawptr_vals, rawptr_Tells}
use denote.Ref.{ShrRef}
use denote.SharingLaws.{contraction}
use denote.Slice.{MutSlice, ShrSlice, slice_val, mut_slice_vals, mut_slice_Tells, shr_slice_vals, shr_slice_Tells}
use denote.Struct.Lending.{lent_at, lent_at_shr_laws}
use denote.Signature.{plain, shr_slice_of}
use denote.Steps.{nothing, peeks, heard}
use denote.Triple.Call.{calls_at}
use denote.Triple.Clauses.{lasts, Lasts}
use denote.Triple.Spec.{triple_of}
use denote.Triple.Walked.{Stays, walk_of, says, stay_dropped, gave_slice, Goes-dropped, Goes-gave_slice, ends_at}
use denote.Triple.Table.{framed}
use Rattle.bpfvm.specs.contracts.program.Program.{the_row as R}
use Rattle.bpfvm.proofs.program.Program.TheLaws as laws
use Rattle.bpfvm.specs.declared.insn.Insn.{Insn}
use Rattle.bpftap_c.specs.contracts.batches.BpftapSpan.{the_row as S}
use Rattle.bpftap_c.specs.contracts.outcome.BpftapResult.{the_row as T}
use Rattle.bpftap_c.proofs.outcome.BpftapResult.TheLaws as told
use Rattle.bpftap_c.specs.declared.outcome.BpftapResult.{BpftapResult}
use Rattle.bpftap_c.specs.Batches.{answer_in}
use Rattle.bpftap_c.specs.Memory.{Puts}
use Rattle.bpftap_c.specs.Programs.{Lent, lies_lent}
use Rattle.bpftap_c.specs.contracts.batches.put_answers_in as g
use Rattle.bpftap_c.proofs.batches.put_answers_in.Met.{met}
use Rattle.bpftap_c.specs.contracts.programs.bpftap_program_run_spans as f
use Rattle.bpftap_c.proofs.programs.bpftap_program_run_spans.Statement.{statement}
use Rattle.bpftap_c.proofs.programs.bpftap_program_run_spans.Code as code

-- the answers were passed on, and nothing is had of the other parameters
abbrev stayed : Stays f.ended.signature.params f.ended.kept
stayed = (stay_dropped _ yes, (stay_dropped _ yes, (stay_dropped _ yes, (gave_slice (2 ∷ []) tt (plain (λ _. u32)), tt))))

pub bpftap_program_run_spans_spec : {M : Type 1} → statement M
bpftap_program_run_spans_spec 𝓤 𝓛 𝓜 𝓡 wired =
    let c = f.clauses 𝓛 𝓜.mem 𝓡.returns in let W = walk_of 𝓛 f.ended stayed c in let 𝓣 = tables 𝓤 𝓛.H 𝓜 𝓡 𝓡.env in
    proved 𝓛 f.ended stayed c 𝓜 𝓡 (
      Goes-dropped 𝓛 3 (plain (λ _. RawPtr)) yes (λ κs x w. refl),
      (
        Goes-dropped 𝓛 3 (shr_slice_of (0 ∷ []) tt (plain (λ _. u8))) yes (λ κs x w. refl),
        (Goes-dropped 𝓛 3 (shr_slice_of (1 ∷ []) tt (plain (λ _. S))) yes (λ κs x w. refl), (Goes-gave_slice 𝓛 3 2 tt (plain (λ _. u32)), tt)),
      ),
    )
    f.Key.name code.function (code.unfolded 𝓤 𝓛.H 𝓜 𝓡 wired)
    (λ κs. (rawptr_vals, (shr_slice_vals, (shr_slice_vals, (mut_slice_vals, tt)))))
    (λ κs. (rawptr_Tells, (shr_slice_Tells (named 0) κs.0 u8, (shr_slice_Tells (named 1) κs.1.0 S, (mut_slice_Tells (named 2) κs.1.1.0 u32, tt))))) (λ κs qs bounds a lent are.
    let κ0 = κs.0 in let κ1 = κs.1.0 in let κ2 = κs.1.1.0 in let q0 = qs.0 in let q1 = qs.1.0 in let q2 = qs.1.1.0 in
    let memory = a.1.0 in let spans = a.1.1.0 in let answers = a.1.1.1.0 in
    let β = lent.lifetime in let insns = lent.insns in
    let y : Ptr → W.Ghost = λ p. ((κs, qs, bounds, (p, a.1), (rawptr_vals p, (shr_slice_vals memory, (shr_slice_vals spans, (mut_slice_vals answers, tt))))), lent) in
    qed 𝓛 (((‵ (flft κ0 q0) ⊛ ‵ (flft κ1 q1) ⊛ ‵ (flft κ2 q2) ⊛ ‵ ftrue) ⊛ ‵ (RawPtr.own_val a.0 (rawptr_vals a.0)) ⊛ ‵ ((ShrSlice (named 0) κ0 u8).own_val memory (shr_slice_vals memory))
    ⊛ ‵ ((ShrSlice (named 1) κ1 S).own_val spans (shr_slice_vals spans)) ⊛ ‵ ((MutSlice (named 2) κ2 u32).own_val answers (mut_slice_vals answers)) ⊛ ‵ ftrue) ∷ ‵ (lies_lent a.0 lent) ∷ []) ∵
    split ! $ split ! $ move ! (1 ∷ []) $ split ! $ move ! (1 ∷ []) $ split ! $ move ! (4 ∷ []) $ split ! $ move ! (1 ∷ []) $ split ! $ move ! (1 ∷ []) $ split ! $ move ! (1 ∷ []) $ split ! $
    -- [the answers; nothing; the spans; the memory; the pointer; the token of κ2; nothing; those of κ1 and κ0; the program]
    keep ! (0 ∷ 2 ∷ 3 ∷ 5 ∷ 7 ∷ 8 ∷ 9 ∷ []) $ move ! (6 ∷ []) $ fsplit ! $ move ! (1 ∷ []) $
    -- [the program; the token of β; the answers; the spans; the memory; the tokens of κ2, κ1 and κ0]
    in_a_block ! a.0 (λ p. lent_at R p insns β) (fst∗ 𝓤 (never 𝓤) (sem 𝓛 (shared_of R insns 0 0 β))) (λ b o e.
    regoal ! (λ p. prop (WpFn 𝓤 𝓛.H 𝓣.C 𝓣.Λ code.function (ptr_val p ∷ slice_val memory.ref_ptr (length memory.now) ∷ slice_val spans.ref_ptr (length spans.now)
    ∷ slice_val answers.ref_ptr (length answers.now) ∷ []) (W.post (y p)))) e refl $
    enter ! _ _ _ _ _ $ alloc_all ! (λ l. pass_all ! refl (
      (tt, tt),
      (
        (tt, (tt, (record { fits = are.1.0.0.1.0 }, tt))),
        (
          (tt, (tt, (record { fits = are.1.1.0.0.1.0 }, tt))),
          ((tt, (tt, (record { fits = are.1.1.1.0.0.1.0 }, tt))), tt),
        ),
      ),
    ) $
    -- let at = program as *const Program;
    sets ! (of_opd ! (get ! refl)) refl (tt, tt) $
    -- &*at
    sets ! (addr ! (through ! refl (stop !))) refl (tt, tt) $
    -- answers, passed on: a slice of the same place and length
    sets ! (addr ! (from ! (fld ! refl (hop ! (look_in_at ! 4 (sub ! 0 refl (whole !))) (stop !))))) refl (tt, tt) $
    sets ! (agg ! (and_then ! (get ! refl) (and_then ! (get_in ! (fld ! refl (stop !)) (sub ! 1 refl (whole !))) (no_more !)))) refl (tt, (tt, (record { fits = are.1.1.1.0.0.1.0 }, tt))) $
    -- what is lent is had twice: one goes to the call, and one back to the caller
    use1 𝓛 (‵ (lent_at R (block_ptr b o) insns β) ⊛ ‵ (lent_at R (block_ptr b o) insns β)) (contraction 𝓛 (lent_at R (block_ptr b o) insns) (lent_at_shr_laws R laws.the_row_laws.shr_laws (block_ptr b o) insns) β) $ split ! $
    fsplit ! $ drop ! $ hide ! $ feq_i ! (List Val) (vptr b o ∷ []) (vptr b o ∷ []) refl $ fjoin ! $
    -- [the loan; the program; the token of β; the answers; the spans; the memory; the tokens of κ2, κ1 and κ0]
    let s : Bor (List Insn) = record { ref_ptr = (b, o); now = insns } in
    let G = triple_of 𝓛 g.signature (g.spec 𝓛 𝓜.mem 𝓡.returns) in
    let z : G.Ghost = (((β, (κ0, (κ1, (κ2, tt)))), (lent.share, (q0, (q1, (q2, tt)))), tt, (s, a.1), (vptr b o ∷ [], (shr_slice_vals memory, (shr_slice_vals spans, (mut_slice_vals answers, tt))))), tt) in
    nothing ! $ move ! (4 ∷ 0 ∷ []) $ join ! $ move ! (4 ∷ 0 ∷ []) $ join ! $ move ! (4 ∷ 0 ∷ []) $ join ! $ move ! (1 ∷ 0 ∷ []) $ join ! $
    nothing ! $ move ! (4 ∷ 0 ∷ []) $ join ! $ move ! (4 ∷ 0 ∷ []) $ join ! $ move ! (4 ∷ 0 ∷ []) $ join ! $ move ! (3 ∷ 0 ∷ []) $ join ! $ join ! $
    nothing ! $ move ! (1 ∷ 0 ∷ []) $ use2 𝓛 (raw (G.pre z)) (id⊢ 𝓤 _) $
    -- put_answers_in(&*at, memory, spans, answers)
    calls_at ! (framed 𝓤 𝓛.H 𝓜 (tables 𝓤 𝓛.H 𝓜 𝓡 𝓡.env)) G (met 𝓤 𝓛 𝓜 𝓡 (code.calls-bpftap_c::batches::put_answers_in 𝓡.env wired)) z
    (and_then ! (get ! refl) (and_then ! (get ! refl) (and_then ! (get ! refl) (and_then ! (get ! refl) (no_more !))))) (λ v.
    use1 𝓛 (later (some (λ (r : BpftapResult). ((‵ (flft β lent.share) ⊛ ‵ (flft κ0 q0) ⊛ ‵ (flft κ1 q1) ⊛ ‵ (flft κ2 q2) ⊛ ‵ ftrue) ⊛ ‵ (T.own_val r (v ∷ []))) ⊛
    some (λ (ws : Lasts g.ended z.0.0 z.0.3). ‵ (lasts g.ended z.0.0 z.0.3 ws) ⊛ raw (fact 𝓤 (Puts (map (answer_in insns memory.now) spans.now) answers.now ws.1.1.1.0 r)))))) (id⊢ 𝓤 _) $
    await ! tt $ pick ! (λ r. split ! $ split ! $ split ! $ move ! (0 ∷ 4 ∷ []) $ fjoin ! $
    -- [the program; the tokens of κ0, κ1 and κ2; the result; the rest of the answer]
    move ! (3 ∷ []) $ pick ! (λ ws. split ! $ move ! (1 ∷ []) $ heard ! _ (λ is.
    fsplit ! $ drop ! $ fsplit ! $ drop ! $ fsplit ! $ drop ! $ fsplit ! $ fsplit ! $ fsplit ! $ move ! (1 ∷ []) $ feq_l ! (λ same. move ! (0 ∷ 1 ∷ []) $ fjoin ! $
    -- [what says the answers' last values; nothing; the program; the tokens; the result]
    move ! (4 ∷ []) $ peeks ! T (Is T) (shows 𝓛 T) r (v ∷ []) (λ ok. lands_as ! refl refl ((told.the_row_laws.lawful 𝓛).typed r _ ok).0 $
    returns ! (look_at ! 0 refl) $ free_all ! refl $
    suffices ! _ (ends_at 𝓛 f.ended stayed c (y (block_ptr b o)) v r (tt, (tt, (tt, (ws.1.1.1.0, tt)))) (tt, (tt, (tt, (same, tt))))) $
    nothing ! $ move ! (2 ∷ 0 ∷ []) $ join ! $ nothing ! $ join ! $ nothing ! $ join ! $ nothing ! $ join ! $
    keep ! (4 ∷ 0 ∷ 1 ∷ 3 ∷ []) $ group ! 3 $ frame ! $ says ! is $ done !)))))))))
