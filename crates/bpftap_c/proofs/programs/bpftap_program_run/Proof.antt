-- `bpftap_program_run` meets its contract: a walk of its MIR, by hand.
use Rattle.std.proofs.Common.{◌≡◌, ℕ, List, [], ◌∷◌, length, refl, w32, Bor}
use Rattle.std.proofs.raw_atomic.Walks.{proved}
use base.Logic.{id⊢, fst∗, never}
use base.Fml.{Lft, Share, ftrue, flft, feq}
use mir.Syntax.{named}
use mir.Val.{Val, vint, vptr}
use prog.Wp.{WpFn}
use contract.Monad.{fact}
use contract.Running.{tables}
use types.Logic.{sem}
use types.Kit.{‵, raw, ◌⊛◌, some, later, prop, ◌$◌, ◌∵◌, !, qed, done, move, keep, drop, use1, use2, split, join, fsplit, fjoin, feq_i, pick, await, regoal, suffices, frame, group}
use types.Run.{enter, of_opd, addr, stop, no_more, and_then, returns}
use types.ByLocal.{alloc_all, pass_all, free_all, look_at, get, through, sets, lands_as}
use denote.Exit.{yes}
use denote.Laws.{shows, Is}
use denote.Memory.{shared_of}
use denote.Opens.{hide}
use denote.Plain.{uint_vals, uint_Tells, uint_Lawful}
use denote.Builtin.{u8, u32}
use denote.RawPtr.{Ptr, RawPtr, block_ptr, ptr_val, in_a_block, rawptr_vals, rawptr_Tells}
use denote.Ref.{ShrRef}
use denote.SharingLaws.{contraction}
use denote.Slice.{ShrSlice, slice_val, shr_slice_vals, shr_slice_Tells}
use denote.Struct.Lending.{lent_at, lent_at_shr_laws}
use denote.Signature.{plain, shr_slice_of}
use denote.Steps.{nothing, peeks, heard}
use denote.Triple.Call.{calls_at}
use denote.Triple.Clauses.{lasts, Lasts}
use denote.Triple.Spec.{triple_of}
use denote.Triple.Walked.{Stays, walk_of, says, stay_dropped, Goes-dropped, ends_at}
use denote.Triple.Table.{framed}
use Rattle.bpfvm.specs.contracts.program.Program.{the_row as R}
use Rattle.bpfvm.proofs.program.Program.TheLaws as laws
use Rattle.bpfvm.specs.declared.insn.Insn.{Insn}
use Rattle.bpfvm.specs.Machine.{verdict}
use Rattle.bpftap_c.specs.Programs.{Lent, lies_lent}
use Rattle.bpftap_c.specs.contracts.programs.answer as g
use Rattle.bpftap_c.proofs.programs.answer.Met.{met}
use Rattle.bpftap_c.specs.contracts.programs.bpftap_program_run as f
use Rattle.bpftap_c.proofs.programs.bpftap_program_run.Statement.{statement}
use Rattle.bpftap_c.proofs.programs.bpftap_program_run.Code as code

abbrev stayed : Stays f.ended.signature.params f.ended.kept
stayed = (stay_dropped _ yes, (stay_dropped _ yes, (stay_dropped _ yes, tt)))

pub bpftap_program_run_spec : {M : Type 1} → statement M
bpftap_program_run_spec 𝓤 𝓛 𝓜 𝓡 wired =
    let c = f.clauses 𝓛 𝓜.mem 𝓡.returns in let W = walk_of 𝓛 f.ended stayed c in let 𝓣 = tables 𝓤 𝓛.H 𝓜 𝓡 𝓡.env in
    proved 𝓛 f.ended stayed c 𝓜 𝓡 (Goes-dropped 𝓛 1 (plain (λ _. RawPtr)) yes (λ κs x w. refl), (Goes-dropped 𝓛 1 (shr_slice_of (0 ∷ []) tt (plain (λ _. u8))) yes (λ κs x w. refl), (Goes-dropped 𝓛 1 (plain (λ _. u32)) yes (λ κs x w. refl), tt)))
    f.Key.name code.function (code.unfolded 𝓤 𝓛.H 𝓜 𝓡 wired)
    (λ κs. (rawptr_vals, (shr_slice_vals, (uint_vals w32, tt)))) (λ κs. (rawptr_Tells, (shr_slice_Tells (named 0) κs.0 u8, (uint_Tells w32, tt)))) (λ κs qs bounds a lent are.
    let κ = κs.0 in let q = qs.0 in let packet = a.1.0 in let wire = a.1.1.0 in
    let β = lent.lifetime in let insns = lent.insns in
    let y : Ptr → W.Ghost = λ p. ((κs, qs, bounds, (p, a.1), (rawptr_vals p, (shr_slice_vals packet, (uint_vals w32 wire, tt)))), lent) in
    qed 𝓛 (((‵ (flft κ q) ⊛ ‵ ftrue) ⊛ ‵ (RawPtr.own_val a.0 (rawptr_vals a.0)) ⊛ ‵ ((ShrSlice (named 0) κ u8).own_val packet (shr_slice_vals packet)) ⊛ ‵ (u32.own_val wire (uint_vals w32 wire)) ⊛ ‵ ftrue) ∷ ‵ (lies_lent a.0 lent) ∷ []) ∵
    split ! $ split ! $ move ! (2 ∷ []) $ split ! $ move ! (1 ∷ []) $ split ! $ move ! (1 ∷ []) $ split ! $
    -- [the wire length; nothing; the packet; the pointer; the token of κ; nothing; the program]
    keep ! (2 ∷ 0 ∷ 4 ∷ 6 ∷ []) $ move ! (3 ∷ []) $ fsplit ! $ move ! (1 ∷ []) $
    -- [the program; the token of β; the packet; the wire length; the token of κ]
    in_a_block ! a.0 (λ p. lent_at R p insns β) (fst∗ 𝓤 (never 𝓤) (sem 𝓛 (shared_of R insns 0 0 β))) (λ b o e.
    regoal ! (λ p. prop (WpFn 𝓤 𝓛.H 𝓣.C 𝓣.Λ code.function (ptr_val p ∷ slice_val packet.ref_ptr (length packet.now) ∷ vint w32 wire ∷ []) (W.post (y p)))) e refl $
    enter ! _ _ _ _ _ $ alloc_all ! (λ l. pass_all ! refl ((tt, tt), ((tt, (tt, (record { fits = are.1.0.0.1.0 }, tt))), ((tt, record { fits = are.1.1.0.1 }), tt))) $
    -- let at = program as *const Program;
    sets ! (of_opd ! (get ! refl)) refl (tt, tt) $
    -- &*at
    sets ! (addr ! (through ! refl (stop !))) refl (tt, tt) $
    -- what is lent is had twice: one goes to the call, and one back to the caller
    use1 𝓛 (‵ (lent_at R (block_ptr b o) insns β) ⊛ ‵ (lent_at R (block_ptr b o) insns β)) (contraction 𝓛 (lent_at R (block_ptr b o) insns) (lent_at_shr_laws R laws.the_row_laws.shr_laws (block_ptr b o) insns) β) $ split ! $
    fsplit ! $ drop ! $ hide ! $ feq_i ! (List Val) (vptr b o ∷ []) (vptr b o ∷ []) refl $ fjoin ! $
    -- [the loan; the program; the token of β; the packet; the wire length; the token of κ]
    let s : Bor (List Insn) = record { ref_ptr = (b, o); now = insns } in
    let G = triple_of 𝓛 g.signature (g.spec 𝓛 𝓜.mem 𝓡.returns) in
    let z : G.Ghost = (((β, (κ, tt)), (lent.share, (q, tt)), tt, (s, a.1), (vptr b o ∷ [], (shr_slice_vals packet, (uint_vals w32 wire, tt)))), tt) in
    nothing ! $ move ! (5 ∷ 0 ∷ []) $ join ! $ move ! (4 ∷ 0 ∷ []) $ join ! $ move ! (1 ∷ 0 ∷ []) $ join ! $
    nothing ! $ move ! (4 ∷ 0 ∷ []) $ join ! $ move ! (3 ∷ 0 ∷ []) $ join ! $ join ! $ nothing ! $ move ! (1 ∷ 0 ∷ []) $ use2 𝓛 (raw (G.pre z)) (id⊢ 𝓤 _) $
    -- answer(&*at, packet, wire)
    calls_at ! (framed 𝓤 𝓛.H 𝓜 (tables 𝓤 𝓛.H 𝓜 𝓡 𝓡.env)) G (met 𝓤 𝓛 𝓜 𝓡 (code.calls-bpftap_c::programs::answer 𝓡.env wired)) z
    (and_then ! (get ! refl) (and_then ! (get ! refl) (and_then ! (get ! refl) (no_more !)))) (λ v.
    use1 𝓛 (later (some (λ (r : ℕ). ((‵ (flft β lent.share) ⊛ ‵ (flft κ q) ⊛ ‵ ftrue) ⊛ ‵ (u32.own_val r (v ∷ []))) ⊛
    some (λ (ws : Lasts g.ended z.0.0 z.0.3). ‵ (lasts g.ended z.0.0 z.0.3 ws) ⊛ raw (fact 𝓤 (r ≡ verdict insns packet.now wire)))))) (id⊢ 𝓤 _) $
    await ! tt $ pick ! (λ r. split ! $ split ! $ split ! $ move ! (0 ∷ 4 ∷ []) $ fjoin ! $
    -- [the program; the token of κ; the result; the rest of the answer]
    move ! (3 ∷ []) $ pick ! (λ ws. split ! $ drop ! $ heard ! _ (λ is.
    move ! (2 ∷ []) $ peeks ! u32 (Is u32) (shows 𝓛 u32) r (v ∷ []) (λ ok. lands_as ! refl refl ((uint_Lawful 𝓛 w32).typed r _ ok).0 $
    returns ! (look_at ! 0 refl) $ free_all ! refl $
    suffices ! _ (ends_at 𝓛 f.ended stayed c (y (block_ptr b o)) v r (tt, (tt, (tt, tt))) (tt, (tt, (tt, tt)))) $
    nothing ! $ nothing ! $ join ! $ nothing ! $ join ! $ nothing ! $ join ! $ move ! (3 ∷ []) $ group ! 3 $ frame ! $ says ! is $ done !))))))))
